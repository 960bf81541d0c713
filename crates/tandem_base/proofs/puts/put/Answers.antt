use Rattle.std.proofs.Common.{◌≡◌, ◌+◌, ◌-◌, ◌∙◌, ◌++◌, ap, take, arith, length, refl}
use Rattle.std.proofs.lemmas.Slice.{take-put_mid, drop-put_mid}
use Rattle.tandem_base.proofs.puts.put.Goals as goal

-- the middle of the buffer was replaced
pub returns : goal.returns
returns c =
    let at = c.args.at in
    let end = at + length c.args.text.now in
    let old = c.args.out.now in
    let piece = c.copy_from_slice.new.self in
    let size : length piece ≡ length c.args.text.now = ap length c.copy_from_slice.ensures.after in
    record {
      ends = refl;
      front = take-put_mid at (end - at) old piece end (omega arith) (omega arith)
          ∙ ap (λ l. take at old ++ l) c.copy_from_slice.ensures.after;
      back = drop-put_mid at (end - at) old piece end (omega arith) (omega arith) (omega arith);
    }
