use Rattle.std.proofs.Common.{◌≡◌, ◌*◌, ◌≤◌, ◌++◌, length, take, ap, ◌∙◌, arith}
use Rattle.std.proofs.lemmas.Slice.{take-put_mid, drop-put_mid}
use Rattle.trace_text.proofs.values.put_bytes.Goals as goal

-- the digits stand where the part was lent
pub returns-clause-puts : goal.returns-clause-puts
returns-clause-puts c =
    let out = c.args.out.now in
    let part = c.encode.new.out in
    let size : length part ≡ 2 * length c.args.bytes.now = ap length c.encode.ensures.text ∙ c.encode.ensures.length in
    let room : c.args.at ≤ length out = omega (arith, c.requires) in
    record {
      ends = omega (arith, c.encode.ensures.length);
      front = take-put_mid c.args.at _ out part _ (omega (arith, size)) room
          ∙ ap (λ l. take c.args.at out ++ l) c.encode.ensures.text;
      back = drop-put_mid c.args.at _ out part _ (omega arith) room (omega (arith, size));
    }
