use Rattle.std.proofs.Common.{rules}
use Rattle.std.proofs.KnownBytes.{Appends-trans}
use Rattle.std.proofs.Math.Seq.{take-add}
use Rattle.std.proofs.lemmas.List.{take_rest}
use Rattle.tandem_io.proofs.sink.write_all.Goals as goal

-- the writes before took the first bytes, and this one the next of them
pub loop-put-preserved : goal.loop-put-preserved
loop-put-preserved g c =
    let step = rw (take_rest c.args.text.now c.loop-put.put) at (c.in-Ok.ensures {u = tt}).bytes in
    record {
      within = search rules;
      bytes = rw (take-add c.loop-put.put c.in-Ok.n c.args.text.now)
          (Appends-trans _ _ _ _ _ c.loop-put.invariant.bytes step);
      count = search rules;
    }
