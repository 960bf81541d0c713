use Rattle.std.proofs.Common.{◌∙◌, arith}
use Rattle.std.proofs.lemmas.List.{length-set}
use Rattle.tag_window.specs.Slots.{IsFirstSame}
use Rattle.tag_window.proofs.Finding.{set_more}
use Rattle.tag_window.proofs.counting.parts_of.Goals as goal

pub loop-k-preserved : goal.loop-k-preserved
loop-k-preserved c =
    let v = c.loop-k.invariant in
    let t = c.loop-k-test.true in
    record {
      size = length-set c.loop-k.parts c.loop-k.k c.first_same.result ∙ v.size;
      same = set_more (IsFirstSame c.args.slots.now) c.loop-k.parts c.loop-k.k c.first_same.result
          (omega (arith, v.size, t, c.requires)) v.same c.first_same.ensures;
    }
