use Rattle.std.proofs.Common.{◌+◌, ◌-◌, ◌/◌, arith}
use Rattle.tag_window.proofs.TagLists.{lower_upto, higher_from}
use Rattle.tag_window.proofs.newest.halve.Goals as goal

pub loop-low-preserved-then-index-tag : goal.loop-low-preserved-then-index-tag
loop-low-preserved-then-index-tag c =
    let v = c.loop-low.invariant in
    let m = c.loop-low.low + (c.loop-low.high - c.loop-low.low) / 2 in
    let t = c.loop-low-test.true in
    record {
      order = omega (arith, t);
      within = v.within;
      below = λ k d l. lower_upto c.args.newest.now.items m c.args.tag c.index.result.now c.requires
          (omega (arith, t, v.within)) c.index.ensures c.if-index-tag.true k d (omega (arith, l));
      from = v.from;
    }

pub loop-low-preserved : goal.loop-low-preserved
loop-low-preserved c =
    let v = c.loop-low.invariant in
    let m = c.loop-low.low + (c.loop-low.high - c.loop-low.low) / 2 in
    let t = c.loop-low-test.true in
    record {
      order = omega (arith, t);
      within = omega (arith, t, v.within);
      below = v.below;
      from = λ k d l o. higher_from c.args.newest.now.items m c.args.tag c.index.result.now c.requires
          (omega (arith, t, v.within)) c.index.ensures c.if-index-tag.false k d l o;
    }
