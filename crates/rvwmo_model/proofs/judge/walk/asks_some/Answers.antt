use Rattle.std.proofs.lemmas.Bool.{both_ways}
use Rattle.rvwmo_model.proofs.Asked.{asked_in_rest}
use Rattle.rvwmo_model.proofs.judge.walk.asks_some.Goals as goal
use Rattle.rvwmo_model.proofs.judge.walk.asks_some.Goals.{else-w-search-via-then-w-search+else-asks}
use Rattle.rvwmo_model.proofs.judge.walk.asks_some.Goals.{else-w-search-via-else-w-search}

pub loop-w-preserved : goal.loop-w-preserved
loop-w-preserved c a =
    let s = c.loop-w.invariant a in
    asked_in_rest c.args.search c.args.insns.now c.loop-w.w-index _ c.loop-w-test.true
    (λ h. elim c.else-w-search.branch [
      | else-w-search-via-then-w-search+else-asks w ↦ both_ways w.asks.result w.if-asks.false (w.asks.ensures.1 h.1)
      | else-w-search-via-else-w-search w ↦ w.if-w-search.false h.0
    ])
    s
