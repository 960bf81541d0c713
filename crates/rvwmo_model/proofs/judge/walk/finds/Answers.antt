use Rattle.std.proofs.Common.{sym}
use Rattle.rvwmo_model.proofs.Asked.{none_found}
use Rattle.rvwmo_model.proofs.judge.walk.finds.Goals as goal

pub returns-then-not-asks_some : goal.returns-then-not-asks_some
returns-then-not-asks_some c =
    sym (none_found c.args.search c.args.insns.now c.asks_some.result c.asks_some.ensures c.if-not-asks_some.true)
