use Rattle.std.proofs.Common.{[], ◌∷◌}
use Rattle.drain_rules.proofs.Answered.{names_pair}
use Rattle.drain_rules.proofs.drain.check_write.Goals as goal

-- the answer by the lists is that of the trace
pub returns : goal.returns
returns c initial t t' ops a =
    names_pair initial t t' ops c.args.hart (c.args.part.now ∷ []) c.args.stores.now a c.answer.result c.answer.ensures
