use Rattle.rvwmo_model.proofs.LastAnswered.{lasts_is, lasts_fine}
use Rattle.rvwmo_model.proofs.judge.plain_last.Goals as goal

pub returns-clause-answer : goal.returns-clause-answer
returns-clause-answer g c =
    λ form. lasts_is _ c.args.trace.now c.args.hart c.args.tag c.newest_answer.result form c.newest_answer.ensures

pub returns-clause-fine : goal.returns-clause-fine
returns-clause-fine g c =
    λ form. lasts_fine _ c.args.trace.now c.args.hart c.args.tag c.newest_answer.result form c.newest_answer.ensures
