use Rattle.std.proofs.Common.{◌∙◌, ap}
use Rattle.rv_step.specs.Steps.{committed}
use Rattle.rv_step.proofs.Committed.{finished_is}
use Rattle.rv_step.proofs.hart.Hart.commit.Goals as goal

pub returns-clause-step : goal.returns-clause-step
returns-clause-step c outside doing e =
    c.set_to.ensures ∙ ap (committed c.args.self.now) e ∙ finished_is c.args.self.now outside doing
