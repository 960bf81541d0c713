use Rattle.tandem_core.proofs.FrameLaws.{lacking_judged}
use Rattle.tandem_core.proofs.laws.lacking_goes_on.Goals as goal

pub returns : goal.returns
returns c = λ image limits got more lacks. lacking_judged image limits got more lacks
