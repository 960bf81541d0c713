use Rattle.rvwmo_model.proofs.LastAnswered.{last_is}
use Rattle.rvwmo_model.proofs.laws.last_is_computed.Goals as goal

pub returns : goal.returns
returns c = last_is
