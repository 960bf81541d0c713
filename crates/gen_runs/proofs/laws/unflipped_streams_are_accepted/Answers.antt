use Rattle.gen_runs.proofs.Accepted.{unflipped_accepted}
use Rattle.gen_runs.proofs.laws.unflipped_streams_are_accepted.Goals as goal

pub returns : goal.returns
returns c = unflipped_accepted
