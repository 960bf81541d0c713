use Rattle.dep_tracker.proofs.Standing.{starts}
use Rattle.dep_tracker.proofs.deps.Deps.new.Goals as goal

pub returns : goal.returns
returns c = starts
