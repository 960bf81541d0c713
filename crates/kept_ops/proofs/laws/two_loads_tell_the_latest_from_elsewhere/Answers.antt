use Rattle.kept_ops.proofs.LatestLeft.{latest_from_elsewhere}
use Rattle.kept_ops.proofs.laws.two_loads_tell_the_latest_from_elsewhere.Goals as goal

pub returns : goal.returns
returns c = latest_from_elsewhere
