use Rattle.kept_ops.proofs.LatestLeft.{latest_closed}
use Rattle.kept_ops.proofs.laws.marks_stay_the_latest_when_a_store_retires.Goals as goal

pub returns : goal.returns
returns c = latest_closed
