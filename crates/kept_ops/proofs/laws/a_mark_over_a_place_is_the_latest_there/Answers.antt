use Rattle.kept_ops.proofs.LatestLeft.{latest_over}
use Rattle.kept_ops.proofs.laws.a_mark_over_a_place_is_the_latest_there.Goals as goal

pub returns : goal.returns
returns c = latest_over
