use Rattle.kept_ops.proofs.LatestLeft.{latest_pruned}
use Rattle.kept_ops.proofs.laws.marks_stay_the_latest_when_early_ones_go.Goals as goal

pub returns : goal.returns
returns c = latest_pruned
