use Rattle.kept_ops.proofs.Latest.{latest_with}
use Rattle.kept_ops.proofs.laws.marks_stay_the_latest_when_one_is_kept.Goals as goal

pub returns : goal.returns
returns c = latest_with
