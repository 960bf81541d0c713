use Rattle.overlap_rules.proofs.SinceGrown.{loads_since_go_on as go_on}
use Rattle.overlap_rules.proofs.laws.loads_since_go_on.Goals as goal

pub returns : goal.returns
returns c = go_on
