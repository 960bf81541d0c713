use Rattle.overlap_rules.proofs.LeadsGrown.{leads_go_on as go_on}
use Rattle.overlap_rules.proofs.laws.leads_go_on.Goals as goal

pub returns : goal.returns
returns c = go_on
