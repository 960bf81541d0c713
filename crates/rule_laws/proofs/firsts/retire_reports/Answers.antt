use Rattle.rule_laws.proofs.firsts.retire_reports.Goals as goal
use Rattle.rule_laws.proofs.FirstTold.{retire_reports}

-- the lemma is the law
pub returns : goal.returns
returns c = retire_reports
