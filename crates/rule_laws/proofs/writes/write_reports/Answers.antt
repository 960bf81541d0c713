use Rattle.rule_laws.proofs.writes.write_reports.Goals as goal
use Rattle.rule_laws.proofs.ByteMarks.{write_reports}

-- the lemma is the law
pub returns : goal.returns
returns c = write_reports
