use Rattle.rule_laws.proofs.marks.marks_start.Goals as goal
use Rattle.rule_laws.proofs.Answered.{marks_start}

-- the lemma is the law
pub returns : goal.returns
returns c = marks_start
