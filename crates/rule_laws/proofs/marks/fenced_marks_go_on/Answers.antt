use Rattle.rule_laws.proofs.marks.fenced_marks_go_on.Goals as goal
use Rattle.rule_laws.proofs.Answered.{fenced_marks}

-- the lemma is the law
pub returns : goal.returns
returns c = fenced_marks
