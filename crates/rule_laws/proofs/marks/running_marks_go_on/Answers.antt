use Rattle.rule_laws.proofs.marks.running_marks_go_on.Goals as goal
use Rattle.rule_laws.proofs.Answered.{running_marks}

-- the lemma is the law
pub returns : goal.returns
returns c = running_marks
