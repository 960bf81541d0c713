use Rattle.rule_laws.proofs.marks.byte_marks_go_on.Goals as goal
use Rattle.rule_laws.proofs.ByteMarks.{two_marks_go_on}

-- the lemma is the law
pub returns : goal.returns
returns c = two_marks_go_on
