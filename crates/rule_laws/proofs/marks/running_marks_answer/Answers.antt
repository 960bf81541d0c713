use Rattle.rule_laws.proofs.marks.running_marks_answer.Goals as goal
use Rattle.rule_laws.proofs.Answered.{running_answers}

-- the lemma is the law
pub returns : goal.returns
returns c = running_answers
