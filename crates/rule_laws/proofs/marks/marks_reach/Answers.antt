use Rattle.rule_laws.proofs.marks.marks_reach.Goals as goal
use Rattle.rule_laws.proofs.Answered.{marks_reach}

-- the lemma is the law
pub returns : goal.returns
returns c = marks_reach
