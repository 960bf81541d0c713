use Rattle.synchronization_rules.proofs.MarksGrown.{marks_go_on}
use Rattle.synchronization_rules.proofs.laws.hart_marks_go_on.Goals as goal

-- the lemma is the law
pub returns : goal.returns
returns c = marks_go_on
