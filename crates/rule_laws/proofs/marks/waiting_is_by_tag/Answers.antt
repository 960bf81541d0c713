use Rattle.rule_laws.proofs.marks.waiting_is_by_tag.Goals as goal
use Rattle.rule_laws.proofs.Answered.{waiting_by_tag}

-- the lemma is the law
pub returns : goal.returns
returns c = waiting_by_tag
