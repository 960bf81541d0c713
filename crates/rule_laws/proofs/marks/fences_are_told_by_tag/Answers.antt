use Rattle.rule_laws.proofs.marks.fences_are_told_by_tag.Goals as goal
use Rattle.rule_laws.proofs.Answered.{fences_by_tag}

-- the lemma is the law
pub returns : goal.returns
returns c = fences_by_tag
