use Rattle.rule_laws.proofs.firsts.first_is_performed.Goals as goal
use Rattle.rule_laws.proofs.FirstTold.{first_is_performed}

-- the lemma is the law
pub returns : goal.returns
returns c = first_is_performed
