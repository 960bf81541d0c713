use Rattle.rule_laws.proofs.firsts.firsts_are_told.Goals as goal
use Rattle.rule_laws.proofs.FirstTold.{firsts_are_told}

-- the lemma is the law
pub returns : goal.returns
returns c = firsts_are_told
