use Rattle.amo_pairing.proofs.laws.pairing_stays.Goals as goal
use Rattle.amo_pairing.proofs.Growing.{pairing_stays}

-- the lemma is the law
pub returns : goal.returns
returns c = pairing_stays
