use Rattle.amo_pairing.proofs.laws.pairing_changes.Goals as goal
use Rattle.amo_pairing.proofs.Growing.{pairing_changes}

-- the lemma is the law
pub returns : goal.returns
returns c = pairing_changes
