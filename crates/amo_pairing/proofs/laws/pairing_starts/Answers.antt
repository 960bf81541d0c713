use Rattle.amo_pairing.proofs.laws.pairing_starts.Goals as goal
use Rattle.amo_pairing.proofs.Growing.{pairing_starts}

-- the lemma is the law
pub returns : goal.returns
returns c = pairing_starts
