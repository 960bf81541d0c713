use Rattle.window_laws.proofs.keeping.keeping_stays.Goals as goal
use Rattle.window_laws.proofs.Kept.{keeping_stays}

-- the lemma is the law
pub returns : goal.returns
returns c = keeping_stays
