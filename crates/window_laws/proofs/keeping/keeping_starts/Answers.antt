use Rattle.window_laws.proofs.keeping.keeping_starts.Goals as goal
use Rattle.window_laws.proofs.Kept.{keeping_starts}

-- the lemma is the law
pub returns : goal.returns
returns c = keeping_starts
