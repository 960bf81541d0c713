use Rattle.window_laws.proofs.keeping.keeping_narrows.Goals as goal
use Rattle.window_laws.proofs.Kept.{keeping_narrows}

-- the lemma is the law
pub returns : goal.returns
returns c = keeping_narrows
