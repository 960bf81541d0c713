use Rattle.window_laws.proofs.sources.sources_are_told.Goals as goal
use Rattle.window_laws.proofs.ToldSources.{sources_are_told}

-- the lemma is the law
pub returns : goal.returns
returns c = sources_are_told
