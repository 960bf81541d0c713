use Rattle.window_laws.proofs.sources.sources_split.Goals as goal
use Rattle.window_laws.proofs.SplitSources.{sources_split}

-- the lemma is the law
pub returns : goal.returns
returns c = sources_split
