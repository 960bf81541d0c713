use Rattle.window_laws.proofs.sources.new_sources_are_old.Goals as goal
use Rattle.window_laws.proofs.SplitSources.{new_sources_are_old}

-- the lemma is the law
pub returns : goal.returns
returns c = new_sources_are_old
