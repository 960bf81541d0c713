use Rattle.window_laws.proofs.sources.sources_go_on.Goals as goal
use Rattle.window_laws.proofs.GoneOn.{sources_go_on}

-- the lemma is the law
pub returns : goal.returns
returns c = sources_go_on
