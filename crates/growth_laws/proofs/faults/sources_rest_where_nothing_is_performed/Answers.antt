use Rattle.growth_laws.proofs.faults.sources_rest_where_nothing_is_performed.Goals as goal
use Rattle.growth_laws.proofs.Quiet.{sources_rest}

-- the lemma is the law
pub returns : goal.returns
returns c = sources_rest
