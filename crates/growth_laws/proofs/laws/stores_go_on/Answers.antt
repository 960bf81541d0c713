use Rattle.growth_laws.proofs.laws.stores_go_on.Goals as goal
use Rattle.growth_laws.proofs.Messages.{keeps_writers}

pub returns : goal.returns
returns c = keeps_writers
