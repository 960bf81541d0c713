use Rattle.place_laws.proofs.keeping.kept_go_on.Goals as goal
use Rattle.place_laws.proofs.KeptGrown.{kept_go_on}

pub returns : goal.returns
returns c = kept_go_on
