use Rattle.reads_from.proofs.Standing.{stores_stay as stay}
use Rattle.reads_from.proofs.laws.stores_stay.Goals as goal

pub returns : goal.returns
returns c = stay
