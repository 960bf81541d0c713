use Rattle.reads_from.proofs.Standing.{performed_leaves}
use Rattle.reads_from.proofs.laws.stores_lose_what_is_performed.Goals as goal

pub returns : goal.returns
returns c = performed_leaves
