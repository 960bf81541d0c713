use Rattle.reads_from.proofs.Standing.{retired_waits}
use Rattle.reads_from.proofs.laws.stores_gain_what_retires.Goals as goal

pub returns : goal.returns
returns c = retired_waits
