use Rattle.gen_laws.proofs.RetireCounts.{retired_number}
use Rattle.gen_laws.proofs.made_retires_are.Goals as goal

pub returns : goal.returns
returns c = retired_number
