use Rattle.growth_laws.proofs.laws.growth_keeps_well_kinded.Goals as goal
use Rattle.growth_laws.proofs.Growths.{keeps_kinded}

pub returns : goal.returns
returns c = keeps_kinded
