use Rattle.growth_laws.proofs.faults.windows_precede_what_comes.Goals as goal
use Rattle.growth_laws.proofs.Windows.{windows}

-- the lemma is the law
pub returns : goal.returns
returns c = windows
