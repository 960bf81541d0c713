use Rattle.window_laws.proofs.captures.memory_stays.Goals as goal
use Rattle.window_laws.proofs.MemoryGrown.{memory_stays}

-- the lemma is the law
pub returns : goal.returns
returns c = memory_stays
