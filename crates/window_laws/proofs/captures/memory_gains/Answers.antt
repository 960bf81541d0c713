use Rattle.window_laws.proofs.captures.memory_gains.Goals as goal
use Rattle.window_laws.proofs.MemoryGrown.{memory_gains}

-- the lemma is the law
pub returns : goal.returns
returns c = memory_gains
