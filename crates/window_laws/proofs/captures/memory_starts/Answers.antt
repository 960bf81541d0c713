use Rattle.window_laws.proofs.captures.memory_starts.Goals as goal
use Rattle.window_laws.proofs.MemorySeen.{memory_starts}

-- the lemma is the law
pub returns : goal.returns
returns c = memory_starts
