use Rattle.window_laws.proofs.captures.captures_are_taken.Goals as goal
use Rattle.window_laws.proofs.MemorySeen.{captures_are_taken}

-- the lemma is the law
pub returns : goal.returns
returns c = captures_are_taken
