use Rattle.window_laws.proofs.waiting.waiting_starts.Goals as goal
use Rattle.window_laws.proofs.WaitingGrown.{waiting_starts}

-- the lemma is the law
pub returns : goal.returns
returns c = waiting_starts
