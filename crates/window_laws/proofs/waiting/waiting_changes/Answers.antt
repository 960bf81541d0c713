use Rattle.window_laws.proofs.waiting.waiting_changes.Goals as goal
use Rattle.window_laws.proofs.WaitingGrown.{waiting_changes}

-- the lemma is the law
pub returns : goal.returns
returns c = waiting_changes
