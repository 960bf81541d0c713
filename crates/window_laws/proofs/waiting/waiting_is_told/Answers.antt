use Rattle.window_laws.proofs.waiting.waiting_is_told.Goals as goal
use Rattle.window_laws.proofs.WaitingGrown.{waiting_is_told}

-- the lemma is the law
pub returns : goal.returns
returns c = waiting_is_told
