use Rattle.window_laws.proofs.waiting.waiting_stays.Goals as goal
use Rattle.window_laws.proofs.WaitingGrown.{waiting_stays}

-- the lemma is the law
pub returns : goal.returns
returns c = waiting_stays
