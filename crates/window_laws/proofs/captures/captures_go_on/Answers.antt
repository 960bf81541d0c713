use Rattle.window_laws.proofs.captures.captures_go_on.Goals as goal
use Rattle.window_laws.proofs.CapturesGrown.{captures_go_on}

-- the lemma is the law
pub returns : goal.returns
returns c = captures_go_on
