use Rattle.order_laws.proofs.verdicts.decision_is_the_first.Goals as goal
use Rattle.order_laws.proofs.FirstDecisions.{decision_is_first}

pub returns : goal.returns
returns c = decision_is_first
