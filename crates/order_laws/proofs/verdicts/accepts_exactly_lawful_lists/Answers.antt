use Rattle.order_laws.proofs.verdicts.accepts_exactly_lawful_lists.Goals as goal
use Rattle.order_laws.proofs.FirstDecisions.{accepts_exactly_lawful}

pub returns : goal.returns
returns c = accepts_exactly_lawful
