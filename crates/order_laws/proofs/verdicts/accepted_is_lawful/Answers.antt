use Rattle.order_laws.proofs.verdicts.accepted_is_lawful.Goals as goal
use Rattle.order_laws.proofs.Accepting.{accepted_is_lawful}

pub returns : goal.returns
returns c = accepted_is_lawful
