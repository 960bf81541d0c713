use Rattle.trace_model.proofs.laws.places_have_messages.Goals as goal
use Rattle.trace_model.proofs.Positions.{places_have_messages}

pub returns : goal.returns
returns c = places_have_messages
