use Rattle.trace_model.proofs.laws.places_are_in_order_of_position.Goals as goal
use Rattle.trace_model.proofs.Positions.{places_are_ordered}

pub returns : goal.returns
returns c = places_are_ordered
