use Rattle.trace_model.proofs.laws.later_places_are_open_or_new.Goals as goal
use Rattle.trace_model.proofs.LaterPlaces.{places_of_later}

pub returns : goal.returns
returns c = places_of_later
