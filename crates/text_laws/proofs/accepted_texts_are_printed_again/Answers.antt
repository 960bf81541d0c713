use Rattle.text_laws.proofs.accepted_texts_are_printed_again.Goals as goal
use Rattle.text_laws.proofs.RoundTrips.{texts_print}

pub returns : goal.returns
returns c = texts_print
