use Rattle.text_laws.proofs.frames_are_printed_as_lines.Goals as goal
use Rattle.text_laws.proofs.RoundTrips.{frames_print}

pub returns : goal.returns
returns c = frames_print
