use Rattle.trace_model.proofs.laws.each_message_grows_the_trace.Goals as goal
use Rattle.trace_model.proofs.CleanLists.{each_message_grows}

pub returns : goal.returns
returns c = each_message_grows
