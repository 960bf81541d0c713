use Rattle.trace_model.proofs.laws.each_message_is_one_growth.Goals as goal
use Rattle.trace_model.proofs.CleanLists.{each_message_is_growth}

pub returns : goal.returns
returns c = each_message_is_growth
