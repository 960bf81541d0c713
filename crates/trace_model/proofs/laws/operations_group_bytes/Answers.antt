use Rattle.trace_model.proofs.laws.operations_group_bytes.Goals as goal
use Rattle.trace_model.proofs.GroupLaws.{operations_are_groups}

pub returns : goal.returns
returns c = operations_are_groups
