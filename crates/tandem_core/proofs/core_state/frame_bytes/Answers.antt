use Rattle.std.proofs.Common.{arith}
use Rattle.tandem_core.proofs.core_state.frame_bytes.Goals as goal

pub returns-clause-bound : goal.returns-clause-bound
returns-clause-bound c = omega (arith, c.size.ensures.bound.1, c.from.ensures)
