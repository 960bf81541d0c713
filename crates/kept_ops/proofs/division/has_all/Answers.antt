use Rattle.std.proofs.Common.{arith}
use Rattle.std.proofs.lemmas.Bool.Decides.{nat_tests}
use Rattle.kept_ops.proofs.Divisions.{holds_all_eight, holds_all_four}
use Rattle.kept_ops.proofs.division.has_all.Goals as goal

pub returns-then-op : goal.returns-then-op
returns-then-op c = λ e. holds_all_eight c.args.op.now c.if-op.true

pub returns-then-op-eq4 : goal.returns-then-op-eq4
returns-then-op-eq4 c = λ e. holds_all_four c.args.op.now c.if-op-eq4.true (grind (arith, nat_tests, e))
