use Rattle.std.proofs.Common.{◌≡◌, ◌<◌, ◌≤◌, ℕ, Some}
use Rattle.slab.specs.Slab.{get}
use Rattle.kept_ops.specs.declared.operation.KeptOp.{KeptOp}
use Rattle.kept_ops.specs.Divisions.{cell_size, IsEven}
use Rattle.kept_ops.specs.Doublewords.{cell_keys, op_at}
use Rattle.kept_ops.proofs.doubleword.Doubleword.common.Given as goal

abbrev pub invariant-loop-c : goal.invariant-loop-c
invariant-loop-c l = record {
  finer : cell_size l.common ≤ cell_size l.self.division;
  even : cell_size l.common ≤ cell_size l.fn.division;
  loads : (j : ℕ) → j < l.c → (o : KeptOp) → op_at (get l.ops) (cell_keys l.self j).load ≡ Some o → IsEven l.common o;
}
