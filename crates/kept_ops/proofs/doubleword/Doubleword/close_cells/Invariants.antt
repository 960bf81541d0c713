use Rattle.std.proofs.Common.{◌≡◌, ◌<◌, ◌≤◌, ◌+◌, ◌*◌, ℕ}
use Rattle.kept_ops.specs.Doublewords.{cell_keys, keys_closed}
use Rattle.kept_ops.proofs.doubleword.Doubleword.close_cells.Given as goal

abbrev pub invariant-loop-c : goal.invariant-loop-c
invariant-loop-c l = record {
  number : l.self.number ≡ l.fn.self.number;
  division : l.self.division ≡ l.fn.self.division;
  below : (j : ℕ) → j < l.c → cell_keys l.self j ≡ keys_closed l.extent (l.base + j * l.size) (cell_keys l.fn.self j);
  above : (j : ℕ) → l.c ≤ j → cell_keys l.self j ≡ cell_keys l.fn.self j;
}
