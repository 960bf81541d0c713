use Rattle.std.proofs.Common.{◌≡◌, ◌<◌, ◌≤◌, ◌+◌, ◌*◌, ℕ}
use Rattle.slab.specs.Slab.{get}
use Rattle.kept_ops.specs.Doublewords.{cell_keys, keys_with}
use Rattle.kept_ops.proofs.doubleword.Doubleword.mark_each.Given as goal

abbrev pub invariant-loop-c : goal.invariant-loop-c
invariant-loop-c l = record {
  number : l.self.number ≡ l.fn.self.number;
  division : l.self.division ≡ l.fn.self.division;
  below : (j : ℕ) → j < l.c → cell_keys l.self j
      ≡ keys_with (get l.ops) (l.base + j * l.size) l.key l.op (cell_keys l.fn.self j);
  above : (j : ℕ) → l.c ≤ j → cell_keys l.self j ≡ cell_keys l.fn.self j;
}
