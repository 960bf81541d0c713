use Rattle.std.proofs.Common.{◌≡◌, ◌<◌, ℕ, false}
use Rattle.kept_ops.specs.Doublewords.{cell_keys, has_a_key}
use Rattle.kept_ops.proofs.doubleword.Doubleword.is_empty.Given as goal

abbrev pub invariant-loop-c : goal.invariant-loop-c
invariant-loop-c l = (j : ℕ) → j < l.c → has_a_key (cell_keys l.self j) ≡ false
