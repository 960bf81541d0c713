use Rattle.std.proofs.Common.{ℕ, ◌≡◌, ◌-◌, vec_capacity, length}
use Rattle.byte_rows.specs.Links.{at}
use Rattle.byte_rows.proofs.links.grow.Given as goal

abbrev pub invariant-loop-links : goal.invariant-loop-links
invariant-loop-links l = record {
  same : (j : ℕ) → at l.links.items j ≡ at l.fn.links.items j;
  capacity : vec_capacity l.links ≡ vec_capacity l.fn.links;
}

abbrev pub decreases-loop-links : goal.decreases-loop-links
decreases-loop-links l = l.len - length l.links.items
