use Rattle.std.proofs.Common.{◌≡◌, drop}
use Rattle.matching.specs.Compares.{csr_difference}
use Rattle.matching.proofs.compare.check_csrs.Given as goal

-- no entry before the index differs
abbrev pub invariant-loop-index : goal.invariant-loop-index
invariant-loop-index l =
    csr_difference 0 l.wants l.gots ≡ csr_difference l.index (drop l.index l.wants) (drop l.index l.gots)
