use Rattle.std.proofs.Common.{◌≡◌, ◌&&◌, drop}
use Rattle.rvwmo_model.specs.Tests.{is_pair, is_covered_by}
use Rattle.rvwmo_model.proofs.judge.atomic.has_pair.Given as goal
use Rattle.std.specs.List.{list_any}

abbrev pub invariant-loop-r : goal.invariant-loop-r
invariant-loop-r l = list_any (λ r. is_pair l.t r l.w && is_covered_by l.w r) l.ops ≡ list_any
    (λ r. is_pair l.t r l.w && is_covered_by l.w r) (drop l.r-index l.ops)
