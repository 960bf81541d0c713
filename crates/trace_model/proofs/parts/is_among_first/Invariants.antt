use Rattle.std.proofs.Common.{◌≡◌}
use Rattle.trace_model.specs.Groups.{some_below, same_place}
use Rattle.trace_model.specs.Marks.{place_in}
use Rattle.trace_model.proofs.parts.is_among_first.Given as goal

abbrev pub invariant-loop-k : goal.invariant-loop-k
invariant-loop-k l = l.found ≡ some_below (λ k. same_place (place_in l.places k) l.place) l.k
