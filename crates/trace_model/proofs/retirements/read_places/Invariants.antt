use Rattle.std.proofs.Common.{ℕ, ◌≡◌, ◌<◌, length, reverse}
use Rattle.trace_model.specs.Marks.{place_in}
use Rattle.trace_model.specs.Retirements as Retirements
use Rattle.trace_model.proofs.retirements.read_places.Given as goal

abbrev pub invariant-loop-k : goal.invariant-loop-k
invariant-loop-k l =
    (length l.places ≡ 8)
    × ((j : ℕ) → j < l.k → place_in l.places j ≡ Retirements.read_places (reverse l.live) l.tag l.extent j)
