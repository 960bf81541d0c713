use Rattle.std.proofs.Common.{◌≡◌, drop}
use Rattle.std.specs.List.{list_any}
use Rattle.rvwmo_model.specs.Looks.{at_against, tags_after}
use Rattle.rvwmo_model.proofs.judge.dependents.some_at.Given as goal

abbrev pub invariant-loop-a : goal.invariant-loop-a
invariant-loop-a l =
    list_any (λ a. list_any (at_against a (tags_after l.by l.t a)) l.t.ops) l.ops
    ≡ list_any (λ a. list_any (at_against a (tags_after l.by l.t a)) l.t.ops) (drop l.a-index l.ops)
