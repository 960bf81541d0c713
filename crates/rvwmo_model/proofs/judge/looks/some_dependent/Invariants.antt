use Rattle.std.proofs.Common.{◌≡◌, drop}
use Rattle.std.specs.List.{list_any}
use Rattle.rvwmo_model.specs.Looks.{dependent_against, tags_read}
use Rattle.rvwmo_model.proofs.judge.looks.some_dependent.Given as goal

abbrev pub invariant-loop-b : goal.invariant-loop-b
invariant-loop-b l =
    list_any (λ b. list_any (dependent_against l.t b (tags_read l.t b)) l.t.ops) l.ops
    ≡ list_any (λ b. list_any (dependent_against l.t b (tags_read l.t b)) l.t.ops) (drop l.b-index l.ops)
