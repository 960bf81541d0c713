use Rattle.std.proofs.Common.{◌≡◌, drop}
use Rattle.std.specs.List.{list_any}
use Rattle.rvwmo_model.specs.Looks.{dependent_against}
use Rattle.rvwmo_model.proofs.judge.looks.first_dependent.Given as goal

abbrev pub invariant-loop-a : goal.invariant-loop-a
invariant-loop-a l = list_any (dependent_against l.t l.b l.tags) l.ops ≡ list_any (dependent_against l.t l.b l.tags)
    (drop l.a-index l.ops)
