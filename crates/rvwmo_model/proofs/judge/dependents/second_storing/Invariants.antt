use Rattle.std.proofs.Common.{◌≡◌, drop}
use Rattle.std.specs.List.{list_any}
use Rattle.rvwmo_model.specs.Looks.{storing_against}
use Rattle.rvwmo_model.proofs.judge.dependents.second_storing.Given as goal

abbrev pub invariant-loop-b : goal.invariant-loop-b
invariant-loop-b l = list_any (storing_against l.a l.tags) l.ops ≡ list_any (storing_against l.a l.tags)
    (drop l.b-index l.ops)
