use Rattle.std.proofs.Common.{◌≡◌, drop}
use Rattle.std.specs.List.{list_any}
use Rattle.rvwmo_model.specs.Looks.{depends_between_at}
use Rattle.rvwmo_model.proofs.judge.looks.some_depends_between.Given as goal

abbrev pub invariant-loop-tag : goal.invariant-loop-tag
invariant-loop-tag l = list_any (depends_between_at l.t l.a l.b) l.tags ≡ list_any (depends_between_at l.t l.a l.b)
    (drop l.tag-index l.tags)
