use Rattle.std.proofs.Common.{◌≡◌, None, drop}
use Rattle.std.specs.List.{filter}
use Rattle.rvwmo_model.specs.LastAnswer.{is_retiring, lowest_wrong}
use Rattle.rvwmo_model.proofs.judge.newest.lowest_wrong.Given as goal

abbrev pub invariant-loop-i : goal.invariant-loop-i
invariant-loop-i g l =
    lowest_wrong (g.I.InitialBytes.initial_of l.image) l.t None (filter (is_retiring l.hart l.tag) l.ops)
    ≡ lowest_wrong (g.I.InitialBytes.initial_of l.image) l.t l.best
    (filter (is_retiring l.hart l.tag) (drop l.i-index l.ops))
