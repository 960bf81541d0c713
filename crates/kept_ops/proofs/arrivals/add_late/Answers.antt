use Rattle.std.proofs.Common.{◌∷◌, heap_items}
use Rattle.kept_ops.proofs.Late.{unreversed_permutation}
use Rattle.kept_ops.proofs.arrivals.add_late.Goals as goal

pub returns-clause-items : goal.returns-clause-items
returns-clause-items c =
    unreversed_permutation (record { 0 = c.args.arrival } ∷ heap_items c.args.late.now)
    (heap_items c.push.new.self) c.in-Ok.ensures.permutation
