use Rattle.std.proofs.Common.{◌≡◌, heap_items, refl}
use Rattle.kept_ops.specs.Arrivals.{unreversed}
use Rattle.kept_ops.proofs.Late.{late_taken, all_left}
use Rattle.kept_ops.proofs.arrivals.Arrivals.take.Goals as goal

pub returns-in-None-clause-rest : goal.returns-in-None-clause-rest
returns-in-None-clause-rest c =
    let same : c.take_rising.new.rising.items ≡ c.self.inside.rising.items = rw c.in-None.ensures.same refl in
    rw (← c.self.view_is) (late_taken c.take_late.result c.self.inside.rising.items c.take_rising.new.rising.items
    (unreversed (heap_items c.self.inside.late)) (unreversed (heap_items c.take_late.new.late)) same
    c.take_late.ensures.rest)

pub returns-in-None-clause-none : goal.returns-in-None-clause-none
returns-in-None-clause-none c =
    let same : c.take_rising.new.rising.items ≡ c.self.inside.rising.items = rw c.in-None.ensures.same refl in
    all_left c.args.oldest c.take_late.result c.self.inside.rising.items c.take_rising.new.rising.items
    c.self.inside.late c.take_late.new.late (λ h. unreversed (heap_items h)) same c.in-None.ensures.none
    c.take_late.ensures.none c.take_late.ensures.same
