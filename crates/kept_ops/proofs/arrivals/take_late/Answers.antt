use Rattle.std.proofs.Common.{◌∷◌, ◌∙◌, sym, heap_items}
use Rattle.kept_ops.proofs.Late.{unreversed_permutation, heap_stays}
use Rattle.kept_ops.proofs.arrivals.take_late.Goals as goal

pub returns-then-stays-clause-none : goal.returns-then-stays-clause-none
returns-then-stays-clause-none c = heap_stays c.args.oldest c.in-Some.first.now (heap_items c.args.late.now)
    (c.in-Some.ensures.greatest c.requires) (sym c.stays.ensures ∙ c.if-stays.true)

pub returns-in-Some-pop-clause-rest : goal.returns-in-Some-pop-clause-rest
returns-in-Some-pop-clause-rest c =
    unreversed_permutation (heap_items c.args.late.now) (c.in-Some-pop.first ∷ heap_items c.pop.new.self)
    c.in-Some-pop.ensures.permutation
