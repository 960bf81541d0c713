use Rattle.std.proofs.Common.{sym, ◌∙◌}
use Rattle.kept_ops.proofs.Rising.{all_stay, rises_popped}
use Rattle.kept_ops.proofs.arrivals.take_rising.Goals as goal

pub returns-then-stays-clause-none : goal.returns-then-stays-clause-none
returns-then-stays-clause-none c = all_stay c.args.oldest c.args.rising.now.items c.in-Some.first.now c.requires
    c.in-Some.ensures.lookup (sym c.stays.ensures ∙ c.if-stays.true)

pub returns-clause-rises : goal.returns-clause-rises
returns-clause-rises c = rises_popped c.pop_front.result c.args.rising.now.items c.pop_front.new.self.items
    c.pop_front.ensures.items c.requires
