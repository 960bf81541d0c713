use Rattle.std.proofs.Common.{sym, deque_len, rules, ◌∙◌}
use Rattle.kept_ops.proofs.Rising.{all_before}
use Rattle.kept_ops.proofs.arrivals.rises.Goals as goal

pub returns-in-Some : goal.returns-in-Some
returns-in-Some c = λ t. all_before c.args.rising.now.items c.in-Some.last.now c.args.place
    (deque_len c.args.rising.now) (search rules) c.requires c.in-Some.ensures.lookup (sym c.is_before.ensures ∙ t)
