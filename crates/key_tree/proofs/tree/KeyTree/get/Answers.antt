use Rattle.std.proofs.Common.{sym}
use Rattle.key_tree.proofs.Numbers.{distinct}
use Rattle.key_tree.proofs.tree.KeyTree.get.Goals as goal

pub returns-clause-distinct : goal.returns-clause-distinct
returns-clause-distinct c = rw (sym c.self.view_is) (distinct c.self.inside.nodes.slots c.self.invariant.0.apart)
