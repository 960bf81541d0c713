use Rattle.key_tree.proofs.Putting.{way_none, root_none}
use Rattle.key_tree.proofs.nodes.locate.Goals as goal

pub returns-in-None-clause-none : goal.returns-in-None-clause-none
returns-in-None-clause-none c = root_none c.args.nodes.now.slots c.args.root c.args.key c.requires c.in-None.is

pub returns-else-node_at-key-clause-none : goal.returns-else-node_at-key-clause-none
returns-else-node_at-key-clause-none c = way_none c.args.nodes.now.slots c.args.root c.reach-at.result c.args.key
    c.node_at.result.now c.requires c.reach-at.ensures c.node_at.ensures c.if-node_at-key.false
