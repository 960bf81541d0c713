use Rattle.key_tree.proofs.Putting.{number_there}
use Rattle.key_tree.proofs.nodes.take.Goals as goal

pub returns-in-Some-clause-taken : goal.returns-in-Some-clause-taken
returns-in-Some-clause-taken c = number_there c.args.nodes.now.slots c.args.root.now c.in-Some.at c.args.key
    c.node_at.result.now c.requires.sound c.node_at.ensures c.in-Some.ensures.found
