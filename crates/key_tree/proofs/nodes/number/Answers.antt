use Rattle.key_tree.proofs.Putting.{number_there}
use Rattle.key_tree.proofs.nodes.number.Goals as goal

pub returns-in-Some : goal.returns-in-Some
returns-in-Some c = number_there c.args.nodes.now.slots c.args.root c.in-Some.at c.args.key c.node_at.result.now
    c.requires c.node_at.ensures c.in-Some.ensures.found
