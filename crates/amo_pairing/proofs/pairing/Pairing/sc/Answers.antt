use Rattle.amo_pairing.proofs.pairing.Pairing.sc.Goals as goal
use Rattle.amo_pairing.proofs.Answered.{tells_pair, tells_atomicity}

-- what is answered says what is so of the pair, and of its atomicity
pub returns-clause-pair : goal.returns-clause-pair
returns-clause-pair c = tells_pair c.args.self.now.reserved c.args.hart c.args.extent.now c.args.seen.now
    c.judged.result c.judged.ensures

pub returns-clause-atomicity : goal.returns-clause-atomicity
returns-clause-atomicity c = tells_atomicity c.args.self.now.reserved c.args.hart c.args.extent.now c.args.seen.now
    c.judged.result c.judged.ensures
