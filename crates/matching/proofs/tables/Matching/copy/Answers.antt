use Rattle.matching.proofs.Results.{if_ok}
use Rattle.matching.proofs.Standing.{same_stands}
use Rattle.matching.proofs.tables.Matching.copy.Goals as goal

pub returns : goal.returns
returns c image before s =
    if_ok c.copied.result c.copied.ensures (λ made k. same_stands image c.args.self.now made before s k)
