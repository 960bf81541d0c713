use Rattle.std.proofs.Common.{rules, ◌≡◌, false}
use Rattle.kept_ops.proofs.Cells.{all_marked}
use Rattle.kept_ops.proofs.words.Words.settle.Goals as goal

pub returns-else-is_empty-clause-marked : goal.returns-else-is_empty-clause-marked
returns-else-is_empty-clause-marked c =
    let some : c.is_empty.result ≡ false = search rules in
    all_marked c.args.self.now.words c.args.at c.word_under.result.now c.requires.marked c.word_under.ensures
    (c.is_empty.ensures.some some)
