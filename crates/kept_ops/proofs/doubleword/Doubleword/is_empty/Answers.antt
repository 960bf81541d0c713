use Rattle.std.proofs.Common.{rules, ◌≡◌, true}
use Rattle.kept_ops.specs.Doublewords.{cell_keys, has_a_key}
use Rattle.kept_ops.proofs.Cells.{has_mark}
use Rattle.kept_ops.proofs.doubleword.Doubleword.is_empty.Goals as goal

pub returns-then-is_some-clause-some : goal.returns-then-is_some-clause-some
returns-then-is_some-clause-some c =
    let marked : has_a_key (cell_keys c.args.self.now c.loop-c.c) ≡ true = search rules in
    λ e. has_mark c.args.self.now c.loop-c.c c.count-c-end.result c.count-c-end.ensures c.loop-c-test.true marked
