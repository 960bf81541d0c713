use Rattle.std.proofs.Common.{drop, arith}
use Rattle.trace_text.proofs.Clean.{until_taken}
use Rattle.trace_text.proofs.words.part_from.Goals as goal

-- the bytes up to the next stop
pub returns-clause-part : goal.returns-clause-part
returns-clause-part c =
    until_taken c.args.stop _ (drop c.args.start c.args.text.now) (omega (arith, c.end_of-end.ensures.value))
