use Rattle.std.proofs.Common.{sym, arith}
use Rattle.trace_text.proofs.Clean.{until_taken, until_all}
use Rattle.trace_text.proofs.words.parted.Goals as goal

-- the front up to the stop
pub returns-then-end-text-clause-before : goal.returns-then-end-text-clause-before
returns-then-end-text-clause-before c =
    until_taken c.args.stop _ c.args.text.now (omega (arith, c.end_of-end.ensures.value))

-- the whole text
pub returns-else-end-text-clause-before : goal.returns-else-end-text-clause-before
returns-else-end-text-clause-before c =
    sym (until_all c.args.stop c.args.text.now
    (omega (arith, c.end_of-end.ensures.value, c.end_of-end.ensures.high, c.if-end-text.false)))
