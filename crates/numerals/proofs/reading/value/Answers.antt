use Rattle.std.proofs.Common.{◌^◌, subst, ◌≤◌}
use Rattle.numerals.proofs.Value.{passes_on}
use Rattle.numerals.proofs.reading.value.Goals as goal

-- the value so far passes the range already
pub returns-in_default-clause-none : goal.returns-in_default-clause-none
returns-in_default-clause-none c =
    let l = c.loop-digit in
    subst (λ n. 2 ^ 64 ≤ n) l.invariant (passes_on c.args.base l.n (2 ^ 64) l.digit-index c.args.text.now c.requires
    c.loop-digit-test.true c.in_default.ensures.none)
