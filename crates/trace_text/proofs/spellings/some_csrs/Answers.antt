use Rattle.std.proofs.Common.{◌≡◌, ◌∷◌, [], ◌-◌, ◌+◌, Some, None, length, length-append, sym, ap, ◌∙◌, arith}
use Rattle.trace_text.specs.Values.{csr_in, some_csrs_in}
use Rattle.trace_text.specs.Words.{until}
use Rattle.trace_text.proofs.CsrSteps.{after, csrs_none, csrs_last, csrs_more}
use Rattle.trace_text.proofs.spellings.some_csrs.Goals as goal

-- the next one is wrong
pub returns-in_default : goal.returns-in_default
returns-in_default c =
    let l = c.loop in
    let read : csr_in (until 44 l.rest.now) ≡ None =
    ap csr_in (sym c.parted.ensures.before) ∙ sym c.csr.ensures ∙ c.in_default.is in
    sym (csrs_none l.list (4 - l.counter) l.rest.now (omega (arith, c.loop-test.true)) read) ∙ l.invariant.same

-- the next one is the last
pub returns-then-first-rest : goal.returns-then-first-rest
returns-then-first-rest c =
    let l = c.loop in
    let read : csr_in (until 44 l.rest.now) ≡ Some c.in-Some.csr =
    ap csr_in (sym c.parted.ensures.before) ∙ sym c.csr.ensures ∙ c.in-Some.is in
    ap Some c.push.ensures
    ∙ sym (csrs_last l.list (4 - l.counter) l.rest.now c.in-Some.csr (omega (arith, c.loop-test.true)) read
    (ap length (sym c.parted.ensures.before) ∙ c.if-first-rest.true))
    ∙ l.invariant.same

-- others follow
pub loop-preserved : goal.loop-preserved
loop-preserved c =
    let l = c.loop in
    let read : csr_in (until 44 l.rest.now) ≡ Some c.in-Some.csr =
    ap csr_in (sym c.parted.ensures.before) ∙ sym c.csr.ensures ∙ c.in-Some.is in
    let less : 4 - (l.counter + 1) ≡ 4 - l.counter - 1 = omega arith in
    record {
      few = omega (arith, c.loop-test.true);
      count = ap length c.push.ensures ∙ length-append l.list (c.in-Some.csr ∷ []) ∙ omega (arith, l.invariant.count);
      same = (λ i. after (c.push.ensures i) (some_csrs_in (less i) (c.parted.ensures.behind i)))
          ∙ sym (csrs_more l.list (4 - l.counter) l.rest.now c.in-Some.csr (omega (arith, c.loop-test.true)) read
          (λ same. c.if-first-rest.false (ap length c.parted.ensures.before ∙ same)))
          ∙ l.invariant.same;
    }

-- there are too many
pub returns : goal.returns
unfolding some_csrs_in
returns c =
    let l = c.loop in
    let none : 4 - l.counter ≡ 0 = omega (arith, c.loop-test.false) in
    ap (λ n. after l.list (some_csrs_in n l.rest.now)) (sym none) ∙ l.invariant.same
