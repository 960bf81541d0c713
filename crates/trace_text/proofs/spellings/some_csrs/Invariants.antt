use Rattle.std.proofs.Common.{◌≡◌, ◌-◌, ◌≤◌, length}
use Rattle.trace_text.specs.Values.{some_csrs_in}
use Rattle.trace_text.proofs.CsrSteps.{after}
use Rattle.trace_text.proofs.spellings.some_csrs.Given as goal

abbrev pub invariant-loop : goal.invariant-loop
invariant-loop l = record {
  few : l.counter ≤ 4;
  count : length l.list ≡ l.counter;
  same : after l.list (some_csrs_in (4 - l.counter) l.rest) ≡ some_csrs_in 4 l.text;
}
