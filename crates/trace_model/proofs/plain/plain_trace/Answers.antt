use Rattle.std.proofs.Common.{◌+◌, ◌≡◌, ◌∷◌, Option, Some, IfNone, length, reverse, take, drop, slice_get}
use Rattle.std.proofs.Common.{sym, subst, ◌∙◌, arith, le_of_lt}
use Rattle.std.proofs.lemmas.Option.{slice_get_within}
use Rattle.elf_image.specs.Images.{loaded_of}
use Rattle.verdict_report.specs.declared.fault.Fault.{Fault}
use Rattle.matching.specs.Settings.{number_after}
use Rattle.trace_model.specs.Tracers.{Follows}
use Rattle.trace_model.proofs.Arriving.{arrives, arrived, split_at}
use Rattle.trace_model.proofs.plain.plain_trace.Goals as goal

pub returns-in-Some-2 : goal.returns-in-Some-2
returns-in-Some-2 c =
    let xs = c.args.messages.now in
    let k = c.loop-k.k in
    let before = reverse (take k xs) in
    let got : slice_get xs k ≡ Some c.in-Some.message.now = sym (c.in-Some.ensures {u = tt}) in
    let len : length before ≡ k = arrived xs k (le_of_lt (slice_get_within xs k c.in-Some.message.now got)) in
    let n : k + 1 ≡ number_after before = omega (arith, len) in
    let e = c.in_ok-fault.ensures {u = tt} in record {
      later = reverse (drop (k + 1) xs);
      message = c.in-Some.message.now;
      before = before;
      whole = split_at xs k c.in-Some.message.now got;
      clean = c.loop-k.invariant.stands.clean;
      number = n;
      is = sym (e.fault before c.loop-k.invariant n) ∙ c.in-Some-2.is;
    }

pub loop-k-preserved : goal.loop-k-preserved
loop-k-preserved c =
    let xs = c.args.messages.now in
    let k = c.loop-k.k in
    let before = reverse (take k xs) in
    let m = c.in-Some.message.now in
    let got : slice_get xs k ≡ Some m = sym (c.in-Some.ensures {u = tt}) in
    let len : length before ≡ k = arrived xs k (le_of_lt (slice_get_within xs k m got)) in
    let n : k + 1 ≡ number_after before = omega (arith, len) in
    let e = c.in_ok-fault.ensures {u = tt} in
    rw (arrives xs k m got)
    (subst (λ (o : Option Fault). IfNone o (Follows (loaded_of c.args.image.now) c.take.new.self (m ∷ before)))
    c.in-None.is (e.taken before c.loop-k.invariant n))
