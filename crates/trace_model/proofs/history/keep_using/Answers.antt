use Rattle.std.proofs.Common.{ℕ, List, ◌∷◌, Option, Bool, false, is_some, replicate, reverse, sym, ap, subst, ◌∙◌, ◌≡◌}
use Rattle.std.specs.Prelude.{OnOk}
use Rattle.std.specs.List.{cons_option}
use Rattle.tandem_base.specs.declared.extent.Extent.{Extent}
use Rattle.rv_step.specs.Plans.{doing_seen}
use Rattle.rv_step.specs.Steps.{Doing}
use Rattle.rvwmo_model.specs.declared.operations.OpKind.TheVariants as kind
use Rattle.matching.specs.declared.reports.OpenReport.{OpenReport}
use Rattle.matching.specs.Reports.{bytes_counted, early_of}
use Rattle.trace_model.specs.Entries.{Entry, Fixed}
use Rattle.trace_model.specs.Extents.{extent_of}
use Rattle.trace_model.specs.Histories.{IsHistoryOf, entry_with}
use Rattle.trace_model.specs.Retirements.{acquire_of, release_of, amo_ops, atomic_ops, entry, entry_of, retired, sc_ops}
use Rattle.trace_model.specs.Seen.{memory_seen}
use Rattle.trace_model.specs.Traces.{bytes_stored}
use Rattle.trace_model.proofs.Extents.{extent_seen}
use Rattle.trace_model.proofs.history.keep_using.Goals as goal

pub returns-in-Sc-clause-taken : goal.returns-in-Sc-clause-taken
returns-in-Sc-clause-taken c early es stored bypass keeps =
    let head = c.args.head.now in
    let step = c.args.step.now in
    let insn = c.in-Sc.insn in
    let e = c.in-Sc.extent in
    let own : entry_with c.retired-in-Sc.result (memory_seen c.atomic_use-used.result)
    ≡ entry head insn (is_some (early_of early head.hart head.tag)) (Fixed (sc_ops early head insn
    (extent_of e.addr e.len))) =
    λ i. record {
      insn = (c.retired-in-Sc.ensures
          ∙ ap (λ (b : Bool). retired head insn b) (c.is_some-stored.ensures ∙ ap is_some bypass)) i;
      memory = (c.atomic_use-used.ensures
          ∙ ap (λ (got : List ℕ). Fixed (atomic_ops kind.Store e got (acquire_of insn) (release_of insn) step.bypass))
          c.zeros.ensures
          ∙ ap (λ (o : Option OpenReport). Fixed (atomic_ops kind.Store e (replicate e.len 0) (acquire_of insn)
          (release_of insn) o)) bypass
          ∙ ap (λ (x : Extent). Fixed (sc_ops early head insn x)) (sym (extent_seen e))) i;
    } in
    subst (λ (d : Doing). OnOk c.push_using.result (IsHistoryOf c.push_using.new.self (cons_option
    (entry_of (reverse c.args.live.now) early head (bytes_stored step.effect.store) d) es)))
    (sym (ap doing_seen c.in-Sc.is))
    (subst (λ (x : Entry). OnOk c.push_using.result (IsHistoryOf c.push_using.new.self (x ∷ es))) own
    (c.push_using.ensures.taken es keeps))

pub returns-in-Amo-clause-taken : goal.returns-in-Amo-clause-taken
returns-in-Amo-clause-taken c early es stored bypass keeps =
    let live = reverse c.args.live.now in
    let head = c.args.head.now in
    let step = c.args.step.now in
    let insn = c.in-Amo.insn in
    let e = c.in-Amo.extent in
    let own : entry_with c.retired-in-Amo.result (memory_seen c.atomic_use-used-in-Amo.result)
    ≡ entry head insn false (Fixed (amo_ops live early head insn (extent_of e.addr e.len))) =
    λ i. record {
      insn = c.retired-in-Amo.ensures i;
      memory = (c.atomic_use-used-in-Amo.ensures
          ∙ ap (λ (got : List ℕ). Fixed (atomic_ops kind.Both e got (acquire_of insn) (release_of insn) step.bypass))
          c.bytes_read-got.ensures
          ∙ ap (λ (o : Option OpenReport). Fixed (atomic_ops kind.Both e
          (bytes_counted live head.tag e.addr e.len) (acquire_of insn) (release_of insn) o)) bypass
          ∙ ap (λ (x : Extent). Fixed (amo_ops live early head insn x)) (sym (extent_seen e))) i;
    } in
    subst (λ (d : Doing). OnOk c.push_using-in-Amo.result (IsHistoryOf c.push_using-in-Amo.new.self (cons_option
    (entry_of live early head (bytes_stored step.effect.store) d) es)))
    (sym (ap doing_seen c.in-Amo.is))
    (subst (λ (x : Entry). OnOk c.push_using-in-Amo.result (IsHistoryOf c.push_using-in-Amo.new.self (x ∷ es))) own
    (c.push_using-in-Amo.ensures.taken es keeps))
