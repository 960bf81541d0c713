use Rattle.std.proofs.Common.{List, Option, reverse, sym, ap, subst, ◌∙◌, ◌≡◌}
use Rattle.std.specs.Prelude.{OnOk}
use Rattle.std.specs.List.{cons_option}
use Rattle.msg_frames.specs.declared.message.Body.{Body}
use Rattle.msg_frames.specs.declared.message.Piece.{Piece}
use Rattle.rv_step.specs.declared.effect.Effect.{Effect}
use Rattle.rv_step.specs.Steps.{Doing}
use Rattle.rv_step.specs.Plans.{PlanOf, doing_seen}
use Rattle.matching.specs.declared.reports.OpenReport.{OpenReport}
use Rattle.matching.specs.Reports.{early, live}
use Rattle.matching.specs.Runs.{doing_at, effect_at}
use Rattle.matching.specs.Steps.{IsStep, StepIs}
use Rattle.trace_model.specs.Entries.{Entry}
use Rattle.trace_model.specs.Histories.{IsHistoryOf}
use Rattle.trace_model.specs.Retirements.{entry_of}
use Rattle.trace_model.specs.Seen.{HasStored}
use Rattle.trace_model.specs.Traces.{bytes_stored, entries, entry_in, stored_at}
use Rattle.trace_model.proofs.Tracers.{has_stored}
use Rattle.trace_model.proofs.tracer.Tracer.keep.Goals as goal

pub returns-in-Retire-clause-taken : goal.returns-in-Retire-clause-taken
returns-in-Retire-clause-taken c image before f is =
    let head = c.args.message.now.head in
    let retire = c.in-Retire.field-0 in
    let step = c.args.self.now.step in
    let s : StepIs image before head retire step =
    subst (λ (b : Body). IsStep image before head b step) c.in-Retire.is is in
    let doing = doing_seen step.plan.what in
    let plan : doing ≡ doing_at image before head.hart = ap (λ (p : PlanOf). p.doing) s.plan in
    let store : step.effect.store ≡ (effect_at image before head retire).store =
    ap (λ (e : Effect). e.store) s.effect in
    let stored : HasStored doing step.effect.store =
    subst (λ (o : Option Piece). HasStored doing o) (sym store)
    (subst (λ (d : Doing). HasStored d (effect_at image before head retire).store) (sym plan)
    (has_stored image before head retire)) in
    let same : entry_of (reverse c.live-live.result.now) (early before) head (bytes_stored step.effect.store) doing
    ≡ entry_in image before head c.args.message.now.body =
    ap (λ (rs : List OpenReport). entry_of rs (early before) head (bytes_stored step.effect.store) doing)
    (c.live-live.ensures image before f.stands)
    ∙ ap (λ (o : Option Piece). entry_of (live before head.hart) (early before) head (bytes_stored o) doing) store
    ∙ ap (λ (d : Doing). entry_of (live before head.hart) (early before) head (stored_at image before head retire) d)
    plan
    ∙ ap (entry_in image before head) (sym c.in-Retire.is) in
    subst (λ (o : Option Entry). OnOk c.keep_retired.result (IsHistoryOf c.keep_retired.new.history
    (cons_option o (entries image before)))) same
    (c.keep_retired.ensures.taken (early before) (entries image before) stored s.bypass f.keeps)
