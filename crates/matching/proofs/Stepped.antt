-- The step that is kept of a Retire, beside that of the tables and that of the messages.
use Rattle.std.proofs.Common.{ℕ, ◌≡◌, ◌<◌, ◌==◌, List, reverse, Bool, true, false, cond, refl, ap, subst, ◌∙◌}
use Rattle.std.proofs.lemmas.Bool.{eqb-true}
use Rattle.msg_frames.specs.declared.message.Head.{Head}
use Rattle.msg_frames.specs.declared.message.Retire.{Retire}
use Rattle.msg_frames.specs.declared.message.Body.{Body}
use Rattle.msg_frames.specs.declared.message.Body.TheVariants as body
use Rattle.msg_frames.specs.declared.message.Message.{Message}
use Rattle.elf_image.specs.Images.{Loaded}
use Rattle.rv_step.specs.declared.plan.Config.{Config}
use Rattle.rv_step.specs.declared.effect.Effect.{Effect}
use Rattle.rv_step.specs.Harts.{HartState}
use Rattle.rv_step.specs.Plans.{PlanOf}
use Rattle.rv_step.specs.Steps.{committed}
use Rattle.rv_step.proofs.Committed.{finished_is}
use Rattle.matching.specs.declared.reports.OpenReport.{OpenReport}
use Rattle.matching.specs.declared.hart_table.HartTable.{HartTable}
use Rattle.matching.specs.declared.step.Step.{Step}
use Rattle.matching.specs.declared.tables.Matching.{Matching}
use Rattle.matching.specs.Settings.{config_of}
use Rattle.matching.specs.Reports.{early, early_of}
use Rattle.matching.specs.Runs.{doing_in, done_of, outside_of}
use Rattle.matching.specs.Steps.{IsStep}
use Rattle.matching.specs.Tables.{Stands, Table, table_in, table_at, table_retiring, table_retired, table_stepped}
use Rattle.matching.specs.Tables.{table_taken, table_after, TableStepIs, IsTableStep}

-- the hart after its Retire, by the step that is kept, where that is its step
stepped_is : (image : Loaded) (config : Config) (es : List OpenReport) (t : Table) (head : Head) (retire : Retire)
    (step : Step)
    → TableStepIs image config es t head retire step
    → table_stepped t head retire step ≡ table_retired image config es t head retire
stepped_is image config es t head retire step s =
    let doing = doing_in image config t.run in
    let bypass = early_of es head.hart head.tag in
    let done = done_of t.run t.live bypass head.tag retire doing in
    ap (λ (p : PlanOf). table_retiring t head retire p.doing (committed t.run.hart step.effect) step.effect.store)
    s.plan
    ∙ ap (λ (e : Effect). table_retiring t head retire doing (committed t.run.hart e) e.store) s.effect
    ∙ ap (λ (hart : HartState). table_retiring t head retire doing hart done.effect.store)
    (finished_is t.run.hart (outside_of t.live bypass head.tag retire doing) doing)

-- the hart after its message, by the step that is kept
taken_is : (image : Loaded) (config : Config) (es : List OpenReport) (n : ℕ) (t : Table) (head : Head) (b : Body)
    (step : Step)
    → IsTableStep image config es t head b step
    → table_taken n t head b step ≡ table_after image config es n t head b
taken_is image config es n t head (body.Open info) step s = refl
taken_is image config es n t head (body.Poke poke) step s = refl
taken_is image config es n t head (body.Read piece) step s = refl
taken_is image config es n t head (body.Insert piece) step s = refl
taken_is image config es n t head (body.Write write) step s = refl
taken_is image config es n t head (body.Bypass piece) step s = refl
taken_is image config es n t head (body.Retire retire) step s = stepped_is image config es t head retire step s
taken_is image config es n t head body.Squash step s = refl
taken_is image config es n t head body.End step s = refl

-- a step after these messages is one of what is kept of them
in_table : (image : Loaded) (before : List Message) (head : Head) (b : Body) (step : Step)
    → IsStep image before head b step
    → IsTableStep image (config_of before) (early before) (table_at image before head.hart) head b step
in_table image before head (body.Open info) step s = tt
in_table image before head (body.Poke poke) step s = tt
in_table image before head (body.Read piece) step s = tt
in_table image before head (body.Insert piece) step s = tt
in_table image before head (body.Write write) step s = tt
in_table image before head (body.Bypass piece) step s = tt
in_table image before head (body.Retire retire) step s =
    record { plan = s.plan; effect = s.effect; bypass = s.bypass }
in_table image before head body.Squash step s = tt
in_table image before head body.End step s = tt

of_table : (image : Loaded) (before : List Message) (head : Head) (b : Body) (step : Step)
    → IsTableStep image (config_of before) (early before) (table_at image before head.hart) head b step
    → IsStep image before head b step
of_table image before head (body.Open info) step s = tt
of_table image before head (body.Poke poke) step s = tt
of_table image before head (body.Read piece) step s = tt
of_table image before head (body.Insert piece) step s = tt
of_table image before head (body.Write write) step s = tt
of_table image before head (body.Bypass piece) step s = tt
of_table image before head (body.Retire retire) step s =
    record { plan = s.plan; effect = s.effect; bypass = s.bypass }
of_table image before head body.Squash step s = tt
of_table image before head body.End step s = tt

-- a step of what the tables hold is one after the messages that they stand for
pub step_stands : (image : Loaded) (old : Matching) (before : List Message) (head : Head) (b : Body)
    (other : HartTable) (step : Step)
    → Stands image old before → head.hart < 16
    → IsTableStep image old.config (reverse old.early.items) (table_in old head.hart other) head b step
    → IsStep image before head b step
step_stands image old before head b other step s low k =
    of_table image before head b step
    (subst (λ (t : Table). IsTableStep image (config_of before) (early before) t head b step)
    (s.each head.hart other low)
    (subst (λ (r : List OpenReport). IsTableStep image (config_of before) r (table_in old head.hart other) head b step)
    s.early
    (subst (λ (c : Config). IsTableStep image c (reverse old.early.items) (table_in old head.hart other) head b step)
    s.config k)))

-- hart h after a message that may be another's, by the step that is kept
pub taken_by : (image : Loaded) (before : List Message) (m : Message) (h n : ℕ) (step : Step)
    → IsStep image before m.head m.body step
    → (b : Bool) → (m.head.hart == h) ≡ b
    → cond b (table_taken n (table_at image before h) m.head m.body step) (table_at image before h)
    ≡ cond b (table_after image (config_of before) (early before) n (table_at image before h) m.head m.body)
    (table_at image before h)
taken_by image before m h n step s true e =
    subst (λ (k : ℕ). table_taken n (table_at image before k) m.head m.body step
    ≡ table_after image (config_of before) (early before) n (table_at image before k) m.head m.body)
    (eqb-true m.head.hart h e)
    (taken_is image (config_of before) (early before) n (table_at image before m.head.hart) m.head m.body step
    (in_table image before m.head m.body step s))
taken_by image before m h n step s false e = refl
