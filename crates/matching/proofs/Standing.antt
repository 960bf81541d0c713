-- What the tables stand for, after a message.
use Rattle.std.proofs.Common.{ℕ, ◌≡◌, ◌<◌, ◌==◌, List, [], ◌∷◌, length, reverse, cond, refl, ap}
use Rattle.std.proofs.Common.{sym, ◌∙◌, arith, None}
use Rattle.std.specs.Option.{option_map_or}
use Rattle.msg_frames.specs.declared.message.Head.{Head}
use Rattle.msg_frames.specs.declared.message.OpenInfo.{OpenInfo}
use Rattle.msg_frames.specs.declared.message.Body.{Body}
use Rattle.msg_frames.specs.declared.message.Body.TheVariants as body
use Rattle.msg_frames.specs.declared.message.Message.{Message}
use Rattle.msg_frames.specs.Frames.{Fits}
use Rattle.elf_image.specs.Images.{Loaded}
use Rattle.rv_step.specs.declared.plan.Config.{Config}
use Rattle.matching.specs.declared.reports.OpenReport.{OpenReport}
use Rattle.matching.specs.declared.hart_table.HartTable.{HartTable}
use Rattle.matching.specs.declared.step.Step.{Step}
use Rattle.matching.specs.declared.tables.Matching.{Matching}
use Rattle.matching.specs.Settings.{number_after, open_of, config_in, config_of}
use Rattle.matching.specs.Tags.{last_tag}
use Rattle.matching.specs.Reports.{early, early_in}
use Rattle.matching.specs.Steps.{IsStep}
use Rattle.matching.specs.Matching.{match_fault, body_fault_of}
use Rattle.matching.specs.Tables.{Table, table_at, table_after, table_taken, table_fault, table_in, early_put}
use Rattle.matching.specs.Tables.{early_dropped, Stands, IsSame, Takes}
use Rattle.matching.proofs.Steps.{table_step}
use Rattle.matching.proofs.Stepped.{taken_by}
use Rattle.matching.proofs.Same.{fault_same}

-- tables that hold the same stand for the same
pub same_stands : (image : Loaded) (old new : Matching) (before : List Message) → Stands image old before
    → IsSame old new → Stands image new before
same_stands image old new before s k = record {
  clean = s.clean;
  known = k.known ∙ s.known;
  config = k.config ∙ s.config;
  time = k.time ∙ s.time;
  early = k.early ∙ s.early;
  each = λ h other l. k.each h other l ∙ s.each h other l;
}

-- the first of sixteen
first_table : (xs : List HartTable) → length xs ≡ 16 → HartTable
first_table [] e = absurd (omega (arith, e))
first_table (x ∷ xs) e = x

early_same : (before : List Message) (old : List OpenReport) (head : Head) (b : Body)
    → early_dropped (early_put (number_after before) (last_tag before head.hart) old head b) head b
    ≡ early_in before old head b
early_same before old head (body.Open info) = refl
early_same before old head (body.Poke poke) = refl
early_same before old head (body.Read piece) = refl
early_same before old head (body.Insert piece) = refl
early_same before old head (body.Write write) = refl
early_same before old head (body.Bypass piece) = refl
early_same before old head (body.Retire retire) = refl
early_same before old head body.Squash = refl
early_same before old head body.End = refl

kept_same : (image : Loaded) (before : List Message) (m : Message) (h n : ℕ) (step : Step) (t : Table)
    → IsStep image before m.head m.body step → n ≡ number_after before → t ≡ table_at image before h
    → cond (m.head.hart == h) (table_taken n t m.head m.body step) t
    ≡ cond (m.head.hart == h)
    (table_after image (config_of before) (early before) (number_after before) (table_at image before h) m.head
    m.body) (table_at image before h)
kept_same image before m h n step t s g k =
    ap (λ (u : Table). cond (m.head.hart == h) (table_taken n u m.head m.body step) u) k
    ∙ taken_by image before m h n step s (m.head.hart == h) refl
    ∙ ap (λ (i : ℕ). cond (m.head.hart == h)
    (table_after image (config_of before) (early before) i (table_at image before h) m.head m.body)
    (table_at image before h)) g

-- a message without a fault is taken
pub takes_stands : (image : Loaded) (old new : Matching) (before : List Message) (m : Message) (n : ℕ) (step : Step)
    → Stands image old before
    → length old.harts.items ≡ 16 → m.head.hart < 16 → Fits m → match_fault image before m ≡ None
    → n ≡ number_after before → IsStep image before m.head m.body step
    → Takes n m step old new → Stands image new (m ∷ before)
takes_stands image old new before m n step s sixteen low fits fine number is k =
    let other : HartTable = first_table old.harts.items sixteen in
    let own : table_in old m.head.hart other ≡ table_at image before m.head.hart =
    s.each m.head.hart other low in record {
      clean = (s.clean, fits, fine);
      known = k.known ∙ ap (λ (h : ℕ). option_map_or (λ (info : OpenInfo). info.harts) (open_of m.body) h) s.known;
      config = k.config ∙ ap
          (λ (c : Config). option_map_or (λ (info : OpenInfo). config_in info.flags) (open_of m.body) c) s.config;
      time = k.time;
      early =
          k.early other
          ∙ ap (λ (t : Table). early_dropped (early_put n t.last (reverse old.early.items) m.head m.body) m.head m.body)
          own
          ∙ ap (λ (r : List OpenReport). early_dropped (early_put n
          (last_tag before m.head.hart) r m.head m.body) m.head
          m.body) s.early
          ∙ ap (λ (i : ℕ). early_dropped (early_put i (last_tag before m.head.hart) (early before) m.head m.body) m.head
          m.body) number
          ∙ early_same before (early before) m.head m.body;
      each = λ h d l.
          k.each h d l
          ∙ kept_same image before m h n step (table_in old h d) is number (s.each h d l)
          ∙ sym (table_step image before m h s.clean fine);
    }

-- the fault of a message of a known hart, but the End
pub fault_stands : (image : Loaded) (old : Matching) (before : List Message) (head : Head) (b : Body)
    (other : HartTable) → Stands image old before
    → head.hart < 16 → (b ≡ body.End → ⊥)
    → table_fault image old.config (reverse old.early.items) (table_in old head.hart other) head b
    ≡ body_fault_of image before head b
fault_stands image old before head b other s low e =
    ap (λ (c : Config). table_fault image c (reverse old.early.items) (table_in old head.hart other) head b) s.config
    ∙ ap (λ (r : List OpenReport). table_fault image (config_of before) r (table_in old head.hart other) head b) s.early
    ∙ ap (λ (t : Table). table_fault image (config_of before) (early before) t head b) (s.each head.hart other low)
    ∙ fault_same image before head b e
