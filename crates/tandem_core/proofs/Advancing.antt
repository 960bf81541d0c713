-- The way of a message through a core.
use Rattle.std.proofs.Common.{◌≡◌, List, ◌∷◌, Some, None}
use Rattle.std.proofs.Common.{sym, ap, subst, ◌∙◌}
use Rattle.std.specs.Prelude.{IfNone}
use Rattle.msg_frames.specs.declared.message.Message.{Message}
use Rattle.elf_image.specs.Images.{Loaded, loaded_of}
use Rattle.verdict_report.specs.declared.fault.Fault.{Fault}
use Rattle.order_laws.specs.Decisions.{operations_of}
use Rattle.order_laws.specs.Faults.{message_fault}
use Rattle.tandem_core.specs.declared.core_state.Core.{Core}
use Rattle.tandem_core.specs.declared.limits.Limits.{Limits}
use Rattle.tandem_core.specs.Judgements.{verdict_at}
use Rattle.tandem_core.specs.Cores.{CoreStands, HasTables, IsUnchanged, KeepsCounts, SetsTables, SetsVerdict}
use Rattle.tandem_core.specs.Cores.{verdict_by}
use Rattle.tandem_core.proofs.StandsLaws.{CountsStand, verdict_is, no_fault, if_none_from}

-- nothing changed in a core of which nothing changed before
pub unchanged_more : (old mid new : Core) → IsUnchanged old mid → new ≡ mid → IsUnchanged old new
unchanged_more old mid new u e = subst (IsUnchanged old) (sym e) u

-- the tables of a core that stands, by its own image
pub own_tables : (image : Loaded) (limits : Limits) (core : Core) (before : List Message)
    → CoreStands image limits core before → HasTables (loaded_of core.image.now) core.tracer before
own_tables image limits core before s = subst (λ (i : Loaded). HasTables i core.tracer before) (sym s.image_is) s.tables

-- with its tables set, or nothing changed, the counts are those of the older messages
pub sets_counts : (image : Loaded) (limits : Limits) (old mid : Core) (before : List Message) → SetsTables old mid
    → CoreStands image limits old before → CountsStand limits mid before
sets_counts image limits old mid before t s = record {
  limits_is = t.limits ∙ s.limits_is;
  count = t.count ∙ s.count;
  offset = t.offset ∙ s.offset;
  retired = t.retired ∙ s.retired;
}

pub sets_after : (old mid new : Core) → SetsTables old mid → SetsTables mid new → SetsTables old new
sets_after old mid new a b = record {
  image = b.image ∙ a.image;
  limits = b.limits ∙ a.limits;
  count = b.count ∙ a.count;
  offset = b.offset ∙ a.offset;
  retired = b.retired ∙ a.retired;
  verdict = b.verdict ∙ a.verdict;
}

pub keeps_counts : (old mid new : Core) → SetsTables old mid → SetsVerdict mid new → KeepsCounts old new
keeps_counts old mid new a b = record {
  image = b.image ∙ a.image;
  limits = b.limits ∙ a.limits;
  count = b.count ∙ a.count;
  offset = b.offset ∙ a.offset;
  retired = b.retired ∙ a.retired;
}

-- what is known where a message was taken into the tables, and the verdict set
module _ (image : Loaded) (limits : Limits) (old tabled new : Core) (before : List Message) (m : Message)
    (s : CoreStands image limits old before) (tables : SetsTables old tabled) (sets : SetsVerdict tabled new) where
  -- the message is fine: its number or its kind ends with a verdict, if anything does
  pub fine_verdict : None ≡ message_fault image before m → HasTables image tabled.tracer (m ∷ before)
      → ((later : List Message) → HasTables (loaded_of tabled.image.now) tabled.tracer (m ∷ later)
      → new.verdict ≡ verdict_by tabled m None (operations_of (loaded_of tabled.image.now) (m ∷ later)))
      → new.verdict ≡ verdict_at image limits before m
  fine_verdict fine has set =
      let seen : loaded_of tabled.image.now ≡ image = ap (λ i. loaded_of i.now) tables.image ∙ s.image_is in
      set before (subst (λ (i : Loaded). HasTables i tabled.tracer (m ∷ before)) (sym seen) has)
      ∙ verdict_is image limits tabled before m (sets_counts image limits old tabled before tables s) None
      (operations_of (loaded_of tabled.image.now) (m ∷ before)) fine
      (λ ends. ap (λ (i : Loaded). operations_of i (m ∷ before)) seen)

  pub fine_tables : HasTables image tabled.tracer (m ∷ before)
      → IfNone (verdict_at image limits before m) (HasTables image new.tracer (m ∷ before))
  fine_tables has =
      if_none_from (verdict_at image limits before m)
      (λ quiet. subst (λ o. HasTables image o (m ∷ before)) (sym sets.tracer) has)

  -- the message has a fault
  pub fault_verdict : (f : Fault) → Some f ≡ message_fault image before m
      → new.verdict ≡ verdict_by tabled m (Some f) 0 → new.verdict ≡ verdict_at image limits before m
  fault_verdict f is set =
      set
      ∙ verdict_is image limits tabled before m (sets_counts image limits old tabled before tables s) (Some f) 0 is tt

-- a message with a fault ends with a verdict
pub fault_ends : (image : Loaded) (limits : Limits) (before : List Message) (m : Message) (f : Fault) (P : Type 0)
    → Some f ≡ message_fault image before m → IfNone (verdict_at image limits before m) P
fault_ends image limits before m f P is =
    if_none_from (verdict_at image limits before m)
    (λ quiet. let none : Some f ≡ None = is ∙ no_fault image limits before m quiet in absurd (cc))
