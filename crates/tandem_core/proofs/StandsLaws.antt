-- What a core stands for after one message more.
use Rattle.std.proofs.Common.{◌≡◌, ℕ, ◌+◌, length, List, ◌∷◌, Bool, true, false, nat_lt}
use Rattle.std.proofs.Common.{Option}
use Rattle.std.proofs.Common.{None, Some, refl, sym, ap, subst, ◌∙◌, arith}
use Rattle.std.specs.Prelude.{if◌then◌else◌, option_map, IfNone}
use Rattle.msg_frames.specs.declared.message.Body.{Body}
use Rattle.msg_frames.specs.declared.message.Body.TheVariants as body
use Rattle.msg_frames.specs.declared.message.Message.{Message}
use Rattle.msg_frames.specs.Cut.{is_end}
use Rattle.msg_frames.specs.Frames.{Fits}
use Rattle.elf_image.specs.Images.{Loaded, loaded_of}
use Rattle.verdict_report.specs.declared.fault.Fault.{Fault}
use Rattle.verdict_report.specs.declared.verdict.Limit.TheVariants as limit
use Rattle.verdict_report.specs.declared.verdict.Verdict.{Verdict}
use Rattle.verdict_report.specs.declared.verdict.Verdict.TheVariants as verdict
use Rattle.tandem_base.specs.FirstFault.{◌or_else◌}
use Rattle.trace_model.specs.declared.tracer.Tracer.{Tracer}
use Rattle.order_laws.specs.Decisions.{Decision, Offends, Passes, Accepts, operations_of}
use Rattle.order_laws.specs.Faults.{message_fault}
use Rattle.order_laws.specs.Limits.{Overrun, over_bound}
use Rattle.tandem_core.specs.declared.core_state.Core.{Core}
use Rattle.tandem_core.specs.declared.limits.Limits.{Limits}
use Rattle.tandem_core.specs.Runs.{frame_size, is_retire, offset_of, retired_of}
use Rattle.tandem_core.specs.Judgements.{verdict_of, verdict_at}
use Rattle.tandem_core.specs.Cores.{CoreStands, Counts, HasCounted, HasTables, IsUnchanged, KeepsCounts, verdict_by}

-- an End is no Retire
end_retires_nothing : (b : Body) → is_end b ≡ true → is_retire b ≡ false
end_retires_nothing (body.Open info) e = refl
end_retires_nothing (body.Poke poke) e = refl
end_retires_nothing (body.Read piece) e = refl
end_retires_nothing (body.Insert piece) e = refl
end_retires_nothing (body.Write write) e = refl
end_retires_nothing (body.Bypass piece) e = refl
end_retires_nothing (body.Retire retire) e = absurd (cc)
end_retires_nothing body.Squash e = refl
end_retires_nothing body.End e = refl

-- ---- the verdict

-- the core's counts are those of these messages
pub record CountsStand (limits : Limits) (core : Core) (before : List Message) : Type 0 where
  pub limits_is : core.limits ≡ limits
  pub count : core.count ≡ length before
  pub offset : core.offset ≡ offset_of before
  pub retired : core.retired ≡ retired_of before

-- how many operations there are is known where the message is the End
abbrev pub KnowsOperations : Loaded → List Message → Message → Option Fault → ℕ → Type 0
KnowsOperations image before m f operations =
    IfNone f (is_end m.body ≡ true → operations ≡ operations_of image (m ∷ before))

-- the messages are too many, or the message is the End
fine_is : (over ends : Bool) (V : Decision → Verdict) (o : Overrun) (full accept : Verdict) → full ≡ V (Passes o)
    → (ends ≡ true → accept ≡ V Accepts)
    → (if over then Some full else if ends then Some accept else None)
    ≡ option_map V (option_map Passes (if over then Some o else None) or_else (if ends then Some Accepts else None))
fine_is true ends V o full accept e f = ap (λ (v : Verdict). Some v) e
fine_is false true V o full accept e f = ap (λ (v : Verdict). Some v) (f refl)
fine_is false false V o full accept e f = refl

module _ (image : Loaded) (limits : Limits) (core : Core) (before : List Message) (m : Message)
    (stands : CountsStand limits core before) where
  abbrev over : Overrun
  over = record { limit = limit.Messages; hart = 0; count = length (m ∷ before) }

  next : core.count + 1 ≡ length (m ∷ before)
  next = let c = stands.count in omega (arith, c)

  full : verdict.Undecided (core.count + 1) limit.Messages 0 (core.count + 1)
      ≡ verdict_of image before m (Passes over)
  full =
      let a : core.count + 1 ≡ length before + 1 = let c = stands.count in omega (arith, c) in
      λ i. verdict.Undecided (a i) limit.Messages 0 (next i)

  accept : (operations : ℕ) → (is_end m.body ≡ true → operations ≡ operations_of image (m ∷ before))
      → is_end m.body ≡ true
      → verdict.Accept (core.count + 1) core.retired operations ≡ verdict_of image before m Accepts
  accept operations known ends =
      let r : core.retired ≡ retired_of (m ∷ before) =
      stands.retired ∙ ap (λ (b : Bool). if b then retired_of before + 1 else retired_of before)
      (sym (end_retires_nothing m.body ends)) in
      let k = known ends in
      λ i. verdict.Accept (next i) (r i) (k i)

  limit_is : nat_lt core.limits.messages (core.count + 1) ≡ nat_lt limits.messages (length (m ∷ before))
  limit_is = λ i. nat_lt (stands.limits_is i).messages (next i)

  -- the verdict by the core's counts is the one that ends with the message
  pub verdict_is : (f : Option Fault) (operations : ℕ) → f ≡ message_fault image before m
      → KnowsOperations image before m f operations
      → verdict_by core m f operations ≡ verdict_at image limits before m
  verdict_is f operations is known = at f known ∙ ap (λ (g : Option Fault). option_map (verdict_of image before m)
      (option_map Offends g or_else option_map Passes (over_bound limit.Messages (Some limits.messages) 0
      (length (m ∷ before))) or_else (if is_end m.body then Some Accepts else None))) is
    where
      at : (f : Option Fault) → KnowsOperations image before m f operations → verdict_by core m f operations
          ≡ option_map (verdict_of image before m) (option_map Offends f
          or_else option_map Passes (over_bound limit.Messages (Some limits.messages) 0 (length (m ∷ before)))
          or_else (if is_end m.body then Some Accepts else None))
      at (Some f) known =
          let n : core.count + 1 ≡ length before + 1 = let c = stands.count in omega (arith, c) in
          λ i. Some (verdict.Reject (record {
            message = n i;
            offset = stands.offset i;
            head = Some m.head;
            fault = f;
          }))
      at None known =
          ap (λ (b : Bool). if b then Some (verdict.Undecided (core.count + 1) limit.Messages 0 (core.count + 1))
          else if is_end m.body then Some (verdict.Accept (core.count + 1) core.retired operations) else None) limit_is
          ∙ fine_is (nat_lt limits.messages (length (m ∷ before))) (is_end m.body) (verdict_of image before m) over _ _
          full (accept operations known)

-- ---- counts

-- a core that stands for messages has counted them
pub counted : {image : Loaded} {limits : Limits} {core : Core} {before : List Message}
    → CoreStands image limits core before → HasCounted core before
counted stands = record { count = stands.count; offset = stands.offset }

-- a core of which nothing changed has the same count
pub counted_still : (old new : Core) (before : List Message) → IsUnchanged old new → HasCounted old before
    → HasCounted new before
counted_still old new before u h = record { count = u.count ∙ h.count; offset = u.offset ∙ h.offset }

-- and stands for the same messages
pub stands_still : (image : Loaded) (limits : Limits) (old new : Core) (before : List Message) → IsUnchanged old new
    → CoreStands image limits old before → CoreStands image limits new before
stands_still image limits old new before u s = record {
  image_is = ap (λ i. loaded_of i.now) u.image ∙ s.image_is;
  limits_is = u.limits ∙ s.limits_is;
  going = u.verdict ∙ s.going;
  quiet = s.quiet;
  faultless = s.faultless;
  tables = subst (λ (i : Loaded). HasTables i new.tracer before) s.image_is
      (u.tables before (subst (λ (i : Loaded). HasTables i old.tracer before) (sym s.image_is) s.tables));
  count = u.count ∙ s.count;
  offset = u.offset ∙ s.offset;
  retired = u.retired ∙ s.retired;
}

-- a message that ends with no verdict has no fault
first_none : (f : Option Fault) (V : Decision → Verdict) (later : Option Decision)
    → option_map V (option_map Offends f or_else later) ≡ None → f ≡ None
first_none None V later e = refl
first_none (Some f) V later e = absurd (cc)

pub no_fault : (image : Loaded) (limits : Limits) (before : List Message) (m : Message)
    → verdict_at image limits before m ≡ None → message_fault image before m ≡ None
no_fault image limits before m e = first_none (message_fault image before m) (verdict_of image before m) _ e

-- ---- one message more

module _ (old judged new : Core) (before : List Message) (m : Message) (keeps : KeepsCounts old judged)
    (counts : Counts judged new m) where
  pub counted_on : HasCounted old before → HasCounted new (m ∷ before)
  counted_on h =
      let c = counts.count ∙ ap (λ (n : ℕ). n + 1) (keeps.count ∙ h.count) in record {
        count = omega (arith, c);
        offset = counts.offset ∙ ap (λ (n : ℕ). n + frame_size m) (keeps.offset ∙ h.offset);
      }

  -- where no verdict ends with the message the core stands for it too
  pub stands_on : (image : Loaded) (limits : Limits) → CoreStands image limits old before → Fits m
      → HasTables image judged.tracer (m ∷ before) → judged.verdict ≡ None → verdict_at image limits before m ≡ None
      → CoreStands image limits new (m ∷ before)
  stands_on image limits s fits tables going quiet =
      let h = counted_on (counted s) in
      record {
        image_is = ap (λ i. loaded_of i.now) (counts.image ∙ keeps.image) ∙ s.image_is;
        limits_is = counts.limits ∙ keeps.limits ∙ s.limits_is;
        going = counts.verdict ∙ going;
        quiet = (quiet, s.quiet);
        faultless = (s.faultless, fits, no_fault image limits before m quiet);
        tables = subst (λ (o : Option Tracer). HasTables image o (m ∷ before)) (sym counts.tracer) tables;
        count = h.count;
        offset = h.offset;
        retired = counts.retired ∙ ap (λ (n : ℕ). if is_retire m.body then n + 1 else n) (keeps.retired ∙ s.retired);
      }

-- ---- cases

-- what holds where there is no value
pub if_none_from : {A P : Type 0} → (o : Option A) → (o ≡ None → P) → IfNone o P
if_none_from None f = f refl
if_none_from (Some x) f = tt

-- what stands where a message ends with no verdict
pub stands_here : {A P : Type 0} (o : Option A) → o ≡ None → IfNone o P → P
stands_here None e p = p
stands_here (Some x) e p = absurd (cc)
