-- The first fault of a message, from what matching and the newest step say.
use Rattle.std.proofs.Common.{◌≡◌, Bool, true, false, List, ◌∷◌, Option, Some, None, Result, Ok, Err, IfOk}
use Rattle.std.proofs.Common.{sym, ap, ◌∙◌}
use Rattle.msg_frames.specs.declared.message.Message.{Message}
use Rattle.elf_image.specs.Images.{Loaded}
use Rattle.tandem_base.specs.FirstFault.{◌or_else◌}
use Rattle.verdict_report.specs.declared.fault.Fault.{Fault}
use Rattle.matching.specs.Matching.{IsClean, match_fault}
use Rattle.trace_model.specs.Tracers.{Follows}
use Rattle.trace_model.specs.declared.tracer.Tracer.{Tracer}
use Rattle.order_laws.specs.Faults.{IsFaultless, order_fault, message_fault}
use Rattle.trace_model.specs.Breaking.{may_break}
use Rattle.order_laws.proofs.Unbroken.{others_break_nothing}

module _ (image : Loaded) (before : List Message) (m : Message) where
  -- a fault of matching comes first
  pub matched_first : (f : Fault) → match_fault image before m ≡ Some f → Some f ≡ message_fault image before m
  matched_first f e = sym (ap (λ (o : Option Fault). o or_else order_fault image before m) e)

  -- where there is none, that of the order is the first
  order_first : match_fault image before m ≡ None → order_fault image before m ≡ message_fault image before m
  order_first e = sym (ap (λ (o : Option Fault). o or_else order_fault image before m) e)

  pub order_examined : {E : Type 0} (r : Result (Option Fault) E) → match_fault image before m ≡ None
      → IfOk r (λ f. f ≡ order_fault image before m) → IfOk r (λ f. f ≡ message_fault image before m)
  order_examined (Ok f) e h = h ∙ order_first e
  order_examined (Err x) e h = tt

  -- a message that can break nothing has no fault
  pub unbroken : (t : Tracer) → IsFaultless image before → Follows image t (m ∷ before)
      → may_break image before m.head m.body ≡ false → None ≡ message_fault image before m
  unbroken t f h n =
      let c : IsClean image (m ∷ before) = h.stands.clean in
      sym (others_break_nothing image before m f c n) ∙ order_first c.2

-- what holds of a result whatever it is
pub if_ok_from : {A E : Type 0} (P : A → Type 0) (r : Result A E) → ((a : A) → P a) → IfOk r P
if_ok_from P (Ok a) p = p a
if_ok_from P (Err e) p = tt

-- a message that was taken has no fault, where it can't break the order
pub unbroken_where : {E : Type 0} (image : Loaded) (before : List Message) (m : Message) (t : Tracer)
    (r : Result Bool E)
    → IsFaultless image before → IfOk r (λ taken. taken ≡ true → may_break image before m.head m.body ≡ false)
    → IfOk r (λ taken. taken ≡ true → Follows image t (m ∷ before))
    → IfOk r (λ taken. taken ≡ true → message_fault image before m ≡ None)
unbroken_where image before m t (Ok b) faultless quiet follows =
    λ e. sym (unbroken image before m t faultless (follows e) (quiet e))
unbroken_where image before m t (Err x) faultless quiet follows = tt
