-- No message has a fault exactly where all match and their order is legal.
use Rattle.std.proofs.Common.{ℕ, ◌≡◌, List, [], ◌∷◌, Option, Some, None, refl, arith}
use Rattle.msg_frames.specs.declared.message.Message.{Message}
use Rattle.elf_image.specs.Images.{Loaded}
use Rattle.tandem_base.specs.FirstFault.{◌or_else◌}
use Rattle.verdict_report.specs.declared.fault.Fault.{Fault}
use Rattle.rvwmo_model.specs.declared.answers.Last.{Last}
use Rattle.rvwmo_model.specs.declared.answers.Last.TheVariants as last
use Rattle.rvwmo_model.specs.declared.traces.Trace.{Trace}
use Rattle.elf_image.specs.Images.{initial_byte}
use Rattle.rvwmo_model.specs.InForm.{InForm}
use Rattle.rvwmo_model.specs.Last.{IsFine, IsLast}
use Rattle.rvwmo_model.specs.LastAnswer.{newest_answer}
use Rattle.matching.specs.Matching.{IsClean, match_fault}
use Rattle.trace_model.specs.Traces.{trace_of}
use Rattle.trace_model.proofs.CleanLists.{lists_are_well_kinded}
use Rattle.order_laws.specs.Faults.{last_of, order_fault_of, order_fault, IsFaultless}
use Rattle.order_laws.specs.FaultLaws.{OrderFaultIsLast, FaultlessIsLegal, EndBreaksNothing}
use Rattle.order_laws.specs.Prefixes.{IsLegal}
use Rattle.order_laws.specs.Retired.{retired_tag}
use Rattle.order_laws.proofs.Fine.{legal_fine, fine_legal}
use Rattle.rvwmo_model.proofs.LastAnswered.{last_is}
use Rattle.order_laws.proofs.Legality.{nothing_legal, nothing_kinded, mend_nothing}
use Rattle.order_laws.proofs.Trapping.{both_none}

pub order_fault_is_last : OrderFaultIsLast
order_fault_is_last image before m c = last_is (initial_byte image) (trace_of image (m ∷ before)) m.head.hart
    (retired_tag m.head m.body) (lists_are_well_kinded image (m ∷ before) c (omega arith)).form

-- the answer is no fault exactly where nothing that is asked stands
no_fault_fine : (initial : ℕ → ℕ) (t : Trace) (hart : ℕ) (tag : Option ℕ) (l : Last) → IsLast initial t hart tag l
    → order_fault_of l ≡ None → IsFine initial t hart tag
no_fault_fine initial t hart tag last.Fine h e = h
no_fault_fine initial t hart tag (last.Value x want got) h e = absurd (cc)
no_fault_fine initial t hart tag (last.Order rule first second) h e = absurd (cc)
no_fault_fine initial t hart tag (last.Atomicity x store) h e = absurd (cc)

fine_no_fault : (initial : ℕ → ℕ) (t : Trace) (hart : ℕ) (tag : Option ℕ) (l : Last) → IsLast initial t hart tag l
    → IsFine initial t hart tag → order_fault_of l ≡ None
fine_no_fault initial t hart tag last.Fine h f = refl
fine_no_fault initial t hart tag (last.Value x want got) h f = absurd (f.right x h.lowest.here.0 h.lowest.here.1)
fine_no_fault initial t hart tag (last.Order rule first second) h f =
    absurd (f.ordered h.broken h.before h.after h.reported.first.here)
fine_no_fault initial t hart tag (last.Atomicity x store) h f = absurd (f.atomic h.lr h.sc h.torn)

-- from a legal trace a message without a fault of memory order gives a legal one
pub order_legal : (image : Loaded) (before : List Message) (m : Message) → IsClean image (m ∷ before)
    → IsLegal image before → order_fault image before m ≡ None → IsLegal image (m ∷ before)
order_legal image before m c l e = fine_legal image before m c l (no_fault_fine (initial_byte image)
    (trace_of image (m ∷ before)) m.head.hart (retired_tag m.head m.body) (last_of image before m)
    (order_fault_is_last image before m c) e)

-- and where it is legal the message has none
pub legal_order : (image : Loaded) (before : List Message) (m : Message) → IsClean image (m ∷ before)
    → IsLegal image (m ∷ before) → order_fault image before m ≡ None
legal_order image before m c l = fine_no_fault (initial_byte image) (trace_of image (m ∷ before)) m.head.hart
    (retired_tag m.head m.body) (last_of image before m) (order_fault_is_last image before m c)
    (legal_fine (initial_byte image) (trace_of image (m ∷ before)) m.head.hart (retired_tag m.head m.body) l)

pub faultless_legal : (image : Loaded) (messages : List Message) → IsFaultless image messages
    → IsClean image messages × IsLegal image messages
faultless_legal image [] f = (tt, nothing_legal image)
faultless_legal image (m ∷ before) f =
    let older = faultless_legal image before f.0 in
    let e = both_none (match_fault image before m) (order_fault image before m) f.2 in
    let c : IsClean image (m ∷ before) = (older.0, f.1, e.0) in
    (c, order_legal image before m c older.1 e.1)

none_both : (a b : Option Fault) → a ≡ None → b ≡ None → (a or_else b) ≡ None
none_both None b p q = q
none_both (Some f) b p q = p

pub legal_faultless : (image : Loaded) (messages : List Message) → IsClean image messages → IsLegal image messages
    → IsFaultless image messages
legal_faultless image [] c l = tt
legal_faultless image (m ∷ before) c l = (
  legal_faultless image before c.0 (mend_nothing image (m ∷ []) before c l),
  c.1,
  none_both (match_fault image before m) (order_fault image before m) c.2 (legal_order image before m c l),
)

pub faultless_is_legal : FaultlessIsLegal
faultless_is_legal image messages = (faultless_legal image messages, λ h. legal_faultless image messages h.0 h.1)

-- ---- the End

-- the trace of some messages in which nothing is wrong
list_form : (image : Loaded) (before : List Message) → IsClean image before → InForm (trace_of image before)
list_form image [] c = (nothing_kinded image).form
list_form image (m ∷ before) c = (lists_are_well_kinded image (m ∷ before) c (omega arith)).form

pub end_breaks_nothing : EndBreaksNothing
end_breaks_nothing image before head f =
    let l = faultless_legal image before f in
    fine_no_fault (initial_byte image) (trace_of image before) head.hart None
    (newest_answer (initial_byte image) (trace_of image before) head.hart None)
    (last_is (initial_byte image) (trace_of image before) head.hart None (list_form image before l.0))
    (legal_fine (initial_byte image) (trace_of image before) head.hart None l.1)
