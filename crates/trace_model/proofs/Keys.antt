-- The entries of a list of messages: what one more message adds, and of which instruction it is.
use Rattle.std.proofs.Common.{ℕ, ◌≡◌, ◌⊎◌, inl, inr, List, Option, Some, None, refl, sym, ap, subst}
use Rattle.std.specs.List.{cons_option}
use Rattle.msg_frames.specs.declared.message.Head.{Head}
use Rattle.msg_frames.specs.declared.message.Body.{Body}
use Rattle.msg_frames.specs.declared.message.Body.TheVariants as body
use Rattle.msg_frames.specs.declared.message.Message.{Message}
use Rattle.elf_image.specs.Images.{Loaded}
use Rattle.rv_step.specs.Steps.{Doing, trap, plain, counter, load, store, lr, sc, amo}
use Rattle.matching.specs.declared.reports.OpenReport.{OpenReport}
use Rattle.matching.specs.Reports.{live, early}
use Rattle.matching.specs.Runs.{doing_at}
use Rattle.rvwmo_model.specs.declared.instructions.Retired.{Retired}
use Rattle.trace_model.specs.Entries.{Entry, MemoryUse}
use Rattle.trace_model.specs.Retirements.{entry_of}
use Rattle.trace_model.specs.Traces.{entry_in, stored_at}
use Rattle.trace_model.proofs.Lists.{In}

pub with_cases : (o : Option Entry) (es : List Entry) (e : Entry) → In e (cons_option o es) → In e es ⊎ (o ≡ Some e)
with_cases None es e i = inl i
with_cases (Some f) es e (inl s) = inr (ap Some (sym s))
with_cases (Some f) es e (inr i) = inl i

pub with_more : (o : Option Entry) (es : List Entry) (e : Entry) → In e es → In e (cons_option o es)
with_more None es e i = i
with_more (Some f) es e i = inr i

-- the entry is of that hart and tag
abbrev pub IsAt : Head → Entry → Type 0
IsAt head e = (e.insn.hart ≡ head.hart) × (e.insn.tag ≡ head.tag)

is_at : (head : Head) (f e : Entry) → Some f ≡ Some e → IsAt head f → IsAt head e
is_at head f e q k = subst (IsAt head) (let c : f ≡ e = cc in c) k

-- the entry of a Retire is of its hart and tag
pub entry_key : (rs bs : List OpenReport) (head : Head) (put : List ℕ) (d : Doing) (e : Entry)
    → entry_of rs bs head put d
    ≡ Some e → IsAt head e
entry_key rs bs head put (trap cause value) e q = absurd (cc)
entry_key rs bs head put (plain insn) e q = is_at head _ e q (refl, refl)
entry_key rs bs head put (counter insn) e q = is_at head _ e q (refl, refl)
entry_key rs bs head put (load insn addr len) e q = is_at head _ e q (refl, refl)
entry_key rs bs head put (store insn addr len) e q = is_at head _ e q (refl, refl)
entry_key rs bs head put (lr insn addr len) e q = is_at head _ e q (refl, refl)
entry_key rs bs head put (sc insn addr len) e q = is_at head _ e q (refl, refl)
entry_key rs bs head put (amo insn addr len) e q = is_at head _ e q (refl, refl)

pub new_key : (image : Loaded) (before : List Message) (head : Head) (b : Body) (e : Entry) → entry_in image before head
    b ≡ Some e → IsAt head e
new_key image before head (body.Retire retire) e q = entry_key (live before head.hart) (early before) head
    (stored_at image before head retire) (doing_at image before head.hart) e q
new_key image before head _ e q = absurd (cc)

-- an entry is its instruction and what it did
pub same_entry : (e : Entry) (r : Retired) (m : MemoryUse) → e.insn ≡ r → e.memory ≡ m
    → e ≡ record { insn = r; memory = m }
same_entry e r m p q = λ i. record { insn = p i; memory = q i }
