-- Which message an operation has its place from; so no operation has that of a live Read.
use Rattle.std.proofs.Common.{ℕ, ◌+◌, ◌<◌, ◌≡◌, ◌⊎◌, inl, inr, true, List, ◌∷◌, map, Some}
use Rattle.std.proofs.Common.{sym, ap, subst, ◌∙◌, arith}
use Rattle.std.proofs.lemmas.Bool.{both_ways}
use Rattle.tandem_base.specs.declared.names.Place.{Place}
use Rattle.msg_frames.specs.declared.message.Message.{Message}
use Rattle.elf_image.specs.Images.{Loaded}
use Rattle.rvwmo_model.specs.declared.operations.Op.{Op}
use Rattle.rvwmo_model.specs.Order.{everything}
use Rattle.matching.specs.declared.reports.OpenReport.{OpenReport}
use Rattle.matching.specs.Reports.{live, early, place_of_report}
use Rattle.matching.specs.Fates.{fate}
use Rattle.trace_model.specs.Entries.{Entry}
use Rattle.trace_model.specs.Traces.{entries, places, early_op, trace_of}
use Rattle.trace_model.proofs.Lists.{In, in_cases, from_map}
use Rattle.trace_model.proofs.Entries.{Comes, is_fixed, is_stored, comes}
use Rattle.trace_model.proofs.Facts.{message_at, message_on, is_read, IsNoRead, live_read, done_no_read, early_no_read}
use Rattle.trace_model.proofs.Past.{IsFixedAt, entries_all, done_of}

-- message n is a Read of that instruction
abbrev pub IsReadOf : List Message → ℕ → ℕ → ℕ → Type 0
IsReadOf before h t n = (m : Message) × (message_at before n ≡ Some m) × (is_read m.body ≡ true) × (m.head.hart ≡ h)
    × (m.head.tag ≡ t)

-- a place is from a Read of that instruction, or from no Read
abbrev pub IsFrom : List Message → ℕ → ℕ → Place → Type 0
IsFrom before h t q = IsNoRead before q.message ⊎ IsReadOf before h t q.message

from_on : (before : List Message) (m : Message) (h t : ℕ) (q : Place) → IsFrom before h t q → IsFrom (m ∷ before) h t q
from_on before m h t q (inl y) = inl (y.0, message_on before m q.message y.0 y.1, y.2)
from_on before m h t q (inr y) = inr (y.0, message_on before m q.message y.0 y.1, y.2, y.3, y.4)

entries_from : (image : Loaded) (before : List Message) (e : Entry) → In e (entries image before)
    → IsFixedAt (IsFrom before e.insn.hart e.insn.tag) e.memory
entries_from = entries_all IsFrom (record {
  on = from_on;
  read = λ before h r i. inr (live_read before h r i);
  bypass = λ before h t r i. inl (early_no_read before r i);
})

-- a Read is no message of the other kinds
no_both : (before : List Message) (h t n : ℕ) → IsNoRead before n → IsReadOf before h t n → ⊥
no_both before h t n a b =
    let c : Some a.0 ≡ Some b.0 = sym a.1 ∙ b.1 in
    let d : a.0 ≡ b.0 = cc in
    both_ways _ a.2 (ap (λ (m : Message). is_read m.body) d ∙ b.2)

-- two instructions of one Read are one
same_read_of : (before : List Message) (g s h t n : ℕ) → IsReadOf before g s n → IsReadOf before h t n → (g ≡ h)
    × (s ≡ t)
same_read_of before g s h t n a b =
    let c : Some a.0 ≡ Some b.0 = sym a.1 ∙ b.1 in
    let d : a.0 ≡ b.0 = cc in
    (sym a.3 ∙ ap (λ (m : Message). m.head.hart) d ∙ b.3, sym a.4 ∙ ap (λ (m : Message). m.head.tag) d ∙ b.4)

-- an operation that has the place of a Read is of the Read's instruction, which retired
pub of_read : (image : Loaded) (before : List Message) (h t : ℕ) (v : Op) (q : Place)
    → In v (everything (trace_of image before)) → v.place ≡ Some q → IsReadOf before h t q.message
    → (e : Entry) × In e (entries image before) × (e.insn.hart ≡ h) × (e.insn.tag ≡ t)
of_read image before h t v q i f r = elim (in_cases (trace_of image before).ops (map early_op (early before)) v i) [
  | inl a ↦ of_entry (comes (places before) (entries image before) v a)
  | inr b ↦
      let y = from_map early_op (early before) v b in
      let z : Some (place_of_report y.0) ≡ Some q = sym (ap (λ (w : Op). w.place) y.2) ∙ f in
      let n : y.0.number ≡ q.message = ap (λ (p : Place). p.message) (let c : place_of_report y.0 ≡ q = cc in c) in
      absurd (no_both before h t q.message (subst (IsNoRead before) n (early_no_read before y.0 y.1)) r)
]
  where
    of_entry : Comes (places before) (entries image before) v → (e : Entry) × In e (entries image before)
        × (e.insn.hart ≡ h) × (e.insn.tag ≡ t)
    of_entry (is_fixed e ops j d k) = elim (entries_from image before e j ops v q d k f) [
      | inl other ↦ absurd (no_both before h t q.message other r)
      | inr mine ↦ let s = same_read_of before e.insn.hart e.insn.tag h t q.message mine r in (e, j, s.0, s.1)
    ]
    of_entry (is_stored e a k j d l s) =
        absurd (no_both before h t q.message (done_no_read before a.hart a.tag (a.extent.addr + k) q
        (done_of (fate before a.hart a.tag (a.extent.addr + k)) q (sym (ap (λ (z : Op). z.place) s) ∙ f))) r)

-- no operation has the place of a Read whose instruction has not retired
pub fresh_place : (image : Loaded) (before : List Message) (h t : ℕ)
    → ((e : Entry) → In e (entries image before) → e.insn.hart ≡ h → e.insn.tag < t)
    → (r : OpenReport) → In r (live before h) → r.tag ≡ t → (v : Op) → In v (everything (trace_of image before))
    → v.place
    ≡ Some (place_of_report r) → ⊥
fresh_place image before h t younger r i tag v j f =
    let y = of_read image before h r.tag v (place_of_report r) j f (live_read before h r i) in
    let l = younger y.0 y.1 y.2 in
    omega (arith, l, y.3, tag)
