-- The places of a trace are those of messages that were.
use Rattle.std.proofs.Common.{ℕ, ◌+◌, ◌<◌, ◌≤◌, ◌≡◌, inl, inr, Bool, true, eqb, List, [], ◌∷◌, length}
use Rattle.std.proofs.Common.{map, Option, Some, None, refl, sym, ap, subst, ◌∙◌, arith}
use Rattle.std.specs.List.{find}
use Rattle.std.proofs.lemmas.Bool.Decides.{nat_tests}
use Rattle.tandem_base.specs.declared.extent.Extent.{Extent}
use Rattle.tandem_base.specs.declared.names.Place.{Place}
use Rattle.tandem_base.specs.Places.{earlier}
use Rattle.msg_frames.specs.declared.message.Head.{Head}
use Rattle.msg_frames.specs.declared.message.Body.{Body}
use Rattle.msg_frames.specs.declared.message.Body.TheVariants as body
use Rattle.msg_frames.specs.declared.message.Message.{Message}
use Rattle.elf_image.specs.Images.{Loaded}
use Rattle.rv_decode.specs.declared.instruction.Insn.{Insn}
use Rattle.rv_step.specs.Steps.{Doing, trap, plain, counter, load, store, lr, sc, amo}
use Rattle.rvwmo_model.specs.declared.operations.Op.{Op}
use Rattle.rvwmo_model.specs.declared.operations.OpKind.{OpKind}
use Rattle.rvwmo_model.specs.declared.operations.Ann.{Ann}
use Rattle.rvwmo_model.specs.Order.{everything}
use Rattle.matching.specs.declared.stores.Fate.{Fate}
use Rattle.matching.specs.declared.reports.OpenReport.{OpenReport}
use Rattle.matching.specs.declared.stores.Fate.TheVariants.{Nothing, Waiting, Done}
use Rattle.matching.specs.Settings.{number_after, last_time}
use Rattle.msg_frames.specs.Pieces.{has}
use Rattle.matching.specs.Reports.{is_for, counting, live, early, place_of_report, place_counted}
use Rattle.matching.specs.Fates.{fate, place_of}
use Rattle.matching.specs.Runs.{doing_at}
use Rattle.trace_model.specs.Traces.{stored_at}
use Rattle.trace_model.specs.Extents.{extent_of}
use Rattle.trace_model.specs.Entries.{MemoryUse, Fixed, Entry}
use Rattle.trace_model.specs.Retirements.{load_access, read_places, load_ops, atomic_ops, amo_ops, sc_ops, entry_of}
use Rattle.trace_model.specs.Traces.{entry_in, entries, places, early_op, trace_of}
use Rattle.trace_model.proofs.Lists.{In, in_cases, from_map}
use Rattle.trace_model.proofs.Keys.{with_cases, new_key}
use Rattle.std.proofs.lemmas.Bool.{and_parts, eqb-true}
use Rattle.trace_model.proofs.Groups.{part_from}
use Rattle.trace_model.proofs.Entries.{Comes, is_fixed, is_stored, comes}
use Rattle.trace_model.proofs.Performed.{IsBelow}
use Rattle.trace_model.proofs.Early.{latest_in}
use Rattle.trace_model.proofs.Facts.{fate_all, live_all, early_all}

-- time doesn't fall
abbrev pub Timed : List Message → Type 0
Timed [] = Unit {0}
Timed (m ∷ before) = Timed before × (last_time before ≤ m.head.time)

abbrev pub IsPast : List Message → Place → Type 0
IsPast before q = (q.time ≤ last_time before) × (q.message ≤ length before)

-- the same, where time doesn't fall
abbrev WasPast : List Message → Place → Type 0
WasPast before q = Timed before → IsPast before q

past_on : (before : List Message) (m : Message) (q : Place) → WasPast before q → WasPast (m ∷ before) q
past_on before m q p c = let r = p c.0 in (omega (arith, r.0, c.1), omega (arith, r.1))

pub fate_past : (before : List Message) (h t x : ℕ) (q : Place) → fate before h t x ≡ Done q → WasPast before q
fate_past = fate_all WasPast (record {
  on = past_on;
  drain = λ before head write j c. (omega arith, omega arith);
  bypass = λ before head piece c. (omega arith, omega arith);
})

pub live_past : (before : List Message) (h : ℕ) (r : OpenReport) → In r (live before h)
    → WasPast before (place_of_report r)
    × (r.hart ≡ h)
live_past = live_all (λ before h r. WasPast before (place_of_report r) × (r.hart ≡ h)) (record {
  on = λ before m h r y. (past_on before m (place_of_report r) y.0, y.1);
  read = λ before head piece. (λ c. (omega arith, omega arith), refl);
})

pub early_past : (before : List Message) (r : OpenReport) → In r (early before) → WasPast before (place_of_report r)
early_past = early_all (λ before r. WasPast before (place_of_report r)) (record {
  on = λ before m r y. past_on before m (place_of_report r) y;
  bypass = λ before head piece e c. (omega arith, omega arith);
})

-- ---- operations that stay as they are

-- P holds of their places
abbrev pub IsFixedAt : (Place → Type 0) → MemoryUse → Type 0
IsFixedAt P m = (ops : List Op) (v : Op) (q : Place) → m ≡ Fixed ops → In v ops → v.place ≡ Some q → P q

-- what P says of the places of the instruction's live Reads and of early Bypasses it says of the operations made of
-- them
module _ (P : Place → Type 0) (head : Head) (rs bs : List OpenReport) (live_p : (r : OpenReport) → In r rs
    → r.tag ≡ head.tag
    → P (place_of_report r))
    (early_p : (r : OpenReport) → In r bs → P (place_of_report r)) where
  counted_at : (x : ℕ) (q : Place) → place_counted (counting rs head.tag x) ≡ Some q → P q
  counted_at x q e = at (counting rs head.tag x) refl e
    where
      at : (o : Option OpenReport) → counting rs head.tag x ≡ o → place_counted o ≡ Some q → P q
      at None f e = absurd (cc)
      at (Some r) f e =
          let y = latest_in (is_for head.tag x) rs r f in
          subst P (let s : place_of_report r ≡ q = cc in s)
          (live_p r y.0 (eqb-true _ _ (and_parts (eqb r.tag head.tag) (has r.piece x) y.1).0))

  loads_at : (insn : Insn) (extent : Extent) → IsFixedAt P (Fixed (load_ops rs head insn extent))
  loads_at insn extent ops v q d i f =
      let l : ops ≡ load_ops rs head insn extent = cc in
      let y = part_from (load_access rs head insn extent) (read_places rs head.tag extent) extent.len v
      (subst (λ (z : List Op). In v z) l i) in
      counted_at (extent.addr + y.0) q (sym (ap (λ (z : Op). z.place) y.2) ∙ f)

  atomic_at : (p : OpenReport → Bool) (k : OpKind) (extent : Extent) (got : List ℕ) (aq rl : Ann)
      → IsFixedAt P (Fixed (atomic_ops k extent got aq rl (find p bs)))
  atomic_at p k extent got aq rl ops v q d i f =
      let l : ops ≡ atomic_ops k extent got aq rl (find p bs) = cc in
      at (find p bs) refl (subst (λ (z : List Op). In v z) l i)
    where
      at : (o : Option OpenReport) → find p bs ≡ o → In v (atomic_ops k extent got aq rl o) → P q
      at None s i = absurd i
      at (Some r) s (inr i) = absurd i
      at (Some r) s (inl e) =
          let z : Some (place_of_report r) ≡ Some q = sym (ap (λ (w : Op). w.place) e) ∙ f in
          subst P (let y : place_of_report r ≡ q = cc in y) (early_p r (latest_in p bs r s).0)

  nothing_at : IsFixedAt P (Fixed [])
  nothing_at ops v q d i f = absurd (subst (λ (l : List Op). In v l) (let z : ops ≡ [] = cc in z) i)

  pub entry_at : (put : List ℕ) (d : Doing) (e : Entry) → entry_of rs bs head put d ≡ Some e → IsFixedAt P e.memory
  entry_at put (trap cause value) e s = absurd (cc)
  entry_at put (plain insn) e s = let m : Fixed [] ≡ e.memory = cc in subst (IsFixedAt P) m nothing_at
  entry_at put (counter insn) e s = let m : Fixed [] ≡ e.memory = cc in subst (IsFixedAt P) m nothing_at
  entry_at put (load insn addr len) e s = let m : Fixed (load_ops rs head insn (extent_of addr len)) ≡ e.memory = cc in
      subst (IsFixedAt P) m (loads_at insn (extent_of addr len))
  entry_at put (store insn addr len) e s = λ ops v q d i f. absurd (cc)
  entry_at put (lr insn addr len) e s = let m : Fixed (load_ops rs head insn (extent_of addr len)) ≡ e.memory = cc in
      subst (IsFixedAt P) m (loads_at insn (extent_of addr len))
  entry_at put (sc insn addr len) e s = let m : Fixed (sc_ops bs head insn (extent_of addr len)) ≡ e.memory = cc in
      subst (IsFixedAt P) m (atomic_at _ _ _ _ _ _)
  entry_at put (amo insn addr len) e s = let m : Fixed (amo_ops rs bs head insn (extent_of addr len)) ≡ e.memory = cc in
      subst (IsFixedAt P) m (atomic_at _ _ _ _ _ _)

-- what holds of live Reads for their instruction, and of early Bypasses, and goes on, holds of these operations
pub record OnEntry (Q : List Message → ℕ → ℕ → Place → Type 0) : Type 0 where
  pub on : (before : List Message) (m : Message) (h t : ℕ) (q : Place) → Q before h t q → Q (m ∷ before) h t q
  pub read : (before : List Message) (h : ℕ) (r : OpenReport) → In r (live before h)
      → Q before h r.tag (place_of_report r)
  pub bypass : (before : List Message) (h t : ℕ) (r : OpenReport) → In r (early before)
      → Q before h t (place_of_report r)

module _ (Q : List Message → ℕ → ℕ → Place → Type 0) (c : OnEntry Q) where
  pub entries_all : (image : Loaded) (before : List Message) (e : Entry) → In e (entries image before)
      → IsFixedAt (Q before e.insn.hart e.insn.tag) e.memory
  entries_all image [] e i ops v q d j f = absurd i
  entries_all image (m ∷ before) e i ops v q d j f = elim
      (with_cases (entry_in image before m.head m.body) (entries image before) e i) [
        | inl k ↦ c.on before m e.insn.hart e.insn.tag q (entries_all image before e k ops v q d j f)
        | inr s ↦ c.on before m e.insn.hart e.insn.tag q (at m.body s)
      ]
    where
      at : (b : Body) → entry_in image before m.head b ≡ Some e → Q before e.insn.hart e.insn.tag q
      at (body.Retire retire) s =
          let k = new_key image before m.head (body.Retire retire) e s in
          subst (λ (h : ℕ). Q before h e.insn.tag q) (sym k.0) (subst (λ (t : ℕ). Q before m.head.hart t q) (sym k.1)
          (entry_at (Q before m.head.hart m.head.tag) m.head (live before m.head.hart) (early before)
          (λ r i s. subst (λ (t : ℕ). Q before m.head.hart t (place_of_report r)) s (c.read before m.head.hart r i))
          (c.bypass before m.head.hart m.head.tag)
          (stored_at image before m.head retire) (doing_at image before m.head.hart) e s ops v q d j f))
      at _ s = absurd (cc)

-- their places are of the past
pub entries_past : (image : Loaded) (before : List Message) (e : Entry) → In e (entries image before)
    → IsFixedAt (WasPast before) e.memory
entries_past = entries_all (λ before h t q. WasPast before q) (record {
  on = λ before m h t q. past_on before m q;
  read = λ before h r i. (live_past before h r i).0;
  bypass = λ before h t r i. early_past before r i;
})

pub done_of : (x : Fate) (q : Place) → place_of x ≡ Some q → x ≡ Done q
done_of Nothing q e = absurd (cc)
done_of (Waiting j) q e = absurd (cc)
done_of (Done p) q e = let s : p ≡ q = cc in ap Done s

-- all places of a trace are past
pub all_past : (image : Loaded) (before : List Message) → Timed before → (v : Op) (q : Place)
    → In v (everything (trace_of image before)) → v.place ≡ Some q → IsPast before q
all_past image before c v q i f = elim (in_cases (trace_of image before).ops (map early_op (early before)) v i) [
  | inl a ↦ of_entry (comes (places before) (entries image before) v a)
  | inr b ↦ let y = from_map early_op (early before) v b in
      subst (IsPast before) (let s : place_of_report y.0 ≡ q = let z : Some (place_of_report y.0) ≡ Some q =
      sym (ap (λ (w : Op). w.place) y.2) ∙ f in cc in s) (early_past before y.0 y.1 c)
]
  where
    of_entry : Comes (places before) (entries image before) v → IsPast before q
    of_entry (is_fixed e ops i d h) = entries_past image before e i ops v q d h f c
    of_entry (is_stored e a k i d l s) = fate_past before a.hart a.tag (a.extent.addr + k) q
        (done_of (fate before a.hart a.tag (a.extent.addr + k)) q (sym (ap (λ (z : Op). z.place) s) ∙ f)) c

-- so all of them come before a place of the next message
pub all_below : (image : Loaded) (before : List Message) → Timed before → (time j : ℕ) → last_time before ≤ time
    → IsBelow (trace_of image before) (record { time = time; message = number_after before; insert = j })
all_below image before c time j up v q i f =
    let p = all_past image before c v q i f in
    ahead q time (length before + 1) j (omega (arith, p.0, up)) (omega (arith, p.1))
  where
    ahead : (q : Place) (time n j : ℕ) → q.time ≤ time → q.message < n
        → earlier q (record { time = time; message = n; insert = j }) ≡ true
    ahead q time n j a b = grind (arith, nat_tests)
