-- The operations of what the code keeps are those of the definition: the tables have the store of each entry.
use Rattle.std.proofs.Common.{ℕ, ◌+◌, ◌≤◌, ◌<◌, ◌≡◌, ◌⊎◌, inl, inr, Bool, true, false, eqb, cond, List, [], ◌∷◌, ◌++◌}
use Rattle.std.proofs.Common.{map, nat_lt, Option, Some, None, refl, sym, ap, subst, ◌∙◌, arith}
use Rattle.std.specs.List.{flat_map, cons_option}
use Rattle.std.specs.Option.{option_map}
use Rattle.std.proofs.lemmas.Bool.{eqb-true, eq-eqb, ltb-true, lt-ltb}
use Rattle.std.proofs.lemmas.Bool.Decides.{nat_tests}
use Rattle.msg_frames.specs.declared.message.Head.{Head}
use Rattle.msg_frames.specs.declared.message.Piece.{Piece}
use Rattle.msg_frames.specs.declared.message.Retire.{Retire}
use Rattle.msg_frames.specs.declared.message.Body.{Body}
use Rattle.msg_frames.specs.declared.message.Body.TheVariants as body
use Rattle.msg_frames.specs.declared.message.Message.{Message}
use Rattle.msg_frames.specs.Frames.{FitsBody}
use Rattle.elf_image.specs.Images.{Loaded}
use Rattle.rv_decode.specs.declared.instruction.Insn.{Insn}
use Rattle.rv_step.specs.Steps.{Doing, trap, plain, counter, load, store, lr, sc, amo}
use Rattle.rvwmo_model.specs.declared.operations.Op.{Op}
use Rattle.verdict_report.specs.declared.fault.Fault.TheVariants as fault
use Rattle.matching.specs.declared.stores.Fate.TheVariants.{Nothing}
use Rattle.matching.specs.declared.stores.Stored.{Stored}
use Rattle.matching.specs.declared.stores.Tracked.{Tracked}
use Rattle.matching.specs.Settings.{harts_of}
use Rattle.matching.specs.Reports.{live, early}
use Rattle.matching.specs.Fates.{fate, place_of}
use Rattle.matching.specs.Stores.{retired_stores, stores_in, store_under, new_store}
use Rattle.matching.specs.PartFaults.{fate_at}
use Rattle.matching.specs.Runs.{doing_at, step_at, effect_at}
use Rattle.matching.specs.Matching.{IsClean, match_fault, stream_fault_of, body_fault_of}
use Rattle.matching.specs.Tables.{tracked_at, tracked_under}
use Rattle.matching.proofs.Same.{under_same}
use Rattle.trace_model.specs.declared.retirements.KeptUse.{KeptUse}
use Rattle.trace_model.specs.declared.retirements.KeptUse.TheVariants as kept_use
use Rattle.trace_model.specs.Groups.{Access}
use Rattle.trace_model.specs.Marks.{HasAtMost, eight, place_in}
use Rattle.trace_model.specs.Extents.{extent_of}
use Rattle.trace_model.specs.Entries.{MemoryUse, Fixed, Stores, Entry, Places, byte_places, memory_ops, entry_ops}
use Rattle.trace_model.specs.Entries.{uses_of, with_use}
use Rattle.trace_model.specs.Retirements.{entry, entry_of, store_access}
use Rattle.trace_model.specs.Seen.{HasStored, use_seen}
use Rattle.trace_model.specs.Traces.{stored_at, entry_in, entries, places}
use Rattle.trace_model.specs.Tracers.{place_tracked, tracked_in, ops_seen}
use Rattle.trace_model.proofs.Lists.{In, in_map}
use Rattle.trace_model.proofs.Keys.{with_cases}
use Rattle.trace_model.proofs.Extents.{extent_is}
use Rattle.trace_model.proofs.Suits.{SuitsBody, Suited}
use Rattle.trace_model.proofs.Cleaned.{both_none, StoresPiece, stores_piece, suited}
use Rattle.trace_model.proofs.Tags.{all_below_entry}
use Rattle.trace_model.proofs.AreEntries.{IsEntry}
use Rattle.trace_model.proofs.Growing.{are_entries}
use Rattle.trace_model.proofs.Marks.{eight_is, parts_same}

none_is_some : {X : Type 0} {x : X} → Some x ≡ None → ⊥
none_is_some {X} {x} e = absurd (cc)

-- ---- the harts of a clean list

few_harts : (image : Loaded) (before : List Message) → IsClean image before → harts_of before ≤ 16
few_harts image [] c = omega arith
few_harts image (m ∷ before) c = at m.body c.1 (few_harts image before c.0)
  where
    at : (b : Body) → FitsBody m.head b → harts_of before ≤ 16
        → harts_of (record { head = m.head; body = b } ∷ before) ≤ 16
    at (body.Open info) f rec = f.2.2
    at (body.Poke poke) f rec = rec
    at (body.Read piece) f rec = rec
    at (body.Insert piece) f rec = rec
    at (body.Write write) f rec = rec
    at (body.Bypass piece) f rec = rec
    at (body.Retire retire) f rec = rec
    at body.Squash f rec = rec
    at body.End f rec = rec

low_hart : (image : Loaded) (before : List Message) (head : Head) (retire : Retire) → IsClean image before
    → stream_fault_of before (record { head = head; body = body.Retire retire }) ≡ None → head.hart < 16
low_hart image [] head retire c e = absurd (none_is_some e)
low_hart image (last ∷ before) head retire c e = at (nat_lt head.hart (harts_of (last ∷ before))) refl e
  where
    at : (d : Bool) → nat_lt head.hart (harts_of (last ∷ before)) ≡ d
        → cond d (cond (nat_lt head.time last.head.time) (Some (fault.TimeBack last.head.time)) None)
        (Some fault.BadHart) ≡ None → head.hart < 16
    at true q f =
        let l = ltb-true _ _ q in
        let b = few_harts image (last ∷ before) c in
        omega (arith, l, b)
    at false q f = absurd (none_is_some f)

-- ---- the store under a tag

under_tag : (t : ℕ) (ss : List Stored) (s : Stored) → store_under t ss ≡ Some s → s.tag ≡ t
under_tag t [] s e = absurd (none_is_some (sym e))
under_tag t (r ∷ ss) s e = at (eqb r.tag t) refl e (under_tag t ss s)
  where
    at : (b : Bool) → eqb r.tag t ≡ b → cond b (Some r) (store_under t ss) ≡ Some s
        → (store_under t ss ≡ Some s → s.tag ≡ t) → s.tag ≡ t
    at true q f rec = let one : r ≡ s = cc in ap (λ (z : Stored). z.tag) (sym one) ∙ eqb-true _ _ q
    at false q f rec = rec f

-- a new store has the tag of its instruction
new_tag : (d : Doing) (t : ℕ) (o : Option Piece) (s : Stored) → new_store d t o ≡ Some s → s.tag ≡ t
new_tag (store insn addr len) t (Some piece) s e =
    let one : record { tag = t; piece = piece } ≡ s = cc in ap (λ (z : Stored). z.tag) (sym one)
new_tag (store insn addr len) t None s e = absurd (none_is_some (sym e))
new_tag (trap cause value) t o s e = absurd (none_is_some (sym e))
new_tag (plain insn) t o s e = absurd (none_is_some (sym e))
new_tag (counter insn) t o s e = absurd (none_is_some (sym e))
new_tag (load insn addr len) t o s e = absurd (none_is_some (sym e))
new_tag (lr insn addr len) t o s e = absurd (none_is_some (sym e))
new_tag (sc insn addr len) t o s e = absurd (none_is_some (sym e))
new_tag (amo insn addr len) t o s e = absurd (none_is_some (sym e))

-- a new store under another tag changes nothing for this one
with_other : (t : ℕ) (o : Option Stored) (ss : List Stored) → ((s : Stored) → o ≡ Some s → t < s.tag)
    → store_under t (cons_option o ss) ≡ store_under t ss
with_other t None ss h = refl
with_other t (Some s) ss h =
    let l = h s refl in
    let other : eqb s.tag t ≡ false = grind (arith, nat_tests) in
    ap (λ (b : Bool). cond b (Some s) (store_under t ss)) other

-- and a new store is that under its own
new_under : (h t : ℕ) (d : Doing) (insn : Insn) (addr len : ℕ) (o : Option Piece) (piece : Piece) (ss : List Stored)
    → d ≡ store insn addr len → o ≡ Some piece
    → store_under t (cond (eqb h h) (cons_option (new_store d t o) ss) ss) ≡ Some (record { tag = t; piece = piece })
new_under h t d insn addr len o piece ss p q =
    ap (λ (z : Doing). store_under t (cond (eqb h h) (cons_option (new_store z t o) ss) ss)) p
    ∙ ap (λ (z : Option Piece). store_under t
    (cond (eqb h h) (cons_option (new_store (store insn addr len) t z) ss) ss)) q
    ∙ ap (λ (b : Bool). store_under t (cond b (record { tag = t; piece = piece } ∷ ss) ss)) (eq-eqb h h refl)
    ∙ ap (λ (b : Bool). cond b (Some (record { tag = t; piece = piece })) (store_under t ss)) (eq-eqb t t refl)

-- ---- the store of each entry

-- what stays as it is has no such access
not_stored : (f e : Entry) (a : Access) (ops : List Op) → f.memory ≡ Fixed ops → Some f ≡ Some e → e.memory ≡ Stores a
    → ⊥
not_stored f e a ops p q m =
    let one : f ≡ e = cc in
    let two : Fixed ops ≡ Stores a = sym p ∙ ap (λ (z : Entry). z.memory) one ∙ m in
    absurd (cc)

-- the place of a message in a clean list has no fault
clean_place : (image : Loaded) (before : List Message) (n : Message) → match_fault image before n ≡ None
    → stream_fault_of before (record { head = n.head; body = n.body }) ≡ None
clean_place image before n e = (both_none (stream_fault_of before n) (body_fault_of image before n.head n.body) e).0

-- the store of an access, among those of its hart
record HasTracked (image : Loaded) (before : List Message) (a : Access) : Type 0 where
  store : Stored
  under : store_under a.tag (retired_stores image before a.hart) ≡ Some store
  addr : store.piece.addr ≡ a.extent.addr
  low : a.hart < 16

module _ (image : Loaded) (before : List Message) (s : Suited image before) (head : Head) where
  -- an older entry keeps its store
  old_under : (b : Body) → SuitsBody image before head b → (e : Entry) → In e (entries image before) → (h t : ℕ)
      → e.insn.hart ≡ h → e.insn.tag ≡ t → (r : Stored) → store_under t (retired_stores image before h) ≡ Some r
      → store_under t (stores_in image before (retired_stores image before h) head b h) ≡ Some r
  old_under (body.Retire retire) suits e i h t p q r f = at (eqb head.hart h) refl
    where
      at : (c : Bool) → eqb head.hart h ≡ c
          → store_under t (cond c (cons_option (new_store (doing_at image before h) head.tag
          (step_at image before h head retire).effect.store) (retired_stores image before h))
          (retired_stores image before h)) ≡ Some r
      at false same = f
      at true same =
          let one = eqb-true _ _ same in
          let l = all_below_entry image before s head.hart head.tag suits.younger e i (p ∙ sym one) in
          with_other t (new_store (doing_at image before h) head.tag (step_at image before h head retire).effect.store)
          (retired_stores image before h)
          (λ n is. let k = new_tag (doing_at image before h) head.tag
          (step_at image before h head retire).effect.store n is in omega (arith, l, k, q)) ∙ f
  old_under (body.Open info) suits e i h t p q r f = f
  old_under (body.Poke poke) suits e i h t p q r f = f
  old_under (body.Read piece) suits e i h t p q r f = f
  old_under (body.Insert piece) suits e i h t p q r f = f
  old_under (body.Write write) suits e i h t p q r f = f
  old_under (body.Bypass piece) suits e i h t p q r f = f
  old_under body.Squash suits e i h t p q r f = f
  old_under body.End suits e i h t p q r f = f

  -- the new entry has the new store
  abbrev Now : Body → Access → Type 0
  Now b a = HasTracked image (record { head = head; body = b } ∷ before) a

  new_tracked : (retire : Retire) → head.hart < 16 → (d : Doing) → doing_at image before head.hart ≡ d → (e : Entry)
      → (a : Access)
      → entry_of (live before head.hart) (early before) head (stored_at image before head retire) d ≡ Some e
      → e.memory ≡ Stores a → StoresPiece d (effect_at image before head retire).store → Now (body.Retire retire) a
  new_tracked retire low (store insn addr len) is e a q m piece =
      let put = stored_at image before head retire in
      let own = store_access head insn (extent_of addr len) put in
      let made : entry head insn false (Stores own) ≡ e = cc in
      let uses : Stores own ≡ Stores a = ap (λ (z : Entry). z.memory) made ∙ m in
      let same : own ≡ a = cc in
      subst (Now (body.Retire retire)) same (record {
        store = record { tag = head.tag; piece = piece.1.piece };
        under = new_under head.hart head.tag (doing_at image before head.hart) insn addr len
            (effect_at image before head retire).store piece.1.piece (retired_stores image before head.hart) is
            piece.1.is;
        addr = piece.1.addr_is ∙ sym (extent_is addr len piece.0).addr_is;
        low = low;
      })
  new_tracked retire low (trap cause value) is e a q m piece = absurd (none_is_some (sym q))
  new_tracked retire low (plain insn) is e a q m piece = absurd (not_stored _ e a _ refl q m)
  new_tracked retire low (counter insn) is e a q m piece = absurd (not_stored _ e a _ refl q m)
  new_tracked retire low (load insn addr len) is e a q m piece = absurd (not_stored _ e a _ refl q m)
  new_tracked retire low (lr insn addr len) is e a q m piece = absurd (not_stored _ e a _ refl q m)
  new_tracked retire low (sc insn addr len) is e a q m piece = absurd (not_stored _ e a _ refl q m)
  new_tracked retire low (amo insn addr len) is e a q m piece = absurd (not_stored _ e a _ refl q m)

  -- so each entry has its store, after one more message
  now : (b : Body) → IsClean image before → SuitsBody image before head b
      → stream_fault_of before (record { head = head; body = b }) ≡ None → (e : Entry) (a : Access)
      → entry_in image before head b ≡ Some e → e.memory ≡ Stores a → Now b a
  now (body.Retire retire) c suits f e a q m =
      new_tracked retire (low_hart image before head retire c f) (doing_at image before head.hart) refl e a q m
      (stores_piece image before head retire)
  now (body.Open info) c suits f e a q m = absurd (none_is_some (sym q))
  now (body.Poke poke) c suits f e a q m = absurd (none_is_some (sym q))
  now (body.Read piece) c suits f e a q m = absurd (none_is_some (sym q))
  now (body.Insert piece) c suits f e a q m = absurd (none_is_some (sym q))
  now (body.Write write) c suits f e a q m = absurd (none_is_some (sym q))
  now (body.Bypass piece) c suits f e a q m = absurd (none_is_some (sym q))
  now body.Squash c suits f e a q m = absurd (none_is_some (sym q))
  now body.End c suits f e a q m = absurd (none_is_some (sym q))

  older : (b : Body) → SuitsBody image before head b → (e : Entry) → In e (entries image before) → (a : Access)
      → IsEntry e → e.memory ≡ Stores a → HasTracked image before a → Now b a
  older b suits e i a good m t =
      let n = good.named a m in record {
        store = t.store;
        under = old_under b suits e i a.hart a.tag (sym n.0) (sym n.1) t.store t.under;
        addr = t.addr;
        low = t.low;
      }

tracked_of : (image : Loaded) (before : List Message) → IsClean image before → (e : Entry) → In e (entries image before)
    → (a : Access) → e.memory ≡ Stores a → HasTracked image before a
tracked_of image [] c e i a m = absurd i
tracked_of image (n ∷ before) c e i a m =
    let s = suited image (n ∷ before) c in
    elim (with_cases (entry_in image before n.head n.body) (entries image before) e i) [
      | inl j ↦ older image before s.0 n.head n.body s.2 e j a ((are_entries image before s.0).each e j) m
          (tracked_of image before c.0 e j a m)
      | inr q ↦ now image before s.0 n.head n.body c.0 s.2 (clean_place image before n c.2) e a q m
    ]

-- ---- what did something to memory

-- what did something is of an instruction
from_use : (m : MemoryUse) (us : List MemoryUse) (u : MemoryUse) → In u (with_use m us) → (m ≡ u) ⊎ In u us
from_use (Fixed []) us u i = inr i
from_use (Fixed (o ∷ ops)) us u (inl e) = inl (sym e)
from_use (Fixed (o ∷ ops)) us u (inr i) = inr i
from_use (Stores a) us u (inl e) = inl (sym e)
from_use (Stores a) us u (inr i) = inr i

from_uses : (es : List Entry) (u : MemoryUse) → In u (uses_of es) → (e : Entry) × In e es × (e.memory ≡ u)
from_uses [] u i = absurd i
from_uses (e ∷ es) u i = elim (from_use e.memory (uses_of es) u i) [
  | inl m ↦ (e, inl refl, m)
  | inr j ↦ let r = from_uses es u j in (r.0, inr r.1, r.2)
]

-- and the others have no operations
use_ops : (g : Places) (m : MemoryUse) (us : List MemoryUse)
    → flat_map (memory_ops g) (with_use m us) ≡ memory_ops g m ++ flat_map (memory_ops g) us
use_ops g (Fixed []) us = refl
use_ops g (Fixed (o ∷ ops)) us = refl
use_ops g (Stores a) us = refl

uses_ops : (g : Places) (es : List Entry) → flat_map (memory_ops g) (uses_of es) ≡ flat_map (entry_ops g) es
uses_ops g [] = refl
uses_ops g (e ∷ es) =
    use_ops g e.memory (uses_of es)
    ∙ ap (λ (ops : List Op). memory_ops g e.memory ++ ops) (uses_ops g es)

-- ---- the places of its bytes

module _ (image : Loaded) (before : List Message) (c : IsClean image before) where
  tracked_is : (a : Access) (t : HasTracked image before a)
      → tracked_in image before a.hart a.tag ≡ Some (tracked_at before a.hart t.store)
  tracked_is a t =
      ap (λ (b : Bool). cond b (tracked_under a.tag (map (tracked_at before a.hart)
      (retired_stores image before a.hart)))
      None) (lt-ltb a.hart 16 t.low)
      ∙ under_same before a.hart a.tag (retired_stores image before a.hart)
      ∙ ap (option_map (tracked_at before a.hart)) t.under

  place_is : (e : Entry) → In e (entries image before) → (a : Access) → e.memory ≡ Stores a → (k : ℕ) → k < 8
      → place_in (eight (place_tracked (tracked_in image before a.hart a.tag))) k ≡ byte_places (places before) a k
  place_is e i a m k l =
      let t = tracked_of image before c e i a m in
      let tag = under_tag a.tag (retired_stores image before a.hart) t.store t.under in
      eight_is (place_tracked (tracked_in image before a.hart a.tag)) None k l
      ∙ ap (λ (o : Option Tracked). place_tracked o k) (tracked_is a t)
      ∙ ap place_of (eight_is (fate_at before a.hart t.store) Nothing k l)
      ∙ ap (λ (z : ℕ). place_of (fate before a.hart z (t.store.piece.addr + k))) tag
      ∙ ap (λ (x : ℕ). place_of (fate before a.hart a.tag (x + k))) t.addr

  stored_same : (access : Access) (e : Entry) → In e (entries image before) → e.memory ≡ Stores access
      → ops_seen image before (kept_use.Stored access) ≡ memory_ops (places before) (Stores access)
  stored_same access e i m =
      let sized = ((are_entries image before (suited image before c)).each e i).sized access m in
      let short : access.extent.len ≤ 8 = access.extent.sized.1 in
      let within : HasAtMost access 8 = record {
        len = short;
        got = let n = sized.0 in omega (arith, n, short);
        put = let n = sized.1 in omega (arith, n, short);
      } in
      parts_same access 8 (place_in (eight (place_tracked (tracked_in image before access.hart access.tag))))
      (byte_places (places before) access) within (place_is e i access m) access.extent.len short

  use_same : (u : KeptUse) (e : Entry) → In e (entries image before) → e.memory ≡ use_seen u
      → ops_seen image before u ≡ memory_ops (places before) (use_seen u)
  use_same (kept_use.Loaded access marks) e i m = refl
  use_same (kept_use.Stored access) e i m = stored_same access e i m
  use_same (kept_use.Whole access place) e i m = refl

  all_same : (us : List KeptUse) → ((u : KeptUse) → In u us → In (use_seen u) (uses_of (entries image before)))
      → flat_map (ops_seen image before) us ≡ flat_map (memory_ops (places before)) (map use_seen us)
  all_same [] there = refl
  all_same (u ∷ us) there =
      let e = from_uses (entries image before) (use_seen u) (there u (inl refl)) in
      ap (λ (ops : List Op). ops ++ flat_map (ops_seen image before) us) (use_same u e.0 e.1 e.2)
      ∙ ap (λ (ops : List Op). memory_ops (places before) (use_seen u) ++ ops) (all_same us (λ v i. there v (inr i)))

  -- the operations of what is kept are those of the trace
  pub ops_same : (us : List KeptUse) → map use_seen us ≡ uses_of (entries image before)
      → flat_map (ops_seen image before) us ≡ flat_map (entry_ops (places before)) (entries image before)
  ops_same us is =
      all_same us (λ u i. subst (In (use_seen u)) is (in_map use_seen us u i))
      ∙ ap (flat_map (memory_ops (places before))) is
      ∙ uses_ops (places before) (entries image before)

-- ---- what a plain store stores is there

has_piece : (d : Doing) (o : Option Piece) → StoresPiece d o → HasStored d o
has_piece (trap cause value) o p = tt
has_piece (plain insn) o p = tt
has_piece (counter insn) o p = tt
has_piece (load insn addr len) o p = tt
has_piece (store insn addr len) o p = (p.1.piece, p.1.is)
has_piece (lr insn addr len) o p = tt
has_piece (sc insn addr len) o p = tt
has_piece (amo insn addr len) o p = tt

pub has_stored : (image : Loaded) (before : List Message) (head : Head) (retire : Retire)
    → HasStored (doing_at image before head.hart) (effect_at image before head retire).store
has_stored image before head retire =
    has_piece (doing_at image before head.hart) (effect_at image before head retire).store
    (stores_piece image before head retire)
