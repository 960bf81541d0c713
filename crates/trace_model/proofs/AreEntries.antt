-- Lists of entries: one for each instruction, and no operation twice.
use Rattle.std.proofs.Common.{ℕ, zero, suc, ◌<◌, ◌≡◌, ◌≢◌, inl, inr, Bool, true, false, cond, List, [], ◌∷◌, ◌++◌}
use Rattle.std.proofs.Common.{length, Option}
use Rattle.std.proofs.Common.{refl, sym, ap, ◌∙◌, arith}
use Rattle.std.specs.List.{AllPairs, flat_map}
use Rattle.std.proofs.lemmas.Bool.{both_ways}
use Rattle.tandem_base.specs.declared.names.Place.{Place}
use Rattle.rvwmo_model.specs.declared.instructions.Retired.{Retired}
use Rattle.rvwmo_model.specs.declared.operations.Op.{Op}
use Rattle.rvwmo_model.specs.InForm.{AreRising, IsPlaced, IsOf}
use Rattle.trace_model.specs.Groups.{Access, same_place, part_at, some_below, parts_below}
use Rattle.trace_model.specs.Entries.{MemoryUse, Fixed, Stores, Entry, Places, byte_places, memory_ops, entry_ops}
use Rattle.trace_model.specs.Entries.{insns_of}
use Rattle.trace_model.proofs.Lists.{In, Pairs, pairs_of, of_pairs, pairs_append, in_left, in_right, from_flat}
use Rattle.trace_model.proofs.Groups.{same_self, some_there, part_from}

-- an entry is of its instruction; operations that stay are performed, and none stands twice
pub record IsEntry (e : Entry) : Type 0 where
  pub named : (a : Access) → e.memory ≡ Stores a → (a.hart ≡ e.insn.hart) × (a.tag ≡ e.insn.tag)
  pub sized : (a : Access) → e.memory ≡ Stores a → (length a.got ≡ a.extent.len) × (length a.put ≡ a.extent.len)
  pub placed : (ops : List Op) (v : Op) → e.memory ≡ Fixed ops → In v ops → IsPlaced v
  pub own : (ops : List Op) (v : Op) → e.memory ≡ Fixed ops → In v ops → IsOf e.insn v
  pub once : (ops : List Op) → e.memory ≡ Fixed ops → Pairs (λ a b. a ≢ b) ops

-- the entries are of instructions that rise by tag
pub record AreEntries (es : List Entry) : Type 0 where
  pub rising : AreRising (insns_of es)
  pub each : (e : Entry) → In e es → IsEntry e

-- ---- one entry per instruction

-- a later instruction of a hart has a greater tag
abbrev Rises : Retired → Retired → Type 0
Rises w v = v.hart ≡ w.hart → w.tag < v.tag

rising_parts : (ws : List Retired) (r : Retired) → Pairs Rises (ws ++ r ∷ []) → Pairs Rises ws
    × ((w : Retired) → In w ws → r.hart ≡ w.hart → w.tag < r.tag)
rising_parts [] r up = (tt, λ w i. absurd i)
rising_parts (v ∷ ws) r up =
    let y = rising_parts ws r up.1 in
    ((λ w i. up.0 w (in_left ws (r ∷ []) w i), y.0), λ w i e. at w i e y.1)
  where
    at : (w : Retired) → In w (v ∷ ws) → r.hart ≡ w.hart → ((w : Retired) → In w ws → r.hart ≡ w.hart → w.tag < r.tag)
        → w.tag < r.tag
    at w (inl s) e rec = rw s (up.0 r (in_right ws (r ∷ []) r (inl refl)) (e ∙ ap (λ (z : Retired). z.hart) s))
    at w (inr i) e rec = rec w i e

pub insn_in : (es : List Entry) (e : Entry) → In e es → In e.insn (insns_of es)
insn_in [] e i = absurd i
insn_in (f ∷ es) e (inl s) = in_right (insns_of es) (f.insn ∷ []) e.insn (inl (ap (λ (z : Entry). z.insn) s))
insn_in (f ∷ es) e (inr i) = in_left (insns_of es) (f.insn ∷ []) e.insn (insn_in es e i)

-- the newest entry is younger than the others of its hart, and they rise
newest : (es : List Entry) (g : Entry) → AreRising (insns_of (g ∷ es)) → AreRising (insns_of es)
    × ((f : Entry) → In f es → g.insn.hart ≡ f.insn.hart → f.insn.tag < g.insn.tag)
newest es g up =
    let y = rising_parts (insns_of es) g.insn (pairs_of Rises _ up) in
    (of_pairs Rises _ y.0, λ f i h. y.1 f.insn (insn_in es f i) h)

pub entry_one : (es : List Entry) → AreRising (insns_of es) → (e f : Entry) → In e es → In f es → f.insn.hart
    ≡ e.insn.hart → f.insn.tag ≡ e.insn.tag → f ≡ e
entry_one [] up e f i j a b = absurd i
entry_one (g ∷ es) up e f (inl s) (inl r) a b = r ∙ sym s
entry_one (g ∷ es) up e f (inl s) (inr j) a b =
    let l = (newest es g up).1 f j (ap (λ (z : Entry). z.insn.hart) (sym s) ∙ sym a) in
    let y = ap (λ (z : Entry). z.insn.tag) s in
    absurd (omega (arith, l, b, y))
entry_one (g ∷ es) up e f (inr i) (inl r) a b =
    let l = (newest es g up).1 e i (ap (λ (z : Entry). z.insn.hart) (sym r) ∙ a) in
    let y = ap (λ (z : Entry). z.insn.tag) r in
    absurd (omega (arith, l, b, y))
entry_one (g ∷ es) up e f (inr i) (inr j) a b = entry_one es (newest es g up).0 e f i j a b

same_store : (m : MemoryUse) (a c : Access) → m ≡ Stores a → m ≡ Stores c → c ≡ a
same_store m a c e f = let z : Stores c ≡ Stores a = sym f ∙ e in cc

-- two plain stores of one instruction are one
pub one_store : (es : List Entry) → AreEntries es → (e f : Entry) (a c : Access) → In e es → In f es → e.memory
    ≡ Stores a → f.memory ≡ Stores c → c.hart ≡ a.hart → c.tag ≡ a.tag → c ≡ a
one_store es good e f a c i j d g h t =
    let x = (good.each e i).named a d in
    let y = (good.each f j).named c g in
    let one : f ≡ e = entry_one es good.rising e f i j (sym y.0 ∙ h ∙ x.0) (sym y.1 ∙ t ∙ x.1) in
    same_store e.memory a c d (ap (λ (z : Entry). z.memory) (sym one) ∙ g)

-- ---- no operation twice

-- the operations of an access are at different places
pub parts_once : (a : Access) (f : ℕ → Option Place) (n : ℕ) → Pairs (λ u v. u ≢ v) (parts_below a f n)
parts_once a f zero = tt
parts_once a f (suc n) = at (some_below (λ k. same_place (f k) (f n)) n) refl (parts_once a f n)
  where
    at : (b : Bool) → some_below (λ k. same_place (f k) (f n)) n ≡ b → Pairs (λ u v. u ≢ v) (parts_below a f n)
        → Pairs (λ u v. u ≢ v) (cond b (parts_below a f n) (part_at a f (f n) ∷ parts_below a f n))
    at true e rec = rec
    at false e rec = (λ v i same. other v i same, rec)
      where
        other : (v : Op) → In v (parts_below a f n) → part_at a f (f n) ≡ v → ⊥
        other v i same =
            let y = part_from a f n v i in
            let q : f n ≡ f y.0 = ap (λ (z : Op). z.place) (same ∙ y.2) in
            both_ways _ e (some_there (λ k. same_place (f k) (f n)) n y.0 y.1 (rw q (same_self (f y.0))))

module _ (g : Places) where
  entry_once : (e : Entry) → IsEntry e → (m : MemoryUse) → e.memory ≡ m → Pairs (λ u v. u ≢ v) (memory_ops g m)
  entry_once e k (Fixed ops) q = k.once ops q
  entry_once e k (Stores a) q = parts_once a (byte_places g a) a.extent.len

  pub entry_own : (e : Entry) → IsEntry e → (m : MemoryUse) → e.memory ≡ m → (v : Op) → In v (memory_ops g m)
      → IsOf e.insn v
  entry_own e k (Fixed ops) q v i = k.own ops v q i
  entry_own e k (Stores a) q v i =
      let y = part_from a (byte_places g a) a.extent.len v i in
      let n = k.named a q in
      (ap (λ (z : Op). z.name.hart) y.2 ∙ n.0, ap (λ (z : Op). z.name.tag) y.2 ∙ n.1)

  all_once : (es : List Entry) → AreRising (insns_of es) → ((e : Entry) → In e es → IsEntry e)
      → Pairs (λ u v. u ≢ v) (flat_map (entry_ops g) es)
  all_once [] up each = tt
  all_once (e ∷ es) up each =
      pairs_append (λ u v. u ≢ v) (entry_ops g e) (flat_map (entry_ops g) es)
      (entry_once e (each e (inl refl)) e.memory refl)
      (all_once es (newest es e up).0 (λ f i. each f (inr i))) other
    where
      other : (u v : Op) → In u (entry_ops g e) → In v (flat_map (entry_ops g) es) → u ≡ v → ⊥
      other u v i j same =
          let y = from_flat (entry_ops g) es v j in
          let a = entry_own e (each e (inl refl)) e.memory refl u i in
          let b = entry_own y.0 (each y.0 (inr y.1)) y.0.memory refl v y.2 in
          let h : e.insn.hart ≡ y.0.insn.hart = sym a.0 ∙ ap (λ (z : Op). z.name.hart) same ∙ b.0 in
          let t : e.insn.tag ≡ y.0.insn.tag = sym a.1 ∙ ap (λ (z : Op). z.name.tag) same ∙ b.1 in
          let l = (newest es e up).1 y.0 y.1 h in
          omega (arith, l, t)

  pub ops_once : (es : List Entry) → AreEntries es → AllPairs (λ u v. u ≢ v) (flat_map (entry_ops g) es)
  ops_once es good = of_pairs (λ u v. u ≢ v) _ (all_once es good.rising good.each)
