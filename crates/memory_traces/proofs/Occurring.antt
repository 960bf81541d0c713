-- Growths that occur.
use Rattle.std.proofs.Common.{ℕ, zero, suc, ◌+◌, ◌-◌, ◌<◌, ◌≤◌, ◌≡◌, ◌≢◌, ◌⊎◌, inl, inr, Bool, true, false, List, []}
use Rattle.std.proofs.Common.{◌∷◌, ◌++◌, eqb, ◌&&◌, cond, Some, None, refl, sym, ap, subst, ◌∙◌, arith}
use Rattle.std.proofs.lemmas.Bool.{and_parts, eqb-true}
use Rattle.std.specs.List.{Contains, AllPairs}
use Rattle.std.proofs.lemmas.List.Elements.{Contains-append_cases, Contains-append_left, Contains-append_right}
use Rattle.std.proofs.lemmas.List.Elements.{Contains-get_or}
use Rattle.std.proofs.lemmas.List.Quantifiers.{all_pairs_push}
use Rattle.rvwmo_model.specs.declared.instructions.Retired.{Retired}
use Rattle.rvwmo_model.specs.declared.operations.Op.{Op}
use Rattle.rvwmo_model.specs.declared.traces.Trace.{Trace}
use Rattle.tandem_base.specs.declared.extent.Extent.{Extent}
use Rattle.tandem_base.specs.Extents.{Covers, is_among}
use Rattle.rvwmo_model.specs.Order.{has_byte}
use Rattle.rvwmo_model.proofs.Extents.{bounds_of}
use Rattle.rvwmo_model.specs.ProgramOrder.{insn_at}
use Rattle.rvwmo_model.specs.InForm.{AreRising, IsOf, IsWhole}
use Rattle.rvwmo_model.proofs.Membership.{nothing_in, head_in, first_in, tail_in, in_cases}
use Rattle.growth_laws.specs.Kinds.{kind_of_retired, IsNamed}
use Rattle.growth_laws.specs.Growth.{SameMembers, AreOf, Adds, adds_nothing, AddInsn}

-- ---- members of a list that is spelled out

-- x is one of the list, by cases
abbrev pub Among : {X : Type 0} → X → List X → Type 0
Among x [] = ⊥
Among x (y ∷ ys) = (x ≡ y) ⊎ Among x ys

pub among : {X : Type 0} (xs : List X) (x : X) → Contains xs x → Among x xs
among [] x h = nothing_in x h
among (y ∷ ys) x h = elim (in_cases y ys x h) [ inl e ↦ inl e | inr i ↦ inr (among ys x i) ]

pub contained : {X : Type 0} (xs : List X) (x : X) → Among x xs → Contains xs x
contained [] x h = absurd h
contained (y ∷ ys) x (inl e) = first_in y ys x e
contained (y ∷ ys) x (inr i) = tail_in y ys x (contained ys x i)

-- ---- an instruction more, at the end of the list

choice : {X : Type 0} (b c : Bool) (p q r : X) → (b ≡ true → c ≡ true → ⊥) → cond b p (cond c q r) ≡ cond c q
    (cond b p r)
choice true true p q r not = absurd (not refl refl)
choice true false p q r not = refl
choice false true p q r not = refl
choice false false p q r not = refl

-- all of the hart of r are older
abbrev pub AreOlder : List Retired → Retired → Type 0
AreOlder ws r = (w : Retired) → Contains ws w → w.hart ≡ r.hart → w.tag < r.tag

insn_more : (ws : List Retired) (r : Retired) (h k : ℕ) → AreOlder ws r → insn_at (ws ++ r ∷ []) h k ≡ cond
    (eqb r.hart h && eqb r.tag k) (Some r) (insn_at ws h k)
insn_more [] r h k old = refl
insn_more (w ∷ ws) r h k old =
    ap (cond (eqb w.hart h && eqb w.tag k) (Some w)) (insn_more ws r h k (λ v i e. old v (tail_in w ws v i) e))
    ∙ choice (eqb w.hart h && eqb w.tag k) (eqb r.hart h && eqb r.tag k) (Some w) (Some r) (insn_at ws h k) both
  where
    both : (eqb w.hart h && eqb w.tag k) ≡ true → (eqb r.hart h && eqb r.tag k) ≡ true → ⊥
    both p q =
        let a = and_parts (eqb w.hart h) (eqb w.tag k) p in
        let b = and_parts (eqb r.hart h) (eqb r.tag k) q in
        let l : w.tag < r.tag = old w (head_in w ws) (eqb-true _ _ a.0 ∙ sym (eqb-true _ _ b.0)) in
        omega (arith, eqb-true w.tag k a.1, eqb-true r.tag k b.1)

rising_more : (ws : List Retired) (r : Retired) → AreRising ws → AreOlder ws r → AreRising (ws ++ r ∷ [])
rising_more ws r s old = all_pairs_push (λ (w v : Retired). v.hart ≡ w.hart → w.tag < v.tag) ws r s
    (λ k d l e. old _ (Contains-get_or ws k d l) (sym e))

-- the trace with r and its operation o
abbrev pub with_one : Trace → Retired → Op → List Op → Trace
with_one t r o early = record { insns = t.insns ++ r ∷ []; ops = t.ops ++ o ∷ []; early = early; granule = t.granule }

only : (o v : Op) → Contains (o ∷ []) v → v ≡ o
only o v h = elim (in_cases o [] v h) [ inl e ↦ e | inr f ↦ absurd (nothing_in v f) ]

pub are_one : (r : Retired) (o : Op) → IsOf r o → kind_of_retired r ≡ Some o.kind → IsWhole o → IsNamed o
    → AreOf r (o ∷ [])
are_one r o own kind whole part = record {
  own = λ v i. subst (λ (z : Op). IsOf r z) (sym (only o v i)) own;
  kinds = λ v i. subst (λ (z : Op). kind_of_retired r ≡ Some z.kind) (sym (only o v i)) kind;
  whole = λ v i. subst (λ (z : Op). IsWhole z) (sym (only o v i)) whole;
  parts = λ v i. subst (λ (z : Op). IsNamed z) (sym (only o v i)) part;
  extents = λ a b i j. ap (λ (z : Op). z.extent) (only o a i ∙ sym (only o b j));
  disjoint = λ a b x i j p q. only o a i ∙ sym (only o b j);
}

pub add_one : (t : Trace) (r : Retired) (o : Op) (early : List Op) → AreRising t.insns
    → AllPairs (λ a b. a ≢ b) (t.ops ++ o ∷ []) → AreOlder t.insns r
    → ((v : Op) → Contains early v → v.name.hart ≡ r.hart → r.tag < v.name.tag)
    → AreOf r (o ∷ []) → Adds t (with_one t r o early) r (o ∷ []) → AddInsn t (with_one t r o early) r (o ∷ [])
add_one t r o early rising once old young own adds = record {
  keeps = record {
    insns = λ h k. insn_more t.insns r h k old;
    rising = rising_more t.insns r rising old;
    once = once;
    granule = refl;
  };
  younger = old;
  older = young;
  ops_on = λ v i. Contains-append_left t.ops (o ∷ []) v i;
  ops_back = λ v i. elim (Contains-append_cases t.ops (o ∷ []) v i) [ inl a ↦ inr a | inr b ↦ inl b ];
  added = λ v i. Contains-append_right t.ops (o ∷ []) v i;
  are_of = own;
  adds = adds;
}

pub members_self : (xs : List Op) → SameMembers xs xs
members_self xs = record { on = λ v i. i; back = λ v i. i }

-- and with none
abbrev pub with_none : Trace → Retired → Trace
with_none t r = record { insns = t.insns ++ r ∷ []; ops = t.ops; early = t.early; granule = t.granule }

pub add_none : (t : Trace) (r : Retired) → AreRising t.insns → AllPairs (λ a b. a ≢ b) t.ops → AreOlder t.insns r
    → ((v : Op) → Contains t.early v → v.name.hart ≡ r.hart → r.tag < v.name.tag)
    → kind_of_retired r ≡ None → AddInsn t (with_none t r) r []
add_none t r rising once old young kind = record {
  keeps = record {
    insns = λ h k. insn_more t.insns r h k old;
    rising = rising_more t.insns r rising old;
    once = once;
    granule = refl;
  };
  younger = old;
  older = young;
  ops_on = λ v i. i;
  ops_back = λ v i. inr i;
  added = λ v i. absurd (nothing_in v i);
  are_of = record {
    own = λ v i. absurd (nothing_in v i);
    kinds = λ v i. absurd (nothing_in v i);
    whole = λ v i. absurd (nothing_in v i);
    parts = λ v i. absurd (nothing_in v i);
    extents = λ a b i j. absurd (nothing_in a i);
    disjoint = λ a b x i j. absurd (nothing_in a i);
  };
  adds = adds_nothing (record { nothing = kind; early = members_self t.early; none = refl });
}

-- ---- the bytes of a word

below_four : (n : ℕ) → n < 4 → (n ≡ 0) ⊎ (n ≡ 1) ⊎ (n ≡ 2) ⊎ (n ≡ 3)
below_four zero l = inl refl
below_four (suc zero) l = inr (inl refl)
below_four (suc (suc zero)) l = inr (inr (inl refl))
below_four (suc (suc (suc zero))) l = inr (inr (inr refl))
below_four (suc (suc (suc (suc n)))) l = absurd (omega (arith, l))

-- what holds of the four holds of each byte of the extent
pub each_inside : (P : ℕ → Type 0) (addr : ℕ) → P addr → P (addr + 1) → P (addr + 2) → P (addr + 3) → (x : ℕ)
    → addr ≤ x → x < addr + 4 → P x
each_inside P addr a b c d x low high = at (below_four (x - addr) (omega (arith, low, high)))
  where
    is : (n : ℕ) → x - addr ≡ n → x ≡ addr + n
    is n e = omega (arith, low, e)

    at : (x - addr ≡ 0) ⊎ (x - addr ≡ 1) ⊎ (x - addr ≡ 2) ⊎ (x - addr ≡ 3) → P x
    at (inl e) = subst P (let same : addr ≡ x = omega (arith, low, e) in same) a
    at (inr (inl e)) = subst P (sym (is 1 e)) b
    at (inr (inr (inl e))) = subst P (sym (is 2 e)) c
    at (inr (inr (inr e))) = subst P (sym (is 3 e)) d

-- and of each byte of an extent
pub each_covered : (P : ℕ → Type 0) (e : Extent) → e.len ≡ 4 → P e.addr → P (e.addr + 1) → P (e.addr + 2)
    → P (e.addr + 3) → (x : ℕ) → Covers e x → P x
each_covered P e four a b c d x q =
    let l = bounds_of e x q in
    let high : x < e.addr + e.len = l.1 in
    each_inside P e.addr a b c d x l.0 (omega (arith, high, four))

-- and of each byte of an operation
pub each_byte : (P : ℕ → Type 0) (o : Op) → o.extent.len ≡ 4 → P o.extent.addr → P (o.extent.addr + 1)
    → P (o.extent.addr + 2) → P (o.extent.addr + 3) → (x : ℕ) → has_byte x o ≡ true → P x
each_byte P o four a b c d x q =
    each_covered P o.extent four a b c d x (and_parts (is_among o.extent.addr o.extent.len x) _ q).0
