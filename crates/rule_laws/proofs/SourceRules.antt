-- Rules 3 and 12 by the source of each byte; each other rule by one mark.
use Rattle.std.proofs.Common.{ℕ, ◌<◌, ◌≡◌, ◌⊎◌, inl, inr, Bool, true, false, List, cond, ◌&&◌, Option, Some, None, refl}
use Rattle.std.proofs.Common.{sym, ap, subst, ◌∙◌, arith}
use Rattle.std.specs.List.{Contains}
use Rattle.std.proofs.lemmas.Bool.{false≢true, both_ways, and_parts, and_from, cases_Bool, or_right}
use Rattle.std.proofs.lemmas.List.Elements.{Contains-append_left}
use Rattle.rv_decode.specs.declared.instruction.Insn.{Insn}
use Rattle.rv_decode.specs.declared.instruction.Insn.TheVariants.{Sc, Amo}
use Rattle.rv_decode.specs.Kinds.{is_lr, is_sc, is_amo_or_sc}
use Rattle.rvwmo_model.specs.declared.instructions.Retired.{Retired}
use Rattle.rvwmo_model.specs.declared.operations.Op.{Op}
use Rattle.rvwmo_model.specs.declared.operations.OpKind.TheVariants as kind
use Rattle.rvwmo_model.specs.declared.preserved.Rule.{Rule}
use Rattle.rvwmo_model.specs.declared.preserved.Rule.TheVariants.{R1, R3, R4, R6, R9, R10, R12}
use Rattle.rvwmo_model.specs.declared.traces.Trace.{Trace}
use Rattle.rvwmo_model.specs.Order.{standing, precedes, reads}
use Rattle.rvwmo_model.specs.Order.{writes}
use Rattle.rvwmo_model.specs.ProgramOrder.{insn_at, insn_of, is_one}
use Rattle.rvwmo_model.specs.Sources.{IsWriter, source}
use Rattle.rvwmo_model.specs.Rules.{Orders, Broken}
use Rattle.rvwmo_model.specs.Flows.{AddressDep, DataDep}
use Rattle.rvwmo_model.specs.InsnKinds.{has_stored}
use Rattle.rvwmo_model.specs.InForm.{IsPlaced, IsOf}
use Rattle.rvwmo_model.specs.Legal.{Legal}
use Rattle.rvwmo_model.proofs.Orders.{before_self, before_asym}
use Rattle.rvwmo_model.proofs.Latest.{source_is}
use Rattle.rvwmo_model.proofs.LookUp.{found_in}
use Rattle.rvwmo_model.proofs.Tested.{one_some}
use Rattle.growth_laws.specs.Kinds.{kind_of_insn, SameInsn, WellKinded}
use Rattle.growth_laws.specs.Growth.{AddInsn}
use Rattle.growth_laws.proofs.Places.{place_cases}
use Rattle.growth_laws.proofs.Facts.{alike, older_parts}
use Rattle.growth_laws.proofs.Growths.{insn_link}
use Rattle.growth_laws.proofs.PlainStores.{plain_first}
use Rattle.growth_laws.proofs.SameInsns.{address_on, data_on}
use Rattle.window_laws.specs.Latest.{IsLatestIfAny}
use Rattle.window_laws.proofs.Latests.{latest_same}
use Rattle.rule_laws.specs.Above.{Over, latest_of_bytes}
use Rattle.rule_laws.specs.Own.{IsOwn, IsOwnPerformed}
use Rattle.rule_laws.specs.Sourced.{IsAtomicSource, atomic_over, LeadsTo, LeadsToSource, lead_over}
use Rattle.rule_laws.proofs.LatestOver.{mark_over_bytes}
use Rattle.rule_laws.proofs.Candidates.{IsToPrecede, forced_before, own_older, older_old}
use Rattle.rule_laws.proofs.Candidates.{insn_before, broken_mark}

-- ---- an AMO or SC has one operation

one_of : (t : Trace) (a s : Op) (w : Retired) → WellKinded t → Contains t.ops a → Contains t.ops s → SameInsn s a
    → insn_of t a ≡ Some w → Contains t.insns w → IsOf w a → (i : Insn) → i ≡ w.insn → is_amo_or_sc i ≡ true
    → kind_of_insn i w.stored ≡ Some a.kind → s ≡ a
one_of t a s w k ha hs same e iw of (Amo op wide aq rl rd rs1 rs2) d q z =
    let c : a.kind ≡ kind.Both = cc in
    sym (k.amo a s ha hs (sym same.0, sym same.1) c)
one_of t a s w k ha hs same e iw of (Sc wide aq rl rd rs1 rs2) d q z = at w.stored refl z
  where
    at : (b : Bool) → w.stored ≡ b → cond b (Some kind.Store) None ≡ Some a.kind → s ≡ a
    at false f g = absurd (cc)
    at true f g =
        let stored : has_stored (Some w) ≡ true = subst (λ (y : Insn). (is_sc y && w.stored) ≡ true) d (rw f refl) in
        let o = k.form.single w iw (or_right (is_lr w.insn) (has_stored (Some w)) stored) in
        o.3 s hs (same.0 ∙ of.0, same.1 ∙ of.1) ∙ sym (o.3 a ha of)
one_of t a s w k ha hs same e iw of _ d q z = absurd (false≢true q)

pub atomic_one : (t : Trace) (a s : Op) → WellKinded t → Contains t.ops a → Contains t.ops s → SameInsn s a
    → is_one is_amo_or_sc (insn_of t a) ≡ true → s ≡ a
atomic_one t a s k ha hs same q =
    let w = one_some is_amo_or_sc (insn_of t a) q in
    let f = found_in t.insns a.name.hart a.name.tag w.0 w.1 in
    one_of t a s w.0 k ha hs same w.1 f.0 (sym f.1, sym f.2) w.0.insn refl w.2 (k.kinds a w.0 ha w.1)

not3 : (R3 ≡ R1) ⊎ (R3 ≡ R4) ⊎ (R3 ≡ R6) → ⊥
not3 (inl e) = cc
not3 (inr (inl e)) = cc
not3 (inr (inr e)) = cc

not12 : (R12 ≡ R1) ⊎ (R12 ≡ R4) ⊎ (R12 ≡ R6) → ⊥
not12 (inl e) = cc
not12 (inr (inl e)) = cc
not12 (inr (inr e)) = cc

module _ (t t' : Trace) (r : Retired) (new : List Op) (k : WellKinded t) (s : AddInsn t t' r new) (b : Op)
    (mine : Contains new b) (pb : IsPlaced b) where
  abbrev H : ℕ
  H = b.name.hart

  k' : WellKinded t'
  k' = (insn_link t t' r new k s).after

  -- only rules 1, 4 and 6 have a waiting store first
  pub none_waits : (j : Rule) → ((j ≡ R1) ⊎ (j ≡ R4) ⊎ (j ≡ R6) → ⊥) → IsLatestIfAny
      (λ v. IsToPrecede j t t' b v × (v.place ≡ None)) None
  none_waits j not v p = let i = s.ops_on v p.0.0.0 in not (plain_first t' j v b k' i (k'.unperformed v i p.1) p.0.1)

  -- so for each other rule the mark of what it orders before b is enough
  pub rule_by_mark : (j : Rule) (m : Option Op) → ((j ≡ R1) ⊎ (j ≡ R4) ⊎ (j ≡ R6) → ⊥) → IsLatestIfAny
      (Over (λ v. IsOwnPerformed t H v × Orders j t' v b) (standing b)) m → IsLatestIfAny (λ v. Broken j t' v b) m
  rule_by_mark j m not h = broken_mark t t' r new k s j b None m mine pb (none_waits j not)
      (λ e. latest_same (Over (λ v. IsOwnPerformed t H v × Orders j t' v b) (standing b))
      (Over (λ v. IsToPrecede j t t' b v × IsPlaced v) (standing b)) m (λ v p. (((p.0.0.0, p.0.1), p.0.0.1), p.1))
      (λ v p. (((p.0.0.0, p.0.1), p.0.0.1), p.1)) h)

  -- a source that comes after b is an own operation that was there
  source_own : (x : ℕ) (v : Op) → source t' b x ≡ Some v → precedes b v ≡ true → IsOwn t H v × (writes x v ≡ true)
  source_own x v e q = at (source_is t' b x v e).0
    where
      back : precedes v b ≡ true → ⊥
      back z = both_ways _ (before_asym (standing v) (standing b) z) q

      at : IsWriter t' b x v → IsOwn t H v × (writes x v ≡ true)
      at (inr p) = absurd (back p.2)
      at (inl p) = elim p.2 [
        | inl z ↦ absurd (back z)
        | inr o ↦ let y = older_parts v b o in ((older_old t t' r new k s v b p.0 mine (sym y.0) y.1, y.0), p.1)
      ]

  -- ---- rule 3

  at_byte : (x : ℕ) (o : Option Op) → source t' b x ≡ o → IsLatestIfAny (IsAtomicSource t' b x) (atomic_over t' b o)
  at_byte x None e = λ v p. let c : Some v ≡ None = sym p.0 ∙ e in cc
  at_byte x (Some v) e = at (is_one is_amo_or_sc (insn_of t' v) && precedes b v) refl
    where
      same : (u : Op) → IsAtomicSource t' b x u → u ≡ v
      same u p = let c : Some u ≡ Some v = sym p.0 ∙ e in cc

      at : (z : Bool) → (is_one is_amo_or_sc (insn_of t' v) && precedes b v) ≡ z → IsLatestIfAny
          (IsAtomicSource t' b x) (cond z (Some v) None)
      at true f = let p = and_parts (is_one is_amo_or_sc (insn_of t' v)) (precedes b v) f in
          record {
            here = (e, p.0, p.1);
            latest = λ u q. subst (λ (y : Op). precedes v y ≡ false) (sym (same u q))
                (before_self (standing v));
          }
      at false f = λ u q. both_ways _ f (subst (λ (y : Op).
          (is_one is_amo_or_sc (insn_of t' y) && precedes b y) ≡ true) (same u q) (and_from _ _ q.1 q.2))

  to_atomic : (x : ℕ) (v : Op) → reads x b ≡ true → IsAtomicSource t' b x v → Over
      (λ u. IsToPrecede R3 t t' b u × IsPlaced u) (standing b) v
  to_atomic x v l p =
      let own = source_own x v p.0 p.2 in
      let before : IsToPrecede R3 t t' b v = (own.0, (p.1, (x, v, l, p.0, s.ops_on v own.0.0, refl, refl))) in
      ((before, elim (place_cases v) [ inl y ↦ y | inr e ↦ absurd (none_waits R3 not3 v (before, e)) ]), p.2)

  from_atomic : (v : Op) → IsToPrecede R3 t t' b v → precedes b v ≡ true → (x : ℕ) × (reads x b ≡ true)
      × IsAtomicSource t' b x v
  from_atomic v p q =
      let f = p.1.1 in
      let i = s.ops_on v p.0.0 in
      let same : f.1 ≡ v = atomic_one t' v f.1 k' i f.4 (f.5, f.6) p.1.0 in
      (f.0, f.2, (f.3 ∙ ap (λ (z : Op). Some z) same, p.1.0, q))

  pub rule3 : (xs : List ℕ) → ((x : ℕ) → reads x b ≡ true → Contains xs x)
      → ((x : ℕ) → Contains xs x → reads x b ≡ true) → IsLatestIfAny (λ v. Broken R3 t' v b)
      (latest_of_bytes (λ x. atomic_over t' b (source t' b x)) xs)
  rule3 xs all some = broken_mark t t' r new k s R3 b None
      (latest_of_bytes (λ x. atomic_over t' b (source t' b x)) xs) mine pb (none_waits R3 not3)
      (λ e. latest_same (λ v. (x : ℕ) × Contains xs x × IsAtomicSource t' b x v)
      (Over (λ v. IsToPrecede R3 t t' b v × IsPlaced v) (standing b))
      (latest_of_bytes (λ x. atomic_over t' b (source t' b x)) xs)
      (λ v d. to_atomic d.0 v (some d.0 d.1) d.2)
      (λ v d. let f = from_atomic v d.0.0 d.1 in (f.0, all f.0 f.1, f.2))
      (mark_over_bytes (λ x v. IsAtomicSource t' b x v) (λ x. atomic_over t' b (source t' b x)) xs
      (λ x i. at_byte x (source t' b x) refl)))

  -- ---- rule 12

  lead_byte : (lead : Op → Option Op) (x : ℕ) (o : Option Op) → source t' b x ≡ o
      → ((v : Op) → o ≡ Some v → precedes b v ≡ true → IsLatestIfAny (Over (LeadsTo t H v.name.tag) (standing b))
      (lead v)) → IsLatestIfAny (LeadsToSource t t' b x) (lead_over b lead o)
  lead_byte lead x None e h = λ v p. let c : Some p.0 ≡ None = sym p.1 ∙ e in cc
  lead_byte lead x (Some v) e h = at (precedes b v) refl
    where
      same : (u : Op) → source t' b x ≡ Some u → u ≡ v
      same u p = let c : Some u ≡ Some v = sym p ∙ e in cc

      at : (z : Bool) → precedes b v ≡ z → IsLatestIfAny (LeadsToSource t t' b x) (cond z (lead v) None)
      at true f = latest_same (Over (LeadsTo t H v.name.tag) (standing b)) (LeadsToSource t t' b x) (lead v)
          (λ u p. (v, e, f, p)) (λ u p. subst (λ (y : Op). Over (LeadsTo t H y.name.tag) (standing b) u)
          (same p.0 p.1) p.3) (h v refl f)
      at false f = λ u p. both_ways _ f (subst (λ (y : Op). precedes b y ≡ true) (same p.0 p.1) p.2)

  still : (n m : ℕ) → n < b.name.tag → (m < n) ⊎ (m ≡ n) → insn_at t'.insns H m ≡ insn_at t.insns H m
  still n m l d = insn_before t t' r new k s b m mine
      (elim d [ inl a ↦ omega (arith, a, l) | inr a ↦ omega (arith, a, l) ])

  to_lead : (x : ℕ) (v : Op) → reads x b ≡ true → LeadsToSource t t' b x v → Over
      (λ u. IsToPrecede R12 t t' b u × IsPlaced u) (standing b) v
  to_lead x v l p =
      let own = source_own x p.0 p.1 p.2 in
      let d = p.3.0 in
      let m = p.0.name.tag in
      let less = own_older t t' r new k s p.0 b own.0.0 mine own.0.1 in
      let dep : AddressDep t'.insns H m v.name.tag ⊎ DataDep t'.insns H m v.name.tag = elim d.2 [
        | inl a ↦ inl (address_on t t' H m (λ n e. still m n less e) m v.name.tag (inr refl) a)
        | inr a ↦ inr (data_on t t' H m (λ n e. still m n less e) m v.name.tag (inr refl) a)
      ] in
      let one : p.0.name.hart ≡ v.name.hart = own.0.1 ∙ sym d.0.0.1 in
      let before : IsToPrecede R12 t t' b v = (
        d.0.0,
        (
          m,
          d.1,
          less,
          (
            subst (λ (h : ℕ). AddressDep t'.insns h m v.name.tag ⊎ DataDep t'.insns h m v.name.tag) (sym d.0.0.1) dep,
            (x, p.0, l, p.1, s.ops_on p.0 own.0.0, one, refl),
          ),
        ),
      ) in
      ((before, d.0.1), p.3.1)

  module _ (initial : ℕ → ℕ) (legal : Legal initial t) where
    from_lead : (v : Op) → IsToPrecede R12 t t' b v → IsPlaced v → precedes b v ≡ true → (x : ℕ) × (reads x b ≡ true)
        × LeadsToSource t t' b x v
    from_lead v p pv q =
        let m = p.1.0 in
        let f = p.1.3.1 in
        let one : f.1.name.hart ≡ H = f.5 ∙ p.0.1 in
        let less : f.1.name.tag < b.name.tag = omega (arith, f.6, p.1.2) in
        let there : Contains t.ops f.1 = older_old t t' r new k s f.1 b f.4 mine (sym one) less in
        let dep : AddressDep t.insns H m v.name.tag ⊎ DataDep t.insns H m v.name.tag = elim
        (subst (λ (h : ℕ). AddressDep t'.insns h m v.name.tag ⊎ DataDep t'.insns h m v.name.tag) p.0.1 p.1.3.0) [
          | inl a ↦ inl (address_on t' t H m (λ n e. sym (still m n p.1.2 e)) m v.name.tag (inr refl) a)
          | inr a ↦ inr (data_on t' t H m (λ n e. sym (still m n p.1.2 e)) m v.name.tag (inr refl) a)
        ] in
        let at_tag : AddressDep t.insns H f.1.name.tag v.name.tag ⊎ DataDep t.insns H f.1.name.tag v.name.tag = subst
        (λ (n : ℕ). AddressDep t.insns H n v.name.tag ⊎ DataDep t.insns H n v.name.tag) (sym f.6) dep in
        let lt : v.name.tag < f.1.name.tag = omega (arith, f.6, p.1.1) in
        (f.0, f.2, (f.1, f.3, after f.1 there one less lt at_tag, (((p.0, pv), lt, at_tag), q)))
      where
        after : (u : Op) → Contains t.ops u → u.name.hart ≡ H → u.name.tag < b.name.tag → v.name.tag < u.name.tag
            → AddressDep t.insns H u.name.tag v.name.tag ⊎ DataDep t.insns H u.name.tag v.name.tag → precedes b u ≡ true
        after u i one less lt dep = elim (cases_Bool (precedes b u)) [
          | inl z ↦ z
          | inr z ↦ elim (cases_Bool (precedes u b)) [
            | inr y ↦ absurd (let same : u ≡ b = alike t' u b k'
                (Contains-append_left t'.ops t'.early u (s.ops_on u i))
                (Contains-append_left t'.ops t'.early b (s.added b mine)) y z in omega
                (arith, less, ap (λ (o : Op). o.name.tag) same))
            | inl y ↦ absurd (both_ways _ (before_asym (standing b) (standing v) q) (elim dep [
              | inl a ↦ forced_before initial t R9 v u b k legal (record {
                first_in = p.0.0;
                second_in = i;
                one_hart = one ∙ sym p.0.1;
                in_order = lt;
                rule = subst
                    (λ (h : ℕ). AddressDep t.insns h u.name.tag v.name.tag) (sym p.0.1) a;
              }) y
              | inr a ↦ forced_before initial t R10 v u b k legal
                  (record {
                    first_in = p.0.0;
                    second_in = i;
                    one_hart = one ∙ sym p.0.1;
                    in_order = lt;
                    rule = subst
                        (λ (h : ℕ). DataDep t.insns h u.name.tag v.name.tag) (sym p.0.1) a;
                  }) y
            ]))
          ]
        ]

    pub rule12 : (lead : Op → Option Op) (xs : List ℕ) → ((x : ℕ) → reads x b ≡ true → Contains xs x)
        → ((x : ℕ) → Contains xs x → reads x b ≡ true)
        → ((v : Op) → IsOwn t H v → precedes b v ≡ true → IsLatestIfAny (Over (LeadsTo t H v.name.tag) (standing b))
        (lead v)) → IsLatestIfAny (λ v. Broken R12 t' v b) (latest_of_bytes
        (λ x. lead_over b lead (source t' b x)) xs)
    rule12 lead xs all some leads = broken_mark t t' r new k s R12 b None
        (latest_of_bytes (λ x. lead_over b lead (source t' b x)) xs) mine pb (none_waits R12 not12)
        (λ e. latest_same (λ v. (x : ℕ) × Contains xs x × LeadsToSource t t' b x v)
        (Over (λ v. IsToPrecede R12 t t' b v × IsPlaced v) (standing b))
        (latest_of_bytes (λ x. lead_over b lead (source t' b x)) xs)
        (λ v d. to_lead d.0 v (some d.0 d.1) d.2)
        (λ v d. let f = from_lead v d.0.0 d.0.1 d.1 in (f.0, all f.0 f.1, f.2))
        (mark_over_bytes (λ x v. LeadsToSource t t' b x v) (λ x. lead_over b lead (source t' b x)) xs
        (λ x i. lead_byte lead x (source t' b x) refl (λ v e q. leads v (source_own x v e q).0 q))))
