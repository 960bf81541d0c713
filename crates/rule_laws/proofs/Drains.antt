-- What a message that performs stores breaks, by the waiting stores and by its later parts.
use Rattle.std.proofs.Common.{ℕ, suc, zero, ◌<◌, ◌≤◌, ◌≡◌, ◌⊎◌, inl, inr, Bool, true, false, List, [], ◌∷◌, ◌++◌, cond}
use Rattle.std.proofs.Common.{Option, Some, None, refl, sym, ap, subst, ◌∙◌, arith}
use Rattle.std.specs.List.{Contains}
use Rattle.std.proofs.lemmas.Bool.{both_ways}
use Rattle.std.proofs.lemmas.List.Elements.{Contains-append_left, Contains-append_right}
use Rattle.rvwmo_model.specs.declared.operations.Op.{Op}
use Rattle.rvwmo_model.specs.declared.operations.OpKind.{OpKind}
use Rattle.rvwmo_model.specs.declared.operations.OpKind.TheVariants as kind
use Rattle.rvwmo_model.specs.declared.preserved.Rule.{Rule}
use Rattle.rvwmo_model.specs.declared.preserved.Rule.TheVariants.{R1, R4, R6}
use Rattle.rvwmo_model.specs.declared.traces.Trace.{Trace}
use Rattle.rvwmo_model.specs.Order.{standing, precedes, named_before}
use Rattle.rvwmo_model.specs.ProgramOrder.{insn_at, is_one}
use Rattle.rvwmo_model.specs.InsnKinds.{fence_orders}
use Rattle.rvwmo_model.specs.Rules.{Fenced, Orders, Broken}
use Rattle.rvwmo_model.specs.Report.{number, IsReportedPair}
use Rattle.rvwmo_model.specs.InForm.{IsPlaced}
use Rattle.rvwmo_model.specs.Legal.{Legal}
use Rattle.rvwmo_model.proofs.Membership.{nothing_in, head_in, tail_in, first_in, in_cases}
use Rattle.rvwmo_model.proofs.Orders.{before_self, before_asym}
use Rattle.growth_laws.specs.Kinds.{WellKinded}
use Rattle.growth_laws.specs.Growth.{Performs, no_parts, more_parts}
use Rattle.growth_laws.specs.Laws.{IsLeastRule}
use Rattle.growth_laws.proofs.Places.{not_both, placed_first, unplaced_after}
use Rattle.growth_laws.proofs.Operations.{part_ops}
use Rattle.growth_laws.proofs.Parts.{Stems, stems_old, stems_part, stems_left, performs_back, performs_hart}
use Rattle.growth_laws.proofs.FaultStores.{stores_break_pairs}
use Rattle.window_laws.specs.Latest.{IsLatestIfAny, first_there}
use Rattle.window_laws.proofs.Latests.{latest_same, latest_beyond}
use Rattle.rule_laws.specs.Drained.{AreFalling, first_passing}
use Rattle.rule_laws.specs.Fences.{storing, class_orders}

-- ---- lists in falling order

pub mark_first_passing : (test : Op → Bool) (ps : List Op) → AreFalling ps → IsLatestIfAny
    (λ v. Contains ps v × (test v ≡ true)) (first_passing test ps)
mark_first_passing test [] f = λ v p. nothing_in v p.0
mark_first_passing test (p ∷ ps) f = at (test p) refl (mark_first_passing test ps f.1)
  where
    at : (z : Bool) → test p ≡ z → IsLatestIfAny (λ v. Contains ps v × (test v ≡ true)) (first_passing test ps)
        → IsLatestIfAny (λ v. Contains (p ∷ ps) v × (test v ≡ true)) (cond z (Some p) (first_passing test ps))
    at true e rec = record {
      here = (head_in p ps, e);
      latest = λ u d. elim (in_cases p ps u d.0) [
        | inl q ↦ subst (λ (z : Op). precedes p z ≡ false) (sym q) (before_self (standing p))
        | inr i ↦ before_asym (standing u) (standing p) (f.0 u i)
      ];
    }
    at false e rec = latest_same (λ v. Contains ps v × (test v ≡ true)) (λ v. Contains (p ∷ ps) v × (test v ≡ true))
        (first_passing test ps) (λ v d. (tail_in p ps v d.0, d.1))
        (λ v d. elim (in_cases p ps v d.0) [
          | inl q ↦ absurd
              (both_ways _ e (sym (ap test q) ∙ d.1))
          | inr i ↦ (i, d.1)
        ]) rec

-- what comes after b in order stands before it in the list
pub falls_after : (ps : List Op) (b : Op) (qs : List Op) → AreFalling (ps ++ b ∷ qs) → (v : Op)
    → (Contains ps v → precedes b v ≡ true) × (Contains (ps ++ b ∷ qs) v → precedes b v ≡ true → Contains ps v)
falls_after [] b qs f v = (
  (λ i. absurd (nothing_in v i)),
  λ i q. absurd (elim (in_cases b qs v i) [
    | inl e ↦ both_ways _ (before_self (standing b)) (subst (λ (z : Op). precedes b z ≡ true) e q)
    | inr j ↦ both_ways _ (before_asym (standing v) (standing b) (f.0 v j)) q
  ]),
)
falls_after (p ∷ ps) b qs f v =
    let rec = falls_after ps b qs f.1 v in (
      (λ i. elim (in_cases p ps v i) [
        | inl e ↦ subst (λ (z : Op). precedes b z ≡ true) (sym e)
            (f.0 b (Contains-append_right ps (b ∷ qs) b (head_in b qs)))
        | inr j ↦ rec.0 j
      ]),
      λ i q. elim (in_cases p (ps ++ b ∷ qs) v i) [ inl e ↦ first_in p ps v e | inr j ↦ tail_in p ps v (rec.1 j q) ],
    )

-- each part is there in the end, performed
pub parts_there : (h : ℕ) (t v : Trace) (parts : List Op) → Performs h t parts v → (n : Op) → Contains parts n
    → Contains v.ops n × IsPlaced n
parts_there h t _ _ no_parts n i = absurd (nothing_in n i)
parts_there h t _ _ (more_parts parts u v o m rest s e p) n i = elim (in_cases m parts n i) [
  | inl same ↦ subst (λ (z : Op). Contains v.ops z × IsPlaced z) (sym same) (p.added, p.placed)
  | inr j ↦ let q = parts_there h t u parts s n j in ((part_ops u v o m rest p).stays n q.0 q.1, q.1)
]

pub parts_fall : (h : ℕ) (t v : Trace) (parts : List Op) → Performs h t parts v → AreFalling parts
parts_fall h t _ _ no_parts = tt
parts_fall h t _ _ (more_parts parts u v o n rest s e p) = (
  (λ q i. let y = parts_there h t u parts s q i in p.above q (Contains-append_left u.ops u.early q y.0) y.1),
  parts_fall h t u parts s,
)

-- what was performed stays
parts_stay : (h : ℕ) (t v : Trace) (parts : List Op) → Performs h t parts v → (z : Op) → Contains t.ops z → IsPlaced z
    → Contains v.ops z
parts_stay h t _ _ no_parts z i p = i
parts_stay h t _ _ (more_parts xs w x o c rest d e r) z i p = (part_ops w x o c rest r).stays z
    (parts_stay h t w xs d z i p) p

-- a part wasn't there, performed, before
part_is_new : (h : ℕ) (t u : Trace) (parts : List Op) → Performs h t parts u → (b : Op) → Contains parts b
    → Contains t.ops b → IsPlaced b → ⊥
part_is_new h t _ _ no_parts b m n y = nothing_in b m
part_is_new h t _ _ (more_parts ps u v o c rest d e r) b m n y = elim (in_cases c ps b m) [
  | inr i ↦ part_is_new h t u ps d b i n y
  | inl same ↦
      let w = parts_stay h t u ps d b n y in
      both_ways _ (before_self (standing b)) (subst (λ (z : Op). precedes b z ≡ true) (sym same)
      (r.above b (Contains-append_left u.ops u.early b w) y))
]

module _ (initial : ℕ → ℕ) (t t' : Trace) (h : ℕ) (parts : List Op) (k : WellKinded t) (legal : Legal initial t)
    (s : Performs h t parts t') where
  -- what is first is not performed, or is performed by the message after b
  pub waits_or_later : (a b : Op) → Contains parts b → Contains t'.ops a → precedes b a ≡ true → (a.place ≡ None)
      ⊎ Contains parts a
  waits_or_later a b m i q = at (performs_back h t t' parts s a i)
      (performs_back h t t' parts s b (parts_there h t t' parts s b m).0)
    where
      at : Stems t parts a → Stems t parts b → (a.place ≡ None) ⊎ Contains parts a
      at (stems_left e o w) z = inl e
      at (stems_part n p above o w) z = inr n
      at (stems_old j p) (stems_part n y above o w) = absurd
          (both_ways _ (before_asym (standing a) (standing b) (above a (Contains-append_left t.ops t.early a j) p)) q)
      at (stems_old j p) (stems_left e o w) = absurd (not_both b (parts_there h t t' parts s b m).1 e)
      at (stems_old j p) (stems_old n y) = absurd (part_is_new h t t' parts s b m n y)

  -- the first operation, by the waiting stores and the later parts
  pub drained_mark : (j : Rule) (b : Op) (ps qs : List Op) (w g : Option Op) → parts ≡ ps ++ b ∷ qs
      → IsLatestIfAny (λ v. (Contains t'.ops v × (v.name.hart ≡ h) × (v.name.tag < b.name.tag) × Orders j t' v b)
      × (v.place ≡ None)) w
      → IsLatestIfAny (λ v. Contains ps v × ((v.name.tag < b.name.tag) × Orders j t' v b)) g
      → IsLatestIfAny (λ v. Broken j t' v b) (first_there w g)
  drained_mark j b ps qs w g split hw hg = latest_beyond (λ v. Broken j t' v b)
      (λ v. (Contains t'.ops v × (v.name.hart ≡ h) × (v.name.tag < b.name.tag) × Orders j t' v b) × (v.place ≡ None))
      (λ v. Contains ps v × ((v.name.tag < b.name.tag) × Orders j t' v b)) w g
      (λ v p. record {
        first_in = p.0.0;
        second_in = there.0;
        one_hart = mine ∙ sym p.0.1;
        in_order = p.0.2;
        rule =
            p.0.3;
        against = placed_first b v there.1 p.1;
      })
      (λ v p. let i = in_parts v p.0 in record {
        first_in = (parts_there h t t' parts s v i).0;
        second_in =
            there.0;
        one_hart = mine ∙ sym (performs_hart h t t' parts s v i);
        in_order = p.1.0;
        rule = p.1.1;
        against =
            (falls_after ps b qs falls v).0 p.0;
      })
      (λ v p. elim (waits_or_later v b is_part p.first_in p.against) [
        | inl e ↦ inl ((p.first_in, sym p.one_hart ∙ mine, p.in_order, p.rule), e)
        | inr i ↦ inr (
          (falls_after ps b qs falls v).1 (subst (λ (l : List Op). Contains l v) split i) p.against,
          (p.in_order, p.rule),
        )
      ])
      (λ u v p q. unplaced_after u v p.1 (parts_there h t t' parts s v (in_parts v q.0)).1)
      hw (λ e. hg)
    where
      falls : AreFalling (ps ++ b ∷ qs)
      falls = subst (λ (l : List Op). AreFalling l) split (parts_fall h t t' parts s)

      in_parts : (v : Op) → Contains ps v → Contains parts v
      in_parts v i = subst (λ (l : List Op). Contains l v) (sym split) (Contains-append_left ps (b ∷ qs) v i)

      is_part : Contains parts b
      is_part = subst (λ (l : List Op). Contains l b) (sym split) (Contains-append_right ps (b ∷ qs) b (head_in b qs))

      there : Contains t'.ops b × IsPlaced b
      there = parts_there h t t' parts s b is_part

      mine : b.name.hart ≡ h
      mine = performs_hart h t t' parts s b is_part

  -- ---- the pair that is reported

  module _ (first : Rule → Op → Option Op) (are : (j : Rule) (d : Op) → (j ≡ R1) ⊎ (j ≡ R4) ⊎ (j ≡ R6)
      → Contains parts d → IsLatestIfAny (λ c. Broken j t' c d) (first j d)) where
    none_least : (j : Rule) (c d : Op) → IsLeastRule t' j → Broken j t' c d
        → ((i : (j ≡ R1) ⊎ (j ≡ R4) ⊎ (j ≡ R6)) → Contains parts d → first j d ≡ None) → ⊥
    none_least j c d least p none =
        let law = stores_break_pairs initial t t' h parts k legal s in
        let r = law.rule j c d least p in
        let b = law.pair j c d least p in
        subst (λ (m : Option Op). IsLatestIfAny (λ z. Broken j t' z d) m) (none r b.second) (are j d r b.second) c p

    below : (n : ℕ) (j : Rule) → n ≤ number j → ((i : Rule) (d : Op) → number i < number j → (i ≡ R1) ⊎ (i ≡ R4)
        ⊎ (i ≡ R6) → Contains parts d → first i d ≡ None) → (i : Rule) → number i < n → (c d : Op) → Broken i t' c d → ⊥
    below zero j le none i l c d p = absurd (omega (arith, l))
    below (suc n) j le none i l c d p = none_least i c d
        (λ y q. below n j (omega (arith, le)) none y (omega (arith, q, l))) p
        (λ r m. none i d (omega (arith, l, le)) r m)

    pub reported_stores : (j : Rule) (a b : Op) → (j ≡ R1) ⊎ (j ≡ R4) ⊎ (j ≡ R6) → Contains parts b → first j b ≡ Some a
        → ((i : Rule) (d : Op) → number i < number j → (i ≡ R1) ⊎ (i ≡ R4) ⊎ (i ≡ R6) → Contains parts d
        → first i d ≡ None)
        → ((d : Op) → Contains parts d → (first j d ≡ None) ⊎ (named_before d.name b.name ≡ false))
        → IsReportedPair t' j a b
    reported_stores j a b r m e less least =
        let y = subst (λ (o : Option Op). IsLatestIfAny (λ z. Broken j t' z b) o) e (are j b r m) in
        let lowest : IsLeastRule t' j = λ i l. below (number j) j (omega arith) less i l in
        record {
          rule = λ i l c d p. lowest i l c d p;
          second = record {
            offends = (a, y.here);
            least = λ d p.
                let law = (stores_break_pairs initial t t' h parts k legal s).pair j p.0 d lowest p.1 in
                elim (least d law.second) [
                  | inr q ↦ q
                  | inl n ↦ absurd
                      (subst (λ (o : Option Op). IsLatestIfAny (λ z. Broken j t' z d) o) n
                      (are j d r law.second) p.0 p.1)
                ];
          };
          first = y;
        }

    pub unreported_stores : ((i : Rule) (d : Op) → (i ≡ R1) ⊎ (i ≡ R4) ⊎ (i ≡ R6) → Contains parts d
        → first i d ≡ None) → (i : Rule) (c d : Op) → Broken i t' c d → ⊥
    unreported_stores none i c d p = none_least i c d (λ j l. below (number i) i (omega arith)
        (λ z y q r m. none z y r m) j l) p (λ r m. none i d r m)

-- between stores rule 4 is a FENCE that orders stores before stores
pub fenced_stores : (t : Trace) (a b : Op) → a.kind ≡ kind.Store → b.kind ≡ kind.Store
    → (Fenced t a b → (n : ℕ) × (a.name.tag < n) × (n < b.name.tag)
    × (is_one (class_orders storing storing) (insn_at t.insns a.name.hart n) ≡ true))
    × (((n : ℕ) × (a.name.tag < n) × (n < b.name.tag) × (is_one (class_orders storing storing)
    (insn_at t.insns a.name.hart n) ≡ true)) → Fenced t a b)
fenced_stores t a b e f = (
  (λ p. (
    p.0,
    p.1,
    p.2,
    subst (λ (z : OpKind). is_one (λ w. fence_orders w kind.Store z)
        (insn_at t.insns a.name.hart p.0) ≡ true) f (subst (λ (z : OpKind). is_one (λ w. fence_orders w z b.kind)
        (insn_at t.insns a.name.hart p.0) ≡ true) e p.3),
  )),
  λ p. (
    p.0,
    p.1,
    p.2,
    subst (λ (z : OpKind). is_one (λ w. fence_orders w z b.kind)
        (insn_at t.insns a.name.hart p.0) ≡ true) (sym e) (subst
        (λ (z : OpKind). is_one (λ w. fence_orders w kind.Store z) (insn_at t.insns a.name.hart p.0) ≡ true)
        (sym f) p.3),
  ),
)
