-- A pair that is broken leaves a broken pair behind, whatever the step.
use Rattle.std.proofs.Common.{ℕ, ◌<◌, ◌≡◌, ◌⊎◌, inl, inr, true, Option, None, refl, sym, ap, subst, ◌∙◌}
use Rattle.std.proofs.Common.{arith}
use Rattle.std.proofs.lemmas.Bool.{both_ways, and_parts}
use Rattle.std.specs.List.{Contains}
use Rattle.std.proofs.lemmas.List.Elements.{Contains-append_cases, Contains-append_left}
use Rattle.rvwmo_model.specs.declared.instructions.Retired.{Retired}
use Rattle.rvwmo_model.specs.declared.operations.Op.{Op}
use Rattle.rvwmo_model.specs.declared.operations.OpKind.{OpKind}
use Rattle.rvwmo_model.specs.declared.preserved.Rule.{Rule}
use Rattle.rvwmo_model.specs.declared.preserved.Rule.TheVariants.{R1, R2, R3, R4, R5, R6, R7, R8, R9, R10, R11, R12}
use Rattle.rvwmo_model.specs.declared.preserved.Rule.TheVariants.{R13}
use Rattle.rvwmo_model.specs.declared.traces.Trace.{Trace}
use Rattle.rvwmo_model.specs.Order.{standing, precedes, reads, has_byte, op_stores, op_loads}
use Rattle.rvwmo_model.specs.ProgramOrder.{insn_at, is_one}
use Rattle.rvwmo_model.specs.Sources.{origin}
use Rattle.rvwmo_model.specs.Rules.{SomeBetween, StoresTo, AddressOn, DataOn, Orders, Broken}
use Rattle.rvwmo_model.specs.InForm.{IsPlaced}
use Rattle.rvwmo_model.proofs.Orders.{before_asym}
use Rattle.growth_laws.specs.Kinds.{WellKinded}
use Rattle.growth_laws.specs.Writers.{Becomes, GoesOn, WritersGo, Crossed}
use Rattle.growth_laws.specs.Laws.{HasBrokenBy, HasOverlap}
use Rattle.growth_laws.proofs.Places.{place_cases, placed_first, unplaced_order}
use Rattle.growth_laws.proofs.Facts.{load_placed, op_insn, early_younger_op, some_byte_of}
use Rattle.growth_laws.proofs.Sources.{origin_stays}
use Rattle.growth_laws.proofs.Links.{IsLike, OpsGo}
use Rattle.growth_laws.proofs.PlainStores.{plain_first}
use Rattle.growth_laws.proofs.SameInsns.{address_on, data_on, branch_on, paired_on}
use Rattle.growth_laws.proofs.ReadOperations.{reads_still, reads_dependent_still}
use Rattle.rv_decode.specs.Kinds.{is_amo_or_sc}
use Rattle.rvwmo_model.specs.InsnKinds.{fence_orders}

-- b of a broken pair is performed
pub second_placed : (t : Trace) (r : Rule) (a b : Op) → Broken r t a b → IsPlaced b
second_placed t r a b k = at (place_cases b) (place_cases a)
  where
    at : IsPlaced b ⊎ (b.place ≡ None) → IsPlaced a ⊎ (a.place ≡ None) → IsPlaced b
    at (inl p) q = p
    at (inr e) (inl p) = absurd (both_ways _ (before_asym (standing b) (standing a) k.against) (placed_first a b p e))
    at (inr e) (inr f) = let l : b.name.tag < a.name.tag = unplaced_order b a e f k.one_hart k.against in let m =
        k.in_order in absurd (omega arith)

-- crossed stores break rule 1
pub crossed_overlap : (t : Trace) (x : ℕ) (c : Crossed t x) → Broken R1 t c.first c.second
crossed_overlap t x c = record {
  first_in = c.first_in;
  second_in = c.second_in;
  one_hart = c.one_hart;
  in_order = c.in_order;
  rule = (x, (and_parts (op_stores c.first) (has_byte x c.first) c.first_writes).1, c.second_writes);
  against = c.against;
}

pub has_overlap : (t : Trace) (x : ℕ) → Crossed t x → HasOverlap t
has_overlap t x c = (c.first, c.second, crossed_overlap t x c)

module _ (t t' : Trace) (k : WellKinded t) (k' : WellKinded t') (go : (x : ℕ) → WritersGo t t' x) (g : OpsGo t t') where
  -- a source that changes breaks rule 1
  pub origin_on : (i : Op) (x : ℕ) → Contains t.ops i → reads x i ≡ true → (origin t' i x ≡ origin t i x)
      ⊎ HasOverlap t'
  origin_on i x h q =
      let p = load_placed t i k h (and_parts (op_loads i) (has_byte x i) q).0 in
      elim (origin_stays t t' x i k k' (go x) h (g.stays i h p) p) [
        | inl e ↦ inl e
        | inr c ↦ inr (has_overlap t' x c.crossed)
      ]

  -- a store to x between two old operations was there
  pub store_was : (a b : Op) (x : ℕ) → Contains t.ops b → b.name.hart ≡ a.name.hart
      → SomeBetween (StoresTo t' a.name.hart x) a b → SomeBetween (StoresTo t a.name.hart x) a b
  store_was a b x hb one s = elim ((go x).back o (Contains-append_left t'.ops t'.early o s.3.1) s.3.4) [
    | inl w ↦ old w.0 w.1 (Contains-append_cases t.ops t.early w.0 w.1.was)
    | inr n ↦ absurd (
        let w = op_insn t b k hb in
        let l : w.0.tag < o.name.tag = n.1 w.0 w.1 (w.2 ∙ one ∙ sym s.3.2) in
        omega (arith, s.2, s.3.3, w.3))
  ]
    where
      o : Op
      o = s.3.0

      old : (w : Op) → GoesOn t t' x w o → Contains t.ops w ⊎ Contains t.early w
          → SomeBetween (StoresTo t a.name.hart x) a b
      old w g (inl i) = (
        w.name.tag,
        omega (arith, s.1, s.3.3, g.becomes.same.1),
        omega (arith, s.2, s.3.3, g.becomes.same.1),
        (w, i, sym g.becomes.same.0 ∙ s.3.2, refl, g.stored),
      )
      old w g (inr i) = absurd (
          let l : b.name.tag < w.name.tag = early_younger_op t w b k i hb (one ∙ sym s.3.2 ∙ g.becomes.same.0) in
          omega (arith, s.2, s.3.3, g.becomes.same.1))

  -- the instructions up to that of b, by the hart of a
  pub insns_to : (a b : Op) → Contains t.ops b → b.name.hart ≡ a.name.hart → (n : ℕ) → (n < b.name.tag)
      ⊎ (n ≡ b.name.tag) → insn_at t'.insns a.name.hart n ≡ insn_at t.insns a.name.hart n
  insns_to a b hb one n le = subst (λ (h : ℕ). insn_at t'.insns h n ≡ insn_at t.insns h n) one (g.insns b n hb le)

  -- a rule between old operations holds on, or a source changed
  pub holds_on : (r : Rule) (a b : Op) → Contains t.ops a → Contains t.ops b → b.name.hart ≡ a.name.hart
      → a.name.tag < b.name.tag → Orders r t a b → Orders r t' a b ⊎ HasOverlap t'
  holds_on r a b ha hb one lt = at r
    where
      same : (n : ℕ) → (n < b.name.tag) ⊎ (n ≡ b.name.tag) → insn_at t'.insns a.name.hart n ≡ insn_at t.insns
          a.name.hart n
      same = insns_to a b hb one

      at : (r : Rule) → Orders r t a b → Orders r t' a b ⊎ HasOverlap t'
      at R1 h = inl h
      at R2 h = elim (origin_on a h.0 ha h.1) [
        | inr c ↦ inr c
        | inl e ↦ elim (origin_on b h.0 hb h.2) [
          | inr c ↦ inr c
          | inl f ↦ inl (h.0, h.1, h.2, (λ s. h.3 (store_was a b h.0 hb one s)), λ q. h.4 (sym e ∙ q ∙ f))
        ]
      ]
      at R3 h = elim (origin_on b h.1.0 hb h.1.2) [
        | inr c ↦ inr c
        | inl f ↦
            let q = ap (is_one is_amo_or_sc) (same a.name.tag (inl lt)) ∙ h.0 in
            inl (q, reads_still t t' b a.name.hart a.name.tag is_amo_or_sc k' q h.1 f)
      ]
      at R4 h = inl (h.0, h.1, h.2, ap (is_one (λ w. fence_orders w a.kind b.kind)) (same h.0 (inl h.2)) ∙ h.3)
      at R5 h = inl h
      at R6 h = inl h
      at R7 h = inl h
      at R8 h = inl (paired_on t t' a b one lt same h)
      at R9 h = inl (address_on t t' a.name.hart b.name.tag same b.name.tag a.name.tag (inr refl) h)
      at R10 h = inl (data_on t t' a.name.hart b.name.tag same b.name.tag a.name.tag (inr refl) h)
      at R11 h =
          inl (
            h.0,
            (h.1.0, h.1.1, h.1.2, branch_on t t' a.name.hart b.name.tag same h.1.0 a.name.tag (inl h.1.2) h.1.3),
          )
      at R12 h = elim (origin_on b h.3.1.0 hb h.3.1.2) [
        | inr c ↦ inr c
        | inl f ↦
            let d : AddressOn t' a h.0 ⊎ DataOn t' a h.0 =
            elim h.3.0 [
              | inl d ↦ inl (address_on t t' a.name.hart b.name.tag same h.0 a.name.tag (inl h.2) d)
              | inr d ↦ inr (data_on t t' a.name.hart b.name.tag same h.0 a.name.tag (inl h.2) d)
            ] in
            inl (h.0, h.1, h.2, (d, reads_dependent_still t t' a b h.0 k' d h.3.1 f))
      ]
      at R13 h =
          inl (
            h.0,
            (h.1.0, h.1.1, h.1.2, address_on t t' a.name.hart b.name.tag same h.1.0 a.name.tag (inl h.1.2) h.1.3),
          )

  -- b comes before what a becomes
  pub still_before : (a n b : Op) → Contains t.ops b → IsPlaced b → a.place ≡ None → Becomes t a n → precedes b n ≡ true
  still_before a n b hb pb e c =
      elim c.place [ inl q ↦ placed_first b n pb (q ∙ e) | inr m ↦ m.2 b (Contains-append_left t.ops t.early b hb) pb ]

  -- a FENCE sees the kind of an operation alone
  fence_like : (o : Option Retired) (a n b : Op) → n.kind ≡ a.kind → is_one (λ w. fence_orders w n.kind b.kind)
      o ≡ is_one (λ w. fence_orders w a.kind b.kind) o
  fence_like o a n b e = ap (λ (c : OpKind). is_one (λ w. fence_orders w c b.kind) o) e

  -- a store that isn't performed is first by rule 1, 4 or 6, and what it becomes is too
  pub plain_on : (r : Rule) (a b : Op) → Contains t.ops a → Contains t.ops b → a.place ≡ None
      → b.name.hart ≡ a.name.hart → Orders r t a b → (n : Op) × Contains t'.ops n × Becomes t a n × Orders r t' n b
  plain_on r a b ha hb e one h = at r (plain_first t r a b k ha (k.unperformed a ha e) h) h
    where
      same : (n : ℕ) → (n < b.name.tag) ⊎ (n ≡ b.name.tag) → insn_at t'.insns a.name.hart n ≡ insn_at t.insns
          a.name.hart n
      same = insns_to a b hb one

      any : (n : Op) × Contains t'.ops n × (has_byte (some_byte_of t a k ha).0 n ≡ true) × Becomes t a n × IsLike n a
      any = g.lift a (some_byte_of t a k ha).0 ha (some_byte_of t a k ha).1

      first : (h : Orders R1 t a b) → (n : Op) × Contains t'.ops n × Becomes t a n × Orders R1 t' n b
      first h = let l = g.lift a h.0 ha h.1 in (l.0, l.1, l.3, (h.0, l.2, h.2))

      fenced : (h : Orders R4 t a b) → (n : Op) × Contains t'.ops n × Becomes t a n × Orders R4 t' n b
      fenced h =
          let n = any in (
            n.0,
            n.1,
            n.3,
            (
              h.0,
              rw n.3.same.1 h.1,
              h.2,
              rw n.3.same.0 (fence_like (insn_at t'.insns a.name.hart h.0) a n.0 b n.4.kind
                  ∙ ap (is_one (λ w. fence_orders w a.kind b.kind)) (same h.0 (inl h.2)) ∙ h.3),
            ),
          )

      at : (r : Rule) → (r ≡ R1) ⊎ (r ≡ R4) ⊎ (r ≡ R6) → Orders r t a b → (n : Op) × Contains t'.ops n × Becomes t a n
          × Orders r t' n b
      at r (inl q) h = subst (λ (z : Rule). (n : Op) × Contains t'.ops n × Becomes t a n × Orders z t' n b) (sym q)
          (first (subst (λ (z : Rule). Orders z t a b) q h))
      at r (inr (inl q)) h = subst (λ (z : Rule). (n : Op) × Contains t'.ops n × Becomes t a n × Orders z t' n b)
          (sym q) (fenced (subst (λ (z : Rule). Orders z t a b) q h))
      at r (inr (inr q)) h = subst (λ (z : Rule). (n : Op) × Contains t'.ops n × Becomes t a n × Orders z t' n b)
          (sym q) (any.0, any.1, any.3, subst (λ (z : Rule). Orders z t a b) q h)

  -- a broken pair leaves one of the same second operation and the same rule, or one of rule 1
  pub broken_goes : (r : Rule) (a b : Op) → Broken r t a b → ((n : Op) × Broken r t' n b) ⊎ HasOverlap t'
  broken_goes r a b p = at (place_cases a)
    where
      placed : IsPlaced b
      placed = second_placed t r a b p

      at : IsPlaced a ⊎ (a.place ≡ None) → ((n : Op) × Broken r t' n b) ⊎ HasOverlap t'
      at (inl q) = elim (holds_on r a b p.first_in p.second_in p.one_hart p.in_order p.rule) [
        | inr c ↦ inr c
        | inl h ↦ inl (
          a,
          record {
            first_in = g.stays a p.first_in q;
            second_in = g.stays b p.second_in placed;
            one_hart = p.one_hart;
            in_order = p.in_order;
            rule = h;
            against = p.against;
          },
        )
      ]
      at (inr e) =
          let n = plain_on r a b p.first_in p.second_in e p.one_hart p.rule in
          inl (
            n.0,
            record {
              first_in = n.1;
              second_in = g.stays b p.second_in placed;
              one_hart = p.one_hart ∙ sym n.2.same.0;
              in_order = rw n.2.same.1 p.in_order;
              rule = n.3;
              against = still_before a n.0 b p.second_in placed e n.2;
            },
          )

  -- One step: where a pair is broken, one of the same rule is afterwards, or one of rule 1.
  pub broken_on : (r : Rule) → HasBrokenBy r t → HasBrokenBy r t' ⊎ HasOverlap t'
  broken_on r s = elim (broken_goes r s.0 s.1 s.2) [ inl n ↦ inl (n.0, s.1, n.1) | inr c ↦ inr c ]

  pub overlap_on : HasOverlap t → HasOverlap t'
  overlap_on s = elim (broken_on R1 s) [ inl n ↦ n | inr c ↦ c ]
