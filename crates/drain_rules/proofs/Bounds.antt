-- What a bound says of the operations of a trace.
use Rattle.std.proofs.Common.{ℕ, ◌+◌, ◌-◌, ◌%◌, ◌<◌, ◌≤◌, ◌≡◌, ◌⊎◌, inl, inr, Bool, true, false, ◌&&◌, ltb, leb, cond}
use Rattle.std.proofs.Common.{List, length, Option, Some, None, refl, sym, ap, subst, ◌∙◌, arith}
use Rattle.std.proofs.lemmas.Bool.{and_parts, and_from, both_ways, cases_order}
use Rattle.std.proofs.lemmas.Bool.Decides.{nat_tests}
use Rattle.std.specs.List.{Contains}
use Rattle.tandem_base.specs.declared.extent.Extent.{Extent}
use Rattle.tandem_base.specs.Extents.{is_among}
use Rattle.rvwmo_model.specs.declared.operations.Op.{Op}
use Rattle.rvwmo_model.specs.declared.operations.OpKind.{OpKind}
use Rattle.rvwmo_model.specs.declared.operations.OpKind.TheVariants as kind
use Rattle.rvwmo_model.specs.declared.preserved.Rule.{Rule}
use Rattle.rvwmo_model.specs.declared.preserved.Rule.TheVariants.{R1, R4, R6}
use Rattle.rvwmo_model.specs.declared.traces.Trace.{Trace}
use Rattle.rvwmo_model.specs.Order.{has_byte, writes, kind_stores}
use Rattle.rvwmo_model.specs.Rules.{Orders}
use Rattle.rvwmo_model.specs.Report.{number}
use Rattle.rvwmo_model.specs.Annotations.{is_annotated}
use Rattle.rule_laws.proofs.Drains.{fenced_stores}
use Rattle.merge_buffer.specs.declared.waiting.Part.{Part}
use Rattle.store_buffer.specs.declared.store.Entry.{Entry}
use Rattle.drain_rules.specs.declared.bound.Bound.{Bound}
use Rattle.drain_rules.specs.declared.rule.DrainRule.{DrainRule}
use Rattle.drain_rules.specs.declared.rule.DrainRule.TheVariants.{Overlap, Fence, Release}
use Rattle.drain_rules.specs.Answers.{drain_number, IsBoundOf, HasBytesOf, IsSized, below_fence, shares, shares_any}
use Rattle.drain_rules.specs.Answers.{is_bounded}
use Rattle.drain_rules.specs.Told.{FencesStores, IsFenceBefore, IsPerformedAs}

-- the rule of the model
abbrev pub rule_of : DrainRule → Rule
rule_of Overlap = R1
rule_of Fence = R4
rule_of Release = R6

pub number_of : (k : DrainRule) → number (rule_of k) ≡ drain_number k
number_of Overlap = refl
number_of Fence = refl
number_of Release = refl

-- all stores before a part, where it is of a release
abbrev for_release : Part → Bool → Option Bound
for_release p o = cond o (Some (record { below = p.tag; over = None })) None

-- v has one of the bytes, where some are named
abbrev pub SharesWith : Option Extent → Op → Type 0
SharesWith None v = Unit {0}
SharesWith (Some e) v = (x : ℕ) × (has_byte x v ≡ true) × (is_among e.addr e.len x ≡ true)

-- v is of a store that the bound has
abbrev pub IsBounded : Bound → Op → Type 0
IsBounded b v = (v.name.tag < b.below) × SharesWith b.over v

module _ (t : Trace) (h : ℕ) (b v : Op) (p : Part) (e : Entry) (told : IsPerformedAs t h b p e)
    (store_b : b.kind ≡ kind.Store) (store_v : v.kind ≡ kind.Store) (mine : v.name.hart ≡ h) where
  -- v is before b in program order, and the rule orders them
  abbrev Ordered : DrainRule → Type 0
  Ordered k = (v.name.tag < b.name.tag) × Orders (rule_of k) t v b

  -- ---- rule 1

  bytes_over : (o : Option Extent) → HasBytesOf p.piece o → (x : ℕ) → has_byte x v ≡ true → writes x b ≡ true
      → SharesWith o v
  bytes_over None i x hv wb = absurd i
  bytes_over (Some y) i x hv wb =
      let w = (and_parts (kind_stores b.kind) (has_byte x b) wb).1 in (
        x,
        hv,
        ap (λ (n : ℕ). is_among n y.len x) i.0 ∙ ap (λ (n : ℕ). is_among p.piece.addr n x) i.1
            ∙ sym (told.bytes x) ∙ w,
      )

  over_bytes : (o : Option Extent) → HasBytesOf p.piece o → SharesWith o v
      → (x : ℕ) × (has_byte x v ≡ true) × (writes x b ≡ true)
  over_bytes None i s = absurd i
  over_bytes (Some y) i s = (
    s.0,
    s.1,
    and_from (kind_stores b.kind) (has_byte s.0 b) (ap kind_stores store_b)
        (told.bytes s.0 ∙ sym (ap (λ (n : ℕ). is_among n y.len s.0) i.0
        ∙ ap (λ (n : ℕ). is_among p.piece.addr n s.0) i.1) ∙ s.2),
  )

  -- ---- rule 4

  on_hart : (n : ℕ) → FencesStores t h n → FencesStores t v.name.hart n
  on_hart n f = subst (λ (g : ℕ). FencesStores t g n) (sym mine) f

  fence_before : (o : Option ℕ) → IsFenceBefore t h p.tag o → (n : ℕ) → v.name.tag < n → n < b.name.tag
      → FencesStores t v.name.hart n → (f : ℕ) × (o ≡ Some f) × (v.name.tag < f)
  fence_before None i n l m f =
      absurd (i n (let a = told.tag in omega arith) (subst (λ (g : ℕ). FencesStores t g n) mine f))
  fence_before (Some y) i n l m f = (
    y,
    refl,
    elim (cases_order n y) [
      | inl q ↦ omega arith
      | inr d ↦ elim d [
        | inl q ↦ omega arith
        | inr q ↦ absurd (i.2 n q (let a = told.tag in omega arith) (subst (λ (g : ℕ). FencesStores t g n) mine f))
      ]
    ],
  )

  to_fence : (o : Option ℕ) → IsFenceBefore t h p.tag o → (d : Bound) → Some d ≡ below_fence o → Ordered Fence
      → IsBounded d v
  to_fence o i d e q =
      let between = (fenced_stores t v b store_v store_b).0 q.1 in
      let f = fence_before o i between.0 between.1 between.2 between.3 in
      let c : Some d ≡ Some (record { below = f.0; over = None }) = e ∙ ap below_fence f.1 in
      let is : d ≡ record { below = f.0; over = None } = cc in
      subst (λ (z : Bound). IsBounded z v) (sym is) (f.2, tt)

  from_fence : (o : Option ℕ) → IsFenceBefore t h p.tag o → (d : Bound) → Some d ≡ below_fence o → IsBounded d v
      → Ordered Fence
  from_fence None i d e q = absurd (cc)
  from_fence (Some f) i d e q =
      let is : d ≡ record { below = f; over = None } = cc in
      let l : v.name.tag < f = subst (λ (z : Bound). v.name.tag < z.below) is q.0 in
      let m : f < b.name.tag = (let a = told.tag in let c = i.0 in omega arith) in
      (omega arith, (fenced_stores t v b store_v store_b).1 (f, l, m, on_hart f i.1))

  -- ---- rule 6

  to_release : (o : Bool) (d : Bound) → Some d ≡ for_release p o
      → v.name.tag < b.name.tag → IsBounded d v
  to_release false d e l = absurd (cc)
  to_release true d e l =
      let is : d ≡ record { below = p.tag; over = None } = cc in
      subst (λ (z : Bound). IsBounded z v) (sym is) ((let a = told.tag in omega arith), tt)

  from_release : (o : Bool) → o ≡ is_annotated b.release → (d : Bound)
      → Some d ≡ for_release p o → IsBounded d v → Ordered Release
  from_release false r d e q = absurd (cc)
  from_release true r d e q =
      let is : d ≡ record { below = p.tag; over = None } = cc in
      let l : v.name.tag < p.tag = subst (λ (z : Bound). v.name.tag < z.below) is q.0 in
      ((let a = told.tag in omega arith), sym r)

  -- ---- each rule

  pub to_bounded : (k : DrainRule) (d : Bound) → IsBoundOf k p (Some e) (Some d) → Ordered k → IsBounded d v
  to_bounded Overlap d i q =
      ((let a = told.tag in let c = i.0 in let l = q.0 in omega arith), bytes_over d.over i.1 q.1.0 q.1.1 q.1.2)
  to_bounded Fence d i q = to_fence e.marks.fence told.fence d i q
  to_bounded Release d i q = to_release e.marks.release d i q.0

  pub from_bounded : (k : DrainRule) (d : Bound) → IsBoundOf k p (Some e) (Some d) → IsBounded d v → Ordered k
  from_bounded Overlap d i q =
      ((let a = told.tag in let c = i.0 in let l = q.0 in omega arith), over_bytes d.over i.1 q.1)
  from_bounded Fence d i q = from_fence e.marks.fence told.fence d i q
  from_bounded Release d i q = from_release e.marks.release told.release d i q

  -- where there is no bound, the rule doesn't order v before b
  fence_none : (o : Option ℕ) → IsFenceBefore t h p.tag o → None ≡ below_fence o → Ordered Fence → ⊥
  fence_none None i e q =
      let between = (fenced_stores t v b store_v store_b).0 q.1 in
      let f = fence_before None i between.0 between.1 between.2 between.3 in
      let c : None ≡ Some f.0 = f.1 in cc
  fence_none (Some f) i e q = cc

  release_none : (o : Bool) → o ≡ is_annotated b.release
      → None ≡ for_release p o → is_annotated b.release ≡ true → ⊥
  release_none false r e q = both_ways _ (sym r) q
  release_none true r e q = cc

  pub none_bounded : (k : DrainRule) → IsBoundOf k p (Some e) None → IsSized p.piece → Ordered k → ⊥
  none_bounded Overlap i s q = i s
  none_bounded Fence i s q = fence_none e.marks.fence told.fence i q
  none_bounded Release i s q = release_none e.marks.release told.release i q.1
