-- Rows of places: one is left, and one is entered as the newest.
use Rattle.std.proofs.Common.{ℕ, ◌≡◌, ◌≢◌, ◌⊎◌, inl, inr, Option, Some, None, sym, ap, ◌∙◌, subst, arith}
use Rattle.std.proofs.lemmas.Bool.{cases_eq}
use Rattle.byte_rows.specs.Links.{IsEdge, older, newer}

-- the order of tags is a strict one
pub record IsStrict (less : ℕ → ℕ → Type 0) : Type 0 where
  pub none : (a : ℕ) → less a a → ⊥
  pub cases : (a b : ℕ) → less a b ⊎ ((a ≡ b) ⊎ less b a)
  pub along : (a b c : ℕ) → less a b → less b c → less a c

pub strict_older : IsStrict older
strict_older = record {
  none = λ a l. omega (arith, l);
  cases = λ a b. grind arith;
  along = λ a b c l m. omega (arith, l, m);
}

pub strict_newer : IsStrict newer
strict_newer = record {
  none = λ a l. omega (arith, l);
  cases = λ a b. grind arith;
  along = λ a b c l m. omega (arith, l, m);
}

-- no two places of a row have one tag
abbrev pub AreApart : (ℕ → Option (ℕ × ℕ)) → ℕ → Type 0
AreApart marks row = (i j t : ℕ) → marks i ≡ Some (row, t) → marks j ≡ Some (row, t) → i ≡ j

abbrev tag_or : Option (ℕ × ℕ) → ℕ → ℕ
tag_or None d = d
tag_or (Some p) d = p.1

pub same_tag : (marks : ℕ → Option (ℕ × ℕ)) (row i t u : ℕ) → marks i ≡ Some (row, t) → marks i ≡ Some (row, u) → t ≡ u
same_tag marks row i t u e f =
    ap (λ (x : Option (ℕ × ℕ)). tag_or x t) (sym e ∙ f)

-- if m is next beyond n on one side, n is next beyond m on the other
pub seen_back : (less : ℕ → ℕ → Type 0) → IsStrict less → (marks : ℕ → Option (ℕ × ℕ)) (row : ℕ) → AreApart marks row
    → (i t j s : ℕ) → marks i ≡ Some (row, t) → marks j ≡ Some (row, s)
    → IsEdge less marks row (λ u. less u t) (Some j) → (o : Option ℕ)
    → IsEdge (λ a b. less b a) marks row (λ u. less s u) o → o ≡ Some i
seen_back less strict marks row apart i t j s mi mj e None f =
    absurd (f i t mi (subst (λ (x : ℕ). less x t) (same_tag marks row j e.0 s e.1 mj) e.2))
seen_back less strict marks row apart i t j s mi mj e (Some k) f =
    let st = subst (λ (x : ℕ). less x t) (same_tag marks row j e.0 s e.1 mj) e.2 in
    elim (strict.cases f.0 t) [
      | inl l ↦ absurd (e.3 k f.0 f.1 l (subst (λ (x : ℕ). less x f.0) (sym (same_tag marks row j e.0 s e.1 mj)) f.2))
      | inr (inl q) ↦ ap (λ (x : ℕ). Some x)
          (apart k i t (subst (λ (x : ℕ). marks k ≡ Some (row, x)) q f.1) mi)
      | inr (inr g) ↦ absurd (f.3 i t mi st g)
    ]

-- a place is left
module _ (less : ℕ → ℕ → Type 0) (strict : IsStrict less) (marks now : ℕ → Option (ℕ × ℕ)) (row i t : ℕ)
    (there : marks i ≡ Some (row, t)) (gone : now i ≡ None) (others : (j : ℕ) → j ≢ i → now j ≡ marks j)
    (apart : AreApart marks row) where
  away : (j u : ℕ) → now j ≡ Some (row, u) → j ≢ i
  away j u e s =
      let none : None ≡ Some (row, u) = sym gone ∙ subst (λ (x : ℕ). now x ≡ Some (row, u)) s e in
      cc

  pub stays_edge : (passes : ℕ → Type 0) (o : Option ℕ) → IsEdge less marks row passes o → o ≢ Some i
      → IsEdge less now row passes o
  stays_edge passes None e d = λ j u m p. e j u (sym (others j (away j u m)) ∙ m) p
  stays_edge passes (Some k) e d = (
    e.0,
    others k (λ s. d (ap (λ (x : ℕ). Some x) s)) ∙ e.1,
    e.2,
    λ j u m p. e.3 j u (sym (others j (away j u m)) ∙ m) p,
  )

  beyond : (passes : ℕ → Type 0) → IsEdge less marks row passes (Some i) → (j u : ℕ) → now j ≡ Some (row, u)
      → passes u → less u t
  beyond passes e j u m p =
      let before = sym (others j (away j u m)) ∙ m in
      elim (strict.cases u t) [
        | inl l ↦ l
        | inr (inl q) ↦ absurd (away j u m
            (apart j i t (subst (λ (x : ℕ). marks j ≡ Some (row, x)) q before) there))
        | inr (inr g) ↦ absurd (e.3 j u before p
            (subst (λ (x : ℕ). less x u) (same_tag marks row i t e.0 there e.1) g))
      ]

  pub passes_edge : (passes : ℕ → Type 0) → IsEdge less marks row passes (Some i)
      → ((u : ℕ) → less u t → passes u) → (o : Option ℕ) → IsEdge less marks row (λ u. less u t) o
      → IsEdge less now row passes o
  passes_edge passes e wide None f = λ j u m p.
      f j u (sym (others j (away j u m)) ∙ m) (beyond passes e j u m p)
  passes_edge passes e wide (Some k) f = (
    f.0,
    others k (λ s. strict.none t (subst (λ (x : ℕ). less x t)
        (same_tag marks row i f.0 t (subst (λ (x : ℕ). marks x ≡ Some (row, f.0)) s f.1) there) f.2)) ∙ f.1,
    wide f.0 f.2,
    λ j u m p. f.3 j u (sym (others j (away j u m)) ∙ m) (beyond passes e j u m p),
  )

-- a place is entered
module _ (less : ℕ → ℕ → Type 0) (marks now : ℕ → Option (ℕ × ℕ)) (row i t : ℕ)
    (vacant : marks i ≡ None) (there : now i ≡ Some (row, t)) (others : (j : ℕ) → j ≢ i → now j ≡ marks j) where
  apart_from : (j u : ℕ) → marks j ≡ Some (row, u) → j ≢ i
  apart_from j u e s =
      let none : None ≡ Some (row, u) = sym vacant ∙ subst (λ (x : ℕ). marks x ≡ Some (row, u)) s e in
      cc

  pub was_or_is : (j u : ℕ) → now j ≡ Some (row, u) → (marks j ≡ Some (row, u)) ⊎ ((j ≡ i) × (u ≡ t))
  was_or_is j u e = elim (cases_eq j i) [
    | inl s ↦ inr (s, same_tag now row i u t (subst (λ (x : ℕ). now x ≡ Some (row, u)) s e) there)
    | inr d ↦ inl (sym (others j d) ∙ e)
  ]

  -- it goes not beyond the edge
  pub kept_edge : (passes : ℕ → Type 0) (o : Option ℕ) → IsEdge less marks row passes o
      → (passes t → (k s : ℕ) × (o ≡ Some k) × (marks k ≡ Some (row, s)) × (less s t → ⊥))
      → IsEdge less now row passes o
  kept_edge passes None e inside = λ j u m p. elim (was_or_is j u m) [
    | inl w ↦ e j u w p
    | inr q ↦ (
        let x = inside (subst passes q.1 p) in
        let none : None ≡ Some x.0 = x.2 in
        cc)
  ]
  kept_edge passes (Some k) e inside = (
    e.0,
    others k (apart_from k e.0 e.1) ∙ e.1,
    e.2,
    λ j u m p l. elim (was_or_is j u m) [
      | inl w ↦ e.3 j u w p l
      | inr q ↦ (
          let x = inside (subst passes q.1 p) in
          let same : k ≡ x.0 = cc in
          let tag : e.0 ≡ x.1 = same_tag marks row k e.0 x.1 e.1
          (subst (λ (y : ℕ). marks y ≡ Some (row, x.1)) (sym same) x.3) in
          x.4 (subst (λ (y : ℕ). less y t) tag (subst (λ (y : ℕ). less e.0 y) q.1 l)))
    ],
  )

  -- it is the edge
  pub new_edge : (passes : ℕ → Type 0) → passes t
      → ((j u : ℕ) → marks j ≡ Some (row, u) → passes u → less t u → ⊥) → (less t t → ⊥)
      → IsEdge less now row passes (Some i)
  new_edge passes p none irr = (
    t,
    there,
    p,
    λ j u m q l. elim (was_or_is j u m) [
      | inl w ↦ none j u w q l
      | inr s ↦ irr (subst (λ (y : ℕ). less t y) s.1 l)
    ],
  )
