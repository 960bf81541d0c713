-- What stays of a list from which some are dropped.
use Rattle.std.proofs.Common.{◌≡◌, inl, inr, Bool, true, false, cond, List, [], ◌∷◌, refl, sym, subst, arith}
use Rattle.std.specs.List.{Contains, filter}
use Rattle.slab.proofs.SlabLemmas.{Contains-cons, Contains-cons_cases}

module _ {T : Type 0} where
  pub nothing : (r : T) → Contains [] r → ⊥
  nothing r c = omega (arith, c.1)

  pub from_filter : (p : T → Bool) (xs : List T) (r : T) → Contains (filter p xs) r → Contains xs r × (p r ≡ true)
  from_filter p [] r c = absurd (nothing r c)
  from_filter p (x ∷ xs) r c = by (p x) refl c (λ d. from_filter p xs r d)
    where
      by : (t : Bool) → p x ≡ t → Contains (cond t (x ∷ filter p xs) (filter p xs)) r
          → (Contains (filter p xs) r → Contains xs r × (p r ≡ true)) → Contains (x ∷ xs) r × (p r ≡ true)
      by true e c rest = elim (Contains-cons_cases x r (filter p xs) c) [
        | inl s ↦ ((0, omega arith, s), subst (λ (y : T). p y ≡ true) s e)
        | inr d ↦
            let k = rest d in
            (Contains-cons x r xs k.0, k.1)
      ]
      by false e c rest =
          let k = rest c in
          (Contains-cons x r xs k.0, k.1)

  pub into_filter : (p : T → Bool) (xs : List T) (r : T) → Contains xs r → p r ≡ true → Contains (filter p xs) r
  into_filter p [] r c e = absurd (nothing r c)
  into_filter p (x ∷ xs) r c e = elim (Contains-cons_cases x r xs c) [
    | inl s ↦
        let q : p x ≡ true = subst (λ (y : T). p y ≡ true) (sym s) e in
        subst (λ (t : Bool). Contains (cond t (x ∷ filter p xs) (filter p xs)) r) (sym q) (0, omega arith, s)
    | inr d ↦ further (p x) (into_filter p xs r d e)
  ]
    where
      further : (t : Bool) → Contains (filter p xs) r → Contains (cond t (x ∷ filter p xs) (filter p xs)) r
      further true d = Contains-cons x r (filter p xs) d
      further false d = d
