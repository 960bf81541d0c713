-- Lists with one kept operation more, and operations told apart by their names.
use Rattle.std.proofs.Common.{◌≡◌, ◌≢◌, ◌⊎◌, inl, inr, List, [], ◌∷◌, ◌++◌, sym, ap, subst, ◌∙◌}
use Rattle.std.specs.List.{Contains, AllPairs}
use Rattle.std.proofs.lemmas.List.Elements.{Contains-append_cases, Contains-append_left, Contains-append_right}
use Rattle.std.proofs.lemmas.List.Elements.{Contains-get_or}
use Rattle.std.proofs.lemmas.List.Kept.{AllPairs-cons}
use Rattle.rvwmo_model.specs.declared.operations.Op.{Op}
use Rattle.rvwmo_model.proofs.Membership.{nothing_in, head_in, first_in, tail_in, in_cases, pairs_head, pairs_tail}
use Rattle.kept_ops.specs.declared.operation.KeptOp.{KeptOp}
use Rattle.kept_ops.specs.Tables.{IsWith}

-- of two operations of a list whose names differ, each has a name of its own
pub one_name : (ops : List Op) → AllPairs (λ a b. a.name ≢ b.name) ops → (a b : Op) → Contains ops a → Contains ops b
    → a.name ≡ b.name → a ≡ b
one_name [] p a b i j e = absurd (nothing_in a i)
one_name (x ∷ xs) p a b i j e = elim (in_cases x xs a i) [
  | inl s ↦ elim (in_cases x xs b j) [
    | inl u ↦ s ∙ sym u
    | inr v ↦ absurd (pairs_head (λ (c d : Op). c.name ≢ d.name) x xs p b v
        (ap (λ (z : Op). z.name) (sym s) ∙ e))
  ]
  | inr s ↦ elim (in_cases x xs b j) [
    | inl u ↦ absurd (pairs_head (λ (c d : Op). c.name ≢ d.name) x xs p a s
        (sym (e ∙ ap (λ (z : Op). z.name) u)))
    | inr v ↦ one_name xs (pairs_tail (λ (c d : Op). c.name ≢ d.name) x xs p) a b s v e
  ]
]

-- ---- one more in the list

middle_cases : (front back : List KeptOp) (m n : KeptOp) → Contains (front ++ m ∷ back) n
    → (n ≡ m) ⊎ Contains (front ++ back) n
middle_cases front back m n i = elim (Contains-append_cases front (m ∷ back) n i) [
  | inl f ↦ inr (Contains-append_left front back n f)
  | inr b ↦ elim (in_cases m back n b) [
    | inl e ↦ inl e
    | inr r ↦ inr (Contains-append_right front back n r)
  ]
]

module _ (m : KeptOp) (old new : List KeptOp) (w : IsWith m old new) where
  pub with_on : (n : KeptOp) → Contains old n → Contains new n
  with_on n i = subst (λ (l : List KeptOp). Contains l n) (sym w.is)
      (elim (Contains-append_cases w.front w.back n (subst (λ (l : List KeptOp). Contains l n) w.was i)) [
        | inl f ↦ Contains-append_left w.front (m ∷ w.back) n f
        | inr b ↦ Contains-append_right w.front (m ∷ w.back) n (tail_in m w.back n b)
      ])

  pub with_it : (n : KeptOp) → n ≡ m → Contains new n
  with_it n e = subst (λ (l : List KeptOp). Contains l n) (sym w.is)
      (Contains-append_right w.front (m ∷ w.back) n (first_in m w.back n e))

  pub with_back : (n : KeptOp) → Contains new n → (n ≡ m) ⊎ Contains old n
  with_back n i =
      elim (middle_cases w.front w.back m n (subst (λ (l : List KeptOp). Contains l n) w.is i)) [
        | inl e ↦ inl e
        | inr j ↦ inr (subst (λ (l : List KeptOp). Contains l n) (sym w.was) j)
      ]

-- ---- each two of them have different names

abbrev Apart : KeptOp → KeptOp → Type 0
Apart m n = m.name ≢ n.name

pairs_cons : (x : KeptOp) (xs : List KeptOp) → ((n : KeptOp) → Contains xs n → Apart x n) → AllPairs Apart xs
    → AllPairs Apart (x ∷ xs)
pairs_cons x xs f p = AllPairs-cons Apart x xs (λ j d l. f _ (Contains-get_or xs j d l)) p

middle_apart : (front back : List KeptOp) (m : KeptOp) → AllPairs Apart (front ++ back)
    → ((n : KeptOp) → Contains (front ++ back) n → n.name ≡ m.name → ⊥) → AllPairs Apart (front ++ m ∷ back)
middle_apart [] back m p new = pairs_cons m back (λ n i e. new n i (sym e)) p
middle_apart (f ∷ fs) back m p new =
    pairs_cons f (fs ++ m ∷ back)
    (λ n i. elim (middle_cases fs back m n i) [
      | inl e ↦ (λ q. new f (head_in f (fs ++ back)) (q ∙ ap (λ (z : KeptOp). z.name) e))
      | inr j ↦ pairs_head Apart f (fs ++ back) p n j
    ])
    (middle_apart fs back m (pairs_tail Apart f (fs ++ back) p) (λ n j. new n (tail_in f (fs ++ back) n j)))

pub with_apart : (m : KeptOp) (old new : List KeptOp) → IsWith m old new → AllPairs (λ m n. m.name ≢ n.name) old
    → ((n : KeptOp) → Contains old n → n.name ≡ m.name → ⊥) → AllPairs (λ m n. m.name ≢ n.name) new
with_apart m old new w p f =
    subst (AllPairs Apart) (sym w.is)
    (middle_apart w.front w.back m (subst (AllPairs Apart) w.was p)
    (λ n i. f n (subst (λ (l : List KeptOp). Contains l n) (sym w.was) i)))
