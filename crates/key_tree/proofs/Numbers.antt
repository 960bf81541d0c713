-- Numbers of nodes.
use Rattle.std.proofs.Common.{ℕ, zero, suc, ◌≡◌, ◌≢◌, ◌==◌, ◌⊎◌, inl, inr, Bool, true, false, List, [], ◌∷◌}
use Rattle.std.proofs.Common.{Option, None, Some, get_or, length, count_by, is_some, cond, refl, sym, ap, ◌∙◌, subst}
use Rattle.std.proofs.Common.{arith, if◌then◌else◌}
use Rattle.std.proofs.lemmas.Bool.{cases_eq}
use Rattle.std.proofs.lemmas.Bool.Decides.{nat_tests}
use Rattle.std.proofs.lemmas.List.Sums.{sum_by-cons}
use Rattle.key_tree.specs.declared.node.Node.{Node}
use Rattle.key_tree.specs.Trees.{AreApart}
use Rattle.key_tree.specs.Entries.{number_of, entries_of, AreDistinct, put, with_key_taken}

abbrev pub at_of : List (Option Node) → ℕ → Option Node
at_of xs i = get_or xs i None

same : (n : ℕ) → (n == n) ≡ true
same n = grind (arith, nat_tests)

differ : (n m : ℕ) → n ≢ m → (n == m) ≡ false
differ n m d = grind (arith, nat_tests)

pub number_found : (xs : List (Option Node)) (i : ℕ) (n : Node) → at_of xs i ≡ Some n
    → ((j : ℕ) (m : Node) → at_of xs j ≡ Some m → m.key ≡ n.key → j ≡ i)
    → number_of (entries_of xs) n.key ≡ Some n.number
number_found [] i n e one = cc
number_found (None ∷ xs) zero n e one = cc
number_found (Some m ∷ xs) zero n e one =
    let node : m ≡ n = cc in
    ap (λ (b : Bool). if b then Some m.number else number_of (entries_of xs) n.key)
    (ap (λ (x : Node). x.key == n.key) node ∙ same n.key) ∙ ap (λ (x : Node). Some x.number) node
number_found (None ∷ xs) (suc i) n e one = number_found xs i n e
    (λ j m f s. (let w = one (suc j) m f s in omega (arith, w)))
number_found (Some m ∷ xs) (suc i) n e one =
    let d : m.key ≢ n.key = λ s. (let w = one zero m refl s in omega (arith, w)) in
    ap (λ (b : Bool). if b then Some m.number else number_of (entries_of xs) n.key) (differ m.key n.key d)
    ∙ number_found xs i n e (λ j m f s. (let w = one (suc j) m f s in omega (arith, w)))

pub number_absent : (xs : List (Option Node)) (q : ℕ) → ((j : ℕ) (m : Node) → at_of xs j ≡ Some m → m.key ≢ q)
    → number_of (entries_of xs) q ≡ None
number_absent [] q absent = refl
number_absent (None ∷ xs) q absent = number_absent xs q (λ j m e. absent (suc j) m e)
number_absent (Some n ∷ xs) q absent =
    ap (λ (b : Bool). if b then Some n.number else number_of (entries_of xs) q) (differ n.key q (absent zero n refl))
    ∙ number_absent xs q (λ j m e. absent (suc j) m e)

record Holder (xs : List (Option Node)) (q : ℕ) : Type 0 where
  i : ℕ
  n : Node
  there : at_of xs i ≡ Some n
  key : n.key ≡ q

find : (xs : List (Option Node)) (q : ℕ) → Holder xs q ⊎ ((j : ℕ) (m : Node) → at_of xs j ≡ Some m → m.key ≢ q)
find [] q = inr (λ j m e. cc)
find (None ∷ xs) q = elim (find xs q) [
  | inl h ↦ inl (record { i = suc h.i; n = h.n; there = h.there; key = h.key })
  | inr absent ↦ inr (none absent)
]
  where
    none : ((j : ℕ) (m : Node) → at_of xs j ≡ Some m → m.key ≢ q) → (j : ℕ) (m : Node)
        → at_of (None ∷ xs) j ≡ Some m → m.key ≢ q
    none absent zero m e = cc
    none absent (suc j) m e = absent j m e
find (Some n ∷ xs) q = elim (cases_eq n.key q) [
  | inl s ↦ inl (record { i = zero; n = n; there = refl; key = s })
  | inr d ↦ elim (find xs q) [
    | inl h ↦ inl (record { i = suc h.i; n = h.n; there = h.there; key = h.key })
    | inr absent ↦ inr (none d absent)
  ]
]
  where
    none : n.key ≢ q → ((j : ℕ) (m : Node) → at_of xs j ≡ Some m → m.key ≢ q) → (j : ℕ) (m : Node)
        → at_of (Some n ∷ xs) j ≡ Some m → m.key ≢ q
    none d absent zero m e =
        let node : n ≡ m = cc in
        λ s. d (ap (λ (x : Node). x.key) node ∙ s)
    none d absent (suc j) m e = absent j m e

-- a node with the key
pub record HasNumber (at : ℕ → Option Node) (key number : ℕ) : Type 0 where
  pub i : ℕ
  pub n : Node
  pub there : at i ≡ Some n
  pub key_is : n.key ≡ key
  pub number_is : n.number ≡ number

-- a node with the key, and perhaps another number
pub record HasKey (at : ℕ → Option Node) (key : ℕ) : Type 0 where
  pub i : ℕ
  pub n : Node
  pub there : at i ≡ Some n
  pub key_is : n.key ≡ key

module _ (xs : List (Option Node)) (apart : AreApart (at_of xs)) where
  pub number_is : (key number : ℕ) → HasNumber (at_of xs) key number → number_of (entries_of xs) key ≡ Some number
  number_is key number h =
      subst (λ (k : ℕ). number_of (entries_of xs) k ≡ Some number) h.key_is
      (number_found xs h.i h.n h.there (λ j m e s. apart j h.i m h.n e h.there s)
      ∙ ap (λ (x : ℕ). Some x) h.number_is)

  pub distinct : AreDistinct (entries_of xs)
  distinct = by xs apart
    where
      tail : (o : Option Node) (ys : List (Option Node)) → AreApart (at_of (o ∷ ys)) → AreApart (at_of ys)
      tail o ys a i j n m e f s = (let w = a (suc i) (suc j) n m e f s in omega (arith, w))

      by : (ys : List (Option Node)) → AreApart (at_of ys) → AreDistinct (entries_of ys)
      by [] a = tt
      by (None ∷ ys) a = by ys (tail None ys a)
      by (Some n ∷ ys) a = (
        number_absent ys n.key (λ j m e s. (let w = a (suc j) zero m n e refl s in omega (arith, w))),
        by ys (tail (Some n) ys a),
      )

module _ (old new : List (Option Node)) (apart_old : AreApart (at_of old)) (apart_new : AreApart (at_of new)) (key : ℕ)
    (forth : (i : ℕ) (n : Node) → at_of old i ≡ Some n → n.key ≢ key → HasNumber (at_of new) n.key n.number)
    (back : (i : ℕ) (n : Node) → at_of new i ≡ Some n → n.key ≢ key → HasKey (at_of old) n.key) where
  others_same : (q : ℕ) → q ≢ key → number_of (entries_of new) q ≡ number_of (entries_of old) q
  others_same q d = elim (find old q) [
    | inl h ↦
        let b = forth h.i h.n h.there (λ s. d (sym h.key ∙ s)) in
        subst (λ (k : ℕ). number_of (entries_of new) k ≡ number_of (entries_of old) k) h.key
        (number_is new apart_new h.n.key h.n.number b
        ∙ sym (number_found old h.i h.n h.there (λ j m e s. apart_old j h.i m h.n e h.there s)))
    | inr absent ↦ number_absent new q (λ j m e s. (
        let b = back j m e (λ t. d (sym s ∙ t)) in
        absent b.i b.n b.there (b.key_is ∙ s))) ∙ sym (number_absent old q absent)
  ]

  pub put_numbers : (number : ℕ) → HasNumber (at_of new) key number
      → (q : ℕ) → number_of (entries_of new) q ≡ put key number (entries_of old) q
  put_numbers number h q = elim (cases_eq q key) [
    | inl s ↦ subst (λ (k : ℕ). number_of (entries_of new) k ≡ put key number (entries_of old) k) (sym s)
        (number_is new apart_new key number h
        ∙ ap (λ (b : Bool). if b then Some number else number_of (entries_of old) key) (sym (same key)))
    | inr d ↦ others_same q d
        ∙ ap (λ (b : Bool). if b then Some number else number_of (entries_of old) q) (sym (differ q key d))
  ]

  pub taken_numbers : ((j : ℕ) (m : Node) → at_of new j ≡ Some m → m.key ≢ key)
      → (q : ℕ) → number_of (entries_of new) q ≡ with_key_taken key (entries_of old) q
  taken_numbers absent q = elim (cases_eq q key) [
    | inl s ↦ subst (λ (k : ℕ). number_of (entries_of new) k ≡ with_key_taken key (entries_of old) k) (sym s)
        (number_absent new key absent
        ∙ ap (λ (b : Bool). if b then None else number_of (entries_of old) key) (sym (same key)))
    | inr d ↦ others_same q d
        ∙ ap (λ (b : Bool). if b then None else number_of (entries_of old) q) (sym (differ q key d))
  ]

pub length-entries_of : (xs : List (Option Node)) → length (entries_of xs) ≡ count_by is_some xs
length-entries_of [] = refl
length-entries_of (None ∷ xs) = omega (
  arith,
  length-entries_of xs,
  sum_by-cons
      (λ (o : Option Node). cond (is_some o) 1 0) None xs,
)
length-entries_of (Some n ∷ xs) = omega (
  arith,
  length-entries_of xs,
  sum_by-cons
      (λ (o : Option Node). cond (is_some o) 1 0) (Some n) xs,
)
