-- Lines, found by their numbers.
use Rattle.std.proofs.Common.{ℕ, zero, suc, ◌≡◌, ◌≢◌, ◌==◌, ◌||◌, ◌/◌, ◌%◌, ◌<◌, ◌⊎◌, inl, inr, Bool, true, false}
use Rattle.std.proofs.Common.{List, [], ◌∷◌, ◌++◌, Option, None, Some, is_some, length, slice_get, set, refl, sym, ap}
use Rattle.std.proofs.Common.{◌∙◌, subst, arith, if◌then◌else◌}
use Rattle.std.specs.Option.{option_and_then}
use Rattle.std.proofs.lemmas.Bool.{cases_eq}
use Rattle.std.proofs.lemmas.Bool.Decides.{nat_tests}
use Rattle.std.proofs.lemmas.Option.{slice_get_cases, slice_get_within}
use Rattle.key_tree.specs.Entries.{KeyedEntries, number_at, number_of, put}
use Rattle.byte_memory.specs.declared.line.Line.{Line}
use Rattle.byte_memory.specs.Memory.{Written, written_in, written_on}

last_is : {X : Type 0} (xs : List X) (y : X) → slice_get (xs ++ y ∷ []) (length xs) ≡ Some y
last_is [] y = refl
last_is (x ∷ xs) y = last_is xs y

front_is : {X : Type 0} (xs : List X) (y : X) (i : ℕ) (x : X) → slice_get xs i ≡ Some x
    → slice_get (xs ++ y ∷ []) i ≡ Some x
front_is [] y i x e = cc
front_is (z ∷ zs) y zero x e = e
front_is (z ∷ zs) y (suc i) x e = front_is zs y i x e

-- what stands in a list with one more at its end stood there before, or is that one
of_push : {X : Type 0} (xs : List X) (y : X) (i : ℕ) (x : X) → slice_get (xs ++ y ∷ []) i ≡ Some x
    → (slice_get xs i ≡ Some x) ⊎ ((i ≡ length xs) × (x ≡ y))
of_push [] y zero x e = inr (refl, cc)
of_push [] y (suc i) x e = cc
of_push (z ∷ zs) y zero x e = inl e
of_push (z ∷ zs) y (suc i) x e = elim (of_push zs y i x e) [
  | inl a ↦ inl a
  | inr b ↦ inr (ap suc b.0, b.1)
]

set_other : {X : Type 0} (xs : List X) (i j : ℕ) (y : X) → j ≢ i → slice_get (set xs i y) j ≡ slice_get xs j
set_other [] i j y n = refl
set_other (x ∷ xs) zero zero y n = absurd (n refl)
set_other (x ∷ xs) zero (suc j) y n = refl
set_other (x ∷ xs) (suc i) zero y n = refl
set_other (x ∷ xs) (suc i) (suc j) y n = set_other xs i j y (λ e. n (ap suc e))

set_some : {X : Type 0} (xs : List X) (i j : ℕ) (y : X) → is_some (slice_get (set xs i y) j) ≡ is_some (slice_get xs j)
set_some [] i j y = refl
set_some (x ∷ xs) zero zero y = refl
set_some (x ∷ xs) zero (suc j) y = refl
set_some (x ∷ xs) (suc i) zero y = refl
set_some (x ∷ xs) (suc i) (suc j) y = set_some xs i j y

same : (n : ℕ) → (n == n) ≡ true
same n = grind (arith, nat_tests)

differ : (n m : ℕ) → n ≢ m → (n == m) ≡ false
differ n m d = grind (arith, nat_tests)

or_true : (a : Bool) → (a || true) ≡ true
or_true true = refl
or_true false = refl

or_false : (a : Bool) → (a || false) ≡ a
or_false true = refl
or_false false = refl

-- the line to which a number leads
abbrev pub led : List Line → Option ℕ → Option Line
led lines o = option_and_then (λ i. slice_get lines i) o

-- the lines, where each stands under its number
module _ (numbers : List ℕ) (lines : List Line) (index : KeyedEntries) (whole : length numbers ≡ length lines)
    (there : (i n : ℕ) → slice_get numbers i ≡ Some n → number_at index n ≡ Some i)
    (back : (i n : ℕ) → number_at index n ≡ Some i → slice_get numbers i ≡ Some n) where
  pub within : (i n : ℕ) → number_at index n ≡ Some i → i < length lines
  within i n e = let l = slice_get_within numbers i n (back i n e) in omega (arith, whole, l)

  -- a number that is found leads to a line
  pub is_led : (i n : ℕ) → number_at index n ≡ Some i → is_some (led lines (number_at index n)) ≡ true
  is_led i n e = elim (slice_get_cases lines i).1 [
    | inl h ↦ ap (λ (o : Option ℕ). is_some (led lines o)) e ∙ ap is_some h.2
    | inr p ↦ (let l = within i n e in let q = p.0 in absurd (omega (arith, l, q)))
  ]

  pub still_ready : (i n x : ℕ) → number_at index n ≡ Some i
      → is_some (led lines (number_at index (x / 64)))
      ≡ (is_some (led lines (number_at index (x / 64))) || (x / 64 == n))
  still_ready i n x e = elim (cases_eq (x / 64) n) [
    | inl s ↦
        let y : is_some (led lines (number_at index (x / 64))) ≡ true =
        subst (λ (m : ℕ). is_some (led lines (number_at index m)) ≡ true) (sym s) (is_led i n e) in
        y ∙ sym (ap (λ (b : Bool). b || (x / 64 == n)) y)
    | inr d ↦ sym (ap (λ (b : Bool). is_some (led lines (number_at index (x / 64))) || b) (differ (x / 64) n d)
        ∙ or_false (is_some (led lines (number_at index (x / 64)))))
  ]

  -- a line that is written: the others stay
  pub others_stay : (at n q : ℕ) (new : Line) → number_at index n ≡ Some at → q ≢ n
      → led (set lines at new) (number_at index q) ≡ led lines (number_at index q)
  others_stay at n q new e d = by (number_at index q) refl
    where
      by : (o : Option ℕ) → number_at index q ≡ o → led (set lines at new) o ≡ led lines o
      by None f = refl
      by (Some j) f = set_other lines at j new (λ s. d (
          let a = back at n e in
          let b : slice_get numbers at ≡ Some q = subst (λ (k : ℕ). slice_get numbers k ≡ Some q) s (back j q f) in
          let r : Some q ≡ Some n = sym b ∙ a in
          (let w : q ≡ n = cc in w)))

  -- one line more
  module _ (grown : KeyedEntries) (line : ℕ) (absent : number_at index line ≡ None)
      (puts : (q : ℕ) → number_at grown q ≡ put line (length lines) index.entries q) (new : Line) where
    at_it : number_at grown line ≡ Some (length lines)
    at_it = puts line ∙ ap (λ (b : Bool). if b then Some (length lines) else number_of index.entries line) (same line)

    elsewhere : (q : ℕ) → q ≢ line → number_at grown q ≡ number_at index q
    elsewhere q d =
        puts q ∙ ap (λ (b : Bool). if b then Some (length lines) else number_of index.entries q) (differ q line d)

    pub there_grown : (i n : ℕ) → slice_get (numbers ++ line ∷ []) i ≡ Some n → number_at grown n ≡ Some i
    there_grown i n e = elim (of_push numbers line i n e) [
      | inl a ↦
          let f = there i n a in
          elsewhere n (λ s. (let no : None ≡ Some i = sym absent
          ∙ subst (λ (k : ℕ). number_at index k ≡ Some i) s f in cc)) ∙ f
      | inr b ↦ rw (b.1, b.0, whole) at_it
    ]

    pub back_grown : (i n : ℕ) → number_at grown n ≡ Some i → slice_get (numbers ++ line ∷ []) i ≡ Some n
    back_grown i n e = elim (cases_eq n line) [
      | inl s ↦
          let f : Some (length lines) ≡ Some i = sym at_it ∙ subst (λ (k : ℕ). number_at grown k ≡ Some i) s e in
          let i_is : i ≡ length numbers = (let g : length lines ≡ i = cc in sym g ∙ sym whole) in
          rw (s, i_is) (last_is numbers line)
      | inr d ↦ front_is numbers line i n (back i n (sym (elsewhere n d) ∙ e))
    ]

    pub led_new : led (lines ++ new ∷ []) (number_at grown line) ≡ Some new
    led_new = ap (led (lines ++ new ∷ [])) at_it ∙ last_is lines new

    pub led_old : (q : ℕ) → q ≢ line → led (lines ++ new ∷ []) (number_at grown q) ≡ led lines (number_at index q)
    led_old q d = ap (led (lines ++ new ∷ [])) (elsewhere q d) ∙ by (number_at index q) refl
      where
        by : (o : Option ℕ) → number_at index q ≡ o → led (lines ++ new ∷ []) o ≡ led lines o
        by None f = refl
        by (Some j) f = elim (slice_get_cases lines j).1 [
          | inl h ↦ front_is lines new j h.0 h.2 ∙ sym h.2
          | inr p ↦ (let l = within j q f in let o = p.0 in absurd (omega (arith, l, o)))
        ]

    pub ready_grown : (x : ℕ) → is_some (led (lines ++ new ∷ []) (number_at grown (x / 64)))
        ≡ (is_some (led lines (number_at index (x / 64))) || (x / 64 == line))
    ready_grown x = elim (cases_eq (x / 64) line) [
      | inl s ↦
          subst (λ (m : ℕ). is_some (led (lines ++ new ∷ []) (number_at grown m)) ≡ true) (sym s) (ap is_some led_new)
          ∙ sym (ap (λ (b : Bool). is_some (led lines (number_at index (x / 64))) || b)
          (ap (λ (m : ℕ). m == line) s ∙ same line) ∙ or_true (is_some (led lines (number_at index (x / 64)))))
      | inr d ↦
          ap is_some (led_old (x / 64) d)
          ∙ sym (ap (λ (b : Bool). is_some (led lines (number_at index (x / 64))) || b) (differ (x / 64) line d)
          ∙ or_false (is_some (led lines (number_at index (x / 64)))))
    ]

    pub written_grown : ((k : ℕ) → written_in new k ≡ None) → (x : ℕ)
        → written_on (led (lines ++ new ∷ []) (number_at grown (x / 64))) x
        ≡ written_on (led lines (number_at index (x / 64))) x
    written_grown fresh x = elim (cases_eq (x / 64) line) [
      | inl s ↦
          let now : led (lines ++ new ∷ []) (number_at grown (x / 64)) ≡ Some new =
          subst (λ (m : ℕ). led (lines ++ new ∷ []) (number_at grown m) ≡ Some new) (sym s) led_new in
          let old : led lines (number_at index (x / 64)) ≡ None =
          subst (λ (m : ℕ). led lines (number_at index m) ≡ None) (sym s) (ap (led lines) absent) in
          ap (λ (o : Option Line). written_on o x) now ∙ fresh (x % 64)
          ∙ sym (ap (λ (o : Option Line). written_on o x) old)
      | inr d ↦ ap (λ (o : Option Line). written_on o x) (led_old (x / 64) d)
    ]

-- lines are led to after one of them was written, where they were before
pub some_led : (lines : List Line) (at : ℕ) (new : Line) (o : Option ℕ)
    → is_some (led (set lines at new) o) ≡ is_some (led lines o)
some_led lines at new None = refl
some_led lines at new (Some j) = set_some lines at j new
