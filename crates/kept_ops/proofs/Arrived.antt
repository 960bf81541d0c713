-- The operations that are kept, and their places.
use Rattle.std.proofs.Common.{ℕ, suc, ◌≡◌, ◌≢◌, ◌==◌, ◌+◌, ◌<◌, List, [], ◌∷◌, length, get_or, Bool, true, false}
use Rattle.std.proofs.Common.{◌⊎◌, inl, inr, ◌≤◌}
use Rattle.std.proofs.Common.{Option, None, Some, IsSome, is_some, cond, count_by, All, refl, sym, ap, subst, ◌∙◌}
use Rattle.std.proofs.Common.{arith}
use Rattle.std.specs.List.Sorted.{IsPermutation}
use Rattle.std.proofs.lemmas.Bool.Decides.{nat_tests}
use Rattle.std.proofs.lemmas.List.Sums.{sum_by-cons}
use Rattle.std.proofs.lemmas.List.Elements.{All-head, All-tail, All-cons, All-weaker}
use Rattle.std.proofs.lemmas.List.Sorted.{All-permutation, sum_by-IsPermutation, length_permutation}
use Rattle.slab.specs.Slab.{Slab, get, slab_len, Updates}
use Rattle.tandem_base.specs.declared.names.Position.{Position}
use Rattle.kept_ops.specs.declared.arrivals.Arrival.{Arrival}
use Rattle.kept_ops.specs.declared.operation.KeptOp.{KeptOp}
use Rattle.kept_ops.specs.Arrivals.{stays}
use Rattle.kept_ops.specs.Tables.{AreArrived, op_stays}

-- how many arrivals have a key
abbrev many : ℕ → List Arrival → ℕ
many key xs = count_by (λ (a : Arrival). a.key == key) xs

-- 1 where the test passes, else 0
abbrev one : Bool → ℕ
one b = cond b 1 0

many_cons : (key : ℕ) (a : Arrival) (xs : List Arrival) → many key (a ∷ xs) ≡ one (a.key == key) + many key xs
many_cons key a xs = sum_by-cons (λ (a : Arrival). one (a.key == key)) a xs

many_same : (key : ℕ) (xs ys : List Arrival) → IsPermutation xs ys → many key ys ≡ many key xs
many_same key xs ys p = sum_by-IsPermutation (λ (a : Arrival). one (a.key == key)) xs ys p

itself : (n : ℕ) → (n == n) ≡ true
itself n = grind (arith, nat_tests)

another : (m n : ℕ) → n ≢ m → (m == n) ≡ false
another m n d = grind (arith, nat_tests, d)

at_most : (b : Bool) → one b ≤ 1
at_most true = omega arith
at_most false = omega arith

-- what is under a key, by how many arrivals have it
held : (o : Option KeptOp) → 0 < one (is_some o) → (v : KeptOp) × (o ≡ Some v)
held None l = absurd (omega (arith, l))
held (Some v) l = (v, refl)

abbrev Placed : Slab KeptOp → Arrival → Type 0
Placed ops a = (o : KeptOp) → get ops a.key ≡ Some o → o.place ≡ a.place

-- an arrival that is taken is that of an operation
pub record Taken (ops : Slab KeptOp) (a : Arrival) : Type 0 where
  pub op : KeptOp
  pub there : get ops a.key ≡ Some op
  pub place : op.place ≡ a.place

pub taken : (ops : Slab KeptOp) (xs ys : List Arrival) (a : Arrival) → AreArrived ops xs → IsPermutation xs (a ∷ ys)
    → Taken ops a
taken ops xs ys a s p =
    let n = many_same a.key xs (a ∷ ys) p in
    let m = many_cons a.key a ys in
    let o : one (a.key == a.key) ≡ 1 = ap one (itself a.key) in
    let h = held (get ops a.key) (omega (arith, n, m, o, s.counted a.key)) in
    let placed : Placed ops a = All-head (Placed ops) a ys (All-permutation (Placed ops) xs (a ∷ ys) p s.placed) in
    record { op = h.0; there = h.1; place = placed h.0 h.1 }

pub without_taken : (ops left : Slab KeptOp) (xs ys : List Arrival) (a : Arrival) → AreArrived ops xs
    → IsPermutation xs (a ∷ ys) → Updates ops left a.key None → slab_len left + 1 ≡ slab_len ops → AreArrived left ys
without_taken ops left xs ys a s p u l = record {
  counted = λ key. at key (cases key);
  placed = All-weaker (Placed ops) (Placed left) (λ b q o e. q o (still b o e)) ys
      (All-tail (Placed ops) a ys (All-permutation (Placed ops) xs (a ∷ ys) p s.placed));
  as_many =
      let n : suc (length ys) ≡ length xs = length_permutation xs (a ∷ ys) p in
      omega (arith, n, l, s.as_many);
}
  where
    cases : (key : ℕ) → (key ≡ a.key) ⊎ (key ≢ a.key)
    cases key = grind arith

    still : (b : Arrival) (o : KeptOp) → get left b.key ≡ Some o → get ops b.key ≡ Some o
    still b o e = elim (cases b.key) [
      | inl same ↦
          let none : get left b.key ≡ None = subst (λ (k : ℕ). get left k ≡ None) (sym same) u.changed in
          cc
      | inr d ↦ sym (u.others b.key d) ∙ e
    ]

    at : (key : ℕ) → (key ≡ a.key) ⊎ (key ≢ a.key) → many key ys ≡ one (is_some (get left key))
    at key (inl same) =
        let n = many_same key xs (a ∷ ys) p in
        let m = many_cons key a ys in
        let o : one (a.key == key) ≡ 1 = ap one (subst (λ (k : ℕ). (a.key == k) ≡ true) (sym same) (itself a.key)) in
        let none : get left key ≡ None = subst (λ (k : ℕ). get left k ≡ None) (sym same) u.changed in
        let zero' : one (is_some (get left key)) ≡ 0 = ap (λ (o : Option KeptOp). one (is_some o)) none in
        let most : one (is_some (get ops key)) ≤ 1 = at_most (is_some (get ops key)) in
        omega (arith, n, m, o, zero', most, s.counted key)
    at key (inr d) =
        let n = many_same key xs (a ∷ ys) p in
        let m = many_cons key a ys in
        let o : one (a.key == key) ≡ 0 = ap one (another a.key key d) in
        let same : one (is_some (get left key)) ≡ one (is_some (get ops key)) =
        ap (λ (o : Option KeptOp). one (is_some o)) (u.others key d) in
        omega (arith, n, m, o, same, s.counted key)

-- where none is counted, none has the key
none_has : (key : ℕ) (xs : List Arrival) → many key xs ≡ 0 → All (λ (a : Arrival). a.key ≢ key) xs
none_has key [] e = λ k d l. absurd (omega (arith, l))
none_has key (a ∷ xs) e =
    let m = many_cons key a xs in
    All-cons (λ (a : Arrival). a.key ≢ key) a xs (λ same. (
    let o : one (a.key == key) ≡ 1 = ap one (subst (λ (k : ℕ). (a.key == k) ≡ true) same (itself a.key)) in
    omega (arith, e, m, o)
    )) (none_has key xs (omega (arith, e, m)))

both : (P Q : Arrival → Type 0) (xs : List Arrival) → All P xs → All Q xs → All (λ (a : Arrival). P a × Q a) xs
both P Q xs p q = λ k d l. (p k d l, q k d l)

module _ (ops more : Slab KeptOp) (xs ys : List Arrival) (key : ℕ) (o : KeptOp)
    (s : AreArrived ops xs) (n : get ops key ≡ None) (u : Updates ops more key (Some o)) where
  cases : (k : ℕ) → (k ≡ key) ⊎ (k ≢ key)
  cases k = grind arith

  here : (v : KeptOp) → get more key ≡ Some v → v.place ≡ o.place
  here v e =
      let same : Some o ≡ Some v = sym u.changed ∙ e in
      let eq : o ≡ v = cc in
      ap (λ (w : KeptOp). w.place) (sym eq)

  none_yet : one (is_some (get ops key)) ≡ 0
  none_yet = ap (λ (o : Option KeptOp). one (is_some o)) n

  abbrev a : Arrival
  a = record { place = o.place; key = key }

  others_placed : All (Placed more) xs
  others_placed =
      All-weaker (λ (b : Arrival). Placed ops b × (b.key ≢ key)) (Placed more)
      (λ b q v e. q.0 v (sym (u.others b.key q.1) ∙ e)) xs
      (both (Placed ops) (λ (b : Arrival). b.key ≢ key) xs s.placed
      (none_has key xs (omega (arith, s.counted key, none_yet))))

  count_at : (k : ℕ) → IsPermutation (a ∷ xs) ys → (k ≡ key) ⊎ (k ≢ key) → many k ys ≡ one (is_some (get more k))
  count_at k p (inl same) =
      let m = many_same k (a ∷ xs) ys p in
      let c = many_cons k a xs in
      let e : one (key == k) ≡ 1 = ap one (subst (λ (j : ℕ). (key == j) ≡ true) (sym same) (itself key)) in
      let there : one (is_some (get more k)) ≡ 1 =
      ap (λ (o : Option KeptOp). one (is_some o)) (subst (λ (j : ℕ). get more j ≡ Some o) (sym same) u.changed) in
      let none : many k xs ≡ 0 =
      subst (λ (j : ℕ). many j xs ≡ 0) (sym same) (omega (arith, s.counted key, none_yet)) in
      omega (arith, m, c, e, there, none)
  count_at k p (inr d) =
      let m = many_same k (a ∷ xs) ys p in
      let c = many_cons k a xs in
      let e : one (key == k) ≡ 0 = ap one (another key k d) in
      let same : one (is_some (get more k)) ≡ one (is_some (get ops k)) =
      ap (λ (o : Option KeptOp). one (is_some o)) (u.others k d) in
      omega (arith, m, c, e, same, s.counted k)

  pub with_added : slab_len more ≡ slab_len ops + 1 → IsPermutation (record { place = o.place; key = key } ∷ xs) ys
      → AreArrived more ys
  with_added l p = record {
    counted = λ k. count_at k p (cases k);
    placed = All-permutation (Placed more) (a ∷ xs) ys p (All-cons (Placed more) a xs (λ v e. here v e) others_placed);
    as_many =
        let m : length ys ≡ suc (length xs) = length_permutation (a ∷ xs) ys p in
        omega (arith, m, l, s.as_many);
  }

-- one that has the key stays, and so does its operation
abbrev Remains : Option Position → Slab KeptOp → Arrival → Type 0
Remains oldest ops a = (stays oldest a.place ≡ true) × Placed ops a

find : (oldest : Option Position) (ops : Slab KeptOp) (key : ℕ) (o : KeptOp) → get ops key ≡ Some o
    → (xs : List Arrival) → All (Remains oldest ops) xs → 0 < many key xs → stays oldest o.place ≡ true
find oldest ops key o e [] h l = absurd (omega (arith, l))
find oldest ops key o e (a ∷ xs) h l =
    at (a.key == key) refl (λ m. find oldest ops key o e xs (All-tail (Remains oldest ops) a xs h) m)
  where
    first : Remains oldest ops a
    first = All-head (Remains oldest ops) a xs h

    at : (b : Bool) → (a.key == key) ≡ b → (0 < many key xs → stays oldest o.place ≡ true)
        → stays oldest o.place ≡ true
    at true q rest =
        let same : a.key ≡ key = grind (arith, nat_tests, q) in
        let placed : o.place ≡ a.place = first.1 o (subst (λ (k : ℕ). get ops k ≡ Some o) (sym same) e) in
        subst (λ (p : Position). stays oldest p ≡ true) (sym placed) first.0
    at false q rest =
        let m = many_cons key a xs in
        let none : one (a.key == key) ≡ 0 = ap one q in
        rest (omega (arith, l, m, none))

-- where each place stays, so does each operation
pub each_stays : (oldest : Option Position) (ops : Slab KeptOp) (xs : List Arrival) → AreArrived ops xs
    → All (λ (a : Arrival). stays oldest a.place ≡ true) xs
    → (key : ℕ) (o : KeptOp) → get ops key ≡ Some o → op_stays oldest o ≡ true
each_stays oldest ops xs s all key o e =
    let c : one (is_some (get ops key)) ≡ 1 = ap (λ (o : Option KeptOp). one (is_some o)) e in
    find oldest ops key o e xs (both (λ (a : Arrival). stays oldest a.place ≡ true) (Placed ops) xs all s.placed)
    (omega (arith, c, s.counted key))

pub nothing_arrived : (ops : Slab KeptOp) → ops.slots ≡ [] → AreArrived ops []
nothing_arrived ops e = record {
  counted = λ key. (
      let none : get ops key ≡ None = ap (λ (l : List (Option KeptOp)). get_or l key None) e in
      sym (ap (λ (o : Option KeptOp). one (is_some o)) none)
      );
  placed = λ k d l. absurd (omega (arith, l));
  as_many = sym (ap (λ (l : List (Option KeptOp)). count_by is_some l) e);
}

-- what is taken away doesn't stay
pub taken_goes : (oldest : Option Position) (ops : Slab KeptOp) (a : Arrival) (o : KeptOp) → Taken ops a
    → get ops a.key ≡ Some o → stays oldest a.place ≡ false → op_stays oldest o ≡ false
taken_goes oldest ops a o t e gone =
    let same : Some o ≡ Some t.op = sym e ∙ t.there in
    let op : o ≡ t.op = cc in
    let place : o.place ≡ a.place = ap (λ (v : KeptOp). v.place) op ∙ t.place in
    subst (λ (p : Position). stays oldest p ≡ false) (sym place) gone

pub there_is : (o : Option KeptOp) (v : KeptOp) → o ≡ Some v → IsSome o
there_is None v e = cc
there_is (Some w) v e = refl
