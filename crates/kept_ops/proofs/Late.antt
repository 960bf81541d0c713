-- Places in a heap.
use Rattle.std.proofs.Common.{◌≡◌, List, [], ◌∷◌, ◌++◌, append_assoc, true, false, All, Option, None, Some, IfSome}
use Rattle.std.proofs.Common.{IfNone, sym, subst, ap, ◌∙◌, arith}
use Rattle.std.specs.List.Sorted.{IsPermutation}
use Rattle.std.specs.Ordering.{nat_cmp, ordering_then, is_lt}
use Rattle.std.specs.declared.cmp.Reverse.{Reverse}
use Rattle.std.specs.BinaryHeap.{IsUpperBound}
use Rattle.std.proofs.lemmas.Bool.Decides.{nat_tests}
use Rattle.std.proofs.lemmas.List.Elements.{All-nil, All-cons, All-append}
use Rattle.std.proofs.lemmas.List.Sorted.{IsPermutation-map, IsPermutation-append_right}
use Rattle.std.proofs.lemmas.List.Sorted.{IsPermutation-middle, IsPermutation-trans, IsPermutation-sym}
use Rattle.tandem_base.specs.declared.names.Position.{Position}
use Rattle.tandem_base.specs.Places.{comes_before}
use Rattle.kept_ops.specs.declared.arrivals.Arrival.{Arrival}
use Rattle.kept_ops.specs.Arrivals.{stays, earliest_on_top, unreversed}

-- in the heap's order, what isn't less than the top isn't before it
not_before : (top a : Arrival) → is_lt (ordering_then
    (ordering_then (nat_cmp a.place.message top.place.message) (nat_cmp a.place.insert top.place.insert))
    (nat_cmp a.key top.key)) ≡ false → comes_before a.place top.place ≡ false
not_before top a e = grind (arith, nat_tests, e)

stays_behind : (oldest : Option Position) (p q : Position) → stays oldest p ≡ true → comes_before q p ≡ false
    → stays oldest q ≡ true
stays_behind None p q s l = cc
stays_behind (Some o) p q s l = grind (arith, nat_tests, s, l)

-- where the top stays, all do
pub heap_stays : (oldest : Option Position) (top : Reverse Arrival) (xs : List (Reverse Arrival))
    → IsUpperBound earliest_on_top top xs → stays oldest top.0.place ≡ true
    → All (λ (a : Arrival). stays oldest a.place ≡ true) (unreversed xs)
heap_stays oldest top [] b s = All-nil (λ (a : Arrival). stays oldest a.place ≡ true)
heap_stays oldest top (x ∷ xs) b s =
    All-cons (λ (a : Arrival). stays oldest a.place ≡ true) x.0 (unreversed xs)
    (stays_behind oldest top.0.place x.0.place s (not_before top.0 x.0 b.0)) (heap_stays oldest top xs b.1 s)

pub unreversed_permutation : (xs ys : List (Reverse Arrival)) → IsPermutation xs ys
    → IsPermutation (unreversed xs) (unreversed ys)
unreversed_permutation xs ys p = IsPermutation-map (λ (a : Reverse Arrival). a.0) xs ys p

-- ---- the places of both kinds, in one list

pub added_rising : (xs ys zs : List Arrival) (a : Arrival) → ys ≡ xs ++ a ∷ []
    → IsPermutation (a ∷ (xs ++ zs)) (ys ++ zs)
added_rising xs ys zs a e =
    let moved : IsPermutation (a ∷ (xs ++ zs)) (xs ++ a ∷ zs) =
    IsPermutation-sym (xs ++ a ∷ zs) (a ∷ (xs ++ zs)) (IsPermutation-middle xs a zs) in
    let same : ys ++ zs ≡ xs ++ a ∷ zs = ap (λ (l : List Arrival). l ++ zs) e ∙ append_assoc xs (a ∷ []) zs in
    subst (λ (l : List Arrival). IsPermutation (a ∷ (xs ++ zs)) l) (sym same) moved

pub added_late : (xs zs ws : List Arrival) (a : Arrival) → IsPermutation (a ∷ zs) ws
    → IsPermutation (a ∷ (xs ++ zs)) (xs ++ ws)
added_late xs zs ws a p =
    let moved : IsPermutation (a ∷ (xs ++ zs)) (xs ++ a ∷ zs) =
    IsPermutation-sym (xs ++ a ∷ zs) (a ∷ (xs ++ zs)) (IsPermutation-middle xs a zs) in
    IsPermutation-trans (a ∷ (xs ++ zs)) (xs ++ a ∷ zs) (xs ++ ws) moved
    (IsPermutation-append_right xs (a ∷ zs) ws p)

pub taken_late : (xs zs ws : List Arrival) (a : Arrival) → IsPermutation zs (a ∷ ws)
    → IsPermutation (xs ++ zs) (a ∷ (xs ++ ws))
taken_late xs zs ws a p =
    IsPermutation-trans (xs ++ zs) (xs ++ a ∷ ws) (a ∷ (xs ++ ws)) (IsPermutation-append_right xs zs (a ∷ ws) p)
    (IsPermutation-middle xs a ws)

pub late_taken : (r : Option Arrival) (xs ys zs ws : List Arrival) → ys ≡ xs
    → IfSome r (λ (a : Arrival). IsPermutation zs (a ∷ ws))
    → IfSome r (λ (a : Arrival). IsPermutation (xs ++ zs) (a ∷ (ys ++ ws)))
late_taken None xs ys zs ws e p = tt
late_taken (Some a) xs ys zs ws e p =
    subst (λ (l : List Arrival). IsPermutation (xs ++ zs) (a ∷ (l ++ ws))) (sym e) (taken_late xs zs ws a p)

pub all_left : {H : Type 0} (oldest : Option Position) (r : Option Arrival) (xs ys : List Arrival) (old new : H)
    (view : H → List Arrival) → ys ≡ xs → All (λ (a : Arrival). stays oldest a.place ≡ true) xs
    → IfNone r (All (λ (a : Arrival). stays oldest a.place ≡ true) (view old)) → IfNone r (new ≡ old)
    → IfNone r (All (λ (a : Arrival). stays oldest a.place ≡ true) (ys ++ view new))
all_left {H = H} oldest None xs ys old new view e a b f =
    let P : Arrival → Type 0 = λ a. stays oldest a.place ≡ true in
    subst (λ (l : List Arrival). All P (l ++ view new)) (sym e)
    (subst (λ (h : H). All P (xs ++ view h)) (sym f) (All-append P xs (view old) a b))
all_left {H = H} oldest (Some v) xs ys old new view e a b f = tt
