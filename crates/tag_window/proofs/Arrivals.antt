-- Reports that are there, among those that came.
use Rattle.std.proofs.Common.{ℕ, zero, suc, ◌≡◌, ◌≢◌, ◌+◌, ◌≤◌, ◌==◌, ◌&&◌, ◌⊎◌, inl, inr, Bool, true}
use Rattle.std.proofs.Common.{false, cond, List, [], ◌∷◌, ◌++◌, length, get_or, Option, None, Some, refl, sym, ap}
use Rattle.std.proofs.Common.{◌∙◌, subst, arith}
use Rattle.std.specs.List.{filter}
use Rattle.std.proofs.lemmas.Bool.{both_ways, and_parts, eqb-true}
use Rattle.std.proofs.lemmas.Bool.Decides.{nat_tests}
use Rattle.tandem_base.specs.declared.names.Position.{Position}
use Rattle.tandem_base.specs.Places.{comes_before}
use Rattle.tag_window.specs.declared.links.Link.{Link}
use Rattle.tag_window.specs.declared.order.Arrival.{Arrival}
use Rattle.tag_window.specs.Order.{is_same_position, is_at, is_live, live_of, AllBefore, PlacesFall, AllElsewhere}
use Rattle.tag_window.specs.Order.{StartsLive}
use Rattle.tag_window.specs.Order.{EndsLive, CameAt, NoneBefore, IsOldest}

-- a is one of them
abbrev pub In : Arrival → List Arrival → Type 0
In a [] = ⊥
In a (b ∷ bs) = (b ≡ a) ⊎ In a bs

-- ---- filters

pub filter_on : (p q : Arrival → Bool) (cs : List Arrival) → ((a : Arrival) → In a cs → p a ≡ q a)
    → filter p cs ≡ filter q cs
filter_on p q [] h = refl
filter_on p q (a ∷ cs) h =
    ap (λ (b : Bool). cond b (a ∷ filter p cs) (filter p cs)) (h a (inl refl))
    ∙ ap (λ (xs : List Arrival). cond (q a) (a ∷ xs) xs) (filter_on p q cs (λ x i. h x (inr i)))

pub filter_both : (p q : Arrival → Bool) (cs : List Arrival) → filter q (filter p cs) ≡ filter (λ a. p a && q a) cs
filter_both p q [] = refl
filter_both p q (a ∷ cs) = by (p a) (filter_both p q cs)
  where
    by : (b : Bool) → filter q (filter p cs) ≡ filter (λ x. p x && q x) cs
        → filter q (cond b (a ∷ filter p cs) (filter p cs))
        ≡ cond (b && q a) (a ∷ filter (λ x. p x && q x) cs) (filter (λ x. p x && q x) cs)
    by true rest = ap (λ (xs : List Arrival). cond (q a) (a ∷ xs) xs) rest
    by false rest = rest

pub filter_all : (p : Arrival → Bool) (cs : List Arrival) → ((a : Arrival) → In a cs → p a ≡ true) → filter p cs ≡ cs
filter_all p [] h = refl
filter_all p (a ∷ cs) h =
    ap (λ (b : Bool). cond b (a ∷ filter p cs) (filter p cs)) (h a (inl refl))
    ∙ ap (λ (xs : List Arrival). a ∷ xs) (filter_all p cs (λ x i. h x (inr i)))

pub filter_none : (p : Arrival → Bool) (cs : List Arrival) → ((a : Arrival) → In a cs → p a ≡ false) → filter p cs ≡ []
filter_none p [] h = refl
filter_none p (a ∷ cs) h =
    ap (λ (b : Bool). cond b (a ∷ filter p cs) (filter p cs)) (h a (inl refl))
    ∙ filter_none p cs (λ x i. h x (inr i))

pub in_filter : (p : Arrival → Bool) (cs : List Arrival) (a : Arrival) → In a (filter p cs) → In a cs × (p a ≡ true)
in_filter p [] a i = absurd i
in_filter p (b ∷ bs) a i = by (p b) refl i (λ j. in_filter p bs a j)
  where
    by : (t : Bool) → p b ≡ t → In a (cond t (b ∷ filter p bs) (filter p bs))
        → (In a (filter p bs) → In a bs × (p a ≡ true)) → In a (b ∷ bs) × (p a ≡ true)
    by true e (inl s) rest = (inl s, subst (λ (x : Arrival). p x ≡ true) s e)
    by true e (inr j) rest =
        let r = rest j in
        (inr r.0, r.1)
    by false e j rest =
        let r = rest j in
        (inr r.0, r.1)

pub filter_in : (p : Arrival → Bool) (cs : List Arrival) (a : Arrival) → In a cs → p a ≡ true → In a (filter p cs)
filter_in p [] a i e = absurd i
filter_in p (b ∷ bs) a (inl s) e =
    let q : p b ≡ true = subst (λ (x : Arrival). p x ≡ true) (sym s) e in
    subst (λ (t : Bool). In a (cond t (b ∷ filter p bs) (filter p bs))) (sym q) (inl s)
filter_in p (b ∷ bs) a (inr i) e = by (p b) (filter_in p bs a i e)
  where
    by : (t : Bool) → In a (filter p bs) → In a (cond t (b ∷ filter p bs) (filter p bs))
    by true j = inr j
    by false j = j

pub filter_fewer : (p : Arrival → Bool) (cs : List Arrival) → length (filter p cs) ≤ length cs
filter_fewer p [] = omega arith
filter_fewer p (a ∷ cs) = by (p a) (filter_fewer p cs)
  where
    by : (b : Bool) → length (filter p cs) ≤ length cs
        → length (cond b (a ∷ filter p cs) (filter p cs)) ≤ length (a ∷ cs)
    by true l = omega (arith, l)
    by false l = omega (arith, l)

pub in_left : (cs bs : List Arrival) (a : Arrival) → In a cs → In a (cs ++ bs)
in_left [] bs a i = absurd i
in_left (x ∷ cs) bs a (inl s) = inl s
in_left (x ∷ cs) bs a (inr i) = inr (in_left cs bs a i)

pub in_last : (cs : List Arrival) (b a : Arrival) → In a (cs ++ b ∷ []) → In a cs ⊎ (b ≡ a)
in_last [] b a (inl s) = inr s
in_last [] b a (inr i) = absurd i
in_last (x ∷ cs) b a (inl s) = inl (inl s)
in_last (x ∷ cs) b a (inr i) = elim (in_last cs b a i) [ inl j ↦ inl (inr j) | inr s ↦ inr s ]

-- ---- places

pub never_itself : (p : Position) → comes_before p p ≡ false
never_itself p = grind (arith, nat_tests)

pub one_way : (p q : Position) → comes_before p q ≡ true → comes_before q p ≡ false
one_way p q e = grind (arith, nat_tests)

pub onwards : (p q r : Position) → comes_before p q ≡ true → comes_before q r ≡ true → comes_before p r ≡ true
onwards p q r e f = grind (arith, nat_tests)

pub same_from : (p q : Position) → is_same_position p q ≡ true → p ≡ q
same_from p q e =
    let parts = and_parts (p.message == q.message) (p.insert == q.insert) e in
    let m : p.message ≡ q.message = eqb-true p.message q.message parts.0 in
    let i : p.insert ≡ q.insert = eqb-true p.insert q.insert parts.1 in
    ap (λ (n : ℕ). record { message = n; insert = p.insert }) m
    ∙ ap (λ (n : ℕ). record { message = q.message; insert = n }) i

pub same_self : (p : Position) → is_same_position p p ≡ true
same_self p = grind (arith, nat_tests)

pub apart_place : (p q : Position) → comes_before q p ≡ true → is_same_position p q ≡ false
apart_place p q e = grind (arith, nat_tests)

-- ---- those that fall

pub before_in : (p : Position) (cs : List Arrival) → AllBefore p cs → (a : Arrival) → In a cs
    → comes_before a.place p ≡ true
before_in p [] h a i = absurd i
before_in p (b ∷ bs) h a (inl s) = subst (λ (x : Arrival). comes_before x.place p ≡ true) s h.0
before_in p (b ∷ bs) h a (inr i) = before_in p bs h.1 a i

pub before_from : (p : Position) (cs : List Arrival) → ((a : Arrival) → In a cs → comes_before a.place p ≡ true)
    → AllBefore p cs
before_from p [] h = tt
before_from p (a ∷ cs) h = (h a (inl refl), before_from p cs (λ x i. h x (inr i)))

pub falls_filter : (p : Arrival → Bool) (cs : List Arrival) → PlacesFall cs → PlacesFall (filter p cs)
falls_filter p [] f = tt
falls_filter p (a ∷ cs) f = by (p a) (falls_filter p cs f.1)
  where
    by : (t : Bool) → PlacesFall (filter p cs) → PlacesFall (cond t (a ∷ filter p cs) (filter p cs))
    by true rest = (
      before_from a.place (filter p cs) (λ x i. before_in a.place cs f.0 x (in_filter p cs x i).0),
      rest,
    )
    by false rest = rest

pub falls_front : (cs bs : List Arrival) → PlacesFall (cs ++ bs) → PlacesFall cs
falls_front [] bs f = tt
falls_front (a ∷ cs) bs f = (
  before_from a.place cs (λ x i. before_in a.place (cs ++ bs) f.0 x (in_left cs bs x i)),
  falls_front cs bs f.1,
)

pub falls_last : (cs : List Arrival) (b : Arrival) → PlacesFall (cs ++ b ∷ []) → (a : Arrival) → In a cs
    → comes_before b.place a.place ≡ true
falls_last [] b f a i = absurd i
falls_last (x ∷ cs) b f a (inl s) =
    subst (λ (y : Arrival). comes_before b.place y.place ≡ true) s (before_in x.place (cs ++ b ∷ []) f.0 b (last cs))
  where
    last : (ys : List Arrival) → In b (ys ++ b ∷ [])
    last [] = inl refl
    last (y ∷ ys) = inr (last ys)
falls_last (x ∷ cs) b f a (inr i) = falls_last cs b f.1 a i

pub one_place : (cs : List Arrival) → PlacesFall cs → (a b : Arrival) → In a cs → In b cs → a.place ≡ b.place → a ≡ b
one_place [] f a b i j e = absurd i
one_place (x ∷ cs) f a b (inl s) (inl t) e = sym s ∙ t
one_place (x ∷ cs) f a b (inl s) (inr j) e =
    let t : comes_before b.place x.place ≡ true = before_in x.place cs f.0 b j in
    let u : comes_before b.place b.place ≡ true = subst (λ (p : Position). comes_before b.place p ≡ true)
    (ap (λ (y : Arrival). y.place) s ∙ e) t in
    absurd (both_ways (comes_before b.place b.place) (never_itself b.place) u)
one_place (x ∷ cs) f a b (inr i) (inl t) e =
    let h : comes_before a.place x.place ≡ true = before_in x.place cs f.0 a i in
    let u : comes_before a.place a.place ≡ true = subst (λ (p : Position). comes_before a.place p ≡ true)
    (ap (λ (y : Arrival). y.place) t ∙ sym e) h in
    absurd (both_ways (comes_before a.place a.place) (never_itself a.place) u)
one_place (x ∷ cs) f a b (inr i) (inr j) e = one_place cs f.1 a b i j e

-- ---- slots

pub elsewhere_in : (slot : ℕ) (cs : List Arrival) → AllElsewhere slot cs → (a : Arrival) → In a cs → a.slot ≢ slot
elsewhere_in slot [] h a i = absurd i
elsewhere_in slot (b ∷ bs) h a (inl s) = subst (λ (x : Arrival). x.slot ≢ slot) s h.0
elsewhere_in slot (b ∷ bs) h a (inr i) = elsewhere_in slot bs h.1 a i

pub elsewhere_from : (slot : ℕ) (cs : List Arrival) → ((a : Arrival) → In a cs → a.slot ≢ slot) → AllElsewhere slot cs
elsewhere_from slot [] h = tt
elsewhere_from slot (a ∷ cs) h = (h a (inl refl), elsewhere_from slot cs (λ x i. h x (inr i)))

-- the link of one that is there
pub record Holds (at : ℕ → Option Link) (a : Arrival) : Type 0 where
  pub link : Link
  pub there : at a.slot ≡ Some link
  pub place : link.place ≡ a.place

pub holds_of : (at : ℕ → Option Link) (a : Arrival) → is_live at a ≡ true → Holds at a
holds_of at a e = by (at a.slot) refl e
  where
    by : (o : Option Link) → at a.slot ≡ o → is_at o a.place ≡ true → Holds at a
    by None h f = cc
    by (Some link) h f = record { link = link; there = h; place = same_from link.place a.place f }

pub one_slot : (at : ℕ → Option Link) (a b : Arrival) → is_live at a ≡ true → is_live at b ≡ true → a.slot ≡ b.slot
    → a.place ≡ b.place
one_slot at a b e f s =
    let h = holds_of at a e in
    let k = holds_of at b f in
    let same : Some h.link ≡ Some k.link = sym h.there ∙ ap at s ∙ k.there in
    let link : h.link ≡ k.link = cc in
    sym h.place ∙ ap (λ (l : Link). l.place) link ∙ k.place

-- two that are there in one slot are one
pub one_live : (at : ℕ → Option Link) (cs : List Arrival) → PlacesFall cs → (a b : Arrival) → In a (live_of at cs)
    → In b (live_of at cs) → a.slot ≡ b.slot → a ≡ b
one_live at cs f a b i j s =
    let h = in_filter (is_live at) cs a i in
    let k = in_filter (is_live at) cs b j in
    one_place cs f a b h.0 k.0 (one_slot at a b h.1 k.1 s)

-- all came before what comes after those that are there, where the newest is there
pub before_all : (at : ℕ → Option Link) (cs : List Arrival) (p : Position) → PlacesFall cs → StartsLive at cs
    → AllBefore p (live_of at cs) → AllBefore p cs
before_all at [] p f s b = tt
before_all at (a ∷ cs) p f s b =
    let here = filter_in (is_live at) (a ∷ cs) a (inl refl) s in
    let first = before_in p (live_of at (a ∷ cs)) b a here in
    (first, before_from p cs (λ x i. onwards x.place a.place p (before_in a.place cs f.0 x i) first))

-- ---- the oldest

pub came_in : (cs : List Arrival) (a : Arrival) → In a cs → CameAt a.place cs
came_in [] a i = absurd i
came_in (b ∷ bs) a (inl s) = inl (ap (λ (x : Arrival). x.place) s)
came_in (b ∷ bs) a (inr i) = inr (came_in bs a i)

pub none_before_from : (p : Position) (cs : List Arrival) → ((a : Arrival) → In a cs → comes_before a.place p ≡ false)
    → NoneBefore p cs
none_before_from p [] h = tt
none_before_from p (a ∷ cs) h = (h a (inl refl), none_before_from p cs (λ x i. h x (inr i)))

pub last_of : (cs : List Arrival) (a : Arrival) (m : ℕ) → m + 1 ≡ length cs → a ≡ get_or cs m a
    → (bs : List Arrival) × (cs ≡ bs ++ a ∷ [])
last_of [] a m l e = absurd (omega (arith, l))
last_of (x ∷ []) a zero l e = ([], ap (λ (y : Arrival). y ∷ []) (sym e))
last_of (x ∷ []) a (suc m) l e = absurd (omega (arith, l))
last_of (x ∷ (y ∷ ys)) a zero l e = absurd (omega (arith, l))
last_of (x ∷ (y ∷ ys)) a (suc m) l e =
    let r = last_of (y ∷ ys) a m (omega (arith, l)) e in
    (x ∷ r.0, ap (λ (zs : List Arrival). x ∷ zs) r.1)

in_end : (bs : List Arrival) (a : Arrival) → In a (bs ++ a ∷ [])
in_end [] a = inl refl
in_end (b ∷ bs) a = inr (in_end bs a)

pub oldest_is : (at : ℕ → Option Link) (cs : List Arrival) (a : Arrival) (m : ℕ) → PlacesFall cs → EndsLive at cs
    → m + 1 ≡ length cs → a ≡ get_or cs m a → IsOldest (Some a.place) (live_of at cs)
oldest_is at cs a m f ends l e =
    let r = last_of cs a m l e in
    let mine : is_live at a ≡ true = ends r.0 a r.1 in
    let there : In a cs = subst (λ (xs : List Arrival). In a xs) (sym r.1) (in_end r.0 a) in
    let falls : PlacesFall (r.0 ++ a ∷ []) = subst PlacesFall r.1 f in (
      came_in (live_of at cs) a (filter_in (is_live at) cs a there mine),
      none_before_from a.place (live_of at cs) (λ x i. (
          let j : In x (r.0 ++ a ∷ []) = subst (λ (xs : List Arrival). In x xs) r.1 (in_filter (is_live at) cs x i).0 in
          elim (in_last r.0 a x j) [
            | inl k ↦ one_way a.place x.place (falls_last r.0 a falls x k)
            | inr s ↦ subst (λ (y : Arrival). comes_before y.place a.place ≡ false) s (never_itself a.place)
          ])),
    )
