-- The newest slots of tags, as they change.
use Rattle.std.proofs.Common.{ℕ, zero, suc, ◌≡◌, ◌≢◌, ◌+◌, ◌<◌, ◌≤◌, ◌==◌, inl, inr, Bool}
use Rattle.std.proofs.Common.{List, []}
use Rattle.std.proofs.Common.{◌∷◌, ◌++◌, length, take, drop, get_or, set, Option, None, Some, refl, sym, ap, ◌∙◌}
use Rattle.std.proofs.Common.{subst, arith, if◌then◌else◌}
use Rattle.std.specs.Option.{IfSome, IsSome, OnSome, option_to_list}
use Rattle.std.specs.List.{insert, remove}
use Rattle.std.proofs.lemmas.List.{append-nil}
use Rattle.std.proofs.lemmas.Bool.{cases_eq, eq-eqb, ne_eqb}
use Rattle.tag_window.specs.declared.newest.Newest.{Newest}
use Rattle.tag_window.specs.Order.{AllTagsAbove, AllTagsBelow, TagsRise, slot_under, IsRank, SplitsAt, FitsAt}

pub yes_at : {A : Type 0} (a b : ℕ) (x y : A) → a ≡ b → (if a == b then x else y) ≡ x
yes_at a b x y e = ap (λ (t : Bool). if t then x else y) (eq-eqb a b e)

pub no_at : {A : Type 0} (a b : ℕ) (x y : A) → a ≢ b → (if a == b then x else y) ≡ y
no_at a b x y d = ap (λ (t : Bool). if t then x else y) (ne_eqb a b d)

above_less : (s t : ℕ) (ns : List Newest) → s < t → AllTagsAbove t ns → AllTagsAbove s ns
above_less s t [] l h = tt
above_less s t (n ∷ ns) l h = (omega (arith, h.0), above_less s t ns l h.1)

above_with : (t : ℕ) (cs : List Newest) (n : Newest) (bs : List Newest) → AllTagsAbove t (cs ++ bs) → t < n.tag
    → AllTagsAbove t (cs ++ n ∷ bs)
above_with t [] n bs h l = (l, h)
above_with t (x ∷ cs) n bs h l = (h.0, above_with t cs n bs h.1 l)

above_less_one : (t : ℕ) (cs : List Newest) (n : Newest) (bs : List Newest) → AllTagsAbove t (cs ++ n ∷ bs)
    → AllTagsAbove t (cs ++ bs) × (t < n.tag)
above_less_one t [] n bs h = (h.1, h.0)
above_less_one t (x ∷ cs) n bs h =
    let r = above_less_one t cs n bs h.1 in
    ((h.0, r.0), r.1)

-- one more between lower and higher tags
pub put_rises : (cs : List Newest) (n : Newest) (bs : List Newest) → TagsRise (cs ++ bs) → AllTagsBelow n.tag cs
    → AllTagsAbove n.tag bs → TagsRise (cs ++ n ∷ bs)
put_rises [] n bs r b a = (a, r)
put_rises (x ∷ cs) n bs r b a = (above_with x.tag cs n bs r.0 b.0, put_rises cs n bs r.1 b.1 a)

pub put_slots : (cs : List Newest) (n : Newest) (bs : List Newest) → AllTagsBelow n.tag cs → (u : ℕ)
    → slot_under (cs ++ n ∷ bs) u ≡ (if u == n.tag then Some n.slot else slot_under (cs ++ bs) u)
put_slots [] n bs b u = elim (cases_eq u n.tag) [
  | inl e ↦
      yes_at n.tag u (Some n.slot) (slot_under bs u) (sym e) ∙ sym (yes_at u n.tag (Some n.slot) (slot_under bs u) e)
  | inr d ↦
      no_at n.tag u (Some n.slot) (slot_under bs u) (λ e. d (sym e))
      ∙ sym (no_at u n.tag (Some n.slot) (slot_under bs u) d)
]
put_slots (x ∷ cs) n bs b u = elim (cases_eq x.tag u) [
  | inl e ↦
      let away : u ≢ n.tag = λ s. omega (arith, e, s, b.0) in
      yes_at x.tag u (Some x.slot) (slot_under (cs ++ n ∷ bs) u) e
      ∙ sym (no_at u n.tag (Some n.slot) (slot_under ((x ∷ cs) ++ bs) u) away
      ∙ yes_at x.tag u (Some x.slot) (slot_under (cs ++ bs) u) e)
  | inr d ↦
      no_at x.tag u (Some x.slot) (slot_under (cs ++ n ∷ bs) u) d
      ∙ put_slots cs n bs b.1 u
      ∙ ap (λ (o : Option ℕ). if u == n.tag then Some n.slot else o)
      (sym (no_at x.tag u (Some x.slot) (slot_under (cs ++ bs) u) d))
]

-- one less
pub gone_rises : (cs : List Newest) (n : Newest) (bs : List Newest) → TagsRise (cs ++ n ∷ bs) → TagsRise (cs ++ bs)
gone_rises [] n bs r = r.1
gone_rises (x ∷ cs) n bs r = ((above_less_one x.tag cs n bs r.0).0, gone_rises cs n bs r.1)

pub rest_above : (cs : List Newest) (n : Newest) (bs : List Newest) → TagsRise (cs ++ n ∷ bs) → AllTagsAbove n.tag bs
rest_above [] n bs r = r.0
rest_above (x ∷ cs) n bs r = rest_above cs n bs r.1

pub front_below : (cs : List Newest) (n : Newest) (bs : List Newest) → TagsRise (cs ++ n ∷ bs) → AllTagsBelow n.tag cs
front_below [] n bs r = tt
front_below (x ∷ cs) n bs r = ((above_less_one x.tag cs n bs r.0).1, front_below cs n bs r.1)

pub none_above : (t : ℕ) (ns : List Newest) → AllTagsAbove t ns → (u : ℕ) → u ≤ t → slot_under ns u ≡ None
none_above t [] h u l = refl
none_above t (n ∷ ns) h u l =
    no_at n.tag u (Some n.slot) (slot_under ns u) (λ e. omega (arith, e, h.0, l)) ∙ none_above t ns h.1 u l

pub none_between : (t : ℕ) (cs bs : List Newest) → AllTagsBelow t cs → AllTagsAbove t bs → slot_under (cs ++ bs) t
    ≡ None
none_between t [] bs b a = none_above t bs a t (omega arith)
none_between t (x ∷ cs) bs b a =
    no_at x.tag t (Some x.slot) (slot_under (cs ++ bs) t) (λ e. omega (arith, e, b.0)) ∙ none_between t cs bs b.1 a

pub gone_slots : (cs : List Newest) (n : Newest) (bs : List Newest) → TagsRise (cs ++ n ∷ bs) → (u : ℕ)
    → slot_under (cs ++ bs) u ≡ (if u == n.tag then None else slot_under (cs ++ n ∷ bs) u)
gone_slots cs n bs r u = elim (cases_eq u n.tag) [
  | inl e ↦
      ap (slot_under (cs ++ bs)) e
      ∙ none_between n.tag cs bs (front_below cs n bs r) (rest_above cs n bs r)
      ∙ sym (yes_at u n.tag None (slot_under (cs ++ n ∷ bs) u) e)
  | inr d ↦
      sym (no_at u n.tag None (slot_under (cs ++ n ∷ bs) u) d
      ∙ put_slots cs n bs (front_below cs n bs r) u
      ∙ no_at u n.tag (Some n.slot) (slot_under (cs ++ bs) u) d)
]

-- the one at its tag
pub there_slot : (cs : List Newest) (n : Newest) (bs : List Newest) → AllTagsBelow n.tag cs
    → slot_under (cs ++ n ∷ bs) n.tag ≡ Some n.slot
there_slot cs n bs b = put_slots cs n bs b n.tag ∙ yes_at n.tag n.tag (Some n.slot) (slot_under (cs ++ bs) n.tag) refl

-- a list around its k-th item
pub around : (xs : List Newest) (k : ℕ) (x : Newest) → k < length xs → x ≡ get_or xs k x
    → xs ≡ take k xs ++ x ∷ drop (suc k) xs
around [] k x l e = absurd (omega (arith, l))
around (y ∷ ys) zero x l e = ap (λ (z : Newest). z ∷ ys) (sym e)
around (y ∷ ys) (suc k) x l e = ap (λ (zs : List Newest). y ∷ zs) (around ys k x (omega (arith, l)) e)

pub set_around : (xs : List Newest) (k : ℕ) (x : Newest) → k < length xs
    → set xs k x ≡ take k xs ++ x ∷ drop (suc k) xs
set_around [] k x l = absurd (omega (arith, l))
set_around (y ∷ ys) zero x l = refl
set_around (y ∷ ys) (suc k) x l = ap (λ (zs : List Newest). y ∷ zs) (set_around ys k x (omega (arith, l)))

pub parted : (xs : List Newest) (k : ℕ) → xs ≡ take k xs ++ drop k xs
parted xs zero = refl
parted [] (suc k) = refl
parted (x ∷ xs) (suc k) = ap (λ (zs : List Newest). x ∷ zs) (parted xs k)

pub below_taken : (xs : List Newest) (k t : ℕ) → ((i : ℕ) (d : Newest) → i < k → (get_or xs i d).tag < t)
    → k ≤ length xs → AllTagsBelow t (take k xs)
below_taken xs zero t h l = tt
below_taken [] (suc k) t h l = tt
below_taken (x ∷ xs) (suc k) t h l = (
  h 0 x (omega arith),
  below_taken xs k t (λ i d m. h (suc i) d (omega (arith, m))) (omega (arith, l)),
)

pub above_dropped : (xs : List Newest) (k t : ℕ) → TagsRise xs → ((d : Newest) → k < length xs
    → t < (get_or xs k d).tag)
    → AllTagsAbove t (drop k xs)
above_dropped [] zero t r h = tt
above_dropped [] (suc k) t r h = tt
above_dropped (x ∷ xs) zero t r h =
    let l = h x (omega arith) in
    (l, above_less t x.tag xs l r.0)
above_dropped (x ∷ xs) (suc k) t r h = above_dropped xs k t r.1 (λ d m. h d (omega (arith, m)))

-- order by index
above_get : (t : ℕ) (ns : List Newest) → AllTagsAbove t ns → (i : ℕ) (d : Newest) → i < length ns
    → t < (get_or ns i d).tag
above_get t [] h i d l = absurd (omega (arith, l))
above_get t (n ∷ ns) h zero d l = h.0
above_get t (n ∷ ns) h (suc i) d l = above_get t ns h.1 i d (omega (arith, l))

pub rises_at : (xs : List Newest) → TagsRise xs → (i j : ℕ) (d e : Newest) → i < j → j < length xs
    → (get_or xs i d).tag < (get_or xs j e).tag
rises_at [] r i j d e l m = absurd (omega (arith, m))
rises_at (x ∷ xs) r i zero d e l m = absurd (omega (arith, l))
rises_at (x ∷ xs) r zero (suc j) d e l m = above_get x.tag xs r.0 j e (omega (arith, m))
rises_at (x ∷ xs) r (suc i) (suc j) d e l m = rises_at xs r.1 i j d e (omega (arith, l)) (omega (arith, m))

same_get : (xs : List Newest) (k : ℕ) (d e : Newest) → k < length xs → get_or xs k d ≡ get_or xs k e
same_get [] k d e l = absurd (omega (arith, l))
same_get (x ∷ xs) zero d e l = refl
same_get (x ∷ xs) (suc k) d e l = same_get xs k d e (omega (arith, l))

-- all up to an item of a lower tag have lower tags
pub lower_upto : (xs : List Newest) (m t : ℕ) (x : Newest) → TagsRise xs → m < length xs → x ≡ get_or xs m x → x.tag < t
    → (k : ℕ) (d : Newest) → k ≤ m → (get_or xs k d).tag < t
lower_upto xs m t x r l e b k d le = elim (cases_eq k m) [
  | inl s ↦
      let here : get_or xs k d ≡ x = ap (λ (i : ℕ). get_or xs i d) s ∙ same_get xs m d x l ∙ sym e in
      omega (arith, ap (λ (n : Newest). n.tag) here, b)
  | inr n ↦
      let less = rises_at xs r k m d x (omega (arith, le, n)) l in
      omega (arith, less, ap (λ (n : Newest). n.tag) e, b)
]

-- all below an item have lower tags than it
pub lower_before : (xs : List Newest) (m t : ℕ) (x : Newest) → TagsRise xs → m < length xs → x ≡ get_or xs m x
    → x.tag ≡ t
    → (k : ℕ) (d : Newest) → k < m → (get_or xs k d).tag < t
lower_before xs m t x r l e b k d lt =
    let less = rises_at xs r k m d x lt l in
    omega (arith, less, ap (λ (n : Newest). n.tag) e, b)

-- all from an item on that isn't of a lower tag aren't
pub higher_from : (xs : List Newest) (m t : ℕ) (x : Newest) → TagsRise xs → m < length xs → x ≡ get_or xs m x
    → t ≤ x.tag
    → (k : ℕ) (d : Newest) → m ≤ k → k < length xs → t ≤ (get_or xs k d).tag
higher_from xs m t x r l e b k d le kl = elim (cases_eq k m) [
  | inl s ↦
      let here : get_or xs k d ≡ x = ap (λ (i : ℕ). get_or xs i d) s ∙ same_get xs m d x l ∙ sym e in
      omega (arith, ap (λ (n : Newest). n.tag) here, b)
  | inr n ↦
      let more = rises_at xs r m k x d (omega (arith, le, n)) kl in
      omega (arith, more, ap (λ (n : Newest). n.tag) e, b)
]

-- ---- ranks

pub rank_none : (xs : List Newest) (t : ℕ) → length xs ≡ 0 → IsRank xs t 0
rank_none xs t e = record {
  within = omega arith;
  below = λ i d l. absurd (omega (arith, l));
  from = λ i d l m. absurd (omega (arith, e, m));
}

module _ (xs : List Newest) (t m : ℕ) (x : Newest) (r : TagsRise xs) (l : m < length xs) (e : x ≡ get_or xs m x) where
  pub rank_past : (k : ℕ) → k ≡ length xs → k ≡ m + 1 → x.tag < t → IsRank xs t k
  rank_past k n s b = record {
    within = omega (arith, n);
    below = λ i d j. lower_upto xs m t x r l e b i d (omega (arith, j, s));
    from = λ i d j o. absurd (omega (arith, n, j, o));
  }

  pub rank_here : x.tag ≡ t → IsRank xs t m
  rank_here q = record {
    within = omega (arith, l);
    below = λ i d j. lower_before xs m t x r l e q i d j;
    from = λ i d j o. higher_from xs m t x r l e (omega (arith, q)) i d j o;
  }

  pub rank_first : m ≡ 0 → t ≤ x.tag → IsRank xs t 0
  rank_first z q = record {
    within = omega arith;
    below = λ i d j. absurd (omega (arith, j));
    from = λ i d j o. higher_from xs m t x r l e q i d (omega (arith, z)) o;
  }

  pub own_slot : x.tag ≡ t → IsRank xs t m → SplitsAt xs m t x.slot
  own_slot q k =
      let above : AllTagsAbove x.tag (drop (suc m) xs) = rest_above (take m xs) x (drop (suc m) xs)
      (subst TagsRise (around xs m x l e) r) in
      record {
        is = around xs m x l e ∙ ap (λ (n : ℕ). take m xs ++ record { tag = n; slot = x.slot } ∷ drop (suc m) xs) q;
        inside = l;
        below = below_taken xs m t k.below k.within;
        above = subst (λ (n : ℕ). AllTagsAbove n (drop (suc m) xs)) q above;
      }

  pub other_slot : x.tag ≢ t → IsRank xs t m → FitsAt xs m t
  other_slot q k = record {
    inside = k.within;
    below = below_taken xs m t k.below k.within;
    above = above_dropped xs m t r (λ d o. (
        let up = k.from m d (omega arith) o in
        let same : get_or xs m d ≡ x = same_get xs m d x o ∙ sym e in
        let tag : (get_or xs m d).tag ≡ x.tag = ap (λ (n : Newest). n.tag) same in
        omega (arith, up, tag, q)));
  }

pub past_slot : (xs : List Newest) (k t : ℕ) → TagsRise xs → IsRank xs t k → length xs ≤ k → FitsAt xs k t
past_slot xs k t r n l = record {
  inside = n.within;
  below = below_taken xs k t n.below n.within;
  above = above_dropped xs k t r (λ d o. absurd (omega (arith, o, l)));
}

-- what holds where there is something
pub on_some : {A : Type 0} {P : Type 0} (o : Option A) → IsSome o → OnSome o P → P
on_some None s h = cc
on_some (Some x) s h = h

pub under_empty : (xs : List Newest) (u : ℕ) → length xs ≡ 0 → slot_under xs u ≡ None
under_empty [] u e = refl
under_empty (x ∷ xs) u e = absurd (omega (arith, e))

-- ---- one tag

pub own_is : (xs : List Newest) (k t s : ℕ) → SplitsAt xs k t s → Some s ≡ slot_under xs t
own_is xs k t s p = sym (ap (λ (ys : List Newest). slot_under ys t) p.is
    ∙ there_slot (take k xs) (record { tag = t; slot = s }) (drop (suc k) xs) p.below)

pub other_is : (xs : List Newest) (k t : ℕ) → FitsAt xs k t → None ≡ slot_under xs t
other_is xs k t p = sym (ap (λ (ys : List Newest). slot_under ys t) (parted xs k)
    ∙ none_between t (take k xs) (drop k xs) p.below p.above)

module _ (xs : List Newest) (k t s : ℕ) (r : TagsRise xs) (p : SplitsAt xs k t s) where
  split : TagsRise (take k xs ++ record { tag = t; slot = s } ∷ drop (suc k) xs)
  split = subst TagsRise p.is r

  pub removed_rises : TagsRise (remove xs k)
  removed_rises = gone_rises (take k xs) (record { tag = t; slot = s }) (drop (suc k) xs) split

  pub removed_slots : (u : ℕ) → slot_under (remove xs k) u ≡ (if u == t then None else slot_under xs u)
  removed_slots u = gone_slots (take k xs) (record { tag = t; slot = s }) (drop (suc k) xs) split u
      ∙ ap (λ (ys : List Newest). if u == t then None else slot_under ys u) (sym p.is)

  module _ (n : ℕ) where
    pub set_rises : TagsRise (set xs k (record { tag = t; slot = n }))
    set_rises = subst TagsRise (sym (set_around xs k (record { tag = t; slot = n }) p.inside))
        (put_rises (take k xs) (record { tag = t; slot = n }) (drop (suc k) xs) removed_rises p.below p.above)

    pub set_slots : (u : ℕ) → slot_under (set xs k (record { tag = t; slot = n })) u
        ≡ (if u == t then Some n else slot_under xs u)
    set_slots u =
        ap (λ (ys : List Newest). slot_under ys u) (set_around xs k (record { tag = t; slot = n }) p.inside)
        ∙ put_slots (take k xs) (record { tag = t; slot = n }) (drop (suc k) xs) p.below u
        ∙ elim (cases_eq u t) [
          | inl e ↦
              yes_at u t (Some n) (slot_under (remove xs k) u) e ∙ sym (yes_at u t (Some n) (slot_under xs u) e)
          | inr d ↦
              no_at u t (Some n) (slot_under (remove xs k) u) d
              ∙ removed_slots u
              ∙ no_at u t None (slot_under xs u) d
              ∙ sym (no_at u t (Some n) (slot_under xs u) d)
        ]

module _ (xs : List Newest) (k t n : ℕ) (r : TagsRise xs) (p : FitsAt xs k t) where
  pub inserted_rises : TagsRise (insert xs k (record { tag = t; slot = n }))
  inserted_rises = put_rises (take k xs) (record { tag = t; slot = n }) (drop k xs) (subst TagsRise (parted xs k) r)
      p.below
      p.above

  pub inserted_slots : (u : ℕ) → slot_under (insert xs k (record { tag = t; slot = n })) u
      ≡ (if u == t then Some n else slot_under xs u)
  inserted_slots u = put_slots (take k xs) (record { tag = t; slot = n }) (drop k xs) p.below u
      ∙ ap (λ (ys : List Newest). if u == t then Some n else slot_under ys u) (sym (parted xs k))

pub untaken_slots : (xs : List Newest) (k t : ℕ) → FitsAt xs k t → (u : ℕ)
    → slot_under xs u ≡ (if u == t then None else slot_under xs u)
untaken_slots xs k t p u = elim (cases_eq u t) [
  | inl e ↦ ap (slot_under xs) e ∙ sym (other_is xs k t p) ∙ sym (yes_at u t None (slot_under xs u) e)
  | inr d ↦ sym (no_at u t None (slot_under xs u) d)
]

-- ---- the ends

pub first_slots : (xs ys : List Newest) (o : Option Newest) → TagsRise xs → xs ≡ option_to_list o ++ ys
    → IfSome o (λ n. (u : ℕ) → slot_under ys u ≡ (if u == n.tag then None else slot_under xs u))
first_slots xs ys None r e = tt
first_slots xs ys (Some n) r e = λ u.
    gone_slots [] n ys (subst TagsRise e r) u
    ∙ ap (λ (zs : List Newest). if u == n.tag then None else slot_under zs u) (sym e)

pub last_slots : (xs ys : List Newest) (o : Option Newest) → TagsRise xs → xs ≡ ys ++ option_to_list o
    → IfSome o (λ n. (u : ℕ) → slot_under ys u ≡ (if u == n.tag then None else slot_under xs u))
last_slots xs ys None r e = tt
last_slots xs ys (Some n) r e = λ u.
    ap (λ (zs : List Newest). slot_under zs u) (sym (append-nil ys))
    ∙ gone_slots ys n [] (subst TagsRise e r) u
    ∙ ap (λ (zs : List Newest). if u == n.tag then None else slot_under zs u) (sym e)

pub last_rises : (xs ys : List Newest) (o : Option Newest) → TagsRise xs → xs ≡ ys ++ option_to_list o → TagsRise ys
last_rises xs ys None r e = subst TagsRise (e ∙ append-nil ys) r
last_rises xs ys (Some n) r e = subst TagsRise (append-nil ys) (gone_rises ys n [] (subst TagsRise e r))

pub last_taken : (xs ys : List Newest) (o : Option Newest) (t m : ℕ) (x : Newest) → TagsRise xs
    → xs ≡ ys ++ option_to_list o → t ≤ x.tag → x ≡ get_or xs m x → m < length xs → IfSome o (λ n. n ≡ get_or xs m n)
    → IfSome o (λ n. (t ≤ n.tag) × (slot_under xs n.tag ≡ Some n.slot))
last_taken xs ys None t m x r e b q l h = tt
last_taken xs ys (Some n) t m x r e b q l h =
    let same : n ≡ x = h ∙ same_get xs m n x l ∙ sym q in (
      omega (arith, b, ap (λ (y : Newest). y.tag) same),
      ap (λ (zs : List Newest). slot_under zs n.tag) e ∙ there_slot ys n [] (front_below ys n [] (subst TagsRise e r)),
    )

pub all_higher : (xs : List Newest) (t : ℕ) (x : Newest) → TagsRise xs → 0 < length xs → x ≡ get_or xs 0 x → t < x.tag
    → (u : ℕ) → u ≤ t → slot_under xs u ≡ None
all_higher [] t x r l e b u j = refl
all_higher (y ∷ ys) t x r l e b u j =
    let tag : x.tag ≡ y.tag = ap (λ (n : Newest). n.tag) e in
    no_at y.tag u (Some y.slot) (slot_under ys u) (λ s. omega (arith, s, tag, b, j))
    ∙ none_above y.tag ys r.0 u (omega (arith, tag, b, j))

pub all_lower : (xs : List Newest) (t m : ℕ) (x : Newest) → TagsRise xs → m + 1 ≡ length xs → x ≡ get_or xs m x
    → x.tag < t
    → (u : ℕ) → t ≤ u → slot_under xs u ≡ None
all_lower xs t m x r l e b u j = by xs (λ i d o. lower_upto xs m t x r (omega (arith, l)) e b i d (omega (arith, l, o)))
  where
    by : (ys : List Newest) → ((i : ℕ) (d : Newest) → i < length ys → (get_or ys i d).tag < t) → slot_under ys u ≡ None
    by [] h = refl
    by (y ∷ ys) h =
        no_at y.tag u (Some y.slot) (slot_under ys u) (λ s. omega (arith, s, j, h 0 y (omega arith)))
        ∙ by ys (λ i d o. h (suc i) d (omega (arith, o)))
