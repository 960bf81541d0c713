-- Stores by falling tag.
use Rattle.std.proofs.Common.{ℕ, zero, suc, ◌≡◌, ◌≢◌, ◌+◌, ◌<◌, ◌≤◌, ◌==◌, nat_lt, List, [], ◌∷◌, ◌++◌, length, map}
use Rattle.std.proofs.Common.{get_or, Bool, true, false, Option, None, Some, cond, count_by, refl, sym, ap}
use Rattle.std.proofs.Common.{subst, ◌∙◌, arith}
use Rattle.std.specs.List.{filter}
use Rattle.std.proofs.lemmas.Bool.Decides.{nat_tests}
use Rattle.std.proofs.lemmas.List.Sums.{sum_by-cons}
use Rattle.store_buffer.specs.declared.store.Store.{Store}
use Rattle.store_buffer.specs.Store.{stays_open}
use Rattle.store_buffer.specs.Stores.{AllTagged, store_of_tag}
use Rattle.store_buffer.specs.Slots.{put_newest, newest_first, is_open_slot}
use Rattle.store_buffer.proofs.Values.{values_in, put_value}

lower : (a b : ℕ) → a < b → nat_lt a b ≡ true
lower a b l = grind (arith, nat_tests)

not_lower : (a b : ℕ) → b ≤ a → nat_lt a b ≡ false
not_lower a b l = grind (arith, nat_tests)

same : (a : ℕ) → (a == a) ≡ true
same a = grind (arith, nat_tests)

other : (a b : ℕ) → a ≢ b → (a == b) ≡ false
other a b d = grind (arith, nat_tests, d)

-- ---- one above all others

put_top : (s : Store) (ts : List Store) → AllTagged s.tag ts → put_newest s ts ≡ s ∷ ts
put_top s [] a = refl
put_top s (t ∷ ts) a = ap (λ (b : Bool). cond b (s ∷ t ∷ ts) (t ∷ put_newest s ts)) (lower t.tag s.tag a.0)

put_below : (s t : Store) (ts : List Store) → s.tag < t.tag → put_newest s (t ∷ ts) ≡ t ∷ put_newest s ts
put_below s t ts l =
    ap (λ (b : Bool). cond b (s ∷ t ∷ ts) (t ∷ put_newest s ts)) (not_lower t.tag s.tag (omega (arith, l)))

-- all tags of a list with one more are below a bound
put_tagged : (bound : ℕ) (s : Store) (ts : List Store) → AllTagged bound (put_newest s ts)
    → (s.tag < bound) × AllTagged bound ts
put_tagged bound s [] a = (a.0, tt)
put_tagged bound s (t ∷ ts) a = at (nat_lt t.tag s.tag) a (λ c. put_tagged bound s ts c)
  where
    at : (b : Bool) → AllTagged bound (cond b (s ∷ t ∷ ts) (t ∷ put_newest s ts))
        → (AllTagged bound (put_newest s ts) → (s.tag < bound) × AllTagged bound ts)
        → (s.tag < bound) × AllTagged bound (t ∷ ts)
    at true a rest = (a.0, (a.1.0, a.1.1))
    at false a rest =
        let r = rest a.1 in
        (r.0, (a.0, r.1))

pub newest_top : (s : Store) (front back : List Store) → AllTagged s.tag (newest_first (front ++ back))
    → newest_first (front ++ s ∷ back) ≡ s ∷ newest_first (front ++ back)
newest_top s [] back a = put_top s (newest_first back) a
newest_top s (f ∷ front) back a =
    let r = put_tagged s.tag f (newest_first (front ++ back)) a in
    ap (put_newest f) (newest_top s front back r.1) ∙ put_below f s (newest_first (front ++ back)) r.0

pub one_newest : (xs ys : List (Option Store)) (k : ℕ) (s : Store) → get_or xs k None ≡ None
    → get_or ys k None ≡ Some s → ((j : ℕ) → j ≢ k → get_or ys j None ≡ get_or xs j None)
    → AllTagged s.tag (newest_first (values_in xs))
    → newest_first (values_in ys) ≡ s ∷ newest_first (values_in xs)
one_newest xs ys k s n e rest a =
    let p = put_value xs ys k s n e rest in
    ap newest_first p.is
    ∙ newest_top s p.front p.back (subst (λ (l : List Store). AllTagged s.tag (newest_first l)) p.was a)
    ∙ ap (λ (l : List Store). s ∷ newest_first l) (sym p.was)

-- each of them has a tag below the bound
pub each_tagged : (bound : ℕ) (slots : List (Option Store)) → AllTagged bound (newest_first (values_in slots))
    → (k : ℕ) (s : Store) → get_or slots k None ≡ Some s → s.tag < bound
each_tagged bound [] a k s e = cc
each_tagged bound (None ∷ slots) a zero s e = cc
each_tagged bound (None ∷ slots) a (suc k) s e = each_tagged bound slots a k s e
each_tagged bound (Some t ∷ slots) a zero s e =
    let is : t ≡ s = cc in
    subst (λ (x : Store). x.tag < bound) is (put_tagged bound t (newest_first (values_in slots)) a).0
each_tagged bound (Some t ∷ slots) a (suc k) s e =
    each_tagged bound slots (put_tagged bound t (newest_first (values_in slots)) a).1 k s e

-- ---- a change of each that keeps its tag

module _ (g : Store → Store) (keeps : (s : Store) → (g s).tag ≡ s.tag) where
  put_map : (s : Store) (ts : List Store) → put_newest (g s) (map g ts) ≡ map g (put_newest s ts)
  put_map s [] = refl
  put_map s (t ∷ ts) = at (nat_lt t.tag s.tag) refl (put_map s ts)
    where
      test : nat_lt (g t).tag (g s).tag ≡ nat_lt t.tag s.tag
      test = ap (λ (a : ℕ). nat_lt a (g s).tag) (keeps t) ∙ ap (nat_lt t.tag) (keeps s)

      at : (b : Bool) → nat_lt t.tag s.tag ≡ b → put_newest (g s) (map g ts) ≡ map g (put_newest s ts)
          → put_newest (g s) (g t ∷ map g ts) ≡ map g (put_newest s (t ∷ ts))
      at true e r =
          ap (λ (b : Bool). cond b (g s ∷ g t ∷ map g ts) (g t ∷ put_newest (g s) (map g ts))) (test ∙ e)
          ∙ sym (ap (λ (b : Bool). map g (cond b (s ∷ t ∷ ts) (t ∷ put_newest s ts))) e)
      at false e r =
          ap (λ (b : Bool). cond b (g s ∷ g t ∷ map g ts) (g t ∷ put_newest (g s) (map g ts))) (test ∙ e)
          ∙ ap (λ (l : List Store). g t ∷ l) r
          ∙ sym (ap (λ (b : Bool). map g (cond b (s ∷ t ∷ ts) (t ∷ put_newest s ts))) e)

  pub newest_map : (ss : List Store) → newest_first (map g ss) ≡ map g (newest_first ss)
  newest_map [] = refl
  newest_map (s ∷ ss) = ap (put_newest (g s)) (newest_map ss) ∙ put_map s (newest_first ss)

-- ---- those that pass a test

-- none has a tag above this one
abbrev pub AllUpTo : ℕ → List Store → Type 0
AllUpTo tag [] = Unit {0}
AllUpTo tag (s ∷ ss) = (s.tag ≤ tag) × AllUpTo tag ss

abbrev pub Falls : List Store → Type 0
Falls [] = Unit {0}
Falls (s ∷ ss) = AllUpTo s.tag ss × Falls ss

put_up_to : (bound : ℕ) (s : Store) (ts : List Store) → s.tag ≤ bound → AllUpTo bound ts
    → AllUpTo bound (put_newest s ts)
put_up_to bound s [] l a = (l, tt)
put_up_to bound s (t ∷ ts) l a = at (nat_lt t.tag s.tag) (put_up_to bound s ts l a.1)
  where
    at : (b : Bool) → AllUpTo bound (put_newest s ts) → AllUpTo bound (cond b (s ∷ t ∷ ts) (t ∷ put_newest s ts))
    at true r = (l, a)
    at false r = (a.0, r)

up_to_more : (a b : ℕ) (ts : List Store) → a ≤ b → AllUpTo a ts → AllUpTo b ts
up_to_more a b [] l u = tt
up_to_more a b (t ∷ ts) l u = (omega (arith, l, u.0), up_to_more a b ts l u.1)

put_falls : (s : Store) (ts : List Store) → Falls ts → Falls (put_newest s ts)
put_falls s [] f = (tt, tt)
put_falls s (t ∷ ts) f = at (nat_lt t.tag s.tag) refl (put_falls s ts f.1)
  where
    at : (b : Bool) → nat_lt t.tag s.tag ≡ b → Falls (put_newest s ts)
        → Falls (cond b (s ∷ t ∷ ts) (t ∷ put_newest s ts))
    at true e r =
        let l : t.tag ≤ s.tag = grind (arith, nat_tests, e) in
        ((l, up_to_more t.tag s.tag ts l f.0), f)
    at false e r =
        let l : s.tag ≤ t.tag = grind (arith, nat_tests, e) in
        (put_up_to t.tag s ts l f.0, r)

pub newest_falls : (ss : List Store) → Falls (newest_first ss)
newest_falls [] = tt
newest_falls (s ∷ ss) = put_falls s (newest_first ss) (newest_falls ss)

module _ (p : Store → Bool) where
  tagged_filter : (bound : ℕ) (ts : List Store) → AllTagged bound ts → AllTagged bound (filter p ts)
  tagged_filter bound [] a = tt
  tagged_filter bound (t ∷ ts) a = at (p t) (tagged_filter bound ts a.1)
    where
      at : (b : Bool) → AllTagged bound (filter p ts) → AllTagged bound (cond b (t ∷ filter p ts) (filter p ts))
      at true r = (a.0, r)
      at false r = r

  filter_fails : (s : Store) (ts : List Store) → p s ≡ false → filter p (put_newest s ts) ≡ filter p ts
  filter_fails s [] e = ap (λ (b : Bool). cond b (s ∷ []) []) e
  filter_fails s (t ∷ ts) e = at (nat_lt t.tag s.tag) (filter_fails s ts e)
    where
      at : (b : Bool) → filter p (put_newest s ts) ≡ filter p ts
          → filter p (cond b (s ∷ t ∷ ts) (t ∷ put_newest s ts)) ≡ filter p (t ∷ ts)
      at true r = ap (λ (b : Bool). cond b (s ∷ filter p (t ∷ ts)) (filter p (t ∷ ts))) e
      at false r = ap (λ (l : List Store). cond (p t) (t ∷ l) l) r

  all_tagged : (a bound : ℕ) (ts : List Store) → a < bound → AllUpTo a ts → AllTagged bound ts
  all_tagged a bound [] l u = tt
  all_tagged a bound (t ∷ ts) l u = (omega (arith, l, u.0), all_tagged a bound ts l u.1)

  filter_passes : (s : Store) (ts : List Store) → Falls ts → p s ≡ true
      → filter p (put_newest s ts) ≡ put_newest s (filter p ts)
  filter_passes s [] f e = ap (λ (b : Bool). cond b (s ∷ []) []) e
  filter_passes s (t ∷ ts) f e = at (nat_lt t.tag s.tag) refl (filter_passes s ts f.1 e)
    where
      at : (b : Bool) → nat_lt t.tag s.tag ≡ b → filter p (put_newest s ts) ≡ put_newest s (filter p ts)
          → filter p (cond b (s ∷ t ∷ ts) (t ∷ put_newest s ts)) ≡ put_newest s (filter p (t ∷ ts))
      at true q r =
          let l : t.tag < s.tag = grind (arith, nat_tests, q) in
          ap (λ (b : Bool). cond b (s ∷ filter p (t ∷ ts)) (filter p (t ∷ ts))) e
          ∙ sym (put_top s (filter p (t ∷ ts)) (tagged_filter s.tag (t ∷ ts) (l, all_tagged t.tag s.tag ts l f.0)))
      at false q r = ap (λ (l : List Store). cond (p t) (t ∷ l) l) r ∙ here (p t)
        where
          here : (b : Bool) → cond b (t ∷ put_newest s (filter p ts)) (put_newest s (filter p ts))
              ≡ put_newest s (cond b (t ∷ filter p ts) (filter p ts))
          here true =
              sym (ap (λ (b : Bool). cond b (s ∷ t ∷ filter p ts) (t ∷ put_newest s (filter p ts))) q)
          here false = refl

  pub newest_filter : (ss : List Store) → newest_first (filter p ss) ≡ filter p (newest_first ss)
  newest_filter [] = refl
  newest_filter (s ∷ ss) = at (p s) refl (newest_filter ss)
    where
      at : (b : Bool) → p s ≡ b → newest_first (filter p ss) ≡ filter p (newest_first ss)
          → newest_first (cond b (s ∷ filter p ss) (filter p ss)) ≡ filter p (put_newest s (newest_first ss))
      at true e r =
          ap (put_newest s) r ∙ sym (filter_passes s (newest_first ss) (newest_falls ss) e)
      at false e r = r ∙ sym (filter_fails s (newest_first ss) e)

-- ---- the store of a tag

found_put : (tag : ℕ) (s : Store) (ts : List Store) → s.tag ≡ tag → store_of_tag tag ts ≡ None
    → store_of_tag tag (put_newest s ts) ≡ Some s
found_put tag s [] e n = ap (λ (b : Bool). cond b (Some s) None) (ap (λ (a : ℕ). a == tag) e ∙ same tag)
found_put tag s (t ∷ ts) e n = at (nat_lt t.tag s.tag) (λ m. found_put tag s ts e m)
  where
    here : (s.tag == tag) ≡ true
    here = ap (λ (a : ℕ). a == tag) e ∙ same tag

    split : (b : Bool) → (t.tag == tag) ≡ b
        → (store_of_tag tag ts ≡ None → store_of_tag tag (put_newest s ts) ≡ Some s)
        → store_of_tag tag (t ∷ put_newest s ts) ≡ Some s
    split true q r =
        let some : store_of_tag tag (t ∷ ts) ≡ Some t =
        ap (λ (b : Bool). cond b (Some t) (store_of_tag tag ts)) q in
        cc
    split false q r =
        let rest : store_of_tag tag ts ≡ None =
        sym (ap (λ (b : Bool). cond b (Some t) (store_of_tag tag ts)) q) ∙ n in
        ap (λ (b : Bool). cond b (Some t) (store_of_tag tag (put_newest s ts))) q ∙ r rest

    at : (b : Bool) → (store_of_tag tag ts ≡ None → store_of_tag tag (put_newest s ts) ≡ Some s)
        → store_of_tag tag (cond b (s ∷ t ∷ ts) (t ∷ put_newest s ts)) ≡ Some s
    at true r = ap (λ (b : Bool). cond b (Some s) (store_of_tag tag (t ∷ ts))) here
    at false r = split (t.tag == tag) refl r

other_put : (tag : ℕ) (s : Store) (ts : List Store) → s.tag ≢ tag
    → store_of_tag tag (put_newest s ts) ≡ store_of_tag tag ts
other_put tag s [] d = ap (λ (b : Bool). cond b (Some s) None) (other s.tag tag d)
other_put tag s (t ∷ ts) d = at (nat_lt t.tag s.tag) (other_put tag s ts d)
  where
    at : (b : Bool) → store_of_tag tag (put_newest s ts) ≡ store_of_tag tag ts
        → store_of_tag tag (cond b (s ∷ t ∷ ts) (t ∷ put_newest s ts)) ≡ store_of_tag tag (t ∷ ts)
    at true r = ap (λ (b : Bool). cond b (Some s) (store_of_tag tag (t ∷ ts))) (other s.tag tag d)
    at false r = ap (λ (o : Option Store). cond (t.tag == tag) (Some t) o) r

pub none_of_tag : (tag : ℕ) (slots : List (Option Store))
    → ((i : ℕ) (s : Store) → get_or slots i None ≡ Some s → s.tag ≢ tag)
    → store_of_tag tag (newest_first (values_in slots)) ≡ None
none_of_tag tag [] d = refl
none_of_tag tag (None ∷ slots) d = none_of_tag tag slots (λ i s e. d (suc i) s e)
none_of_tag tag (Some s ∷ slots) d =
    other_put tag s (newest_first (values_in slots)) (d 0 s refl)
    ∙ none_of_tag tag slots (λ i t e. d (suc i) t e)

pub store_of_slot : (tag : ℕ) (slots : List (Option Store)) (i : ℕ) (s : Store) → get_or slots i None ≡ Some s
    → s.tag ≡ tag → ((j : ℕ) (t : Store) → get_or slots j None ≡ Some t → t.tag ≡ tag → j ≡ i)
    → store_of_tag tag (newest_first (values_in slots)) ≡ Some s
store_of_slot tag [] i s e q only = cc
store_of_slot tag (None ∷ slots) zero s e q only = cc
store_of_slot tag (Some t ∷ slots) zero s e q only =
    let is : t ≡ s = cc in
    found_put tag t (newest_first (values_in slots)) (ap (λ (x : Store). x.tag) is ∙ q)
    (none_of_tag tag slots (λ j u f g. absurd (omega (arith, only (suc j) u f g)))) ∙ ap (λ (x : Store). Some x) is
store_of_slot tag (None ∷ slots) (suc i) s e q only =
    store_of_slot tag slots i s e q (λ j t f g. omega (arith, only (suc j) t f g))
store_of_slot tag (Some t ∷ slots) (suc i) s e q only =
    other_put tag t (newest_first (values_in slots)) (λ g. absurd (omega (arith, only 0 t refl g)))
    ∙ store_of_slot tag slots i s e q (λ j u f g. omega (arith, only (suc j) u f g))

-- ---- how many pass a test

counted_put : (p : Store → Bool) (s : Store) (ts : List Store)
    → length (filter p (put_newest s ts)) ≡ cond (p s) 1 0 + length (filter p ts)
counted_put p s [] = at (p s)
  where
    at : (b : Bool) → length (cond b (s ∷ []) []) ≡ cond b 1 0 + 0
    at true = refl
    at false = refl
counted_put p s (t ∷ ts) = at (nat_lt t.tag s.tag) (counted_put p s ts)
  where
    first : (b : Bool) (l : List Store) → length (cond b (s ∷ l) l) ≡ cond b 1 0 + length l
    first true l = omega arith
    first false l = omega arith

    later : (b : Bool) (l m : List Store) (n : ℕ) → length l ≡ n + length m
        → length (cond b (t ∷ l) l) ≡ n + length (cond b (t ∷ m) m)
    later true l m n e = omega (arith, e)
    later false l m n e = e

    at : (b : Bool) → length (filter p (put_newest s ts)) ≡ cond (p s) 1 0 + length (filter p ts)
        → length (filter p (cond b (s ∷ t ∷ ts) (t ∷ put_newest s ts)))
        ≡ cond (p s) 1 0 + length (filter p (t ∷ ts))
    at true r = first (p s) (filter p (t ∷ ts))
    at false r = later (p t) (filter p (put_newest s ts)) (filter p ts) (cond (p s) 1 0) r

pub open_counted : (slots : List (Option Store))
    → length (filter stays_open (newest_first (values_in slots))) ≡ count_by is_open_slot slots
open_counted [] = refl
open_counted (None ∷ slots) =
    let e = sum_by-cons (λ (o : Option Store). cond (is_open_slot o) 1 0) None slots in
    omega (arith, e, open_counted slots)
open_counted (Some s ∷ slots) =
    let e = sum_by-cons (λ (o : Option Store). cond (is_open_slot o) 1 0) (Some s) slots in
    omega (arith, e, counted_put stays_open s (newest_first (values_in slots)), open_counted slots)
