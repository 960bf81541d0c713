-- The newest store that passes a test.
use Rattle.std.proofs.Common.{ℕ, suc, ◌+◌, ◌≡◌, ◌≢◌, ◌<◌, ◌≤◌, ◌||◌, nat_lt, List, [], ◌∷◌, length, map, find}
use Rattle.std.proofs.Common.{get_or, Bool}
use Rattle.std.proofs.Common.{true, false, Option, None, Some, cond, refl, sym, ap, subst, ◌∙◌, arith, if◌then◌else◌}
use Rattle.std.proofs.lemmas.Bool.Decides.{nat_tests}
use Rattle.slab.specs.Slab.{entries_from}
use Rattle.store_buffer.specs.declared.store.Store.{Store}
use Rattle.store_buffer.specs.Slots.{put_newest, newest_first}
use Rattle.store_buffer.specs.Stores.{AllTagged}
use Rattle.std.proofs.Common.{◌&&◌, is_some}
use Rattle.tandem_base.specs.FirstFault.{◌or_else◌}
use Rattle.store_buffer.specs.Searches.{lowest_below}
use Rattle.store_buffer.specs.Waiting.{AreRetired, newer_of, waits_at, waits_among}
use Rattle.store_buffer.proofs.Newest.{AllUpTo, Falls, newest_falls}
use Rattle.store_buffer.proofs.Values.{values_in}

-- ---- the newer of two

newer_none : (a : Option Store) → newer_of a None ≡ a
newer_none None = refl
newer_none (Some s) = refl

-- the first is the newer one
pub newer_first : (s u : Store) → u.tag < s.tag → newer_of (Some s) (Some u) ≡ Some s
newer_first s u l = ap (λ (b : Bool). if b then Some s else Some u) (lower u.tag s.tag l)
  where
    lower : (a b : ℕ) → a < b → nat_lt a b ≡ true
    lower a b l = grind (arith, nat_tests)

-- the second is no older than the first
pub newer_second : (s u : Store) → s.tag ≤ u.tag → newer_of (Some s) (Some u) ≡ Some u
newer_second s u l = ap (λ (b : Bool). if b then Some s else Some u) (higher u.tag s.tag l)
  where
    higher : (a b : ℕ) → b ≤ a → nat_lt a b ≡ false
    higher a b l = grind (arith, nat_tests)

newer_grouped : (a b c : Option Store) → newer_of a (newer_of b c) ≡ newer_of (newer_of a b) c
newer_grouped None b c = refl
newer_grouped (Some s) None c = refl
newer_grouped (Some s) (Some t) None = sym (newer_none (newer_of (Some s) (Some t)))
newer_grouped (Some s) (Some t) (Some u) = at (nat_lt u.tag t.tag) (nat_lt t.tag s.tag) refl refl
  where
    at : (a b : Bool) → nat_lt u.tag t.tag ≡ a → nat_lt t.tag s.tag ≡ b
        → newer_of (Some s) (if a then Some t else Some u) ≡ newer_of (if b then Some s else Some t) (Some u)
    at true true e f =
        let l : u.tag < t.tag = grind (arith, nat_tests, e) in
        let m : t.tag < s.tag = grind (arith, nat_tests, f) in
        newer_first s t m ∙ sym (newer_first s u (omega (arith, l, m)))
    at true false e f =
        let l : u.tag < t.tag = grind (arith, nat_tests, e) in
        let m : s.tag ≤ t.tag = grind (arith, nat_tests, f) in
        newer_second s t m ∙ sym (newer_first t u l)
    at false true e f = refl
    at false false e f =
        let l : t.tag ≤ u.tag = grind (arith, nat_tests, e) in
        let m : s.tag ≤ t.tag = grind (arith, nat_tests, f) in
        newer_second s u (omega (arith, l, m)) ∙ sym (newer_second t u l)

-- ---- a list by falling tags

module _ (p : Store → Bool) where
  found_up_to : (bound : ℕ) (ts : List Store) (s : Store) → AllUpTo bound ts → find p ts ≡ Some s → s.tag ≤ bound
  found_up_to bound [] s a e = cc
  found_up_to bound (t ∷ ts) s a e = at (p t) (λ f. found_up_to bound ts s a.1 f) e
    where
      at : (b : Bool) → (find p ts ≡ Some s → s.tag ≤ bound) → cond b (Some t) (find p ts) ≡ Some s → s.tag ≤ bound
      at true h e =
          let same : t ≡ s = cc in
          subst (λ (x : Store). x.tag ≤ bound) same a.0
      at false h e = h e

  pub found_below : (bound : ℕ) (ts : List Store) (s : Store) → AllTagged bound ts → find p ts ≡ Some s → s.tag < bound
  found_below bound [] s a e = cc
  found_below bound (t ∷ ts) s a e = at (p t) (λ f. found_below bound ts s a.1 f) e
    where
      at : (b : Bool) → (find p ts ≡ Some s → s.tag < bound) → cond b (Some t) (find p ts) ≡ Some s → s.tag < bound
      at true h e =
          let same : t ≡ s = cc in
          subst (λ (x : Store). x.tag < bound) same a.0
      at false h e = h e

  pub found_passes : (ts : List Store) (s : Store) → find p ts ≡ Some s → p s ≡ true
  found_passes [] s e = cc
  found_passes (t ∷ ts) s e = at (p t) refl (λ f. found_passes ts s f) e
    where
      at : (b : Bool) → p t ≡ b → (find p ts ≡ Some s → p s ≡ true) → cond b (Some t) (find p ts) ≡ Some s
          → p s ≡ true
      at true q h e =
          let same : t ≡ s = cc in
          subst (λ (x : Store). p x ≡ true) same q
      at false q h e = h e

  pub none_found : (ts : List Store) → ((s : Store) → p s ≡ false) → find p ts ≡ None
  none_found [] none = refl
  none_found (t ∷ ts) none =
      ap (λ (b : Bool). cond b (Some t) (find p ts)) (none t) ∙ none_found ts none

  -- a store, where it passes
  abbrev pub if_passes : Store → Option Store
  if_passes s = cond (p s) (Some s) None

  find_put : (s : Store) (ts : List Store) → Falls ts
      → find p (put_newest s ts) ≡ newer_of (if_passes s) (find p ts)
  find_put s [] f = sym (newer_none (if_passes s))
  find_put s (t ∷ ts) f = at (nat_lt t.tag s.tag) refl (find_put s ts f.1)
    where
      top : nat_lt t.tag s.tag ≡ true → (o : Option Store) → find p (t ∷ ts) ≡ o → (b : Bool)
          → cond b (Some s) o ≡ newer_of (cond b (Some s) None) o
      top e o q false = refl
      top e None q true = refl
      top e (Some u) q true =
          let l : t.tag < s.tag = grind (arith, nat_tests, e) in
          let m : u.tag ≤ t.tag = found_up_to t.tag (t ∷ ts) u (omega arith, f.0) q in
          sym (newer_first s u (omega (arith, l, m)))

      under : nat_lt t.tag s.tag ≡ false → (b c : Bool)
          → cond b (Some t) (newer_of (cond c (Some s) None) (find p ts))
          ≡ newer_of (cond c (Some s) None) (cond b (Some t) (find p ts))
      under e false c = refl
      under e true false = refl
      under e true true =
          let m : s.tag ≤ t.tag = grind (arith, nat_tests, e) in
          sym (newer_second s t m)

      at : (b : Bool) → nat_lt t.tag s.tag ≡ b → find p (put_newest s ts) ≡ newer_of (if_passes s) (find p ts)
          → find p (cond b (s ∷ t ∷ ts) (t ∷ put_newest s ts)) ≡ newer_of (if_passes s) (find p (t ∷ ts))
      at true e r = top e (find p (t ∷ ts)) refl (p s)
      at false e r = ap (λ (o : Option Store). cond (p t) (Some t) o) r ∙ under e (p t) (p s)

  find_newest : (s : Store) (ss : List Store)
      → find p (newest_first (s ∷ ss)) ≡ newer_of (if_passes s) (find p (newest_first ss))
  find_newest s ss = find_put s (newest_first ss) (newest_falls ss)

  -- ---- a walk over entries

  -- what is found among all, where `newest` is the newest of those that went before
  abbrev pub found_from : Option Store → List (ℕ × Store) → Option Store
  found_from newest left = newer_of newest (find p (newest_first (map (λ e. e.1) left)))

  pub found_next : (newest : Option Store) (at : ℕ) (s : Store) (left : List (ℕ × Store))
      → found_from newest ((at, s) ∷ left) ≡ found_from (newer_of newest (if_passes s)) left
  found_next newest at s left =
      ap (newer_of newest) (find_newest s (map (λ e. e.1) left))
      ∙ newer_grouped newest (if_passes s) (find p (newest_first (map (λ e. e.1) left)))

  pub found_kept : (newest : Option Store) (at : ℕ) (s : Store) (left : List (ℕ × Store)) → p s ≡ false
      → found_from newest ((at, s) ∷ left) ≡ found_from newest left
  found_kept newest at s left e =
      found_next newest at s left
      ∙ ap (λ (b : Bool). found_from (newer_of newest (cond b (Some s) None)) left) e
      ∙ ap (λ (o : Option Store). found_from o left) (newer_none newest)

  pub found_more : (newest : Option Store) (at : ℕ) (s : Store) (left : List (ℕ × Store)) → p s ≡ true
      → found_from newest ((at, s) ∷ left) ≡ found_from (newer_of newest (Some s)) left
  found_more newest at s left e =
      found_next newest at s left
      ∙ ap (λ (b : Bool). found_from (newer_of newest (cond b (Some s) None)) left) e

  pub found_ends : (newest : Option Store) → found_from newest [] ≡ newest
  found_ends newest = newer_none newest

  values_of : (k : ℕ) (slots : List (Option Store)) → map (λ e. e.1) (entries_from k slots) ≡ values_in slots
  values_of k [] = refl
  values_of k (None ∷ slots) = values_of (k + 1) slots
  values_of k (Some s ∷ slots) = ap (λ (l : List Store). s ∷ l) (values_of (k + 1) slots)

  pub found_starts : (slots : List (Option Store))
      → found_from None (entries_from 0 slots) ≡ find p (newest_first (values_in slots))
  found_starts slots = ap (λ (l : List Store). find p (newest_first l)) (values_of 0 slots)

-- ---- two tests in one

pub either_found : (p q r : Store → Bool) (ss : List Store) → AreRetired ss → ((s : Store) → r s ≡ (p s || q s))
    → find r ss ≡ newer_of (find p ss) (find q ss)
either_found p q r [] a h = refl
either_found p q r (s ∷ ss) a h =
    ap (λ (b : Bool). cond b (Some s) (find r ss)) (h s) ∙ at (p s) (q s) (either_found p q r ss a.2 h)
  where
    first : (o : Option Store) → find q ss ≡ o → Some s ≡ newer_of (Some s) o
    first None e = refl
    first (Some u) e = sym (newer_first s u (found_below q s.tag ss u a.1 e))

    second : (o : Option Store) → find p ss ≡ o → Some s ≡ newer_of o (Some s)
    second None e = refl
    second (Some u) e =
        let l = found_below p s.tag ss u a.1 e in
        sym (newer_second u s (omega (arith, l)))

    at : (b c : Bool) → find r ss ≡ newer_of (find p ss) (find q ss)
        → cond (b || c) (Some s) (find r ss) ≡ newer_of (cond b (Some s) (find p ss)) (cond c (Some s) (find q ss))
    at true true e = sym (newer_second s s (omega arith))
    at true false e = first (find q ss) refl
    at false true e = second (find p ss) refl
    at false false e = e

-- ---- slots of stores whose tags differ

-- no store has this tag
abbrev AllApart : ℕ → List Store → Type 0
AllApart tag [] = Unit {0}
AllApart tag (s ∷ ss) = (s.tag ≢ tag) × AllApart tag ss

tagged_up : (a b : ℕ) (ts : List Store) → a ≤ b → AllTagged a ts → AllTagged b ts
tagged_up a b [] l u = tt
tagged_up a b (t ∷ ts) l u = (omega (arith, l, u.0), tagged_up a b ts l u.1)

put_apart : (tag : ℕ) (s : Store) (ts : List Store) → s.tag ≢ tag → AllApart tag ts → AllApart tag (put_newest s ts)
put_apart tag s [] d a = (d, tt)
put_apart tag s (t ∷ ts) d a = at (nat_lt t.tag s.tag) (put_apart tag s ts d a.1)
  where
    at : (b : Bool) → AllApart tag (put_newest s ts) → AllApart tag (cond b (s ∷ t ∷ ts) (t ∷ put_newest s ts))
    at true r = (d, a)
    at false r = (a.0, r)

apart_in : (tag : ℕ) (slots : List (Option Store))
    → ((i : ℕ) (s : Store) → get_or slots i None ≡ Some s → s.tag ≢ tag)
    → AllApart tag (newest_first (values_in slots))
apart_in tag [] d = tt
apart_in tag (None ∷ slots) d = apart_in tag slots (λ i s e. d (suc i) s e)
apart_in tag (Some s ∷ slots) d = put_apart tag s (newest_first (values_in slots)) (d 0 s refl)
    (apart_in tag slots (λ i t e. d (suc i) t e))

put_below : (bound : ℕ) (s : Store) (ts : List Store) → s.tag < bound → AllTagged bound ts
    → AllTagged bound (put_newest s ts)
put_below bound s [] l a = (l, tt)
put_below bound s (t ∷ ts) l a = at (nat_lt t.tag s.tag) (put_below bound s ts l a.1)
  where
    at : (b : Bool) → AllTagged bound (put_newest s ts) → AllTagged bound (cond b (s ∷ t ∷ ts) (t ∷ put_newest s ts))
    at true r = (l, a)
    at false r = (a.0, r)

put_retired : (s : Store) (ts : List Store) → length s.entry.piece.bytes ≤ 8 → AllApart s.tag ts → AreRetired ts
    → AreRetired (put_newest s ts)
put_retired s [] l d a = (l, tt, tt)
put_retired s (t ∷ ts) l d a = at (nat_lt t.tag s.tag) refl (put_retired s ts l d.1 a.2)
  where
    at : (b : Bool) → nat_lt t.tag s.tag ≡ b → AreRetired (put_newest s ts)
        → AreRetired (cond b (s ∷ t ∷ ts) (t ∷ put_newest s ts))
    at true e r =
        let m : t.tag < s.tag = grind (arith, nat_tests, e) in
        (l, (m, tagged_up t.tag s.tag ts (omega (arith, m)) a.1), a)
    at false e r =
        let n : s.tag ≤ t.tag = grind (arith, nat_tests, e) in
        let apart : t.tag ≢ s.tag = d.0 in
        let m : s.tag < t.tag = grind (arith, n, apart) in
        (a.0, put_below t.tag s ts m a.1, r)

pub retired_in : (slots : List (Option Store))
    → ((i : ℕ) (s : Store) → get_or slots i None ≡ Some s → length s.entry.piece.bytes ≤ 8)
    → ((i j : ℕ) (s t : Store) → get_or slots i None ≡ Some s → get_or slots j None ≡ Some t → t.tag ≡ s.tag
    → j ≡ i)
    → AreRetired (newest_first (values_in slots))
retired_in [] size only = tt
retired_in (None ∷ slots) size only = retired_in slots (λ i s e. size (suc i) s e)
    (λ i j s t e f q. omega (arith, only (suc i) (suc j) s t e f q))
retired_in (Some s ∷ slots) size only =
    put_retired s (newest_first (values_in slots)) (size 0 s refl)
    (apart_in s.tag slots (λ j t f q. absurd (omega (arith, only 0 (suc j) s t refl f q))))
    (retired_in slots (λ i t e. size (suc i) t e) (λ i j t u e f q. omega (arith, only (suc i) (suc j) t u e f q)))

-- ---- the bytes of an extent

both_or : (b : Bool) (o : Option ℕ) (c : Bool) (k : ℕ)
    → (b && is_some (o or_else (if c then Some k else None))) ≡ ((b && is_some o) || (b && c))
both_or false o c k = refl
both_or true None true k = refl
both_or true None false k = refl
both_or true (Some j) c k = refl

pub none_among : (addr below : ℕ) (ss : List Store)
    → find (λ s. nat_lt s.tag below && waits_among addr 0 s) ss ≡ None
none_among addr below ss = none_found (λ s. nat_lt s.tag below && waits_among addr 0 s) ss
    (λ s. no (nat_lt s.tag below))
  where
    no : (b : Bool) → (b && false) ≡ false
    no true = refl
    no false = refl

pub among_more : (addr k below : ℕ) (ss : List Store) → AreRetired ss
    → newer_of (find (λ s. nat_lt s.tag below && waits_among addr k s) ss)
    (find (λ s. nat_lt s.tag below && waits_at (addr + k) s) ss)
    ≡ find (λ s. nat_lt s.tag below && waits_among addr (k + 1) s) ss
among_more addr k below ss a =
    let next : suc k ≡ k + 1 = omega arith in
    sym (either_found (λ s. nat_lt s.tag below && waits_among addr k s)
    (λ s. nat_lt s.tag below && waits_at (addr + k) s)
    (λ s. nat_lt s.tag below && waits_among addr (suc k) s) ss a
    (λ s. both_or (nat_lt s.tag below) (lowest_below (λ j. waits_at (addr + j) s) k) (waits_at (addr + k) s) k))
    ∙ ap (λ (n : ℕ). find (λ s. nat_lt s.tag below && waits_among addr n s) ss) next
