-- How many doublewords there are.
use Rattle.std.proofs.Common.{ℕ, zero, suc, ◌≡◌, ◌≢◌, ◌+◌, ◌-◌, ◌*◌, ◌/◌, ◌%◌, ◌^◌, ◌<◌, ◌≤◌, ◌==◌, ◌&&◌, ◌||◌, ◌⊎◌}
use Rattle.std.proofs.Common.{inl, inr, List, [], ◌∷◌, length}
use Rattle.std.proofs.Common.{Bool, true, false, Option, None, Some, is_some, cond, count_by, get_or, refl, sym, ap}
use Rattle.std.proofs.Common.{subst, ◌∙◌, arith}
use Rattle.std.proofs.lemmas.Bool.Decides.{nat_tests}
use Rattle.std.proofs.lemmas.List.Sums.{sum_by-cons}
use Rattle.slab.specs.Slab.{Slab, get, slab_len}
use Rattle.key_tree.specs.Entries.{KeyedEntries, number_at, number_of, AreDistinct}
use Rattle.kept_ops.specs.declared.doubleword.Doubleword.{Doubleword}
use Rattle.kept_ops.specs.declared.operation.KeptOp.{KeptOp}
use Rattle.std.specs.Option.{option_and_then}
use Rattle.tandem_base.specs.declared.extent.Extent.{Extent}
use Rattle.tandem_base.specs.Extents.{is_among}
use Rattle.kept_ops.specs.declared.byte_keys.ByteKeys.{ByteKeys}
use Rattle.kept_ops.specs.Doublewords.{keys_in, has_a_key, HasKey, IsKeptAt}
use Rattle.kept_ops.specs.Operations.{holds_byte}
use Rattle.kept_ops.specs.Words.{AreFound, AllMarked, keys_of, keys_of_word, doubleword_of, is_number_of}

-- n is one of them
abbrev In : ℕ → List ℕ → Type 0
In n [] = ⊥
In n (x ∷ xs) = (n ≡ x) ⊎ In n xs

-- none is there twice
abbrev Apart : List ℕ → Type 0
Apart [] = Unit {0}
Apart (x ∷ xs) = (In x xs → ⊥) × Apart xs

-- a list without one of its numbers
record Without (n : ℕ) (ys : List ℕ) : Type 0 where
  left : List ℕ
  shorter : length ys ≡ suc (length left)
  others : (m : ℕ) → In m ys → m ≢ n → In m left

without : (n : ℕ) (ys : List ℕ) → In n ys → Without n ys
without n [] i = absurd i
without n (y ∷ ys) (inl e) = record {
  left = ys;
  shorter = refl;
  others = λ m i d. elim i [ inl f ↦ absurd (d (f ∙ sym e)) | inr j ↦ j ];
}
without n (y ∷ ys) (inr i) =
    let r = without n ys i in
    record {
      left = y ∷ r.left;
      shorter = ap (λ (k : ℕ). suc k) r.shorter;
      others = λ m j d. elim j [ inl f ↦ inl f | inr k ↦ inr (r.others m k d) ];
    }

fewer : (xs ys : List ℕ) → Apart xs → ((n : ℕ) → In n xs → In n ys) → length xs ≤ length ys
fewer [] ys a h = omega arith
fewer (x ∷ xs) ys a h =
    let r = without x ys (h x (inl refl)) in
    let rest = fewer xs r.left a.1
    (λ n i. r.others n (h n (inr i)) (λ e. a.0 (subst (λ (m : ℕ). In m xs) e i))) in
    omega (arith, rest, r.shorter)

-- ---- the numbers of doublewords

abbrev numbers : List (Option Doubleword) → List ℕ
numbers [] = []
numbers (None ∷ ws) = numbers ws
numbers (Some w ∷ ws) = w.number ∷ numbers ws

numbers_counted : (ws : List (Option Doubleword)) → length (numbers ws) ≡ count_by is_some ws
numbers_counted [] = refl
numbers_counted (None ∷ ws) =
    let e = sum_by-cons (λ (o : Option Doubleword). cond (is_some o) 1 0) None ws in
    omega (arith, e, numbers_counted ws)
numbers_counted (Some w ∷ ws) =
    let e = sum_by-cons (λ (o : Option Doubleword). cond (is_some o) 1 0) (Some w) ws in
    omega (arith, e, numbers_counted ws)

number_in : (ws : List (Option Doubleword)) (i : ℕ) (w : Doubleword) → get_or ws i None ≡ Some w
    → In w.number (numbers ws)
number_in [] i w e = cc
number_in (None ∷ ws) zero w e = cc
number_in (None ∷ ws) (suc i) w e = number_in ws i w e
number_in (Some v ∷ ws) zero w e =
    let same : v ≡ w = cc in
    inl (ap (λ (d : Doubleword). d.number) (sym same))
number_in (Some v ∷ ws) (suc i) w e = inr (number_in ws i w e)

-- where a number stands
record Stands (ws : List (Option Doubleword)) (n : ℕ) : Type 0 where
  at : ℕ
  word : Doubleword
  there : get_or ws at None ≡ Some word
  number : word.number ≡ n

stands : (ws : List (Option Doubleword)) (n : ℕ) → In n (numbers ws) → Stands ws n
stands [] n i = absurd i
stands (None ∷ ws) n i =
    let s = stands ws n i in
    record { at = suc s.at; word = s.word; there = s.there; number = s.number }
stands (Some w ∷ ws) n (inl e) = record { at = 0; word = w; there = refl; number = sym e }
stands (Some w ∷ ws) n (inr i) =
    let s = stands ws n i in
    record { at = suc s.at; word = s.word; there = s.there; number = s.number }

-- one number stands at one place
abbrev AreOnce : List (Option Doubleword) → Type 0
AreOnce ws = (i j : ℕ) (v w : Doubleword) → get_or ws i None ≡ Some v → get_or ws j None ≡ Some w → v.number
    ≡ w.number → i ≡ j

numbers_apart : (ws : List (Option Doubleword)) → AreOnce ws → Apart (numbers ws)
numbers_apart [] h = tt
numbers_apart (None ∷ ws) h = numbers_apart ws (λ i j v w e f n. (
    let same = h (suc i) (suc j) v w e f n in
    omega (arith, same)
    ))
numbers_apart (Some v ∷ ws) h = (
  (λ i. (
      let s = stands ws v.number i in
      let same = h 0 (suc s.at) v s.word refl s.there (sym s.number) in
      absurd (omega (arith, same))
      )),
  numbers_apart ws (λ i j v w e f n. (
      let same = h (suc i) (suc j) v w e f n in
      omega (arith, same)
      )),
)

-- ---- the keys of the index

abbrev keys : List (ℕ × ℕ) → List ℕ
keys [] = []
keys (e ∷ es) = e.0 ∷ keys es

keys_counted : (es : List (ℕ × ℕ)) → length (keys es) ≡ length es
keys_counted [] = refl
keys_counted (e ∷ es) = ap (λ (n : ℕ). suc n) (keys_counted es)

leads : (es : List (ℕ × ℕ)) (n : ℕ) → In n (keys es) → (i : ℕ) × (number_of es n ≡ Some i)
leads [] n i = absurd i
leads (e ∷ es) n i = at (e.0 == n) refl (λ j. leads es n j)
  where
    at : (b : Bool) → (e.0 == n) ≡ b → (In n (keys es) → (i : ℕ) × (number_of es n ≡ Some i))
        → (i : ℕ) × (cond (e.0 == n) (Some e.1) (number_of es n) ≡ Some i)
    at true q rec = (e.1, ap (λ (b : Bool). cond b (Some e.1) (number_of es n)) q)
    at false q rec =
        let r = rec (elim i [ inl f ↦ absurd (clash f q) | inr j ↦ j ]) in
        (r.0, ap (λ (b : Bool). cond b (Some e.1) (number_of es n)) q ∙ r.1)
      where
        clash : n ≡ e.0 → (e.0 == n) ≡ false → ⊥
        clash f q = grind (arith, nat_tests, f, q)

keys_apart : (es : List (ℕ × ℕ)) → AreDistinct es → Apart (keys es)
keys_apart [] d = tt
keys_apart (e ∷ es) d = (
  (λ i. (
      let l = leads es e.0 i in
      let no : None ≡ Some l.0 = sym d.0 ∙ l.1 in
      cc
      )),
  keys_apart es d.1,
)

-- there are at most as many numbers in the index as doublewords
pub index_fits : (words : Slab Doubleword) (index : KeyedEntries) → AreFound words index → AreDistinct index.entries
    → length index.entries ≤ slab_len words
index_fits words index s d =
    let most = fewer (keys index.entries) (numbers words.slots) (keys_apart index.entries d)
    (λ n i. there n (leads index.entries n i)) in
    omega (arith, most, keys_counted index.entries, numbers_counted words.slots)
  where
    there : (n : ℕ) → (i : ℕ) × (number_of index.entries n ≡ Some i) → In n (numbers words.slots)
    there n l =
        let f = s.found n l.0 l.1 in
        subst (λ (m : ℕ). In m (numbers words.slots)) f.2 (number_in words.slots l.0 f.0 f.1)

-- ---- the doublewords of operations

abbrev touched : List (Option KeptOp) → List ℕ
touched [] = []
touched (None ∷ os) = touched os
touched (Some o ∷ os) = o.extent.addr / 8 ∷ ((o.extent.addr + o.extent.len - 1) / 8 ∷ touched os)

touched_counted : (os : List (Option KeptOp)) → length (touched os) ≡ 2 * count_by is_some os
touched_counted [] = refl
touched_counted (None ∷ os) =
    let e = sum_by-cons (λ (o : Option KeptOp). cond (is_some o) 1 0) None os in
    omega (arith, e, touched_counted os)
touched_counted (Some o ∷ os) =
    let e = sum_by-cons (λ (o : Option KeptOp). cond (is_some o) 1 0) (Some o) os in
    omega (arith, e, touched_counted os)

-- the number is that of a doubleword that holds the first or the last byte
abbrev pub Touches : KeptOp → ℕ → Type 0
Touches o n = (n ≡ o.extent.addr / 8) ⊎ (n ≡ (o.extent.addr + o.extent.len - 1) / 8)

touched_in : (os : List (Option KeptOp)) (k : ℕ) (o : KeptOp) (n : ℕ) → get_or os k None ≡ Some o → Touches o n
    → In n (touched os)
touched_in [] k o n e t = cc
touched_in (None ∷ os) zero o n e t = cc
touched_in (None ∷ os) (suc k) o n e t = touched_in os k o n e t
touched_in (Some v ∷ os) zero o n e t =
    let same : v ≡ o = cc in
    elim t [
      | inl f ↦ inl (f ∙ ap (λ (w : KeptOp). w.extent.addr / 8) (sym same))
      | inr f ↦ inr (inl (f ∙ ap (λ (w : KeptOp). (w.extent.addr + w.extent.len - 1) / 8) (sym same)))
    ]
touched_in (Some v ∷ os) (suc k) o n e t = inr (inr (touched_in os k o n e t))

-- each doubleword is one of an operation that is kept
abbrev pub AllTouched : Slab KeptOp → Slab Doubleword → Type 0
AllTouched ops words = (i : ℕ) (word : Doubleword) → get words i ≡ Some word
    → (key : ℕ) × (o : KeptOp) × (get ops key ≡ Some o) × Touches o word.number

-- a byte of an extent is in the doubleword of the first or of the last
pub inside : (extent : Extent) (x : ℕ) → is_among extent.addr extent.len x ≡ true
    → (x / 8 ≡ extent.addr / 8) ⊎ (x / 8 ≡ (extent.addr + extent.len - 1) / 8)
inside extent x e =
    let bounds : (extent.addr ≤ x) × (x < extent.addr + extent.len) = grind (arith, nat_tests, e) in
    cases extent.addr extent.len x extent.sized.1 bounds.0 bounds.1
  where
    cases : (a n x : ℕ) → n ≤ 8 → a ≤ x → x < a + n → (x / 8 ≡ a / 8) ⊎ (x / 8 ≡ (a + n - 1) / 8)
    cases a n x l m k =
        by (x / 8) (a / 8) ((a + n - 1) / 8) (omega (arith, l, m, k)) (omega (arith, l, m, k)) (omega (arith, l, m, k))
      where
        by : (p q r : ℕ) → q ≤ p → p ≤ r → r ≤ q + 1 → (p ≡ q) ⊎ (p ≡ r)
        by p q r l m k = grind (arith, l, m, k)

and_first : (b c : Bool) → (b && c) ≡ true → b ≡ true
and_first true c e = refl
and_first false c e = e

pub byte_inside : (o : KeptOp) (x : ℕ) → holds_byte x o ≡ true → Touches o (x / 8)
byte_inside o x e =
    inside o.extent x (and_first (is_among o.extent.addr o.extent.len x) ((o.mask / 2 ^ (x - o.extent.addr)) % 2 == 1)
    e)

-- a byte of neither doubleword isn't the operation's
pub not_inside : (o : KeptOp) (x : ℕ) → is_number_of o.extent (x / 8) ≡ false → holds_byte x o ≡ false
not_inside o x e = by (holds_byte x o) refl
  where
    apart : (m n p : ℕ) → ((m == n) || (m == p)) ≡ false → (m ≡ n) ⊎ (m ≡ p) → ⊥
    apart m n p e i = grind (arith, nat_tests, e, i)

    by : (b : Bool) → holds_byte x o ≡ b → holds_byte x o ≡ false
    by true q =
        absurd (apart (x / 8) (o.extent.addr / 8) ((o.extent.addr + o.extent.len - 1) / 8) e (byte_inside o x q))
    by false q = q

-- where there is a mark, a key is marked
marked_key : (keys : ByteKeys) → has_a_key keys ≡ true → (key : ℕ) × HasKey keys key
marked_key keys e = by keys.store keys.load keys.other refl refl refl e
  where
    by : (s l o : Option ℕ) → keys.store ≡ s → keys.load ≡ l → keys.other ≡ o
        → (is_some s || is_some l || is_some o) ≡ true → (key : ℕ) × HasKey keys key
    by (Some k) l o p q r e = (k, inl p)
    by None (Some k) o p q r e = (k, inr (inl q))
    by None None (Some k) p q r e = (k, inr (inr r))
    by None None None p q r e = cc

-- the marks of byte k of a doubleword are those at its address
pub keys_there : (words : Slab Doubleword) (index : KeyedEntries) (i k : ℕ) (word : Doubleword)
    → number_at index word.number ≡ Some i → get words i ≡ Some word → k < 8
    → keys_of words index (word.number * 8 + k) ≡ keys_in word k
keys_there words index i k word e f l =
    let number : (word.number * 8 + k) / 8 ≡ word.number = omega (arith, l) in
    let place : (word.number * 8 + k) % 8 ≡ k = omega (arith, l) in
    ap (λ (n : ℕ). keys_of_word (doubleword_of words index n) ((word.number * 8 + k) % 8)) number
    ∙ ap (λ (j : ℕ). keys_of_word (doubleword_of words index word.number) j) place
    ∙ ap (λ (r : Option ℕ). keys_of_word (option_and_then (get words) r) k) e
    ∙ ap (λ (w : Option Doubleword). keys_of_word w k) f

pub all_touched : (ops : Slab KeptOp) (words : Slab Doubleword) (index : KeyedEntries) → AreFound words index
    → AllMarked words → ((x : ℕ) → IsKeptAt (get ops) x (keys_of words index x)) → AllTouched ops words
all_touched ops words index s all kept i word e =
    let m = all i word e in
    let key = marked_key (keys_in word m.0) m.2 in
    let same : keys_of words index (word.number * 8 + m.0) ≡ keys_in word m.0 =
    keys_there words index i m.0 word (s.known i word e) e m.1 in
    let h = kept (word.number * 8 + m.0) key.0 (subst (λ (keys : ByteKeys). HasKey keys key.0) (sym same) key.1) in
    let number : (word.number * 8 + m.0) / 8 ≡ word.number = omega (arith, m.1) in
    (key.0, h.0, h.1, subst (λ (n : ℕ). Touches h.0 n) number (byte_inside h.0 (word.number * 8 + m.0) h.2))

-- there are at most twice as many doublewords as operations
pub words_fit : (ops : Slab KeptOp) (words : Slab Doubleword) (index : KeyedEntries) → AreFound words index
    → AllTouched ops words → slab_len words ≤ 2 * slab_len ops
words_fit ops words index s t =
    let most = fewer (numbers words.slots) (touched ops.slots) (numbers_apart words.slots once)
    (λ n i. there n (stands words.slots n i)) in
    omega (arith, most, numbers_counted words.slots, touched_counted ops.slots)
  where
    once : AreOnce words.slots
    once i j v w e f n =
        let a = s.known i v e in
        let b = s.known j w f in
        let c : Some i ≡ Some j = sym a ∙ ap (number_at index) n ∙ b in
        cc

    there : (n : ℕ) → Stands words.slots n → In n (touched ops.slots)
    there n p =
        let h = t p.at p.word p.there in
        subst (λ (m : ℕ). In m (touched ops.slots)) p.number (touched_in ops.slots h.0 h.1 p.word.number h.2 h.3)
