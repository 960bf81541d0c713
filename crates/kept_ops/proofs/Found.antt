-- A change of the doublewords of an extent.
use Rattle.std.proofs.Common.{ℕ, ◌≡◌, ◌≢◌, ◌⊎◌, inl, inr, ◌+◌, ◌-◌, ◌*◌, ◌/◌, ◌%◌, ◌==◌, ◌||◌, Bool, true, false}
use Rattle.std.proofs.Common.{Option, None, Some, cond}
use Rattle.std.proofs.Common.{refl, sym, ap, subst, ◌∙◌, arith}
use Rattle.std.specs.Option.{option_and_then}
use Rattle.std.proofs.lemmas.Bool.Decides.{nat_tests}
use Rattle.slab.specs.Slab.{Slab, get}
use Rattle.key_tree.specs.Entries.{KeyedEntries, number_at}
use Rattle.tandem_base.specs.declared.extent.Extent.{Extent}
use Rattle.kept_ops.specs.declared.byte_keys.ByteKeys.{ByteKeys}
use Rattle.kept_ops.specs.declared.doubleword.Doubleword.{Doubleword}
use Rattle.kept_ops.specs.Doublewords.{no_keys, keys_in}
use Rattle.kept_ops.specs.Words.{AreFound, IsChanged, keys_of, keys_of_word, changed_in, changed_by}

same_number : (n : ℕ) → (n == n) ≡ true
same_number n = grind (arith, nat_tests)

other_number : (m n : ℕ) → m ≢ n → (m == n) ≡ false
other_number m n d = grind (arith, nat_tests, d)

number_cases : (m n : ℕ) → (m ≡ n) ⊎ (m ≢ n)
number_cases m n = grind arith

-- two numbers that lead to one key are the same
one_number : (words : Slab Doubleword) (index : KeyedEntries) → AreFound words index → (m n i : ℕ)
    → number_at index m ≡ Some i → number_at index n ≡ Some i → m ≡ n
one_number words index s m n i e f =
    let a = s.found m i e in
    let b = s.found n i f in
    let same : Some a.0 ≡ Some b.0 = sym a.1 ∙ b.1 in
    let word : a.0 ≡ b.0 = cc in
    sym a.2 ∙ ap (λ (w : Doubleword). w.number) word ∙ b.2

module _ (words : Slab Doubleword) (index : KeyedEntries) (s : AreFound words index) (number at : ℕ) where
  -- ---- one is changed

  module _ (change : ℕ → ByteKeys → ByteKeys) (new : Slab Doubleword) (there : number_at index number ≡ Some at)
      (c : IsChanged change words new at) where
    was_number : c.was.number ≡ number
    was_number =
        let f = s.found number at there in
        let same : Some c.was ≡ Some f.0 = sym c.there ∙ f.1 in
        let word : c.was ≡ f.0 = cc in
        ap (λ (w : Doubleword). w.number) word ∙ f.2

    changed_keys_at : (x : ℕ) → (x / 8 ≡ number) ⊎ (x / 8 ≢ number)
        → keys_of new index x ≡ changed_in change number x (keys_of words index x)
    changed_keys_at x (inl same) =
        let leads : number_at index (x / 8) ≡ Some at = subst (λ (q : ℕ). number_at index q ≡ Some at) (sym same)
        there in
        let x_is : c.was.number * 8 + x % 8 ≡ x = omega (arith, same, was_number) in
        let old : keys_of words index x ≡ keys_in c.was (x % 8) =
        ap (λ (r : Option ℕ). keys_of_word (option_and_then (get words) r) (x % 8)) leads
        ∙ ap (λ (w : Option Doubleword). keys_of_word w (x % 8)) c.there in
        let now : keys_of new index x ≡ change x (keys_of words index x) =
        ap (λ (r : Option ℕ). keys_of_word (option_and_then (get new) r) (x % 8)) leads
        ∙ ap (λ (w : Option Doubleword). keys_of_word w (x % 8)) c.now
        ∙ c.keys (x % 8) (omega arith)
        ∙ ap (λ (y : ℕ). change y (keys_in c.was (x % 8))) x_is
        ∙ ap (λ (keys : ByteKeys). change x keys) (sym old) in
        now ∙ sym (ap (λ (b : Bool). cond b (change x (keys_of words index x)) (keys_of words index x))
        (subst (λ (q : ℕ). (x / 8 == q) ≡ true) same (same_number (x / 8))))
    changed_keys_at x (inr d) = by (number_at index (x / 8)) refl
      where
        rest : keys_of new index x ≡ keys_of words index x
            → keys_of new index x ≡ changed_in change number x (keys_of words index x)
        rest e = e ∙ sym (ap (λ (b : Bool). cond b (change x (keys_of words index x)) (keys_of words index x))
            (other_number (x / 8) number d))

        away : (i : ℕ) → number_at index (x / 8) ≡ Some i → i ≢ at
        away i e same = d (one_number words index s (x / 8) number at (e ∙ ap (λ (j : ℕ). Some j) same) there)

        by : (r : Option ℕ) → number_at index (x / 8) ≡ r
            → keys_of new index x ≡ changed_in change number x (keys_of words index x)
        by None e = rest (
            ap (λ (r : Option ℕ). keys_of_word (option_and_then (get new) r) (x % 8)) e
            ∙ sym (ap (λ (r : Option ℕ). keys_of_word (option_and_then (get words) r) (x % 8)) e))
        by (Some i) e = rest (
            ap (λ (r : Option ℕ). keys_of_word (option_and_then (get new) r) (x % 8)) e
            ∙ ap (λ (w : Option Doubleword). keys_of_word w (x % 8)) (c.others i (away i e))
            ∙ sym (ap (λ (r : Option ℕ). keys_of_word (option_and_then (get words) r) (x % 8)) e))

    pub changed_keys : (x : ℕ) → keys_of new index x ≡ changed_in change number x (keys_of words index x)
    changed_keys x = changed_keys_at x (number_cases (x / 8) number)

-- ---- one doubleword or two

pub once : (change : ℕ → ByteKeys → ByteKeys) (extent : Extent) (p q x : ℕ) (keys : ByteKeys) → p ≡ extent.addr / 8
    → q ≡ (extent.addr + extent.len - 1) / 8 → q ≡ p → changed_in change p x keys ≡ changed_by change extent x keys
once change extent p q x keys e f same =
    let a : (x / 8 == p) ≡ (x / 8 == extent.addr / 8) = ap (λ (n : ℕ). x / 8 == n) e in
    let b : (x / 8 == p) ≡ (x / 8 == (extent.addr + extent.len - 1) / 8) =
    ap (λ (n : ℕ). x / 8 == n) (sym same ∙ f) in
    either (x / 8 == p) (x / 8 == extent.addr / 8) (x / 8 == (extent.addr + extent.len - 1) / 8) a b
  where
    either : (c d e : Bool) → c ≡ d → c ≡ e → cond c (change x keys) keys ≡ cond (d || e) (change x keys) keys
    either true true e p q = refl
    either true false e p q = cc
    either false true e p q = cc
    either false false true p q = cc
    either false false false p q = refl

pub twice : (change : ℕ → ByteKeys → ByteKeys) (extent : Extent) (p q x : ℕ) (keys : ByteKeys) → p ≡ extent.addr / 8
    → q ≡ (extent.addr + extent.len - 1) / 8 → q ≢ p
    → changed_in change q x (changed_in change p x keys) ≡ changed_by change extent x keys
twice change extent p q x keys e f apart =
    let a : (x / 8 == p) ≡ (x / 8 == extent.addr / 8) = ap (λ (n : ℕ). x / 8 == n) e in
    let b : (x / 8 == q) ≡ (x / 8 == (extent.addr + extent.len - 1) / 8) = ap (λ (n : ℕ). x / 8 == n) f in
    each (x / 8 == p) (x / 8 == q) both
    ∙ ap (λ (c : Bool). cond (c || (x / 8 == q)) (change x keys) keys) a
    ∙ ap (λ (c : Bool). cond ((x / 8 == extent.addr / 8) || c) (change x keys) keys) b
  where
    both : (x / 8 == p) ≡ true → (x / 8 == q) ≡ true → ⊥
    both i j =
        let m : x / 8 ≡ p = grind (arith, nat_tests, i) in
        let n : x / 8 ≡ q = grind (arith, nat_tests, j) in
        apart (sym n ∙ m)

    each : (c d : Bool) → (c ≡ true → d ≡ true → ⊥)
        → cond d (change x (cond c (change x keys) keys)) (cond c (change x keys) keys)
        ≡ cond (c || d) (change x keys) keys
    each true true h = absurd (h refl refl)
    each true false h = refl
    each false true h = refl
    each false false h = refl

-- a number that leads nowhere has no marks that could change
pub unchanged : (change : ℕ → ByteKeys → ByteKeys) (words : Slab Doubleword) (index : KeyedEntries) (number x : ℕ)
    → number_at index number ≡ None → ((y : ℕ) → change y no_keys ≡ no_keys)
    → keys_of words index x ≡ changed_in change number x (keys_of words index x)
unchanged change words index number x none bare = by (x / 8 == number) refl
  where
    by : (b : Bool) → (x / 8 == number) ≡ b
        → keys_of words index x ≡ cond b (change x (keys_of words index x)) (keys_of words index x)
    by true q =
        let same : x / 8 ≡ number = grind (arith, nat_tests, q) in
        let here : number_at index (x / 8) ≡ None = ap (λ (n : ℕ). number_at index n) same ∙ none in
        let empty : keys_of words index x ≡ no_keys =
        ap (λ (r : Option ℕ). keys_of_word (option_and_then (get words) r) (x % 8)) here in
        empty ∙ sym (ap (λ (keys : ByteKeys). change x keys) empty ∙ bare x)
    by false q = refl
