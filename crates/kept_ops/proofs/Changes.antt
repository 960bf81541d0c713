-- What the calls make of the marks.
use Rattle.std.proofs.Common.{ℕ, ◌≡◌, ◌+◌, ◌-◌, ◌*◌, ◌/◌, ◌%◌, ◌<◌, ◌≤◌, ◌==◌, ◌||◌, ◌⊎◌, Bool, true, false}
use Rattle.std.proofs.Common.{Option, None, Some, cond, get_or, refl, sym, ap, subst, ◌∙◌, arith}
use Rattle.std.proofs.lemmas.Bool.{both_ways}
use Rattle.std.proofs.lemmas.Bool.Decides.{nat_tests}
use Rattle.slab.specs.Slab.{Slab, get, slab_len, Updates}
use Rattle.tandem_base.specs.declared.extent.Extent.{Extent}
use Rattle.tandem_base.specs.declared.names.Position.{Position}
use Rattle.tandem_base.specs.Extents.{is_among}
use Rattle.kept_ops.specs.declared.byte_keys.ByteKeys.{ByteKeys}
use Rattle.kept_ops.specs.declared.operation.KeptOp.{KeptOp}
use Rattle.kept_ops.specs.declared.words.Words.{Words}
use Rattle.kept_ops.specs.Doublewords.{keys_with, keys_without, keys_closed, marks_of, marked_words, IsKeptAt}
use Rattle.kept_ops.specs.Marks.{ByteMarks, no_marks, marks_with, marks_closed, marks_staying}
use Rattle.kept_ops.specs.Operations.{holds_byte}
use Rattle.kept_ops.specs.Tables.{bytes_beside, op_stays}
use Rattle.kept_ops.specs.Words.{keys_at, changed_by, is_number_of, AreMarked}
use Rattle.kept_ops.proofs.Fits.{inside, not_inside, all_touched, words_fit}
use Rattle.kept_ops.proofs.Marked.{marks_more, held_more, held_without, marks_left, marks_all, marks_when_closed}
use Rattle.kept_ops.proofs.Marked.{held_closed, without_absent, with_elsewhere}
use Rattle.kept_ops.proofs.Seen.{marks_seen}

-- the marks of the value
abbrev pub seen : (ℕ → Option KeptOp) → Words → ℕ → ByteMarks
seen at w x = get_or (bytes_beside (marked_words at w.words w.index.entries) (x / 8)) (x % 8) no_marks

-- a change that changes nothing beside the extent's doublewords is made everywhere
everywhere : (change : ℕ → ByteKeys → ByteKeys) (extent : Extent) (x : ℕ) (keys : ByteKeys)
    → (is_number_of extent (x / 8) ≡ false → change x keys ≡ keys) → changed_by change extent x keys ≡ change x keys
everywhere change extent x keys h = by (is_number_of extent (x / 8)) refl
  where
    by : (b : Bool) → is_number_of extent (x / 8) ≡ b → cond b (change x keys) keys ≡ change x keys
    by true e = refl
    by false e = sym (h e)

-- ---- one is kept

module _ (ops more : Slab KeptOp) (old new : Words) (key : ℕ) (o : KeptOp) (n : get ops key ≡ None)
    (u : Updates ops more key (Some o)) (h : AreMarked ops old) (same : (x : ℕ) → keys_at new x
    ≡ changed_by (λ x keys. keys_with (get more) x key o keys) o.extent x (keys_at old x)) where
  new_keys : (x : ℕ) → keys_at new x ≡ keys_with (get more) x key o (keys_at old x)
  new_keys x = same x
      ∙ everywhere (λ x keys. keys_with (get more) x key o keys) o.extent x (keys_at old x)
      (λ e. with_elsewhere (get more) x key o (keys_at old x) (not_inside o x e))

  pub kept_kept : (x : ℕ) → IsKeptAt (get more) x (keys_at new x)
  kept_kept x = subst (λ (keys : ByteKeys). IsKeptAt (get more) x keys) (sym (new_keys x))
      (held_more ops more key o n u x (keys_at old x) (h.kept x))

  pub kept_marks : (x : ℕ) → seen (get more) new x ≡ marks_with x o (seen (get ops) old x)
  kept_marks x = marks_seen (get more) new.words new.index x
      ∙ ap (λ (keys : ByteKeys). marks_of (get more) keys) (new_keys x)
      ∙ marks_more ops more key o n u x (keys_at old x) (h.kept x)
      ∙ ap (λ (m : ByteMarks). marks_with x o m) (sym (marks_seen (get ops) old.words old.index x))

-- there is room for the doublewords of one more
pub room_for_two : (ops : Slab KeptOp) (w : Words) (capacity n : ℕ) → AreMarked ops w → slab_len ops < capacity
    → 2 * capacity ≤ n → slab_len w.words + 2 ≤ n
room_for_two ops w capacity n h l m =
    let fit = words_fit ops w.words w.index h.found (all_touched ops w.words w.index h.found h.marked h.kept) in
    omega (arith, fit, l, m)

-- ---- one is let go

module _ (ops left : Slab KeptOp) (old new : Words) (key : ℕ) (o : KeptOp) (there : get ops key ≡ Some o)
    (u : Updates ops left key None) (h : AreMarked ops old) (same : (x : ℕ) → keys_at new x
    ≡ changed_by (λ x keys. keys_without key keys) o.extent x (keys_at old x)) where
  keys_left : (x : ℕ) → keys_at new x ≡ keys_without key (keys_at old x)
  keys_left x = same x
      ∙ everywhere (λ x keys. keys_without key keys) o.extent x (keys_at old x)
      (λ e. without_absent key (keys_at old x) (λ i. absent e (h.kept x key i)))
    where
      absent : is_number_of o.extent (x / 8) ≡ false
          → (v : KeptOp) × (get ops key ≡ Some v) × (holds_byte x v ≡ true) → ⊥
      absent e v =
          let same : Some o ≡ Some v.0 = sym there ∙ v.1 in
          let one : o ≡ v.0 = cc in
          both_ways (holds_byte x o) (not_inside o x e) (subst (λ (w : KeptOp). holds_byte x w ≡ true) (sym one) v.2)

  pub left_kept : (x : ℕ) → IsKeptAt (get left) x (keys_at new x)
  left_kept x = subst (λ (keys : ByteKeys). IsKeptAt (get left) x keys) (sym (keys_left x))
      (held_without ops left key u x (keys_at old x) (h.kept x))

  pub left_marks : (oldest : Option Position) → op_stays oldest o ≡ false → (x : ℕ)
      → marks_staying oldest (marks_of (get left) (keys_at new x))
      ≡ marks_staying oldest (marks_of (get ops) (keys_at old x))
  left_marks oldest goes x =
      ap (λ (keys : ByteKeys). marks_staying oldest (marks_of (get left) keys)) (keys_left x)
      ∙ marks_left ops left key u x oldest o there goes (keys_at old x)

pub pruned_marks : (ops left : Slab KeptOp) (old new : Words) (oldest : Option Position)
    → ((x : ℕ) → marks_of (get left) (keys_at new x) ≡ marks_staying oldest (marks_of (get ops) (keys_at old x)))
    → (x : ℕ) → seen (get left) new x ≡ marks_staying oldest (seen (get ops) old x)
pruned_marks ops left old new oldest same x = marks_seen (get left) new.words new.index x
    ∙ same x
    ∙ ap (λ (m : ByteMarks). marks_staying oldest m) (sym (marks_seen (get ops) old.words old.index x))

-- where all stay, the marks are those that stay
pub marks_at_end : (oldest : Option Position) (ops : Slab KeptOp) (w : Words) (was : ℕ → ByteMarks)
    → ((key : ℕ) (o : KeptOp) → get ops key ≡ Some o → op_stays oldest o ≡ true)
    → ((x : ℕ) → marks_staying oldest (marks_of (get ops) (keys_at w x)) ≡ marks_staying oldest (was x))
    → (x : ℕ) → marks_of (get ops) (keys_at w x) ≡ marks_staying oldest (was x)
marks_at_end oldest ops w was all same x = sym (marks_all oldest (get ops) all (keys_at w x)) ∙ same x

-- ---- a store retires

module _ (ops : Slab KeptOp) (old new : Words) (extent : Extent) (h : AreMarked ops old)
    (same : (x : ℕ) → keys_at new x ≡ changed_by (λ x keys. keys_closed extent x keys) extent x (keys_at old x)) where
  keys_then : (x : ℕ) → keys_at new x ≡ keys_closed extent x (keys_at old x)
  keys_then x = same x
      ∙ everywhere (λ x keys. keys_closed extent x keys) extent x (keys_at old x)
      (λ e. ap (λ (b : Bool). cond b (record { store = (keys_at old x).store; load = None; other = None })
      (keys_at old x))
      (outside (is_among extent.addr extent.len x) refl e))
    where
      apart : (m n p : ℕ) → ((m == n) || (m == p)) ≡ false → (m ≡ n) ⊎ (m ≡ p) → ⊥
      apart m n p e i = grind (arith, nat_tests, e, i)

      outside : (b : Bool) → is_among extent.addr extent.len x ≡ b → is_number_of extent (x / 8) ≡ false
          → is_among extent.addr extent.len x ≡ false
      outside true q e =
          absurd (apart (x / 8) (extent.addr / 8) ((extent.addr + extent.len - 1) / 8) e (inside extent x q))
      outside false q e = q

  pub closed_kept : (x : ℕ) → IsKeptAt (get ops) x (keys_at new x)
  closed_kept x = subst (λ (keys : ByteKeys). IsKeptAt (get ops) x keys) (sym (keys_then x))
      (held_closed (get ops) extent x (keys_at old x) (h.kept x))

  pub closed_marks : (x : ℕ) → seen (get ops) new x ≡ marks_closed extent x (seen (get ops) old x)
  closed_marks x = marks_seen (get ops) new.words new.index x
      ∙ ap (λ (keys : ByteKeys). marks_of (get ops) keys) (keys_then x)
      ∙ marks_when_closed (get ops) extent x (keys_at old x)
      ∙ ap (λ (m : ByteMarks). marks_closed extent x m) (sym (marks_seen (get ops) old.words old.index x))
