-- Marks, as operations.
use Rattle.std.proofs.Common.{ℕ, ◌≡◌, ◌≢◌, ◌==◌, ◌&&◌, ◌⊎◌, inl, inr, Bool, true, false, Option, None, Some, cond}
use Rattle.std.proofs.Common.{refl, sym, ap, subst, ◌∙◌, arith}
use Rattle.std.proofs.lemmas.Bool.Decides.{nat_tests}
use Rattle.slab.specs.Slab.{Slab, get, Updates}
use Rattle.tandem_base.specs.declared.extent.Extent.{Extent}
use Rattle.tandem_base.specs.declared.names.Position.{Position}
use Rattle.tandem_base.specs.Extents.{is_among}
use Rattle.tandem_base.specs.Places.{comes_before}
use Rattle.rvwmo_model.specs.Order.{kind_loads, kind_stores}
use Rattle.rvwmo_model.specs.Tests.{same_origin}
use Rattle.kept_ops.specs.declared.byte_keys.ByteKeys.{ByteKeys}
use Rattle.kept_ops.specs.declared.operation.KeptOp.{KeptOp}
use Rattle.kept_ops.specs.Doublewords.{keys_with, keys_without, keys_closed, op_at, marks_of, later_key}
use Rattle.kept_ops.specs.Doublewords.{other_key, other_key_beside, gives_way, without_key, HasKey, IsKeptAt, IsKeptOp}
use Rattle.kept_ops.specs.Marks.{ByteMarks, later_op, other_with, marks_with, marks_closed, staying, marks_staying}
use Rattle.kept_ops.specs.Operations.{holds_byte, loads_at, stores_at, source_at}
use Rattle.kept_ops.specs.Tables.{op_stays}

abbrev marks_are : Option KeptOp → Option KeptOp → Option KeptOp → ByteMarks
marks_are s l o = record { store = s; load = l; other = o }

same_marks : (a b c d e f : Option KeptOp) → a ≡ d → b ≡ e → c ≡ f → marks_are a b c ≡ marks_are d e f
same_marks a b c d e f p q r =
    ap (λ (z : Option KeptOp). marks_are z b c) p ∙ ap (λ (z : Option KeptOp). marks_are d z c) q
    ∙ ap (λ (z : Option KeptOp). marks_are d e z) r

-- each key that a mark may be is of an operation that has the byte
abbrev AreHeldIn : (ℕ → Option KeptOp) → ℕ → Option ℕ → Type 0
AreHeldIn at x m = (k : ℕ) → m ≡ Some k → IsKeptOp at x k

held_by : (at : ℕ → Option KeptOp) (x : ℕ) (keys : ByteKeys) → AreHeldIn at x keys.store → AreHeldIn at x keys.load
    → AreHeldIn at x keys.other → IsKeptAt at x keys
held_by at x keys s l o = λ k i. elim i [
  | inl e ↦ s k e
  | inr j ↦ elim j [
    | inl e ↦ l k e
    | inr e ↦ o k e
  ]
]

and_second : (b c : Bool) → (b && c) ≡ true → c ≡ true
and_second true c e = e
and_second false c e = cc

number_cases : (m n : ℕ) → (m ≡ n) ⊎ (m ≢ n)
number_cases m n = grind arith

-- ---- an operation is kept

module _ (ops more : Slab KeptOp) (key : ℕ) (o : KeptOp) (n : get ops key ≡ None) (u : Updates ops more key (Some o))
    (x : ℕ) where
  there_more : (k : ℕ) (v : KeptOp) → get ops k ≡ Some v → get more k ≡ Some v
  there_more k v e = u.others k (λ same. (
      let none : None ≡ Some v = sym n ∙ subst (λ (j : ℕ). get ops j ≡ Some v) same e in
      cc
      )) ∙ e

  op_same : (m : Option ℕ) → AreHeldIn (get ops) x m → op_at (get more) m ≡ op_at (get ops) m
  op_same None h = refl
  op_same (Some k) h =
      let v = h k refl in
      there_more k v.0 v.1 ∙ sym v.1

  later_is : (m : Option ℕ) → AreHeldIn (get ops) x m
      → op_at (get more) (later_key (get more) m key o) ≡ later_op (op_at (get ops) m) o
  later_is None h = u.changed
  later_is (Some k) h =
      let v = h k refl in
      let there : get more k ≡ Some v.0 = there_more k v.0 v.1 in
      ap (λ (w : Option KeptOp). op_at (get more) (cond (gives_way w o) (Some key) (Some k))) there
      ∙ by v.0 there (comes_before v.0.place o.place)
      ∙ sym (ap (λ (w : Option KeptOp). later_op w o) v.1)
    where
      by : (v : KeptOp) → get more k ≡ Some v → (b : Bool)
          → op_at (get more) (cond b (Some key) (Some k)) ≡ cond b (Some o) (Some v)
      by v there true = u.changed
      by v there false = there

  other_is : (load other : Option ℕ) → AreHeldIn (get ops) x load → AreHeldIn (get ops) x other
      → op_at (get more) (other_key (get more) x load other key o)
      ≡ other_with x o (op_at (get ops) load) (op_at (get ops) other)
  other_is None other h i = op_same other i
  other_is (Some k) other h i =
      let v = h k refl in
      let there : get more k ≡ Some v.0 = there_more k v.0 v.1 in
      ap (λ (w : Option KeptOp). op_at (get more) (other_key_beside (get more) x w k other key o)) there
      ∙ by v.0 there (same_origin (source_at x v.0) (source_at x o)) (comes_before v.0.place o.place)
      ∙ sym (ap (λ (w : Option KeptOp). other_with x o w (op_at (get ops) other)) v.1)
    where
      by : (v : KeptOp) → get more k ≡ Some v → (a b : Bool)
          → op_at (get more) (cond a other (cond b (Some k) (later_key (get more) other key o)))
          ≡ cond a (op_at (get ops) other) (cond b (Some v) (later_op (op_at (get ops) other) o))
      by v there true b = op_same other i
      by v there false true = there
      by v there false false = later_is other i

  if_is : (b : Bool) (m m' : Option ℕ) (p q : Option KeptOp) → op_at (get more) m ≡ p → op_at (get more) m' ≡ q
      → op_at (get more) (cond b m m') ≡ cond b p q
  if_is true m m' p q e f = e
  if_is false m m' p q e f = f

  pub marks_more : (keys : ByteKeys) → IsKeptAt (get ops) x keys
      → marks_of (get more) (keys_with (get more) x key o keys) ≡ marks_with x o (marks_of (get ops) keys)
  unfolding keys_with
  marks_more keys h =
      let s : AreHeldIn (get ops) x keys.store = λ k e. h k (inl e) in
      let l : AreHeldIn (get ops) x keys.load = λ k e. h k (inr (inl e)) in
      let t : AreHeldIn (get ops) x keys.other = λ k e. h k (inr (inr e)) in
      same_marks _ _ _ _ _ _
      (if_is (stores_at x o) (later_key (get more) keys.store key o) keys.store _ _ (later_is keys.store s)
      (op_same keys.store s))
      (if_is (loads_at x o) (later_key (get more) keys.load key o) keys.load _ _ (later_is keys.load l)
      (op_same keys.load l))
      (if_is (loads_at x o) (other_key (get more) x keys.load keys.other key o) keys.other _ _
      (other_is keys.load keys.other l t) (op_same keys.other t))

  -- the new marks are held

  still : (m : Option ℕ) → AreHeldIn (get ops) x m → AreHeldIn (get more) x m
  still m h = λ k e. (
      let v = h k e in
      (v.0, there_more k v.0 v.1, v.2)
      )

  mine : holds_byte x o ≡ true → AreHeldIn (get more) x (Some key)
  mine h = λ k e. (
      let same : key ≡ k = cc in
      (o, subst (λ (j : ℕ). get more j ≡ Some o) same u.changed, h)
      )

  chosen : (b : Bool) (m m' : Option ℕ) → AreHeldIn (get more) x m → AreHeldIn (get more) x m'
      → AreHeldIn (get more) x (cond b m m')
  chosen true m m' h i = h
  chosen false m m' h i = i

  later_held : (m : Option ℕ) → AreHeldIn (get more) x m → AreHeldIn (get more) x (Some key)
      → AreHeldIn (get more) x (later_key (get more) m key o)
  later_held None h i = i
  later_held (Some k) h i = chosen (gives_way (get more k) o) (Some key) (Some k) i h

  other_held : (load other : Option ℕ) → AreHeldIn (get more) x load → AreHeldIn (get more) x other
      → AreHeldIn (get more) x (Some key) → AreHeldIn (get more) x (other_key (get more) x load other key o)
  other_held None other l h i = h
  other_held (Some k) other l h i = by (get more k)
    where
      by : (w : Option KeptOp) → AreHeldIn (get more) x (other_key_beside (get more) x w k other key o)
      by None = h
      by (Some v) =
          chosen (same_origin (source_at x v) (source_at x o)) other
          (cond (comes_before v.place o.place) (Some k) (later_key (get more) other key o)) h
          (chosen (comes_before v.place o.place) (Some k) (later_key (get more) other key o) l (later_held other h i))

  where_so : (b : Bool) (m m' : Option ℕ) → (b ≡ true → AreHeldIn (get more) x m) → AreHeldIn (get more) x m'
      → AreHeldIn (get more) x (cond b m m')
  where_so true m m' h i = h refl
  where_so false m m' h i = i

  pub held_more : (keys : ByteKeys) → IsKeptAt (get ops) x keys
      → IsKeptAt (get more) x (keys_with (get more) x key o keys)
  unfolding keys_with
  held_more keys h =
      let s : AreHeldIn (get more) x keys.store = still keys.store (λ k e. h k (inl e)) in
      let l : AreHeldIn (get more) x keys.load = still keys.load (λ k e. h k (inr (inl e))) in
      let t : AreHeldIn (get more) x keys.other = still keys.other (λ k e. h k (inr (inr e))) in
      held_by (get more) x (keys_with (get more) x key o keys)
      (where_so (stores_at x o) (later_key (get more) keys.store key o) keys.store
      (λ e. later_held keys.store s (mine (and_second (kind_stores o.kind) (holds_byte x o) e))) s)
      (where_so (loads_at x o) (later_key (get more) keys.load key o) keys.load
      (λ e. later_held keys.load l (mine (and_second (kind_loads o.kind) (holds_byte x o) e))) l)
      (where_so (loads_at x o) (other_key (get more) x keys.load keys.other key o) keys.other
      (λ e. other_held keys.load keys.other l t (mine (and_second (kind_loads o.kind) (holds_byte x o) e))) t)

-- ---- an operation is let go

module _ (ops left : Slab KeptOp) (key : ℕ) (u : Updates ops left key None) (x : ℕ) where
  without_held : (m : Option ℕ) → AreHeldIn (get ops) x m → AreHeldIn (get left) x (without_key key m)
  without_held None h = λ k e. cc
  without_held (Some j) h = by (j == key) refl
    where
      by : (b : Bool) → (j == key) ≡ b → AreHeldIn (get left) x (cond b None (Some j))
      by true q = λ k e. cc
      by false q = λ k e. (
          let v = h k e in
          let same : j ≡ k = cc in
          let apart : k ≢ key = grind (arith, nat_tests, q, same) in
          (v.0, u.others k apart ∙ v.1, v.2)
          )

  pub held_without : (keys : ByteKeys) → IsKeptAt (get ops) x keys → IsKeptAt (get left) x (keys_without key keys)
  unfolding keys_without
  held_without keys h =
      held_by (get left) x (keys_without key keys) (without_held keys.store (λ k e. h k (inl e)))
      (without_held keys.load (λ k e. h k (inr (inl e)))) (without_held keys.other (λ k e. h k (inr (inr e))))

  module _ (oldest : Option Position) (o : KeptOp) (there : get ops key ≡ Some o) (goes : op_stays oldest o ≡ false)
    where
      staying_is : (m : Option ℕ)
          → staying oldest (op_at (get left) (without_key key m)) ≡ staying oldest (op_at (get ops) m)
      staying_is None = refl
      staying_is (Some j) = by (j == key) refl
        where
          by : (b : Bool) → (j == key) ≡ b
              → staying oldest (op_at (get left) (cond b None (Some j))) ≡ staying oldest (get ops j)
          by true q =
              let same : j ≡ key = grind (arith, nat_tests, q) in
              let is : get ops j ≡ Some o = subst (λ (k : ℕ). get ops k ≡ Some o) (sym same) there in
              sym (ap (λ (w : Option KeptOp). staying oldest w) is
              ∙ ap (λ (b : Bool). cond b (Some o) None) goes)
          by false q =
              let apart : j ≢ key = grind (arith, nat_tests, q) in
              ap (λ (w : Option KeptOp). staying oldest w) (u.others j apart)

      pub marks_left : (keys : ByteKeys) → marks_staying oldest (marks_of (get left) (keys_without key keys))
          ≡ marks_staying oldest (marks_of (get ops) keys)
      unfolding keys_without
      marks_left keys =
          same_marks _ _ _ _ _ _ (staying_is keys.store) (staying_is keys.load) (staying_is keys.other)

-- where each operation stays, so does each mark
module _ (oldest : Option Position) (at : ℕ → Option KeptOp) (all : (k : ℕ) (v : KeptOp) → at k ≡ Some v
    → op_stays oldest v ≡ true) where
  all_staying : (m : Option ℕ) → staying oldest (op_at at m) ≡ op_at at m
  all_staying None = refl
  all_staying (Some k) = by (at k) (λ v e. all k v e)
    where
      by : (w : Option KeptOp) → ((v : KeptOp) → w ≡ Some v → op_stays oldest v ≡ true) → staying oldest w ≡ w
      by None h = refl
      by (Some v) h = ap (λ (b : Bool). cond b (Some v) None) (h v refl)

  pub marks_all : (keys : ByteKeys) → marks_staying oldest (marks_of at keys) ≡ marks_of at keys
  marks_all keys = same_marks _ _ _ _ _ _ (all_staying keys.store) (all_staying keys.load) (all_staying keys.other)

-- ---- a store retires

pub marks_when_closed : (at : ℕ → Option KeptOp) (extent : Extent) (x : ℕ) (keys : ByteKeys)
    → marks_of at (keys_closed extent x keys) ≡ marks_closed extent x (marks_of at keys)
marks_when_closed at extent x keys = by (is_among extent.addr extent.len x)
  where
    by : (b : Bool) → marks_of at (cond b (record { store = keys.store; load = None; other = None }) keys)
        ≡ cond b (record { store = op_at at keys.store; load = None; other = None }) (marks_of at keys)
    by true = refl
    by false = refl

pub held_closed : (at : ℕ → Option KeptOp) (extent : Extent) (x : ℕ) (keys : ByteKeys) → IsKeptAt at x keys
    → IsKeptAt at x (keys_closed extent x keys)
held_closed at extent x keys h = by (is_among extent.addr extent.len x)
  where
    by : (b : Bool) → IsKeptAt at x (cond b (record { store = keys.store; load = None; other = None }) keys)
    by true = λ k i. elim i [
      | inl e ↦ h k (inl e)
      | inr j ↦ elim j [
        | inl e ↦ cc
        | inr e ↦ cc
      ]
    ]
    by false = h

-- ---- bytes of no doubleword of the operation

none_marked : (key : ℕ) (m : Option ℕ) → m ≢ Some key → without_key key m ≡ m
none_marked key None d = refl
none_marked key (Some j) d = by (j == key) refl
  where
    by : (b : Bool) → (j == key) ≡ b → cond b None (Some j) ≡ Some j
    by true q =
        let same : j ≡ key = grind (arith, nat_tests, q) in
        absurd (d (ap (λ (k : ℕ). Some k) same))
    by false q = refl

abbrev keys_are : Option ℕ → Option ℕ → Option ℕ → ByteKeys
keys_are s l o = record { store = s; load = l; other = o }

same_keys : (a b c d e f : Option ℕ) → a ≡ d → b ≡ e → c ≡ f → keys_are a b c ≡ keys_are d e f
same_keys a b c d e f p q r =
    ap (λ (z : Option ℕ). keys_are z b c) p ∙ ap (λ (z : Option ℕ). keys_are d z c) q
    ∙ ap (λ (z : Option ℕ). keys_are d e z) r

pub without_absent : (key : ℕ) (keys : ByteKeys) → (HasKey keys key → ⊥) → keys_without key keys ≡ keys
unfolding keys_without
without_absent key keys d =
    same_keys _ _ _ _ _ _ (none_marked key keys.store (λ e. d (inl e)))
    (none_marked key keys.load (λ e. d (inr (inl e)))) (none_marked key keys.other (λ e. d (inr (inr e))))

and_false : (b c : Bool) → c ≡ false → (b && c) ≡ false
and_false true c e = e
and_false false c e = refl

pub with_elsewhere : (at : ℕ → Option KeptOp) (x key : ℕ) (o : KeptOp) (keys : ByteKeys) → holds_byte x o ≡ false
    → keys_with at x key o keys ≡ keys
unfolding keys_with
with_elsewhere at x key o keys e =
    let s : stores_at x o ≡ false = and_false (kind_stores o.kind) (holds_byte x o) e in
    let l : loads_at x o ≡ false = and_false (kind_loads o.kind) (holds_byte x o) e in
    same_keys _ _ _ _ _ _ (ap (λ (b : Bool). cond b (later_key at keys.store key o) keys.store) s)
    (ap (λ (b : Bool). cond b (later_key at keys.load key o) keys.load) l)
    (ap (λ (b : Bool). cond b (other_key at x keys.load keys.other key o) keys.other) l)
