-- What searches through lists and addresses find.
use Rattle.std.proofs.Common.{ℕ, zero, suc, ◌+◌, ◌<◌, ◌≤◌, ◌≡◌, ◌⊎◌, inl, inr, Bool, true, false, not, List, []}
use Rattle.std.proofs.Common.{◌∷◌}
use Rattle.std.proofs.Common.{cond, Option, Some, None, refl, sym, ap, subst, ◌∙◌, arith}
use Rattle.std.specs.Bool.{Decides}
use Rattle.std.specs.List.{Contains, filter, list_any}
use Rattle.std.proofs.lemmas.Bool.{cases_Bool, cases_order, both_ways, or_cases, or_left, or_right, and_parts}
use Rattle.rvwmo_model.specs.declared.operations.Op.{Op}
use Rattle.tandem_base.specs.Extents.{is_among}
use Rattle.rvwmo_model.proofs.Extents.{bounds_of}
use Rattle.rvwmo_model.specs.Order.{named_before, has_byte}
use Rattle.rvwmo_model.specs.Search.{some_at, first_at, or_address, some_byte, first_byte, better_of, best_from}
use Rattle.rvwmo_model.specs.Answer.{is_named_first, least_of}
use Rattle.rvwmo_model.proofs.Membership.{nothing_in, head_in, tail_in, first_in, in_cases, in_filter, from_filter}
use Rattle.rvwmo_model.proofs.Orders.{name_self, name_asym, not_name_trans}

-- some element passes
pub some_is : {X : Type 0} (p : X → Bool) (xs : List X)
    → Decides (list_any p xs) ((x : X) × Contains xs x × (p x ≡ true))
some_is p [] = ((λ e. absurd (both_ways false refl e)), λ h. absurd (nothing_in h.0 h.1))
some_is p (y ∷ ys) = (
  (λ e. elim (or_cases (p y) (list_any p ys) e) [
    | inl a ↦ (y, head_in y ys, a)
    | inr b ↦ let h = (some_is p ys).0 b in
        (h.0, tail_in y ys h.0 h.1, h.2)
  ]),
  λ h. elim (in_cases y ys h.0 h.1) [
    | inl q ↦ or_left (p y) (list_any p ys) (ap p (sym q) ∙ h.2)
    | inr i ↦ or_right
        (p y) (list_any p ys) ((some_is p ys).1 (h.0, i, h.2))
  ],
)

-- what isn't true is false
pub not_true : (b : Bool) → (b ≡ true → ⊥) → b ≡ false
not_true b f = elim (cases_Bool b) [ inl t ↦ absurd (f t) | inr e ↦ e ]

pub not_false : (b : Bool) → not b ≡ true → b ≡ false
not_false true e = absurd (both_ways false refl e)
not_false false e = refl

-- ---- addresses

abbrev pub Within : (ℕ → Bool) → ℕ → ℕ → Type 0
Within p addr n = (x : ℕ) × (addr ≤ x) × (x < addr + n) × (p x ≡ true)

within_more : (p : ℕ → Bool) (addr n : ℕ) → Within p addr (suc n) → Within p addr n ⊎ (p (addr + n) ≡ true)
within_more p addr n h = elim (cases_order h.0 (addr + n)) [
  | inl e ↦ inr (subst (λ (x : ℕ). p x ≡ true) e h.3)
  | inr o ↦ elim o [ inl l ↦ inl (h.0, h.1, l, h.3) | inr l ↦ absurd (let u : h.0 < addr + suc n = h.2 in omega arith) ]
]

pub some_at_is : (p : ℕ → Bool) (addr n : ℕ) → Decides (some_at p addr n) (Within p addr n)
unfolding some_at
some_at_is p addr zero =
    ((λ e. absurd (both_ways false refl e)), λ h. absurd (let a = h.1 in let b = h.2 in omega arith))
some_at_is p addr (suc n) = (
  (λ e. elim (or_cases (some_at p addr n) (p (addr + n)) e) [
    | inl a ↦ let h = (some_at_is p addr n).0 a in (h.0, h.1, (let b = h.2 in omega arith), h.3)
    | inr b ↦ (addr + n, omega arith, omega arith, b)
  ]),
  λ h. elim (within_more p addr n h) [
    | inl a ↦ or_left (some_at p addr n) (p (addr + n))
        ((some_at_is p addr n).1 a)
    | inr b ↦ or_right (some_at p addr n) (p (addr + n)) b
  ],
)

-- the lowest address that passes
pub record IsFirst (p : ℕ → Bool) (addr n x : ℕ) : Type 0 where
  pub low : addr ≤ x
  pub high : x < addr + n
  pub passes : p x ≡ true
  pub first : (y : ℕ) → addr ≤ y → p y ≡ true → x ≤ y

abbrev FirstIs : (ℕ → Bool) → ℕ → ℕ → Option ℕ → Type 0
FirstIs p addr n None = Within p addr n → ⊥
FirstIs p addr n (Some x) = IsFirst p addr n x

first_more : (p : ℕ → Bool) (addr n : ℕ) (o : Option ℕ) → FirstIs p addr n o
    → FirstIs p addr (suc n) (or_address o (p (addr + n)) (addr + n))
first_more p addr n (Some x) f =
    record { low = f.low; high = (let b = f.high in omega arith); passes = f.passes; first = f.first }
first_more p addr n None f = at (p (addr + n)) refl
  where
    at : (b : Bool) → p (addr + n) ≡ b → FirstIs p addr (suc n) (cond b (Some (addr + n)) None)
    at false e = λ h. elim (within_more p addr n h) [ inl a ↦ f a | inr b ↦ both_ways _ e b ]
    at true e = record {
      low = omega arith;
      high = omega arith;
      passes = e;
      first = λ y l q. elim (cases_order y (addr + n)) [
        | inl s ↦ omega arith
        | inr o ↦ elim o [ inl less ↦ absurd (f (y, l, less, q)) | inr more ↦ omega arith ]
      ];
    }

pub first_at_is : (p : ℕ → Bool) (addr n : ℕ) → FirstIs p addr n (first_at p addr n)
unfolding first_at
first_at_is p addr zero = λ h. (let a = h.1 in let b = h.2 in omega arith)
first_at_is p addr (suc n) = first_more p addr n (first_at p addr n) (first_at_is p addr n)

-- ---- bytes

-- a byte of an operation lies in its extent
pub covered : (o : Op) (x : ℕ) → has_byte x o ≡ true → (o.extent.addr ≤ x) × (x < o.extent.addr + o.extent.len)
covered o x q = bounds_of o.extent x (and_parts (is_among o.extent.addr o.extent.len x) _ q).0

-- what passes is a byte of the operation
abbrev pub OfOp : (ℕ → Bool) → Op → Type 0
OfOp p o = (x : ℕ) → p x ≡ true → has_byte x o ≡ true

pub some_byte_is : (p : ℕ → Bool) (o : Op) → OfOp p o → Decides (some_byte p o) ((x : ℕ) × (p x ≡ true))
some_byte_is p o own = (
  (λ e. let h = (some_at_is p o.extent.addr o.extent.len).0 e in (h.0, h.3)),
  λ h. let c = covered o h.0 (own h.0 h.1) in (some_at_is p o.extent.addr o.extent.len).1 (h.0, c.0, c.1, h.1),
)

pub first_byte_is : (p : ℕ → Bool) (o : Op) (x : ℕ) → OfOp p o → first_byte p o ≡ Some x → (p x ≡ true)
    × ((y : ℕ) → p y ≡ true → x ≤ y)
first_byte_is p o x own e =
    let f : IsFirst p o.extent.addr o.extent.len x =
    subst (FirstIs p o.extent.addr o.extent.len) e (first_at_is p o.extent.addr o.extent.len) in
    (f.passes, λ y q. f.first y (covered o y (own y q)).0 q)

pub first_byte_none : (p : ℕ → Bool) (o : Op) → OfOp p o → first_byte p o ≡ None → (y : ℕ) → p y ≡ true → ⊥
first_byte_none p o own e y q =
    let f : Within p o.extent.addr o.extent.len → ⊥ =
    subst (FirstIs p o.extent.addr o.extent.len) e (first_at_is p o.extent.addr o.extent.len) in
    let c = covered o y (own y q) in
    f (y, c.0, c.1, q)

-- ---- the best

-- a strict order, by a test
pub record IsOrder {X : Type 0} (better : X → X → Bool) : Type 0 where
  pub self : (x : X) → better x x ≡ false
  pub other : (x y : X) → better x y ≡ true → better y x ≡ false
  pub trans : (x y z : X) → better x y ≡ false → better y z ≡ false → better x z ≡ false

-- none of the list is better than s
abbrev pub IsBestOf : {X : Type 0} → (X → X → Bool) → X → List X → Type 0
IsBestOf better s ws = (w : _) → Contains ws w → better w s ≡ false

abbrev NotBetter : {X : Type 0} → (X → X → Bool) → X → Option X → Type 0
NotBetter better s None = Unit {0}
NotBetter better s (Some v) = better v s ≡ false

best_some : {X : Type 0} (better : X → X → Bool) → IsOrder better → (best : Option X) (ws : List X) (s : X)
    → best_from better best ws ≡ Some s → NotBetter better s best × IsBestOf better s ws
    × ((best ≡ Some s) ⊎ Contains ws s)
best_some better o None [] s e = (tt, λ w h. absurd (nothing_in w h), inl e)
best_some better o (Some v) [] s e =
    (subst (NotBetter better s) (sym e) (o.self s), λ w h. absurd (nothing_in w h), inl e)
best_some {X = X} better o None (w ∷ ws) s e =
    let h = best_some better o (Some w) ws s e in (
      tt,
      λ v i. elim (in_cases w ws v i) [
        | inl q ↦ subst (λ (u : X). better u s ≡ false) (sym q) h.0
        | inr j ↦ h.1 v
            j
      ],
      elim h.2 [ inl q ↦ inr (first_in w ws s (cc)) | inr j ↦ inr (tail_in w ws s j) ],
    )
best_some {X = X} better o (Some v) (w ∷ ws) s e = at (better w v) refl (λ c f. best_some better o c ws s f) e
  where
    at : (b : Bool) → better w v ≡ b
        → ((c : Option X) → best_from better c ws ≡ Some s → NotBetter better s c × IsBestOf better s ws
        × ((c ≡ Some s) ⊎ Contains ws s)) → best_from better (cond b (Some w) (Some v)) ws ≡ Some s
        → NotBetter better s (Some v) × IsBestOf better s (w ∷ ws) × ((Some v ≡ Some s) ⊎ Contains (w ∷ ws) s)
    at true f rec e =
        let h = rec (Some w) e in (
          o.trans v w s (o.other w v f) h.0,
          λ u i. elim (in_cases w ws u i) [
            | inl q ↦ subst (λ (z : X). better z s ≡ false) (sym q) h.0
            | inr j ↦ h.1 u
                j
          ],
          elim h.2 [ inl q ↦ inr (first_in w ws s (cc)) | inr j ↦ inr (tail_in w ws s j) ],
        )
    at false f rec e =
        let h = rec (Some v) e in (
          h.0,
          λ u i. elim (in_cases w ws u i) [
            | inl q ↦ subst (λ (z : X). better z s ≡ false) (sym q)
                (o.trans w v s f h.0)
            | inr j ↦ h.1 u j
          ],
          elim h.2 [ inl q ↦ inl q | inr j ↦ inr (tail_in w ws s j) ],
        )

best_none : {X : Type 0} (better : X → X → Bool) (best : Option X) (w : X) (ws : List X)
    → best_from better best (w ∷ ws) ≡ None → ⊥
best_none better None w [] e = cc
best_none better (Some v) w [] e = elim (cases_Bool (better w v)) [ inl t ↦ cc | inr f ↦ cc ]
best_none better best w (u ∷ ws) e = best_none better (better_of better best w) u ws e

-- ---- the least name

by_name : IsOrder is_named_first
by_name =
    record {
      self = λ x. name_self x.name;
      other = λ x y. name_asym x.name y.name;
      trans = λ x y z. not_name_trans x.name y.name z.name;
    }

pub least_is : (p : Op → Bool) (ops : List Op) (s : Op) → least_of p ops ≡ Some s → Contains ops s × (p s ≡ true)
    × ((w : Op) → Contains ops w → p w ≡ true → named_before w.name s.name ≡ false)
least_is p ops s e =
    let h = best_some is_named_first by_name None (filter p ops) s e in
    let i : Contains (filter p ops) s = elim h.2 [ inl q ↦ absurd (cc) | inr j ↦ j ] in
    let k = from_filter p ops s i in
    (k.0, k.1, λ w j t. h.1 w (in_filter p ops w j t))

pub least_none : (p : Op → Bool) (ops : List Op) → least_of p ops ≡ None → (w : Op) → Contains ops w → p w ≡ true → ⊥
least_none p ops e w j t = at (filter p ops) refl (in_filter p ops w j t)
  where
    at : (l : List Op) → filter p ops ≡ l → Contains l w → ⊥
    at [] q i = nothing_in w i
    at (v ∷ l) q i = best_none is_named_first None v l (ap (best_from is_named_first None) (sym q) ∙ e)
