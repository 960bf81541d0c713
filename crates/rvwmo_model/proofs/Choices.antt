-- What the searches of the plain program choose.
use Rattle.std.proofs.Common.{ℕ, ◌≡◌, inl, inr, Bool, true, List, ◌++◌, Option, Some, None, refl, sym, ◌∙◌}
use Rattle.std.specs.Prelude.{is_some}
use Rattle.std.specs.Bool.{Decides}
use Rattle.std.specs.List.{Contains, filter, list_any}
use Rattle.std.proofs.lemmas.Bool.{false≢true, or_cases, or_left, or_right}
use Rattle.std.proofs.lemmas.List.Elements.{Contains-append_cases, Contains-append_left, Contains-append_right}
use Rattle.rvwmo_model.specs.declared.operations.Op.{Op}
use Rattle.rvwmo_model.specs.declared.traces.Trace.{Trace}
use Rattle.rvwmo_model.specs.Sources.{latest_from}
use Rattle.rvwmo_model.specs.Report.{IsLeast, IsLowest, IsLatest}
use Rattle.rvwmo_model.specs.Search.{first_byte}
use Rattle.rvwmo_model.specs.Tests.{some_everywhere, latest_everywhere}
use Rattle.rvwmo_model.specs.Answer.{least_of}
use Rattle.rvwmo_model.proofs.Membership.{in_filter, from_filter}
use Rattle.rvwmo_model.proofs.Latest.{latest_join, latest_is, latest_is_none}
use Rattle.rvwmo_model.proofs.Searches.{OfOp, some_is, least_is, least_none, first_byte_is, first_byte_none}
use Rattle.rvwmo_model.specs.Order.{everything}

-- p computes P on the members of a list, and P speaks of members alone
pub record Computes (p : Op → Bool) (P : Op → Type 0) (ops : List Op) : Type 0 where
  pub on : (o : Op) → Contains ops o → Decides (p o) (P o)
  pub only : (o : Op) → P o → Contains ops o

pub some_member : (p : Op → Bool) (P : Op → Type 0) (ops : List Op) → Computes p P ops
    → Decides (list_any p ops) ((o : Op) × P o)
some_member p P ops c = (
  (λ e. let h = (some_is p ops).0 e in (h.0, (c.on h.0 h.1).0 h.2)),
  λ h. (some_is p ops).1 (h.0, c.only h.0 h.1, (c.on h.0 (c.only h.0 h.1)).1 h.1),
)

pub least_member : (p : Op → Bool) (P : Op → Type 0) (ops : List Op) (s : Op) → Computes p P ops
    → least_of p ops ≡ Some s → IsLeast P s
least_member p P ops s c e =
    let h = least_is p ops s e in
    record { offends = (c.on s h.0).0 h.1; least = λ v q. h.2 v (c.only v q) ((c.on v (c.only v q)).1 q) }

pub no_member : (p : Op → Bool) (P : Op → Type 0) (ops : List Op) → Computes p P ops → least_of p ops ≡ None
    → (o : Op) → P o → ⊥
no_member p P ops c e o q = least_none p ops e o (c.only o q) ((c.on o (c.only o q)).1 q)

-- the latest of one list
pub latest_member : (p : Op → Bool) (P : Op → Type 0) (ops : List Op) (s : Op) → Computes p P ops
    → latest_from None (filter p ops) ≡ Some s → IsLatest P s
latest_member p P ops s c e =
    let h = latest_is (filter p ops) s e in
    let f = from_filter p ops s h.0 in
    record {
      here = (c.on s f.0).0 f.1;
      latest = λ u q. h.1 u (in_filter p ops u (c.only u q) ((c.on u (c.only u q)).1 q));
    }

pub no_latest : (p : Op → Bool) (P : Op → Type 0) (ops : List Op) → Computes p P ops
    → latest_from None (filter p ops) ≡ None → (o : Op) → P o → ⊥
no_latest p P ops c e o q =
    latest_is_none (filter p ops) e o (in_filter p ops o (c.only o q) ((c.on o (c.only o q)).1 q))

-- the same over operations and early stores
filter_join : (p : Op → Bool) (t : Trace) (o : Op) → Contains (everything t) o → p o ≡ true
    → Contains (filter p t.ops ++ filter p t.early) o
filter_join p t o h q =
    elim (Contains-append_cases t.ops t.early o h) [
      | inl a ↦ Contains-append_left _ _ o
          (in_filter p t.ops o a q)
      | inr b ↦ Contains-append_right _ _ o (in_filter p t.early o b q)
    ]

join_filter : (p : Op → Bool) (t : Trace) (o : Op) → Contains (filter p t.ops ++ filter p t.early) o
    → Contains (everything t) o × (p o ≡ true)
join_filter p t o h = elim (Contains-append_cases (filter p t.ops) (filter p t.early) o h) [
  | inl a ↦ let f = from_filter p t.ops o a in (Contains-append_left t.ops t.early o f.0, f.1)
  | inr b ↦ let f = from_filter p t.early o b in (Contains-append_right t.ops t.early o f.0, f.1)
]

joined : (p : Op → Bool) (t : Trace) → latest_everywhere p t ≡ latest_from None (filter p t.ops ++ filter p t.early)
joined p t = sym (latest_join None (filter p t.ops) (filter p t.early))

pub latest_anywhere : (p : Op → Bool) (P : Op → Type 0) (t : Trace) (s : Op) → Computes p P (everything t)
    → latest_everywhere p t ≡ Some s → IsLatest P s
latest_anywhere p P t s c e =
    let h = latest_is (filter p t.ops ++ filter p t.early) s (sym (joined p t) ∙ e) in
    let f = join_filter p t s h.0 in
    record {
      here = (c.on s f.0).0 f.1;
      latest = λ u q. h.1 u (filter_join p t u (c.only u q) ((c.on u (c.only u q)).1 q));
    }

pub none_anywhere : (p : Op → Bool) (P : Op → Type 0) (t : Trace) → Computes p P (everything t)
    → latest_everywhere p t ≡ None → (o : Op) → P o → ⊥
none_anywhere p P t c e o q = latest_is_none (filter p t.ops ++ filter p t.early) (sym (joined p t) ∙ e) o
    (filter_join p t o (c.only o q) ((c.on o (c.only o q)).1 q))

pub some_anywhere : (p : Op → Bool) (P : Op → Type 0) (t : Trace) → Computes p P (everything t)
    → Decides (some_everywhere p t) ((o : Op) × P o)
some_anywhere p P t c = (
  (λ e. elim (or_cases (list_any p t.ops) (list_any p t.early) e) [
    | inl a ↦ let h = (some_is p t.ops).0 a in (h.0, (c.on h.0 (Contains-append_left t.ops t.early h.0 h.1)).0 h.2)
    | inr b ↦ let h = (some_is p t.early).0 b in (h.0, (c.on h.0 (Contains-append_right t.ops t.early h.0 h.1)).0 h.2)
  ]),
  λ h.
      let i = c.only h.0 h.1 in
      let q = (c.on h.0 i).1 h.1 in
      elim (Contains-append_cases t.ops t.early h.0 i) [
        | inl a ↦ or_left (list_any p t.ops) (list_any p t.early) ((some_is p t.ops).1 (h.0, a, q))
        | inr b ↦ or_right (list_any p t.ops) (list_any p t.early) ((some_is p t.early).1 (h.0, b, q))
      ],
)

-- ---- bytes

-- p computes P on all addresses, and only bytes of an operation pass
pub record ComputesByte (p : ℕ → Bool) (P : ℕ → Type 0) (o : Op) : Type 0 where
  pub on : (x : ℕ) → Decides (p x) (P x)
  pub own : OfOp p o

pub lowest_byte : (p : ℕ → Bool) (P : ℕ → Type 0) (o : Op) (x : ℕ) → ComputesByte p P o → first_byte p o ≡ Some x
    → IsLowest P x
lowest_byte p P o x c e = let h = first_byte_is p o x c.own e in
    record { here = (c.on x).0 h.0; lowest = λ y q. h.1 y ((c.on y).1 q) }

pub no_byte : (p : ℕ → Bool) (P : ℕ → Type 0) (o : Op) → ComputesByte p P o → first_byte p o ≡ None → (x : ℕ) → P x → ⊥
no_byte p P o c e x q = first_byte_none p o c.own e x ((c.on x).1 q)

pub some_lowest : (p : ℕ → Bool) (P : ℕ → Type 0) (o : Op) → ComputesByte p P o → Decides (is_some (first_byte p o))
    ((x : ℕ) × P x)
some_lowest p P o c = at (first_byte p o) refl
  where
    at : (m : Option ℕ) → first_byte p o ≡ m → Decides (is_some m) ((x : ℕ) × P x)
    at (Some x) e = ((λ q. (x, (lowest_byte p P o x c e).here)), λ h. refl)
    at None e = ((λ q. absurd (false≢true q)), λ h. absurd (no_byte p P o c e h.0 h.1))
