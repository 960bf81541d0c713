-- The Reads that stay live.
use Rattle.std.proofs.Common.{ℕ, ◌≡◌, inl, inr, nat_lt, nat_le, true, false, List, [], ◌∷◌, ◌++◌, refl}
use Rattle.std.proofs.Common.{sym, ap, subst, arith}
use Rattle.std.specs.List.{Contains}
use Rattle.slab.proofs.SlabLemmas.{Contains-cons, Contains-cons_cases}
use Rattle.std.proofs.lemmas.Bool.Decides.{nat_tests}
use Rattle.tag_window.specs.declared.reports.Read.{Read}
use Rattle.tag_window.specs.Windows.{Tagged}
use Rattle.tag_window.specs.Events.{Event, reads, bypasses, squashes, retires, live_after, drops_read, NoneDrops}
use Rattle.tag_window.specs.Events.{StaysLive}
use Rattle.tag_window.proofs.Dropped.{nothing, from_filter, into_filter}

not_above : (a b : ℕ) → nat_lt a b ≡ true → nat_le b a ≡ false
not_above a b e = grind (arith, nat_tests)

is_below : (a b : ℕ) → nat_le b a ≡ false → nat_lt a b ≡ true
is_below a b e = grind (arith, nat_tests)

further_on : (e : Event) (events : List Event) (r : Tagged Read) → drops_read e r.tag ≡ false → StaysLive events r
    → StaysLive (e ∷ events) r
further_on e events r d k = record {
  later = e ∷ k.later;
  earlier = k.earlier;
  is = ap (λ (es : List Event). e ∷ es) k.is;
  none = (d, k.none);
}

pub kept_of : (events : List Event) (r : Tagged Read) → Contains (live_after events) r → StaysLive events r
kept_of [] r c = absurd (nothing r c)
kept_of (reads q ∷ before) r c = elim (Contains-cons_cases q r (live_after before) c) [
  | inl s ↦ record { later = []; earlier = before; is = ap (λ (x : Tagged Read). reads x ∷ before) s; none = tt }
  | inr d ↦ further_on (reads q) before r refl (kept_of before r d)
]
kept_of (bypasses b ∷ before) r c = further_on (bypasses b) before r refl (kept_of before r c)
kept_of (squashes from ∷ before) r c =
    let k = from_filter (λ x. nat_lt x.tag from) (live_after before) r c in
    further_on (squashes from) before r (not_above r.tag from k.1) (kept_of before r k.0)
kept_of (retires to ∷ before) r c =
    let k = from_filter (λ x. nat_lt to x.tag) (live_after before) r c in
    further_on (retires to) before r (not_above to r.tag k.1) (kept_of before r k.0)

live_past : (later earlier : List Event) (r : Tagged Read) → NoneDrops drops_read later r.tag
    → Contains (live_after (later ++ reads r ∷ earlier)) r
live_past [] earlier r n = (0, omega arith, refl)
live_past (reads q ∷ later) earlier r n =
    Contains-cons q r (live_after (later ++ reads r ∷ earlier)) (live_past later earlier r n.1)
live_past (bypasses b ∷ later) earlier r n = live_past later earlier r n.1
live_past (squashes from ∷ later) earlier r n =
    into_filter (λ x. nat_lt x.tag from) (live_after (later ++ reads r ∷ earlier)) r (live_past later earlier r n.1)
    (is_below r.tag from n.0)
live_past (retires to ∷ later) earlier r n =
    into_filter (λ x. nat_lt to x.tag) (live_after (later ++ reads r ∷ earlier)) r (live_past later earlier r n.1)
    (is_below to r.tag n.0)

pub live_of_kept : (events : List Event) (r : Tagged Read) → StaysLive events r → Contains (live_after events) r
live_of_kept events r k =
    subst (λ (es : List Event). Contains (live_after es) r) (sym k.is) (live_past k.later k.earlier r k.none)
