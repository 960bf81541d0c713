-- The Bypasses that stay early.
use Rattle.std.proofs.Common.{◌≡◌, ◌==◌, not, inl, inr, Bool, true, false, List, [], ◌∷◌, ◌++◌, refl}
use Rattle.std.proofs.Common.{sym, ap, subst, arith}
use Rattle.std.specs.List.{Contains}
use Rattle.slab.proofs.SlabLemmas.{Contains-cons, Contains-cons_cases}
use Rattle.tag_window.specs.declared.reports.Early.{Early}
use Rattle.tag_window.specs.Windows.{Tagged}
use Rattle.tag_window.specs.Events.{Event, reads, bypasses, squashes, retires, early_after, drops_bypass, NoneDrops}
use Rattle.tag_window.specs.Events.{StaysEarly}
use Rattle.tag_window.proofs.Dropped.{nothing, from_filter, into_filter}

not_true : (t : Bool) → not t ≡ true → t ≡ false
not_true true e = sym e
not_true false e = refl

further_on : (e : Event) (events : List Event) (b : Tagged Early) → drops_bypass e b.tag ≡ false → StaysEarly events b
    → StaysEarly (e ∷ events) b
further_on e events b d k = record {
  later = e ∷ k.later;
  earlier = k.earlier;
  is = ap (λ (es : List Event). e ∷ es) k.is;
  none = (d, k.none);
}

pub kept_of : (events : List Event) (b : Tagged Early) → Contains (early_after events) b → StaysEarly events b
kept_of [] b c = absurd (nothing b c)
kept_of (reads q ∷ before) b c = further_on (reads q) before b refl (kept_of before b c)
kept_of (bypasses q ∷ before) b c = elim (Contains-cons_cases q b (early_after before) c) [
  | inl s ↦ record { later = []; earlier = before; is = ap (λ (x : Tagged Early). bypasses x ∷ before) s; none = tt }
  | inr d ↦ further_on (bypasses q) before b refl (kept_of before b d)
]
kept_of (squashes from ∷ before) b c = further_on (squashes from) before b refl (kept_of before b c)
kept_of (retires tag ∷ before) b c =
    let k = from_filter (λ x. not (x.tag == tag)) (early_after before) b c in
    further_on (retires tag) before b (not_true (b.tag == tag) k.1) (kept_of before b k.0)

early_past : (later earlier : List Event) (b : Tagged Early) → NoneDrops drops_bypass later b.tag
    → Contains (early_after (later ++ bypasses b ∷ earlier)) b
early_past [] earlier b n = (0, omega arith, refl)
early_past (reads q ∷ later) earlier b n = early_past later earlier b n.1
early_past (bypasses q ∷ later) earlier b n =
    Contains-cons q b (early_after (later ++ bypasses b ∷ earlier)) (early_past later earlier b n.1)
early_past (squashes from ∷ later) earlier b n = early_past later earlier b n.1
early_past (retires tag ∷ later) earlier b n =
    into_filter (λ x. not (x.tag == tag)) (early_after (later ++ bypasses b ∷ earlier)) b
    (early_past later earlier b n.1) (ap (λ (t : Bool). not t) n.0)

pub early_of_kept : (events : List Event) (b : Tagged Early) → StaysEarly events b → Contains (early_after events) b
early_of_kept events b k =
    subst (λ (es : List Event). Contains (early_after es) b) (sym k.is) (early_past k.later k.earlier b k.none)
