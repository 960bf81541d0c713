-- How the latest of some operations changes with the property.
use Rattle.std.proofs.Common.{◌≡◌, ◌⊎◌, inl, inr, true, false, Option, Some, None, refl, sym, subst}
use Rattle.rvwmo_model.specs.declared.operations.Op.{Op}
use Rattle.rvwmo_model.specs.Order.{standing, precedes}
use Rattle.rvwmo_model.specs.Report.{IsLatest}
use Rattle.rvwmo_model.proofs.Orders.{before_self, before_asym}
use Rattle.window_laws.specs.Latest.{IsLatestIfAny, first_there}

-- the same property, said otherwise
pub latest_same : (P Q : Op → Type 0) (m : Option Op) → ((v : Op) → P v → Q v) → ((v : Op) → Q v → P v)
    → IsLatestIfAny P m → IsLatestIfAny Q m
latest_same P Q None on back h = λ v q. h v (back v q)
latest_same P Q (Some m) on back h = record { here = on m h.here; latest = λ u q. h.latest u (back u q) }

-- one more, after all that there are
pub latest_more : (P Q : Op → Type 0) (n : Op) → Q n → ((v : Op) → Q v → (v ≡ n) ⊎ P v)
    → ((v : Op) → P v → precedes v n ≡ true) → IsLatest Q n
latest_more P Q n here back above = record {
  here = here;
  latest = λ u q. elim (back u q) [
    | inl e ↦ subst (λ (z : Op). precedes n z ≡ false) (sym e) (before_self (standing n))
    | inr p ↦ before_asym (standing u) (standing n) (above u p)
  ];
}

-- what has the one property comes after all that has the other
pub latest_beyond : (P R Q : Op → Type 0) (w g : Option Op) → ((v : Op) → R v → P v) → ((v : Op) → Q v → P v)
    → ((v : Op) → P v → R v ⊎ Q v) → ((u v : Op) → R u → Q v → precedes u v ≡ false)
    → IsLatestIfAny R w → (w ≡ None → IsLatestIfAny Q g) → IsLatestIfAny P (first_there w g)
latest_beyond P R Q None g left right back apart h k =
    latest_same Q P g right (λ v p. elim (back v p) [ inl r ↦ absurd (h v r) | inr q ↦ q ]) (k refl)
latest_beyond P R Q (Some w) g left right back apart h k = record {
  here = left w h.here;
  latest = λ u p. elim (back u p) [ inl r ↦ h.latest u r | inr q ↦ apart w u h.here q ];
}
