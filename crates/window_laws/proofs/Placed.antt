-- Operations before and after a place.
use Rattle.std.proofs.Common.{◌≡◌, true, Some, refl, sym, ◌∙◌}
use Rattle.tandem_base.specs.declared.names.Place.{Place}
use Rattle.tandem_base.specs.Places.{earlier}
use Rattle.rvwmo_model.specs.declared.operations.Op.{Op}
use Rattle.rvwmo_model.specs.Order.{stands_before, precedes}
use Rattle.rvwmo_model.specs.InForm.{IsPlaced}
use Rattle.growth_laws.proofs.Places.{before_placed}
use Rattle.window_laws.specs.Tables.{IsBeforePlace, IsAfterPlace}

-- places decide between performed operations
pub by_place : (a b : Op) (p q : Place) → a.place ≡ Some p → b.place ≡ Some q → precedes a b ≡ earlier p q
unfolding stands_before
by_place a b p q e f = rw (e, f) refl

pub before_from : (v b : Op) (place : Place) → b.place ≡ Some place → IsBeforePlace place v → precedes v b ≡ true
before_from v b place e h = by_place v b h.0 place h.1 e ∙ h.2

pub before_to : (v b : Op) (place : Place) → b.place ≡ Some place → precedes v b ≡ true → IsBeforePlace place v
before_to v b place e h =
    let p = before_placed v b (place, e) h in
    (p.0, p.1, sym (by_place v b p.0 place p.1 e) ∙ h)

pub after_from : (v b : Op) (place : Place) → b.place ≡ Some place → IsAfterPlace place v → precedes b v ≡ true
after_from v b place e h = by_place b v place h.0 e h.1 ∙ h.2

pub after_to : (v b : Op) (place : Place) → b.place ≡ Some place → IsPlaced v → precedes b v ≡ true
    → IsAfterPlace place v
after_to v b place e p h = (p.0, p.1, sym (by_place b v place p.0 e p.1) ∙ h)
