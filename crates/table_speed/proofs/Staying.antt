-- Reports that came before a place, of which some are dropped.
use Rattle.std.proofs.Common.{◌≡◌, ◌∷◌, List, [], map, Bool, true, false, cond}
use Rattle.std.specs.List.{filter}
use Rattle.tandem_base.specs.declared.names.Position.{Position}
use Rattle.tandem_base.specs.Places.{comes_before}
use Rattle.tag_window.specs.Windows.{AllEarlier}

module _ {T : Type 0} (at : T → Position) (place : Position) (stays : T → Bool) where
  chosen : (here : Bool) (x : T) (xs : List T) → comes_before (at x) place ≡ true → AllEarlier place (map at xs)
      → AllEarlier place (map at (cond here (x ∷ xs) xs))
  chosen true x xs e h = (e, h)
  chosen false x xs e h = h

  -- those that stay came before the place as well
  pub staying : (xs : List T) → AllEarlier place (map at xs) → AllEarlier place (map at (filter stays xs))
  staying [] h = tt
  staying (x ∷ xs) h = chosen (stays x) x (filter stays xs) h.0 (staying xs h.1)
