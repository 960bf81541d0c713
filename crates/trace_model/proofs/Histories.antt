-- What is kept of the instructions that retired: one more at the end, and going back.
use Rattle.std.proofs.Common.{ℕ, zero, suc, ◌-◌, ◌≡◌, Bool, true, false, cond, List, [], ◌∷◌, ◌++◌, length}
use Rattle.std.proofs.Common.{map, reverse, take, Option, refl, sym, ap, subst, ◌∙◌, arith}
use Rattle.std.proofs.lemmas.List.{reverse-append, take_all, take-append-le}
use Rattle.tandem_base.specs.declared.names.Place.{Place}
use Rattle.rvwmo_model.specs.declared.operations.Op.{Op}
use Rattle.trace_model.specs.declared.retirements.KeptUse.{KeptUse}
use Rattle.trace_model.specs.declared.retirements.KeptUse.TheVariants as kept_use
use Rattle.trace_model.specs.Groups.{Access, part_at, parts_below, parts_of, same_place, some_below}
use Rattle.trace_model.specs.Marks.{place_in}
use Rattle.trace_model.specs.Entries.{MemoryUse, Fixed, with_use}
use Rattle.trace_model.specs.Seen.{use_seen}

-- an access of at least one byte has an operation
record IsSome (ops : List Op) : Type 0 where
  first : Op
  others : List Op
  is : ops ≡ first ∷ others

some_parts : (a : Access) (f : ℕ → Option Place) (n : ℕ) → IsSome (parts_below a f (suc n))
some_parts a f zero = record { first = part_at a f (f 0); others = []; is = refl }
some_parts a f (suc n) = at (some_below (λ k. same_place (f k) (f (suc n))) (suc n)) (some_parts a f n)
  where
    at : (b : Bool) → IsSome (parts_below a f (suc n))
        → IsSome (cond b (parts_below a f (suc n)) (part_at a f (f (suc n)) ∷ parts_below a f (suc n)))
    at true rec = rec
    at false rec = record { first = part_at a f (f (suc n)); others = parts_below a f (suc n); is = refl }

parts_some : (a : Access) (f : ℕ → Option Place) → IsSome (parts_of a f)
parts_some a f =
    let n : suc (a.extent.len - 1) ≡ a.extent.len = omega (arith, a.extent.sized.0) in
    subst (λ (k : ℕ). IsSome (parts_below a f k)) n (some_parts a f (a.extent.len - 1))

-- what is kept did something
pub kept_use_is : (u : KeptUse) (us : List MemoryUse) → with_use (use_seen u) us ≡ use_seen u ∷ us
kept_use_is (kept_use.Loaded access places) us =
    let o = parts_some access (place_in places) in
    ap (λ (ops : List Op). with_use (Fixed ops) us) o.is ∙ ap (λ (ops : List Op). Fixed ops ∷ us) (sym o.is)
kept_use_is (kept_use.Stored access) us = refl
kept_use_is (kept_use.Whole access place) us = refl

-- one use more
pub uses_more : (old new : List KeptUse) (u : KeptUse) (us : List MemoryUse) → new ≡ old ++ u ∷ []
    → map use_seen (reverse old) ≡ us → map use_seen (reverse new) ≡ with_use (use_seen u) us
uses_more old new u us e is =
    ap (λ (l : List KeptUse). map use_seen (reverse l)) e
    ∙ ap (map use_seen) (reverse-append old (u ∷ []))
    ∙ ap (λ (l : List MemoryUse). use_seen u ∷ l) is
    ∙ sym (kept_use_is u us)

-- what was there is in front, with nothing more or with one more
pub front_same : {A : Type 0} (old new : List A) → new ≡ old → take (length old) new ≡ old
front_same old new e = ap (take (length old)) e ∙ take_all (length old) old (omega arith)

pub front_more : {A : Type 0} (old new : List A) (x : A) → new ≡ old ++ x ∷ [] → take (length old) new ≡ old
front_more old new x e =
    ap (take (length old)) e
    ∙ take-append-le (length old) old (x ∷ []) (omega arith)
    ∙ take_all (length old) old (omega arith)
