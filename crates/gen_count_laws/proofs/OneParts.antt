-- An access whose bytes are all performed at one place has one operation.
use Rattle.std.proofs.Common.{ℕ, zero, suc, ◌≡◌, ◌<◌, ◌∷◌, length, Bool, true, cond, refl, ap, sym, ◌∙◌, arith}
use Rattle.std.specs.declared.option.Option.{Option}
use Rattle.tandem_base.specs.declared.names.Place.{Place}
use Rattle.trace_model.specs.Groups.{parts_of, parts_below, same_place, part_at}
use Rattle.trace_model.specs.declared.access.Access.{Access}
use Rattle.trace_model.proofs.Groups.{some_there, same_self}

module _ (a : Access) (f : ℕ → Option Place) (q : Option Place) where
  one_more : (n : ℕ) → ((k : ℕ) → k < suc n → f k ≡ q) → length (parts_below a f (suc n)) ≡ 1
  one_more zero here = refl
  one_more (suc n) here =
      let same : same_place (f 0) (f (suc n)) ≡ true =
      ap (λ (o : Option Place). same_place o (f (suc n))) (here 0 (omega arith) ∙ sym (here (suc n) (omega arith)))
      ∙ same_self (f (suc n)) in
      ap (λ (b : Bool). length (cond b (parts_below a f (suc n)) (part_at a f (f (suc n)) ∷ parts_below a f (suc n))))
      (some_there (λ k. same_place (f k) (f (suc n))) (suc n) 0 (omega arith) same)
      ∙ one_more n (λ k lt. here k (omega (arith, lt)))

  some_parts : (n : ℕ) → 0 < n → ((k : ℕ) → k < n → f k ≡ q) → length (parts_below a f n) ≡ 1
  some_parts zero some here = absurd (omega (arith, some))
  some_parts (suc n) some here = one_more n here

  pub one_part : 0 < a.extent.len → ((k : ℕ) → k < a.extent.len → f k ≡ q) → length (parts_of a f) ≡ 1
  one_part some here = some_parts a.extent.len some here
