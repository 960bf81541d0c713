-- Going back one instruction at a time finds what the definition names.
use Rattle.std.proofs.Common.{ℕ, zero, suc, ◌<◌, ◌≡◌, ◌⊎◌, inl, inr, true, false, sym, subst, arith}
use Rattle.std.proofs.lemmas.Bool.{cases_order}
use Rattle.rv_decode.specs.declared.registers.Register.{Register}
use Rattle.rvwmo_model.specs.Laws.{DependencyIsWalk}
use Rattle.rvwmo_model.specs.Dependencies.{Flow, Dep, direct, along, Reach, skip, here, through}

-- what is carried goes on
reach_on : (code : ℕ → Flow) (j : ℕ) (r : Register) (k : ℕ) (q p : Register) (i : ℕ) (s : Register)
    → Reach code j r k q → (code k).carries p q ≡ true → Reach code k p i s → Reach code j r i s
reach_on code _ _ _ _ p i s (skip j r k q e d) c h = skip j r i s e (reach_on code j r k q p i s d c h)
reach_on code _ _ _ _ p i s (here k r e) c h = through k r p i s e c h
reach_on code _ _ _ _ p i s (through j r u k q e f d) c h = through j r u i s e f (reach_on code j u k q p i s d c h)

reach_direct : (code : ℕ → Flow) (j i : ℕ) (s : Register) → i < j → (code i).sets s ≡ true
    → ((k : ℕ) → i < k → k < j → (code k).sets s ≡ false) → Reach code j s i s
reach_direct code zero i s lt w none = absurd (omega arith)
reach_direct code (suc j) i s lt w none = at (λ l. reach_direct code j i s l w (λ k a b. none k a (omega arith)))
    (cases_order i j)
  where
    at : (i < j → Reach code j s i s) → (i ≡ j) ⊎ ((i < j) ⊎ (j < i)) → Reach code (suc j) s i s
    at rec (inl e) =
        subst (λ (n : ℕ). Reach code (suc j) s n s) (sym e) (here j s (subst (λ (n : ℕ). (code n).sets s ≡ true) e w))
    at rec (inr (inl l)) = skip j s i s (none j l (omega arith)) (rec l)
    at rec (inr (inr l)) = absurd (omega arith)

pub reach_from_dep : (code : ℕ → Flow) (j : ℕ) (r : Register) (i : ℕ) (s : Register) → Dep code j r i s
    → Reach code j r i s
reach_from_dep code _ _ _ _ (direct j i s lt w none) = reach_direct code j i s lt w none
reach_from_dep code _ _ _ _ (along j r k p q i s lt d c e) =
    reach_on code j r k q p i s (reach_from_dep code j r k q e) c (reach_from_dep code k p i s d)

-- an instruction without that destination changes nothing
dep_skip : (code : ℕ → Flow) (j : ℕ) (r : Register) (i : ℕ) (s : Register) → (code j).sets r ≡ false
    → Dep code j r i s → Dep code (suc j) r i s
dep_skip code _ _ _ _ e (direct j i s lt w none) =
    direct (suc j) i s (omega arith) w (λ k a b. at k a b (cases_order k j))
  where
    at : (k : ℕ) → i < k → k < suc j → (k ≡ j) ⊎ ((k < j) ⊎ (j < k)) → (code k).sets s ≡ false
    at k a b (inl same) = subst (λ (n : ℕ). (code n).sets s ≡ false) (sym same) e
    at k a b (inr (inl l)) = none k a l
    at k a b (inr (inr l)) = absurd (omega arith)
dep_skip code _ _ _ _ e (along j r k p q i s lt d c f) =
    along (suc j) r k p q i s (omega arith) d c (dep_skip code j r k q e f)

dep_last : (code : ℕ → Flow) (j : ℕ) (r : Register) → (code j).sets r ≡ true → Dep code (suc j) r j r
dep_last code j r e = direct (suc j) j r (omega arith) e (λ k a b. absurd (omega arith))

pub dep_from_reach : (code : ℕ → Flow) (j : ℕ) (r : Register) (i : ℕ) (s : Register) → Reach code j r i s
    → Dep code j r i s
dep_from_reach code _ _ _ _ (skip j r i s e d) = dep_skip code j r i s e (dep_from_reach code j r i s d)
dep_from_reach code _ _ _ _ (here j r e) = dep_last code j r e
dep_from_reach code _ _ _ _ (through j r q i s e c d) =
    along (suc j) r j q r i s (omega arith) (dep_from_reach code j q i s d) c (dep_last code j r e)

pub dependency_walk : DependencyIsWalk
dependency_walk code j r i s = (reach_from_dep code j r i s, dep_from_reach code j r i s)
