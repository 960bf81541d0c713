-- Syntactic dependencies between the instructions of one hart, by tags (14.1).
use Rattle.std.specs.Prelude.{ℕ, suc, ◌<◌, ◌≡◌, Bool, true, false}
use Rattle.rv_decode.specs.declared.registers.Register.{Register}

-- what an instruction does with registers: which are its destinations, and which source it carries to which destination
pub record Flow : Type 0 where
  pub sets : Register → Bool
  pub carries : Register → Register → Bool

-- The instruction under tag j depends by register r on the one under tag i, through the destination s of i.
pub data Dep (code : ℕ → Flow) : ℕ → Register → ℕ → Register → Type 0 where
  -- no instruction between them has that register as a destination
  direct : (j i : ℕ) (s : Register) → i < j → (code i).sets s ≡ true
      → ((k : ℕ) → i < k → k < j → (code k).sets s ≡ false) → Dep code j s i s
  -- an instruction k between them depends on i by its source p, and carries that to its destination q, by which j
  -- depends on k
  along : (j : ℕ) (r : Register) (k : ℕ) (p q : Register) (i : ℕ) (s : Register) → k < j
      → Dep code k p i s → (code k).carries p q ≡ true → Dep code j r k q → Dep code j r i s

-- The same, found by going back from an instruction to the latest writers of registers.
pub data Reach (code : ℕ → Flow) : ℕ → Register → ℕ → Register → Type 0 where
  -- the latest has another destination
  skip : (j : ℕ) (r : Register) (i : ℕ) (s : Register) → (code j).sets r ≡ false
      → Reach code j r i s → Reach code (suc j) r i s
  -- it writes the register
  here : (j : ℕ) (r : Register) → (code j).sets r ≡ true → Reach code (suc j) r j r
  -- it writes it, and carries another to it
  through : (j : ℕ) (r q : Register) (i : ℕ) (s : Register) → (code j).sets r ≡ true → (code j).carries q r ≡ true
      → Reach code j q i s → Reach code (suc j) r i s
