-- The image has each byte of an extent.
use Rattle.std.proofs.Common.{◌≡◌, ℕ, zero, suc, ◌+◌, ◌<◌, ◌≤◌, Bool, true, false, refl, sym, subst, inl, inr, arith}
use Rattle.std.proofs.Common.{IsSome, is_some}
use Rattle.std.proofs.lemmas.Bool.{and_from, and_parts, cases_lt}
use Rattle.elf_image.specs.Images.{Loaded}
use Rattle.rv_step.specs.Plans.{has_bytes}

pub has_bytes-each : (image : Loaded) (addr len x : ℕ) → has_bytes image addr len ≡ true → addr ≤ x
    → x < addr + len → IsSome (image.byte_at x)
unfolding has_bytes
has_bytes-each image addr zero x held low high = absurd (omega arith)
has_bytes-each image addr (suc len) x held low high =
    let parts : (has_bytes image addr len ≡ true) × (is_some (image.byte_at (addr + len)) ≡ true)
    = and_parts _ _ held in
    elim (cases_lt x (addr + len)) [
      | inl below ↦ has_bytes-each image addr len x parts.0 low below
      | inr above ↦
          let same : addr + len ≡ x = omega arith in
          subst (λ (y : ℕ). IsSome (image.byte_at y)) same parts.1
    ]

pub each-has_bytes : (image : Loaded) (addr len : ℕ)
    → ((x : ℕ) → addr ≤ x → x < addr + len → IsSome (image.byte_at x)) → has_bytes image addr len ≡ true
unfolding has_bytes
each-has_bytes image addr zero each = refl
each-has_bytes image addr (suc len) each =
    and_from _ _ (each-has_bytes image addr len (λ x low high. each x low (omega arith)))
    (each (addr + len) (omega arith) (omega arith))

-- two tests of which each holds where the other does
pub same_test : (a b : Bool) → (a ≡ true → b ≡ true) → (b ≡ true → a ≡ true) → a ≡ b
same_test true b there back = sym (there refl)
same_test false true there back = back refl
same_test false false there back = refl
