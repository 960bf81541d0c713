-- What a table in which no range begins or ends after a later one says of an address.
use Rattle.std.proofs.Common.{◌≡◌, ℕ, ◌+◌, ◌<◌, ◌≤◌, false, List, length, get_or, arith, inl, inr}
use Rattle.std.specs.List.{All, AllPairs, AllWithin}
use Rattle.std.specs.List.Sorted.{IsNonDecreasingBy}
use Rattle.std.proofs.lemmas.Bool.{cases_lt, and_left, and_right, lt-leb, le-ltb}
use Rattle.std.proofs.lemmas.List.{get_or_default}
use Rattle.elf_image.specs.declared.range.Range.{Range}
use Rattle.elf_image.specs.Tables.{Climbs, range_holds}

pub bases_rise : (ranges : List Range) → AllPairs Climbs ranges → IsNonDecreasingBy (λ r. r.base) ranges
bases_rise ranges climb i j d le below =
    elim (cases_lt i j) [
      | inl lt ↦ (climb i j d lt below).0
      | inr ge ↦ let same : i ≡ j = omega arith in rw same (omega arith)
    ]

-- a range that begins above x doesn't hold it
pub begins_above : (r : Range) (x : ℕ) → x < r.base → range_holds x r ≡ false
begins_above r x lt = and_left _ _ (lt-leb r.base x lt)

-- nor does one that ends at or below x
pub ends_below : (r : Range) (x : ℕ) → r.base + r.size ≤ x → range_holds x r ≡ false
ends_below r x le = and_right _ _ (le-ltb x (r.base + r.size) le)

-- past the last range that begins at or below x, no range holds x
pub not_held : (ranges : List Range) (i x : ℕ) (d : Range) → AllPairs Climbs ranges
    → i < length ranges → (get_or ranges i d).base + (get_or ranges i d).size ≤ x
    → AllWithin (λ r. x < r.base) ranges (i + 1) (length ranges)
    → All (λ r. range_holds x r ≡ false) ranges
not_held ranges i x d climb below ends later k e in_range =
    elim (cases_lt i k) [
      | inl lt ↦ begins_above (get_or ranges k e) x (later k e (omega arith) in_range)
      | inr ge ↦ ends_below (get_or ranges k e) x (no_later ge)
    ]
  where
    ends_at : (get_or ranges i e).base + (get_or ranges i e).size ≤ x
    ends_at = rw (get_or_default ranges i e d below) ends

    no_later : k ≤ i → (get_or ranges k e).base + (get_or ranges k e).size ≤ x
    no_later ge =
        elim (cases_lt k i) [
          | inl lt ↦ omega (arith, (climb k i e lt below).1, ends_at)
          | inr ge' ↦ let same : k ≡ i = omega arith in rw same ends_at
        ]

-- where all begin above x, no range holds x
pub not_begun : (ranges : List Range) (x : ℕ)
    → AllWithin (λ r. x < r.base) ranges 0 (length ranges)
    → All (λ r. range_holds x r ≡ false) ranges
not_begun ranges x later k e in_range = begins_above (get_or ranges k e) x (later k e (omega arith) in_range)
