-- The bytes of an SC, of its LR, of the capture and of the reserved block.
use Rattle.std.proofs.Common.{ℕ, ◌+◌, ◌-◌, ◌/◌, ◌%◌, ◌<◌, ◌≤◌, ◌≡◌, inl, inr, Bool, true, false, cond}
use Rattle.std.proofs.Common.{sym, ap, subst, arith}
use Rattle.std.proofs.lemmas.Bool.Decides.{nat_tests}
use Rattle.tandem_base.specs.declared.extent.Extent.{Extent}
use Rattle.tandem_base.specs.Extents.{is_among, IsAligned}
use Rattle.tandem_base.specs.Granules.{IsGranule}
use Rattle.byte_memory.specs.Captures.{crosses, capture_base, capture_size, block_base}

-- an aligned extent lies in one doubleword
in_doubleword : (b : Extent) → IsAligned b → b.addr % 8 + b.len ≤ 8
in_doubleword b a = elim a.0 [
  | inl e ↦ let z = a.1 in omega (arith, e)
  | inr f ↦ elim f [
    | inl e ↦ (let z : b.addr % 2 ≡ 0 = subst (λ (n : ℕ). b.addr % n ≡ 0) e a.1 in omega (arith, e, z))
    | inr g ↦ elim g [
      | inl e ↦ (let z : b.addr % 4 ≡ 0 = subst (λ (n : ℕ). b.addr % n ≡ 0) e a.1 in omega (arith, e, z))
      | inr e ↦ (let z : b.addr % 8 ≡ 0 = subst (λ (n : ℕ). b.addr % n ≡ 0) e a.1 in omega (arith, e, z))
    ]
  ]
]

module _ (a b : Extent) (aligned : IsAligned b) (low : b.addr ≤ a.addr) (high : a.addr + a.len ≤ b.addr + b.len) where
  one_doubleword : a.addr % 8 + a.len ≤ 8
  one_doubleword = let d = in_doubleword b aligned in omega (arith, d, low, high)

  crosses_not : crosses a ≡ false
  crosses_not = let d = one_doubleword in grind (arith, nat_tests, d)

  -- a capture of the inner one has the bytes of the outer one
  pub base_low : (x : ℕ) → b.addr ≤ x → capture_base a ≤ x
  base_low x l =
      let d = in_doubleword b aligned in
      let e : capture_base a ≡ a.addr - a.addr % 8 =
      ap (λ (c : Bool). cond c a.addr (a.addr - a.addr % 8)) crosses_not in
      let f : a.addr - a.addr % 8 ≤ x = omega (arith, d, low, high, l) in
      subst (λ (y : ℕ). y ≤ x) (sym e) f

  pub base_high : (x : ℕ) → x < b.addr + b.len → x < capture_base a + capture_size a
  base_high x l =
      let d = in_doubleword b aligned in
      let e : capture_base a ≡ a.addr - a.addr % 8 =
      ap (λ (c : Bool). cond c a.addr (a.addr - a.addr % 8)) crosses_not in
      let g : capture_size a ≡ 8 = ap (λ (c : Bool). cond c a.len 8) crosses_not in
      let f : x < a.addr - a.addr % 8 + 8 = omega (arith, d, low, high, l) in
      rw (e, g) f

  -- a byte is in the block of the one exactly where it is in that of the other
  pub block_on : (granule x : ℕ) → IsGranule granule → is_among (block_base a.addr granule) granule x ≡ true
      → (0 < granule) × (x / granule ≡ b.addr / granule)
  block_on granule x g q =
      let d = in_doubleword b aligned in
      elim g [
        | inl e ↦ absurd (let z : is_among (block_base a.addr 0) 0 x ≡ true =
            subst (λ (n : ℕ). is_among (block_base a.addr n) n x ≡ true) e q in grind (arith, nat_tests, z))
        | inr g1 ↦ elim g1 [
          | inl e ↦ on 8 e (λ z. (omega arith, grind (arith, nat_tests, z, d, low, high)))
          | inr g2 ↦ elim g2 [
            | inl e ↦ on 16 e (λ z. (omega arith, grind (arith, nat_tests, z, d, low, high)))
            | inr g3 ↦ elim g3 [
              | inl e ↦ on 32 e (λ z. (omega arith, grind (arith, nat_tests, z, d, low, high)))
              | inr e ↦ on 64 e (λ z. (omega arith, grind (arith, nat_tests, z, d, low, high)))
            ]
          ]
        ]
      ]
    where
      on : (n : ℕ) → granule ≡ n → (is_among (block_base a.addr n) n x ≡ true → (0 < n) × (x / n ≡ b.addr / n))
          → (0 < granule) × (x / granule ≡ b.addr / granule)
      on n e f =
          subst (λ (m : ℕ). (0 < m) × (x / m ≡ b.addr / m)) (sym e)
          (f (subst (λ (m : ℕ). is_among (block_base a.addr m) m x ≡ true) e q))

  pub block_back : (granule x : ℕ) → IsGranule granule → 0 < granule → x / granule ≡ b.addr / granule
      → is_among (block_base a.addr granule) granule x ≡ true
  block_back granule x g some same =
      let d = in_doubleword b aligned in
      elim g [
        | inl e ↦ absurd (omega (arith, e, some))
        | inr g1 ↦ elim g1 [
          | inl e ↦ on 8 e (λ z. grind (arith, nat_tests, z, d, low, high))
          | inr g2 ↦ elim g2 [
            | inl e ↦ on 16 e (λ z. grind (arith, nat_tests, z, d, low, high))
            | inr g3 ↦ elim g3 [
              | inl e ↦ on 32 e (λ z. grind (arith, nat_tests, z, d, low, high))
              | inr e ↦ on 64 e (λ z. grind (arith, nat_tests, z, d, low, high))
            ]
          ]
        ]
      ]
    where
      on : (n : ℕ) → granule ≡ n → (x / n ≡ b.addr / n → is_among (block_base a.addr n) n x ≡ true)
          → is_among (block_base a.addr granule) granule x ≡ true
      on n e f =
          subst (λ (m : ℕ). is_among (block_base a.addr m) m x ≡ true) (sym e)
          (f (subst (λ (m : ℕ). x / m ≡ b.addr / m) e same))
