-- What is read from the fields of a Retire is spelled by them.
use Rattle.std.proofs.Common.{◌≡◌, ℕ, zero, suc, ◌+◌, ◌*◌, ◌/◌, ◌%◌, ◌<◌, ◌≤◌, ◌^◌, Bool, true, false, cond}
use Rattle.std.proofs.Common.{List, ◌∷◌, ◌++◌, length, drop, refl, sym, ◌∙◌, ap, arith, inl, inr, Some, None}
use Rattle.std.proofs.Common.{IfSome, length-drop}
use Rattle.std.specs.Prelude.{◌==◌, nat_lt, nat_le, ◌&&◌, ◌||◌, unwrap_or, All}
use Rattle.std.specs.List.{flat_map}
use Rattle.std.specs.Int.{w32, w64, to_le_bytes}
use Rattle.std.proofs.lemmas.Bool.{eqb-true, leb-true, ltb-true, and_parts}
use Rattle.std.proofs.lemmas.Bool.Decides.{nat_tests, eqb_tells}
use Rattle.std.proofs.lemmas.List.{nil_from_length}
use Rattle.msg_frames.specs.declared.message.RdValue.{RdValue}
use Rattle.msg_frames.specs.declared.message.Form.TheVariants as form
use Rattle.msg_frames.specs.declared.kinds.Kind.TheVariants as kind
use Rattle.tandem_base.specs.Fields.{u8_at, u16_at, u64_at}
use Rattle.msg_frames.specs.Kinds.{has_length}
use Rattle.msg_frames.specs.Frames.{AreBytes, csr_bytes, flag, rd_number, rd_value, CsrInRange}
use Rattle.msg_frames.specs.Reading.{rule, reserved_fault, has_trap, has_rd, cause_fault, rd_fault, value_fault}
use Rattle.msg_frames.specs.Reading.{retire_fault, csrs_in}
use Rattle.msg_frames.proofs.Bytes.{AreBytes-drop, byte_off, u16_off, u32_off, u64_off, byte_below, u16_below}
use Rattle.msg_frames.proofs.Bytes.{u32_below, u64_below}
use Rattle.msg_frames.proofs.Steps.{none_else, rule_ok, chosen}
use Rattle.msg_frames.proofs.Found.{Found, reserved_byte, reserved_u64}

-- ---- the CSRs

pub length-csrs_in : (count : ℕ) (bytes : List ℕ) → length (csrs_in count bytes) ≡ count
length-csrs_in zero bytes = refl
length-csrs_in (suc count) bytes = ap suc (length-csrs_in count (drop 10 bytes))

csrs_spelled : (count : ℕ) (bytes : List ℕ) → AreBytes bytes → length bytes ≡ 10 * count
    → bytes ≡ flat_map csr_bytes (csrs_in count bytes)
csrs_spelled zero bytes ranges len = nil_from_length bytes (omega arith)
csrs_spelled (suc count) bytes ranges len =
    u16_off bytes _ 0 2 ranges (omega arith) refl (u64_off bytes _ 2 10 ranges (omega arith) refl
    (csrs_spelled count (drop 10 bytes) (AreBytes-drop 10 bytes ranges) (length-drop 10 bytes ∙ omega arith)))

csrs_hold : (count : ℕ) (bytes : List ℕ) → AreBytes bytes → All CsrInRange (csrs_in count bytes)
csrs_hold zero bytes ranges k d below = absurd (omega arith)
csrs_hold (suc count) bytes ranges zero d below = (u16_below bytes 0 ranges, u64_below bytes 2 ranges)
csrs_hold (suc count) bytes ranges (suc k) d below =
    csrs_hold count (drop 10 bytes) (AreBytes-drop 10 bytes ranges) k d (omega arith)

-- ---- the trap and the register

flags_are : (flags cause : ℕ) (rd : RdValue) → flags < 4
    → flags ≡ flag 1 (cond (flags % 2 == 1) (Some cause) None) + flag 2 (cond (flags / 2 % 2 == 1) (Some rd) None)
flags_are flags cause rd few =
    elim (eqb_tells (flags % 2) 1) [
      | inl trap ↦ elim (eqb_tells (flags / 2 % 2) 1) [
        | inl wrote ↦ rw (trap.0, wrote.0)
            (omega arith)
        | inr none ↦ rw (trap.0, none.0) (omega arith)
      ]
      | inr plain ↦ elim (eqb_tells (flags / 2 % 2) 1) [
        | inl wrote ↦ rw (plain.0, wrote.0)
            (omega arith)
        | inr none ↦ rw (plain.0, none.0) (omega arith)
      ]
    ]

cause_is : (trapped : Bool) (cause : ℕ) → (trapped ≡ false → cause ≡ 0)
    → cause ≡ unwrap_or (cond trapped (Some cause) None) 0
cause_is true cause h = refl
cause_is false cause h = h refl

number_is : (wrote : Bool) (number value : ℕ) → (wrote ≡ false → number ≡ 0)
    → number ≡ rd_number (cond wrote (Some (record { number = number; value = value })) None)
number_is true number value h = refl
number_is false number value h = h refl

value_is : (wrote : Bool) (number value : ℕ) → (wrote ≡ false → value ≡ 0)
    → value ≡ rd_value (cond wrote (Some (record { number = number; value = value })) None)
value_is true number value h = refl
value_is false number value h = h refl

rd_fits : (wrote : Bool) (number value : ℕ) → (wrote ≡ true → (1 ≤ number) × (number ≤ 31))
    → IfSome (cond wrote (Some (record { number = number; value = value })) None)
    (λ (rd : RdValue). (1 ≤ rd.number) × (rd.number ≤ 31))
rd_fits true number value h = h refl
rd_fits false number value h = tt

rd_holds : (wrote : Bool) (number value : ℕ) → number < 2 ^ 8 → value < 2 ^ 64
    → IfSome (cond wrote (Some (record { number = number; value = value })) None)
    (λ (rd : RdValue). (rd.number < 2 ^ 8) × (rd.value < 2 ^ 64))
rd_holds true number value n v = (n, v)
rd_holds false number value n v = tt

cause_holds : (trapped : Bool) (cause : ℕ) → cause < 2 ^ 8
    → IfSome (cond trapped (Some cause) None) (λ (c : ℕ). c < 2 ^ 8)
cause_holds true cause h = h
cause_holds false cause h = tt

cause_found : (bytes : List ℕ) → cause_fault bytes ≡ None → has_trap bytes ≡ false → u8_at 41 bytes ≡ 0
unfolding cause_fault
cause_found bytes e without = elim (chosen (has_trap bytes) None (reserved_fault 41 1 bytes) None e) [
  | inl way ↦ cc
  | inr way ↦ reserved_byte 41 bytes way.1
]

number_found : (bytes : List ℕ) → rd_fault bytes ≡ None → has_rd bytes ≡ false → u8_at 42 bytes ≡ 0
unfolding rd_fault
number_found bytes e without = elim (chosen (has_rd bytes) (rule form.Field 42 (nat_le 1 (u8_at 42 bytes) && nat_le
    (u8_at 42 bytes) 31)) (reserved_fault 42 1 bytes) None e) [
      | inl way ↦ cc
      | inr way ↦ reserved_byte 42 bytes way.1
    ]

rd_found : (bytes : List ℕ) → rd_fault bytes ≡ None → has_rd bytes ≡ true
    → (1 ≤ u8_at 42 bytes) × (u8_at 42 bytes ≤ 31)
unfolding rd_fault
rd_found bytes e with_rd = elim (chosen (has_rd bytes) (rule form.Field 42 (nat_le 1 (u8_at 42 bytes) && nat_le
    (u8_at 42 bytes) 31)) (reserved_fault 42 1 bytes) None e) [
      | inl way ↦ let parts = and_parts (nat_le 1 (u8_at 42 bytes)) (nat_le (u8_at 42 bytes) 31)
          (rule_ok form.Field 42 _ way.1) in
          (leb-true 1 (u8_at 42 bytes) parts.0, leb-true (u8_at 42 bytes) 31 parts.1)
      | inr way ↦ cc
    ]

value_found : (bytes : List ℕ) → value_fault bytes ≡ None → has_rd bytes ≡ false → u64_at 44 bytes ≡ 0
unfolding value_fault
value_found bytes e without = elim (chosen (has_rd bytes) None (reserved_fault 44 8 bytes) None e) [
  | inl way ↦ cc
  | inr way ↦ reserved_u64 44 bytes way.1
]

-- ---- the whole

retire_same : (pc word next flags flags' cause cause' number number' count count' value value' : ℕ) (rest : List ℕ)
    → flags ≡ flags' → cause ≡ cause' → number ≡ number' → count ≡ count' → value ≡ value'
    → to_le_bytes w64 pc ++ to_le_bytes w32 word ++ to_le_bytes w64 next ++ flags ∷ cause ∷ number ∷ count ∷
    to_le_bytes w64 value ++ rest
    ≡ to_le_bytes w64 pc ++ to_le_bytes w32 word ++ to_le_bytes w64 next ++ flags' ∷ cause' ∷ number' ∷ count' ∷
    to_le_bytes w64 value' ++ rest
retire_same pc word next flags flags' cause cause' number number' count count' value value' rest f c n k v =
    rw (f, c, n, k, v) refl

retire_high : (size : ℕ) → (size == 50 || size == 60 || size == 70 || size == 80 || size == 90) ≡ true
    → (50 ≤ size) × (size ≤ 90)
retire_high size e = grind (arith, nat_tests)

pub found_retire : (bytes : List ℕ) → AreBytes bytes → length bytes ≡ u16_at 0 bytes + 2
    → has_length kind.Retire (u16_at 0 bytes) ≡ true
    → retire_fault bytes ≡ None → Found kind.Retire bytes
found_retire bytes ranges len kind_length e =
    let flags = none_else (rule form.Reserved 40 (nat_lt (u8_at 40 bytes) 4)) _ e in
    let cause = none_else (cause_fault bytes) _ flags.1 in
    let rd = none_else (rd_fault bytes) _ cause.1 in
    let count = none_else (rule form.Field 43 (50 + 10 * u8_at 43 bytes == u16_at 0 bytes))
    (value_fault bytes) rd.1 in
    let bounds = retire_high (u16_at 0 bytes) kind_length in
    let many : 50 + 10 * u8_at 43 bytes ≡ u16_at 0 bytes = eqb-true (50 + 10 * u8_at 43 bytes) (u16_at 0 bytes)
    (rule_ok form.Field 43 _ count.0) in
    let room : 52 ≤ length bytes = omega arith in
    let rest : length (drop 52 bytes) ≡ 10 * u8_at 43 bytes = length-drop 52 bytes ∙ omega arith in
    record {
      spelled = u64_off bytes _ 20 28 ranges (omega arith) refl (u32_off bytes _ 28 32 ranges (omega arith) refl
          (u64_off bytes _ 32 40 ranges (omega arith) refl
          (byte_off bytes _ 40 41 (omega arith) refl (byte_off bytes _ 41 42 (omega arith) refl
          (byte_off bytes _ 42 43 (omega arith) refl
          (byte_off bytes _ 43 44 (omega arith) refl (u64_off bytes _ 44 52 ranges room refl
          (csrs_spelled (u8_at 43 bytes) (drop 52 bytes) (AreBytes-drop 52 bytes ranges) rest))))))))
          ∙ retire_same _ _ _ _ _ _ _ _ _ _ _ _ _ _
          (flags_are (u8_at 40 bytes) (u8_at 41 bytes) (record {
            number = u8_at 42 bytes;
            value =
                u64_at 44 bytes;
          }) (ltb-true (u8_at 40 bytes) 4 (rule_ok form.Reserved 40 _ flags.0)))
          (cause_is (has_trap bytes) (u8_at 41 bytes) (cause_found bytes cause.0))
          (number_is (has_rd bytes) (u8_at 42 bytes) (u64_at 44 bytes) (number_found bytes rd.0))
          (sym (length-csrs_in (u8_at 43 bytes) (drop 52 bytes)))
          (value_is (has_rd bytes) (u8_at 42 bytes) (u64_at 44 bytes) (value_found bytes count.1));
      fits = (
        rd_fits (has_rd bytes) (u8_at 42 bytes) (u64_at 44 bytes) (rd_found bytes rd.0),
        rw length-csrs_in
            (omega arith),
      );
      holds = (
        u64_below bytes 20 ranges,
        u32_below bytes 28 ranges,
        u64_below bytes 32 ranges,
        cause_holds (has_trap bytes) (u8_at 41 bytes) (byte_below bytes 41 ranges),
        rd_holds (has_rd bytes) (u8_at 42 bytes) (u64_at 44 bytes) (byte_below bytes 42 ranges)
            (u64_below bytes 44 ranges),
        csrs_hold (u8_at 43 bytes) (drop 52 bytes) (AreBytes-drop 52 bytes ranges),
      );
    }
