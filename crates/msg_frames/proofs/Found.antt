-- What is read from the fields of a frame is spelled by them.
use Rattle.std.proofs.Common.{◌≡◌, ℕ, ◌+◌, ◌%◌, ◌<◌, ◌≤◌, true, false, List, ◌∷◌, ◌++◌, length, take, drop}
use Rattle.std.proofs.Common.{get_or, refl, sym, ◌∙◌, ap, arith, inl, inr, lit<, add-zero, zero-add}
use Rattle.std.proofs.Common.{length-drop, length-take-le, None}
use Rattle.std.specs.Prelude.{◌==◌, nat_lt, nat_le, ◌&&◌}
use Rattle.std.proofs.lemmas.Bool.{eqb-true, eqb-false, leb-true, ltb-true, and_parts, cond-true, cond-false}
use Rattle.std.specs.Int.{w16, w64, to_le_bytes}
use Rattle.std.proofs.lemmas.List.{drop_all, take_all, get_or-take, get_or-drop}
use Rattle.tandem_base.specs.FirstFault.{◌or_else◌}
use Rattle.msg_frames.specs.declared.message.Target.TheVariants.{Pc, X, Csr}
use Rattle.msg_frames.specs.declared.message.Form.TheVariants as form
use Rattle.msg_frames.specs.declared.kinds.Kind.{Kind}
use Rattle.msg_frames.specs.declared.kinds.Kind.TheVariants as kind
use Rattle.tandem_base.specs.Fields.{u8_at, u16_at, u32_at, u64_at}
use Rattle.msg_frames.specs.Frames.{AreBytes, body_bytes, piece_bytes, FitsBody, BodyInRange, target_code}
use Rattle.msg_frames.specs.Frames.{target_number, FitsTarget, TargetInRange, FitsPiece, PieceInRange, is_poked_csr}
use Rattle.msg_frames.specs.Reading.{rule, reserved_fault, open_fault, poke_fault, target_fault, piece_fault}
use Rattle.msg_frames.specs.Reading.{write_fault, end_fault, unmasked_zeros, head_in, target_in, piece_in}
use Rattle.msg_frames.specs.Reading.{body_in}
use Rattle.msg_frames.proofs.Bytes.{AreBytes-take, AreBytes-drop, byte_off, u16_off, u32_off, u64_off}
use Rattle.msg_frames.proofs.Bytes.{byte_below, u16_below, u32_below, u64_below}
use Rattle.msg_frames.proofs.Steps.{none_else, rule_ok, chosen, zeros_ok, unmasked_ok}

-- the fields of a kind are spelled by the bytes behind the head, and keep their rules
pub record Found (which : Kind) (bytes : List ℕ) : Type 0 where
  pub spelled : drop 20 bytes ≡ body_bytes (body_in which bytes)
  pub fits : FitsBody (head_in bytes) (body_in which bytes)
  pub holds : BodyInRange (body_in which bytes)

-- the first byte of a field
first_byte : (at n : ℕ) (bytes : List ℕ) → 0 < n → get_or (take n (drop at bytes)) 0 0 ≡ u8_at at bytes
first_byte at n bytes some = get_or-take n (drop at bytes) 0 0 some ∙ get_or-drop at bytes 0 0
    ∙ ap (λ k. get_or bytes k 0) (add-zero at)

-- ---- reserved fields

pub reserved_byte : (at : ℕ) (bytes : List ℕ) → reserved_fault at 1 bytes ≡ None → u8_at at bytes ≡ 0
reserved_byte at bytes e = sym (first_byte at 1 bytes (lit< tt)) ∙ zeros_ok at (take 1 (drop at bytes)) e 0

reserved_u16 : (at : ℕ) (bytes : List ℕ) → reserved_fault at 2 bytes ≡ None → u16_at at bytes ≡ 0
reserved_u16 at bytes e =
    let zero_at = zeros_ok at (take 2 (drop at bytes)) e in omega (arith, zero_at 0, zero_at 1)

reserved_u32 : (at : ℕ) (bytes : List ℕ) → reserved_fault at 4 bytes ≡ None → u32_at at bytes ≡ 0
reserved_u32 at bytes e =
    let zero_at = zeros_ok at (take 4 (drop at bytes)) e in
    omega (arith, zero_at 0, zero_at 1, zero_at 2, zero_at 3)

pub reserved_u64 : (at : ℕ) (bytes : List ℕ) → reserved_fault at 8 bytes ≡ None → u64_at at bytes ≡ 0
reserved_u64 at bytes e =
    let zero_at = zeros_ok at (take 8 (drop at bytes)) e in
    omega (arith, zero_at 0, zero_at 1, zero_at 2, zero_at 3, zero_at 4, zero_at 5, zero_at 6, zero_at 7)

-- ---- Open

pub found_open : (bytes : List ℕ) → AreBytes bytes → length bytes ≡ 28 → open_fault bytes ≡ None → Found kind.Open bytes
found_open bytes ranges len e =
    let hart = none_else (reserved_fault 3 1 bytes) _ e in
    let tag = none_else (reserved_fault 12 8 bytes) _ hart.1 in
    let version = none_else (rule form.Field 20 (u8_at 20 bytes == 1)) _ tag.1 in
    let harts = none_else (rule form.Field 21 (nat_le 1 (u8_at 21 bytes) && nat_le (u8_at 21 bytes) 16)) _
    version.1 in
    let flags = none_else (rule form.Reserved 22 (nat_lt (u8_at 22 bytes) 4)) _ harts.1 in
    let granule = none_else (reserved_fault 23 1 bytes) (reserved_fault 24 4 bytes) flags.1 in
    let some_harts = and_parts (nat_le 1 (u8_at 21 bytes)) (nat_le (u8_at 21 bytes) 16) (rule_ok _ _ _ harts.0) in
    record {
      spelled = byte_off bytes _ 20 21 (omega arith) refl (byte_off bytes _ 21 22 (omega arith) refl
          (byte_off bytes _ 22 23 (omega arith) refl
          (byte_off bytes _ 23 24 (omega arith) refl (u32_off bytes _ 24 28 ranges (omega arith) refl
          (drop_all 28 bytes (omega arith))))));
      fits = (
        reserved_byte 3 bytes hart.0,
        reserved_u64 12 bytes tag.0,
        (
          eqb-true (u8_at 20 bytes) 1 (rule_ok _ _ _ version.0),
          leb-true 1 (u8_at 21 bytes) some_harts.0,
          leb-true (u8_at 21 bytes) 16 some_harts.1,
          ltb-true (u8_at 22 bytes) 4 (rule_ok _ _ _ flags.0),
          reserved_byte 23 bytes granule.0,
          reserved_u32 24 bytes granule.1,
        ),
      );
      holds = (
        byte_below bytes 20 ranges,
        byte_below bytes 21 ranges,
        byte_below bytes 22 ranges,
        byte_below bytes
            23 ranges,
        u32_below bytes 24 ranges,
      );
    }

-- ---- Poke

-- what the target and its number stand for
record FoundTarget (bytes : List ℕ) : Type 0 where
  pub code : u8_at 20 bytes ≡ target_code (target_in bytes)
  pub number : u16_at 22 bytes ≡ target_number (target_in bytes)
  pub fits : FitsTarget (target_in bytes) (u64_at 24 bytes)
  pub holds : TargetInRange (target_in bytes)

target_pc : (bytes : List ℕ) → (u8_at 20 bytes == 0) ≡ true
    → reserved_fault 22 2 bytes or_else rule form.Field 24 (u64_at 24 bytes % 4 == 0) ≡ None → FoundTarget bytes
target_pc bytes pc e =
    let parts = none_else (reserved_fault 22 2 bytes) (rule form.Field 24 (u64_at 24 bytes % 4 == 0)) e in
    let is : target_in bytes ≡ Pc = cond-true (u8_at 20 bytes == 0) Pc _ pc in
    record {
      code = rw is (eqb-true (u8_at 20 bytes) 0 pc);
      number = rw is (reserved_u16 22 bytes parts.0);
      fits = rw is (eqb-true (u64_at 24 bytes % 4) 0 (rule_ok _ _ _ parts.1));
      holds = rw is tt;
    }

target_x : (bytes : List ℕ) → AreBytes bytes → (u8_at 20 bytes == 0) ≡ false → (u8_at 20 bytes == 1) ≡ true
    → rule form.Field 22 (nat_le 1 (u16_at 22 bytes) && nat_le (u16_at 22 bytes) 31) ≡ None → FoundTarget bytes
target_x bytes ranges no_pc x e =
    let parts = and_parts (nat_le 1 (u16_at 22 bytes)) (nat_le (u16_at 22 bytes) 31) (rule_ok _ _ _ e) in
    let low = leb-true 1 (u16_at 22 bytes) parts.0 in
    let high = leb-true (u16_at 22 bytes) 31 parts.1 in
    let first = first_byte 22 2 bytes (lit< tt) in
    let number : u16_at 22 bytes ≡ u8_at 22 bytes = omega arith in
    let is : target_in bytes ≡ X (u8_at 22 bytes) = cond-false (u8_at 20 bytes == 0) Pc _ no_pc
    ∙ cond-true (u8_at 20 bytes == 1) (X (u8_at 22 bytes)) _ x in
    record {
      code = rw is (eqb-true (u8_at 20 bytes) 1 x);
      number = rw is number;
      fits = rw is (omega arith, omega arith);
      holds = rw is (byte_below bytes 22 ranges);
    }

target_csr : (bytes : List ℕ) → AreBytes bytes → u8_at 20 bytes ≤ 2 → (u8_at 20 bytes == 0) ≡ false
    → (u8_at 20 bytes == 1) ≡ false
    → rule form.Field 22 (is_poked_csr (u16_at 22 bytes)) ≡ None → FoundTarget bytes
target_csr bytes ranges low no_pc no_x e =
    let is : target_in bytes ≡ Csr (u16_at 22 bytes) = cond-false (u8_at 20 bytes == 0) Pc _ no_pc
    ∙ cond-false (u8_at 20 bytes == 1) (X (u8_at 22 bytes)) _ no_x in
    record {
      code = rw is (omega (arith, eqb-false (u8_at 20 bytes) 0 no_pc, eqb-false (u8_at 20 bytes) 1 no_x));
      number = rw is refl;
      fits = rw is (rule_ok _ _ _ e);
      holds = rw is (u16_below bytes 22 ranges);
    }

found_target : (bytes : List ℕ) → AreBytes bytes → u8_at 20 bytes ≤ 2
    → target_fault (u8_at 20 bytes) bytes ≡ None → FoundTarget bytes
found_target bytes ranges low e =
    elim (chosen (u8_at 20 bytes == 0) _ _ None e) [
      | inl pc ↦ target_pc bytes pc.0 pc.1
      | inr no_pc ↦ elim (chosen (u8_at 20 bytes == 1) _ _ None no_pc.1) [
        | inl x ↦ target_x bytes ranges no_pc.0 x.0 x.1
        | inr no_x ↦ target_csr bytes ranges low no_pc.0 no_x.0 no_x.1
      ]
    ]

poke_same : (target target' reserved number number' value : ℕ) → target ≡ target' → reserved ≡ 0 → number ≡ number'
    → target ∷ reserved ∷ to_le_bytes w16 number ++ to_le_bytes w64 value ≡ target' ∷ 0 ∷ to_le_bytes w16 number' ++
    to_le_bytes w64 value
poke_same target target' reserved number number' value e f g = rw (e, f, g) refl

pub found_poke : (bytes : List ℕ) → AreBytes bytes → length bytes ≡ 32 → poke_fault bytes ≡ None → Found kind.Poke bytes
found_poke bytes ranges len e =
    let tag = none_else (reserved_fault 12 8 bytes) _ e in
    let target = none_else (rule form.Field 20 (nat_le (u8_at 20 bytes) 2)) _ tag.1 in
    let zero = none_else (reserved_fault 21 1 bytes) (target_fault (u8_at 20 bytes) bytes) target.1 in
    let found = found_target bytes ranges (leb-true (u8_at 20 bytes) 2 (rule_ok _ _ _ target.0)) zero.1 in
    record {
      spelled = byte_off bytes _ 20 21 (omega arith) refl (byte_off bytes _ 21 22 (omega arith) refl
          (u16_off bytes _ 22 24 ranges (omega arith) refl
          (u64_off bytes _ 24 32 ranges (omega arith) refl (drop_all 32 bytes (omega arith)))))
          ∙ poke_same _ _ _ _ _ (u64_at 24 bytes) found.code (reserved_byte 21 bytes zero.0) found.number;
      fits = (reserved_u64 12 bytes tag.0, found.fits);
      holds = (found.holds, u64_below bytes 24 ranges);
    }

-- ---- Read, Insert and Bypass

pub record FoundPiece (bytes : List ℕ) : Type 0 where
  pub spelled : drop 20 bytes ≡ piece_bytes (piece_in bytes)
  pub fits : FitsPiece (piece_in bytes)
  pub holds : PieceInRange (piece_in bytes)

pub found_piece : (bytes : List ℕ) → AreBytes bytes → length bytes ≡ u16_at 0 bytes + 2 → 28 ≤ u16_at 0 bytes
    → u16_at 0 bytes ≤ 35
    → piece_fault bytes ≡ None → FoundPiece bytes
found_piece bytes ranges len low high e =
    let count = eqb-true (27 + u8_at 28 bytes) (u16_at 0 bytes) (rule_ok form.Field 28
    (27 + u8_at 28 bytes == u16_at 0 bytes) e) in
    let size : length (drop 29 bytes) ≡ u8_at 28 bytes = length-drop 29 bytes ∙ omega arith in
    record {
      spelled = u64_off bytes _ 20 28 ranges (omega arith) refl (byte_off bytes _ 28 29 (omega arith) refl refl
          ∙ ap (λ n. n ∷ drop 29 bytes) (sym size));
      fits = (omega arith, omega arith);
      holds = (u64_below bytes 20 ranges, AreBytes-drop 29 bytes ranges);
    }

-- ---- Write

pub found_write : (bytes : List ℕ) → AreBytes bytes → length bytes ≡ 100 → write_fault bytes ≡ None
    → Found kind.Write bytes
found_write bytes ranges len e =
    let tag = none_else (reserved_fault 12 8 bytes) _ e in
    let line = none_else (rule form.Field 20 (u64_at 20 bytes % 64 == 0)) (unmasked_zeros (u64_at 28 bytes) 0
    (take 64 (drop 36 bytes))) tag.1 in
    let whole : take 64 (drop 36 bytes) ≡ drop 36 bytes =
    take_all 64 (drop 36 bytes) (omega (arith, length-drop 36 bytes)) in
    record {
      spelled = u64_off bytes _ 20 28 ranges (omega arith) refl (u64_off bytes _ 28 36 ranges (omega arith) refl
          (sym whole));
      fits = (
        reserved_u64 12 bytes tag.0,
        (
          eqb-true (u64_at 20 bytes % 64) 0 (rule_ok _ _ _ line.0),
          λ k below outside. unmasked_ok (u64_at 28 bytes) 0 (take 64 (drop 36 bytes)) line.1 k (rw zero-add outside),
        ),
      );
      holds = (
        u64_below bytes 20 ranges,
        u64_below bytes 28 ranges,
        length-take-le 64 (drop 36 bytes) (omega (arith, length-drop 36 bytes)),
        AreBytes-take 64 _ (AreBytes-drop 36 bytes ranges),
      );
    }

-- ---- Squash and End

pub found_squash : (bytes : List ℕ) → length bytes ≡ 20 → Found kind.Squash bytes
found_squash bytes len = record { spelled = drop_all 20 bytes (omega arith); fits = tt; holds = tt }

pub found_end : (bytes : List ℕ) → length bytes ≡ 20 → end_fault bytes ≡ None → Found kind.End bytes
found_end bytes len e =
    let hart = none_else (reserved_fault 3 1 bytes) (reserved_fault 12 8 bytes) e in
    record {
      spelled = drop_all 20 bytes (omega arith);
      fits =
          (reserved_byte 3 bytes hart.0, reserved_u64 12 bytes hart.1);
      holds = tt;
    }
