-- How a frame falls into its fields.
use Rattle.std.proofs.Common.{◌≡◌, ℕ, zero, suc, ◌+◌, ◌^◌, ◌<◌, ◌≤◌, List, [], ◌∷◌, ◌++◌, length, take, drop}
use Rattle.std.proofs.Common.{refl, sym, ◌∙◌, arith, take-append-drop, drop-drop, length-drop, length-take-le}
use Rattle.std.proofs.lemmas.List.{drop_more, get_or-drop}
use Rattle.std.proofs.lemmas.Nat.{le_bytes_2, le_bytes_4, le_bytes_8}
use Rattle.std.specs.Int.{w16, w32, w64, to_le_bytes}
use Rattle.tandem_base.specs.Fields.{u8_at, u16_at, u32_at, u64_at}
use Rattle.msg_frames.specs.Frames.{AreBytes}

pub AreBytes-take : (n : ℕ) (bytes : List ℕ) → AreBytes bytes → AreBytes (take n bytes)
AreBytes-take zero bytes h k = omega arith
AreBytes-take (suc n) [] h k = omega arith
AreBytes-take (suc n) (byte ∷ bytes) h zero = h 0
AreBytes-take (suc n) (byte ∷ bytes) h (suc k) = AreBytes-take n bytes (λ i. h (suc i)) k

pub AreBytes-drop : (n : ℕ) (bytes : List ℕ) → AreBytes bytes → AreBytes (drop n bytes)
AreBytes-drop n bytes h k = rw get_or-drop (h (n + k))

-- the first bytes of what is behind an offset, and then those behind them
pub split_off : (bytes piece rest : List ℕ) (at n next : ℕ) → at + n ≡ next → take n (drop at bytes) ≡ piece
    → drop next bytes ≡ rest
    → drop at bytes ≡ piece ++ rest
split_off bytes piece rest at n next e p r =
    sym (take-append-drop n (drop at bytes)) ∙ rw (p, drop-drop n at bytes, e, r) refl

pub byte_off : (bytes rest : List ℕ) (at next : ℕ) → next ≤ length bytes → at + 1 ≡ next → drop next bytes ≡ rest
    → drop at bytes ≡ u8_at at bytes ∷ rest
byte_off bytes rest at next inside e r =
    let below : at < length bytes = omega arith in drop_more bytes at 0 below ∙ rw (e, r) refl

-- how many bytes there are
length_off : (bytes : List ℕ) (at n : ℕ) → at + n ≤ length bytes → length (take n (drop at bytes)) ≡ n
length_off bytes at n inside = length-take-le n (drop at bytes) (omega (arith, length-drop at bytes))

pub u16_off : (bytes rest : List ℕ) (at next : ℕ) → AreBytes bytes → next ≤ length bytes → at + 2 ≡ next
    → drop next bytes ≡ rest
    → drop at bytes ≡ to_le_bytes w16 (u16_at at bytes) ++ rest
u16_off bytes rest at next ranges inside e r = split_off bytes _ rest at 2 next e
    (sym (le_bytes_2 (take 2 (drop at bytes)) (u16_at at bytes) (length_off bytes at 2 (omega arith))
    (AreBytes-take 2 _ (AreBytes-drop at bytes ranges)) refl)) r

pub u32_off : (bytes rest : List ℕ) (at next : ℕ) → AreBytes bytes → next ≤ length bytes → at + 4 ≡ next
    → drop next bytes ≡ rest
    → drop at bytes ≡ to_le_bytes w32 (u32_at at bytes) ++ rest
u32_off bytes rest at next ranges inside e r = split_off bytes _ rest at 4 next e
    (sym (le_bytes_4 (take 4 (drop at bytes)) (u32_at at bytes) (length_off bytes at 4 (omega arith))
    (AreBytes-take 4 _ (AreBytes-drop at bytes ranges)) refl)) r

pub u64_off : (bytes rest : List ℕ) (at next : ℕ) → AreBytes bytes → next ≤ length bytes → at + 8 ≡ next
    → drop next bytes ≡ rest
    → drop at bytes ≡ to_le_bytes w64 (u64_at at bytes) ++ rest
u64_off bytes rest at next ranges inside e r = split_off bytes _ rest at 8 next e
    (sym (le_bytes_8 (take 8 (drop at bytes)) (u64_at at bytes) (length_off bytes at 8 (omega arith))
    (AreBytes-take 8 _ (AreBytes-drop at bytes ranges)) refl)) r

-- the ranges of what is read
pub byte_below : (bytes : List ℕ) (at : ℕ) → AreBytes bytes → u8_at at bytes < 2 ^ 8
byte_below bytes at ranges = ranges at

pub u16_below : (bytes : List ℕ) (at : ℕ) → AreBytes bytes → u16_at at bytes < 2 ^ 16
u16_below bytes at ranges =
    let fits : AreBytes (take 2 (drop at bytes)) = AreBytes-take 2 _ (AreBytes-drop at bytes ranges) in
    omega (arith, fits 0, fits 1)

pub u32_below : (bytes : List ℕ) (at : ℕ) → AreBytes bytes → u32_at at bytes < 2 ^ 32
u32_below bytes at ranges =
    let fits : AreBytes (take 4 (drop at bytes)) = AreBytes-take 4 _ (AreBytes-drop at bytes ranges) in
    omega (arith, fits 0, fits 1, fits 2, fits 3)

pub u64_below : (bytes : List ℕ) (at : ℕ) → AreBytes bytes → u64_at at bytes < 2 ^ 64
u64_below bytes at ranges =
    let fits : AreBytes (take 8 (drop at bytes)) = AreBytes-take 8 _ (AreBytes-drop at bytes ranges) in
    omega (arith, fits 0, fits 1, fits 2, fits 3, fits 4, fits 5, fits 6, fits 7)
