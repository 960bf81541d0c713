-- The message that is read from a frame is the one that the frame spells.
use Rattle.std.proofs.Common.{◌≡◌, ℕ, ◌+◌, ◌≤◌, true, List, ◌∷◌, ◌++◌, length, refl, sym, ◌∙◌, ap, subst, arith}
use Rattle.std.proofs.Common.{Result, Ok, Err, OnOk, length-drop, None}
use Rattle.std.specs.Prelude.{◌==◌, nat_le}
use Rattle.std.specs.Int.{w16, w64, to_le_bytes}
use Rattle.std.proofs.lemmas.Bool.{eqb-true, leb-true, and_parts}
use Rattle.msg_frames.specs.declared.message.FrameFault.{FrameFault}
use Rattle.msg_frames.specs.declared.message.Message.{Message}
use Rattle.msg_frames.specs.declared.kinds.Kind.{Kind}
use Rattle.msg_frames.specs.declared.kinds.Kind.TheVariants as kind
use Rattle.tandem_base.specs.Fields.{u8_at, u16_at}
use Rattle.msg_frames.specs.Kinds.{code_of, kind_of, has_length, has_piece_length}
use Rattle.msg_frames.specs.Frames.{AreBytes, body_bytes, frame, Spells}
use Rattle.msg_frames.specs.Reading.{field_fault, piece_fault, body_in, message_in, reading}
use Rattle.msg_frames.proofs.Bytes.{byte_off, u16_off, u64_off, byte_below, u64_below}
use Rattle.msg_frames.proofs.Ways.{Read, reading_ok, coded_is, Whole, whole_is}
use Rattle.msg_frames.proofs.Found.{Found, FoundPiece, found_open, found_poke, found_piece, found_write}
use Rattle.msg_frames.proofs.Found.{found_squash, found_end}
use Rattle.msg_frames.proofs.FoundRetire.{found_retire}

-- a length of just one kind
size_is : (bytes : List ℕ) (n m : ℕ) → Whole bytes → (u16_at 0 bytes == n) ≡ true → n + 2 ≡ m → length bytes ≡ m
size_is bytes n m whole e sum = whole.size ∙ ap (λ k. k + 2) (eqb-true (u16_at 0 bytes) n e) ∙ sum

piece_of : (bytes : List ℕ) → AreBytes bytes → Whole bytes → has_piece_length (u16_at 0 bytes) ≡ true
    → piece_fault bytes ≡ None → FoundPiece bytes
piece_of bytes ranges whole size e =
    let parts = and_parts (nat_le 28 (u16_at 0 bytes)) (nat_le (u16_at 0 bytes) 35) size in
    found_piece bytes ranges whole.size (leb-true 28 (u16_at 0 bytes) parts.0) (leb-true (u16_at 0 bytes) 35 parts.1) e

found_of : (which : Kind) (bytes : List ℕ) → AreBytes bytes → Whole bytes → has_length which (u16_at 0 bytes) ≡ true
    → field_fault which bytes ≡ None
    → Found which bytes
found_of kind.Open bytes ranges whole size e = found_open bytes ranges (size_is bytes 26 28 whole size refl) e
found_of kind.Poke bytes ranges whole size e = found_poke bytes ranges (size_is bytes 30 32 whole size refl) e
found_of kind.Read bytes ranges whole size e =
    let found = piece_of bytes ranges whole size e in
    record { spelled = found.spelled; fits = found.fits; holds = found.holds }
found_of kind.Insert bytes ranges whole size e =
    let found = piece_of bytes ranges whole size e in
    record { spelled = found.spelled; fits = found.fits; holds = found.holds }
found_of kind.Write bytes ranges whole size e = found_write bytes ranges (size_is bytes 98 100 whole size refl) e
found_of kind.Bypass bytes ranges whole size e =
    let found = piece_of bytes ranges whole size e in
    record { spelled = found.spelled; fits = found.fits; holds = found.holds }
found_of kind.Retire bytes ranges whole size e = found_retire bytes ranges whole.size size e
found_of kind.Squash bytes ranges whole size e = found_squash bytes (size_is bytes 18 20 whole size refl)
found_of kind.End bytes ranges whole size e = found_end bytes (size_is bytes 18 20 whole size refl) e

kind_of_body : (which : Kind) (bytes : List ℕ) → kind_of (body_in which bytes) ≡ which
kind_of_body kind.Open bytes = refl
kind_of_body kind.Poke bytes = refl
kind_of_body kind.Read bytes = refl
kind_of_body kind.Insert bytes = refl
kind_of_body kind.Write bytes = refl
kind_of_body kind.Bypass bytes = refl
kind_of_body kind.Retire bytes = refl
kind_of_body kind.Squash bytes = refl
kind_of_body kind.End bytes = refl

head_same : (size size' code code' hart time tag : ℕ) (rest : List ℕ) → size ≡ size' → code ≡ code'
    → to_le_bytes w16 size ++ code ∷ hart ∷ to_le_bytes w64 time ++ to_le_bytes w64 tag ++ rest
    ≡ to_le_bytes w16 size' ++ code' ∷ hart ∷ to_le_bytes w64 time ++ to_le_bytes w64 tag ++ rest
head_same size size' code code' hart time tag rest s c = rw (s, c) refl

spelled_as : (which : Kind) (bytes : List ℕ) → AreBytes bytes → Whole bytes → u8_at 2 bytes ≡ code_of which
    → Found which bytes
    → bytes ≡ frame (message_in which bytes)
spelled_as which bytes ranges whole code found =
    let low = whole.low in let size = whole.size in
    let long : 20 ≤ length bytes = omega arith in
    let sum : u16_at 0 bytes ≡ 18 + length (body_bytes (body_in which bytes)) =
    omega (arith, ap length found.spelled, length-drop 20 bytes) in
    u16_off bytes _ 0 2 ranges (omega arith) refl (byte_off bytes _ 2 3 (omega arith) refl
    (byte_off bytes _ 3 4 (omega arith) refl
    (u64_off bytes _ 4 12 ranges (omega arith) refl (u64_off bytes _ 12 20 ranges long refl found.spelled))))
    ∙ head_same _ _ _ _ _ _ _ _ sum (code ∙ ap code_of (sym (kind_of_body which bytes)))

spells_read : (bytes : List ℕ) (message : Message) → AreBytes bytes → Whole bytes → (read : Read bytes message)
    → Spells bytes message
spells_read bytes message ranges whole read =
    let which = read.which in
    let found = found_of which bytes ranges whole read.length read.checked in
    let spelled : Spells bytes (message_in which bytes) = record {
      is = spelled_as which bytes ranges whole (coded_is (u8_at 2 bytes) which read.coded) found;
      fits = found.fits;
      holds = (byte_below bytes 3 ranges, u64_below bytes 4 ranges, u64_below bytes 12 ranges, found.holds);
    } in
    subst (Spells bytes) read.value spelled

-- a message that is read is spelled
pub spelled : (bytes : List ℕ) (message : Message) → AreBytes bytes → reading bytes ≡ Ok message → Spells bytes message
spelled bytes message ranges e =
    let way = reading_ok bytes message e in spells_read bytes message ranges (whole_is bytes way.0) way.1

-- a frame that was read into a message spells it
pub found_into : (bytes : List ℕ) (result : Result (Unit {0}) FrameFault) (message : Message) → AreBytes bytes
    → OnOk result (reading bytes ≡ Ok message) → OnOk result (Spells bytes message)
found_into bytes (Ok v) message ranges e = spelled bytes message ranges e
found_into bytes (Err broken) message ranges e = tt
