-- Which message a frame spells, and else the first fault of its form.
use Rattle.std.specs.Prelude.{ℕ, zero, suc, ◌==◌, nat_le, nat_lt, ◌&&◌, not, ◌+◌, ◌*◌, ◌/◌, ◌%◌, Bool}
use Rattle.std.specs.Prelude.{true, false, if◌then◌else◌, List, [], ◌∷◌, length, take, drop, Option, Some, None}
use Rattle.std.specs.Prelude.{Result, Err}
use Rattle.tandem_base.specs.FirstFault.{◌or_else◌, unless}
use Rattle.msg_frames.specs.declared.csrs.CsrValue.{CsrValue}
use Rattle.msg_frames.specs.declared.message.Head.{Head}
use Rattle.msg_frames.specs.declared.message.OpenInfo.{OpenInfo}
use Rattle.msg_frames.specs.declared.message.Target.{Target}
use Rattle.msg_frames.specs.declared.message.Target.TheVariants.{Pc, X, Csr}
use Rattle.msg_frames.specs.declared.message.Poke.{Poke}
use Rattle.msg_frames.specs.declared.message.Piece.{Piece}
use Rattle.msg_frames.specs.declared.message.LineWrite.{LineWrite}
use Rattle.msg_frames.specs.declared.message.RdValue.{RdValue}
use Rattle.msg_frames.specs.declared.message.Retire.{Retire}
use Rattle.msg_frames.specs.declared.message.Body.{Body}
use Rattle.msg_frames.specs.declared.message.Body.TheVariants as body
use Rattle.msg_frames.specs.declared.message.Message.{Message}
use Rattle.msg_frames.specs.declared.message.Form.{Form}
use Rattle.std.specs.Int.{bit_at}
use Rattle.msg_frames.specs.declared.message.Form.TheVariants as form
use Rattle.msg_frames.specs.declared.message.FrameFault.{FrameFault}
use Rattle.msg_frames.specs.declared.kinds.Kind.{Kind}
use Rattle.msg_frames.specs.declared.kinds.Kind.TheVariants as kind
use Rattle.tandem_base.specs.Fields.{u8_at, u16_at, u32_at, u64_at}
use Rattle.msg_frames.specs.Frames.{is_poked_csr}
use Rattle.msg_frames.specs.Kinds.{kind_coded, has_length}

-- ---- the first fault of the fields, in the order of their offsets

-- the fault of this form at this offset
abbrev pub fault : Form → ℕ → FrameFault
fault form offset = record { form = form; offset = offset }

-- a rule of the field at this offset
abbrev pub rule : Form → ℕ → Bool → Option FrameFault
rule form at true = None
rule form at false = Some (fault form at)

-- these bytes, the first at this offset, have to be 0
abbrev pub zeros : ℕ → List ℕ → Option FrameFault
zeros at [] = None
zeros at (byte ∷ bytes) = if byte == 0 then zeros (at + 1) bytes else Some (fault form.Reserved at)

-- the `count` bytes from this offset on have to be 0
abbrev pub reserved_fault : ℕ → ℕ → List ℕ → Option FrameFault
reserved_fault at count frame = zeros at (take count (drop at frame))

-- byte k of a line is outside the mask, and not 0
abbrev pub is_stray_byte : ℕ → ℕ → ℕ → Bool
is_stray_byte mask k byte = bit_at mask k == 0 && not (byte == 0)

-- these bytes, the first with number k of its line, have to be 0 outside the mask; byte k is at
-- offset 36 + k
abbrev pub unmasked_zeros : ℕ → ℕ → List ℕ → Option FrameFault
unmasked_zeros mask k [] = None
unmasked_zeros mask k (byte ∷ bytes) =
    if is_stray_byte mask k byte then Some (fault form.Reserved (36 + k)) else unmasked_zeros mask (k + 1) bytes

-- the hart and the tag, then the settings
abbrev pub open_fault : List ℕ → Option FrameFault
open_fault frame =
    reserved_fault 3 1 frame
    or_else reserved_fault 12 8 frame
    or_else rule form.Field 20 (u8_at 20 frame == 1)
    or_else rule form.Field 21 (nat_le 1 (u8_at 21 frame) && nat_le (u8_at 21 frame) 16)
    or_else rule form.Reserved 22 (nat_lt (u8_at 22 frame) 4)
    or_else reserved_fault 23 1 frame
    or_else reserved_fault 24 4 frame

-- the number and the value that go with each target
abbrev pub target_fault : ℕ → List ℕ → Option FrameFault
target_fault target frame =
    if target == 0 then reserved_fault 22 2 frame or_else rule form.Field 24 (u64_at 24 frame % 4 == 0)
    else if target == 1 then rule form.Field 22 (nat_le 1 (u16_at 22 frame) && nat_le (u16_at 22 frame) 31)
    else rule form.Field 22 (is_poked_csr (u16_at 22 frame))

-- the tag, the target, the zero, and what goes with the target
abbrev pub poke_fault : List ℕ → Option FrameFault
poke_fault frame =
    reserved_fault 12 8 frame
    or_else rule form.Field 20 (nat_le (u8_at 20 frame) 2)
    or_else reserved_fault 21 1 frame
    or_else target_fault (u8_at 20 frame) frame

-- as many bytes of memory as the length leaves room for
abbrev pub piece_fault : List ℕ → Option FrameFault
piece_fault frame = rule form.Field 28 (27 + u8_at 28 frame == u16_at 0 frame)

-- the tag, the line, and the bytes outside the mask
abbrev pub write_fault : List ℕ → Option FrameFault
write_fault frame =
    reserved_fault 12 8 frame
    or_else rule form.Field 20 (u64_at 20 frame % 64 == 0)
    or_else unmasked_zeros (u64_at 28 frame) 0 (take 64 (drop 36 frame))

-- bit 0 of the flags: it trapped
abbrev pub has_trap : List ℕ → Bool
has_trap frame = u8_at 40 frame % 2 == 1

-- bit 1 of the flags: it wrote a register
abbrev pub has_rd : List ℕ → Bool
has_rd frame = u8_at 40 frame / 2 % 2 == 1

-- without a trap the cause is 0
unfoldable pub cause_fault : List ℕ → Option FrameFault
cause_fault frame = if has_trap frame then None else reserved_fault 41 1 frame

-- the register that is written is x1 to x31, and else 0
unfoldable pub rd_fault : List ℕ → Option FrameFault
rd_fault frame =
    if has_rd frame then rule form.Field 42 (nat_le 1 (u8_at 42 frame) && nat_le (u8_at 42 frame) 31)
    else reserved_fault 42 1 frame

-- without a register its value is 0
unfoldable pub value_fault : List ℕ → Option FrameFault
value_fault frame = if has_rd frame then None else reserved_fault 44 8 frame

-- the flags, the cause, the register, how many CSRs the length leaves room for, and the value
abbrev pub retire_fault : List ℕ → Option FrameFault
retire_fault frame =
    rule form.Reserved 40 (nat_lt (u8_at 40 frame) 4)
    or_else cause_fault frame
    or_else rd_fault frame
    or_else rule form.Field 43 (50 + 10 * u8_at 43 frame == u16_at 0 frame)
    or_else value_fault frame

-- the hart and the tag
abbrev pub end_fault : List ℕ → Option FrameFault
end_fault frame = reserved_fault 3 1 frame or_else reserved_fault 12 8 frame

-- the first fault of the fields
abbrev pub field_fault : Kind → List ℕ → Option FrameFault
field_fault kind.Open frame = open_fault frame
field_fault kind.Poke frame = poke_fault frame
field_fault kind.Read frame = piece_fault frame
field_fault kind.Insert frame = piece_fault frame
field_fault kind.Write frame = write_fault frame
field_fault kind.Bypass frame = piece_fault frame
field_fault kind.Retire frame = retire_fault frame
field_fault kind.Squash frame = None
field_fault kind.End frame = end_fault frame

-- ---- the values of the fields

-- the hart, the time and the tag
abbrev pub head_in : List ℕ → Head
head_in frame = record { hart = u8_at 3 frame; time = u64_at 4 frame; tag = u64_at 12 frame }

-- the settings
abbrev pub open_in : List ℕ → OpenInfo
open_in frame = record {
  version = u8_at 20 frame;
  harts = u8_at 21 frame;
  flags = u8_at 22 frame;
  granule = u8_at 23 frame;
  skew = u32_at 24 frame;
}

-- what a Poke sets
abbrev pub target_in : List ℕ → Target
target_in frame =
    if u8_at 20 frame == 0 then Pc
    else if u8_at 20 frame == 1 then X (u8_at 22 frame)
    else Csr (u16_at 22 frame)

-- what a Poke sets, and its value
abbrev pub poke_in : List ℕ → Poke
poke_in frame = record { target = target_in frame; value = u64_at 24 frame }

-- the address, and all bytes behind the count
abbrev pub piece_in : List ℕ → Piece
piece_in frame = record { addr = u64_at 20 frame; bytes = drop 29 frame }

-- the line, the mask and the bytes of the line
abbrev pub write_in : List ℕ → LineWrite
write_in frame = record { line = u64_at 20 frame; mask = u64_at 28 frame; bytes = take 64 (drop 36 frame) }

-- so many CSRs of ten bytes each
abbrev pub csrs_in : ℕ → List ℕ → List CsrValue
csrs_in zero bytes = []
csrs_in (suc count) bytes = record { number = u16_at 0 bytes; value = u64_at 2 bytes } ∷ csrs_in count (drop 10 bytes)

-- the cause of the trap that a Retire says it had
abbrev pub trap_in : List ℕ → Option ℕ
trap_in frame = if has_trap frame then Some (u8_at 41 frame) else None

-- the register that a Retire says it wrote
abbrev pub rd_in : List ℕ → Option RdValue
rd_in frame = if has_rd frame then Some (record { number = u8_at 42 frame; value = u64_at 44 frame }) else None

-- a Retire, with the trap, the register and the CSRs that it says it has
abbrev pub retire_in : List ℕ → Retire
retire_in frame = record {
  pc = u64_at 20 frame;
  word = u32_at 28 frame;
  next = u64_at 32 frame;
  trap = trap_in frame;
  rd = rd_in frame;
  csrs = csrs_in (u8_at 43 frame) (drop 52 frame);
}

-- the fields of a kind
abbrev pub body_in : Kind → List ℕ → Body
body_in kind.Open frame = body.Open (open_in frame)
body_in kind.Poke frame = body.Poke (poke_in frame)
body_in kind.Read frame = body.Read (piece_in frame)
body_in kind.Insert frame = body.Insert (piece_in frame)
body_in kind.Write frame = body.Write (write_in frame)
body_in kind.Bypass frame = body.Bypass (piece_in frame)
body_in kind.Retire frame = body.Retire (retire_in frame)
body_in kind.Squash frame = body.Squash
body_in kind.End frame = body.End

-- the head, and the fields of a kind
abbrev pub message_in : Kind → List ℕ → Message
message_in kind frame = record { head = head_in frame; body = body_in kind frame }

-- ---- the whole

-- a length that some frame has
abbrev pub is_length : ℕ → Bool
is_length length = nat_le 18 length && nat_le length 512

-- as many bytes as its length says
abbrev pub has_stated_length : List ℕ → Bool
has_stated_length frame = nat_le 2 (length frame) && is_length (u16_at 0 frame) && length frame == u16_at 0 frame + 2

-- what a frame of this kind spells
unfoldable pub reading_of : Option Kind → List ℕ → Result Message FrameFault
reading_of None frame = Err (fault form.Kind 2)
reading_of (Some kind) frame =
    if has_length kind (u16_at 0 frame) then unless (field_fault kind frame) (message_in kind frame)
    else Err (fault form.Length 0)

-- the message that the bytes spell, or how they break the form of a frame
unfoldable pub reading : List ℕ → Result Message FrameFault
reading frame =
    if has_stated_length frame then reading_of (kind_coded (u8_at 2 frame)) frame
    else Err (fault form.Length 0)
