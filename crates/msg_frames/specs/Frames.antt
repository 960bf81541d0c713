-- The one spelling of a message, and the rules that its fields keep.
use Rattle.std.specs.Prelude.{◌≡◌, ℕ, ◌+◌, ◌%◌, ◌^◌, ◌<◌, ◌≤◌, Bool, IsTrue, nat_eq, List, [], ◌∷◌}
use Rattle.std.specs.Prelude.{◌++◌, length, slice_index, All, Option, Some, None, IfSome, unwrap_or}
use Rattle.std.specs.Int.{w16, w32, w64, to_le_bytes, bit_at}
use Rattle.std.specs.List.{flat_map, list_any}
use Rattle.tandem_base.specs.CsrNumbers as csr
use Rattle.msg_frames.specs.declared.csrs.CsrValue.{CsrValue}
use Rattle.msg_frames.specs.declared.message.Head.{Head}
use Rattle.msg_frames.specs.declared.message.OpenInfo.{OpenInfo}
use Rattle.msg_frames.specs.declared.message.Target.{Target}
use Rattle.msg_frames.specs.declared.message.Target.TheVariants.{Pc, X, Csr}
use Rattle.msg_frames.specs.declared.message.Poke.{Poke}
use Rattle.msg_frames.specs.declared.message.Piece.{Piece}
use Rattle.msg_frames.specs.declared.message.LineWrite.{LineWrite}
use Rattle.msg_frames.specs.declared.message.RdValue.{RdValue}
use Rattle.msg_frames.specs.declared.message.Retire.{Retire}
use Rattle.msg_frames.specs.declared.message.Body.{Body}
use Rattle.msg_frames.specs.declared.message.Body.TheVariants as body
use Rattle.msg_frames.specs.declared.message.Message.{Message}
use Rattle.msg_frames.specs.Kinds.{code_of, kind_of}

-- ---- the spelling

-- the version, the harts, the flags, the granule and the skew
abbrev pub open_bytes : OpenInfo → List ℕ
open_bytes info = info.version ∷ info.harts ∷ info.flags ∷ info.granule ∷ to_le_bytes w32 info.skew

-- what a Poke's target byte says: 0 the pc, 1 a register, 2 a CSR
abbrev pub target_code : Target → ℕ
target_code Pc = 0
target_code (X _) = 1
target_code (Csr _) = 2

-- the number of the register or CSR, 0 for the pc
abbrev pub target_number : Target → ℕ
target_number Pc = 0
target_number (X number) = number
target_number (Csr number) = number

-- the target, a zero, the number and the value
abbrev pub poke_bytes : Poke → List ℕ
poke_bytes poke =
    target_code poke.target ∷ 0 ∷ to_le_bytes w16 (target_number poke.target)
    ++ to_le_bytes w64 poke.value

-- the address, how many bytes, and the bytes
abbrev pub piece_bytes : Piece → List ℕ
piece_bytes piece = to_le_bytes w64 piece.addr ++ length piece.bytes ∷ piece.bytes

-- the line, the mask and the 64 bytes of the line
abbrev pub write_bytes : LineWrite → List ℕ
write_bytes write = to_le_bytes w64 write.line ++ to_le_bytes w64 write.mask ++ write.bytes

-- the number and the value
abbrev pub csr_bytes : CsrValue → List ℕ
csr_bytes csr = to_le_bytes w16 csr.number ++ to_le_bytes w64 csr.value

-- a flag's worth where there is a value
abbrev pub flag : {A : Type 0} → ℕ → Option A → ℕ
flag worth None = 0
flag worth (Some _) = worth

-- the number of the register that is written, 0 where there is none
abbrev pub rd_number : Option RdValue → ℕ
rd_number None = 0
rd_number (Some rd) = rd.number

-- the value that is written, 0 where there is none
abbrev pub rd_value : Option RdValue → ℕ
rd_value None = 0
rd_value (Some rd) = rd.value

-- the pc, the word, the next pc, the flags, the cause, the register, how many CSRs, the value of the
-- register, and the CSRs
abbrev pub retire_bytes : Retire → List ℕ
retire_bytes retire =
    to_le_bytes w64 retire.pc ++ to_le_bytes w32 retire.word ++ to_le_bytes w64 retire.next
    ++ (flag 1 retire.trap + flag 2 retire.rd) ∷ unwrap_or retire.trap 0 ∷ rd_number retire.rd ∷ length retire.csrs
    ∷ to_le_bytes w64 (rd_value retire.rd) ++ flat_map csr_bytes retire.csrs

-- the fields of a message, by its kind
abbrev pub body_bytes : Body → List ℕ
body_bytes (body.Open info) = open_bytes info
body_bytes (body.Poke poke) = poke_bytes poke
body_bytes (body.Read piece) = piece_bytes piece
body_bytes (body.Insert piece) = piece_bytes piece
body_bytes (body.Write write) = write_bytes write
body_bytes (body.Bypass piece) = piece_bytes piece
body_bytes (body.Retire retire) = retire_bytes retire
body_bytes body.Squash = []
body_bytes body.End = []

-- what every frame begins with: how many bytes follow the first two, the kind, the hart, the time
-- and the tag
abbrev pub head_bytes : ℕ → ℕ → Head → List ℕ
head_bytes length code head =
    to_le_bytes w16 length ++ code ∷ head.hart ∷ to_le_bytes w64 head.time ++ to_le_bytes w64 head.tag

-- the frame of a message
abbrev pub frame : Message → List ℕ
frame message =
    head_bytes (18 + length (body_bytes message.body)) (code_of (kind_of message.body)) message.head
    ++ body_bytes message.body

-- ---- the rules

-- version 1 has 1 to 16 harts, flags 0 and 1, and neither granule nor skew
abbrev pub FitsOpen : OpenInfo → Type 0
FitsOpen info = (info.version ≡ 1) × (1 ≤ info.harts) × (info.harts ≤ 16) × (info.flags < 4)
    × (info.granule ≡ 0) × (info.skew ≡ 0)

-- the CSRs that a Poke may set
abbrev pub poked_csrs : List ℕ
poked_csrs = csr.mstatus ∷ csr.mie ∷ csr.mtvec ∷ csr.mscratch ∷ csr.mepc ∷ csr.mcause ∷ csr.mtval ∷ []

-- the number is that of one of them
abbrev pub is_poked_csr : ℕ → Bool
is_poked_csr number = list_any (nat_eq number) poked_csrs

-- a pc is a multiple of 4, and a register x1 to x31
abbrev pub FitsTarget : Target → ℕ → Type 0
FitsTarget Pc value = value % 4 ≡ 0
FitsTarget (X number) value = (1 ≤ number) × (number ≤ 31)
FitsTarget (Csr number) value = IsTrue (is_poked_csr number)

-- a line is a multiple of 64, and bytes outside its mask are 0: bit k of the mask stands for byte k
abbrev pub FitsWrite : LineWrite → Type 0
FitsWrite write = (write.line % 64 ≡ 0)
    × ((k : ℕ) → k < 64 → bit_at write.mask k ≡ 0 → slice_index write.bytes k ≡ 0)

-- the register that is written is x1 to x31, and there are at most four CSRs
abbrev pub FitsRetire : Retire → Type 0
FitsRetire retire = IfSome retire.rd (λ rd. (1 ≤ rd.number) × (rd.number ≤ 31)) × (length retire.csrs ≤ 4)

-- one to eight bytes
abbrev pub FitsPiece : Piece → Type 0
FitsPiece piece = (1 ≤ length piece.bytes) × (length piece.bytes ≤ 8)

-- the fields of each kind; the tag of Open, Poke, Write and End is 0, and the hart of Open and End
abbrev pub FitsBody : Head → Body → Type 0
FitsBody head (body.Open info) = (head.hart ≡ 0) × (head.tag ≡ 0) × FitsOpen info
FitsBody head (body.Poke poke) = (head.tag ≡ 0) × FitsTarget poke.target poke.value
FitsBody head (body.Read piece) = FitsPiece piece
FitsBody head (body.Insert piece) = FitsPiece piece
FitsBody head (body.Write write) = (head.tag ≡ 0) × FitsWrite write
FitsBody head (body.Bypass piece) = FitsPiece piece
FitsBody head (body.Retire retire) = FitsRetire retire
FitsBody head body.Squash = Unit {0}
FitsBody head body.End = (head.hart ≡ 0) × (head.tag ≡ 0)

-- a message is well-formed
abbrev pub Fits : Message → Type 0
Fits message = FitsBody message.head message.body

-- ---- the ranges of the fields

-- each is a byte
abbrev pub AreBytes : List ℕ → Type 0
AreBytes bytes = (k : ℕ) → slice_index bytes k < 2 ^ 8

-- a register's number is a byte, a CSR's two
abbrev pub TargetInRange : Target → Type 0
TargetInRange Pc = Unit {0}
TargetInRange (X number) = number < 2 ^ 8
TargetInRange (Csr number) = number < 2 ^ 16

-- an address of 64 bits, and bytes
abbrev pub PieceInRange : Piece → Type 0
PieceInRange piece = (piece.addr < 2 ^ 64) × AreBytes piece.bytes

-- a number of 16 bits and a value of 64
abbrev pub CsrInRange : CsrValue → Type 0
CsrInRange csr = (csr.number < 2 ^ 16) × (csr.value < 2 ^ 64)

-- the numbers of a Retire, each in as many bits as its field has
abbrev pub RetireInRange : Retire → Type 0
RetireInRange retire = (retire.pc < 2 ^ 64) × (retire.word < 2 ^ 32) × (retire.next < 2 ^ 64)
    × IfSome retire.trap (λ cause. cause < 2 ^ 8)
    × IfSome retire.rd (λ rd. (rd.number < 2 ^ 8) × (rd.value < 2 ^ 64)) × All CsrInRange retire.csrs

-- the numbers of each kind, each in as many bits as its field has
abbrev pub BodyInRange : Body → Type 0
BodyInRange (body.Open info) = (info.version < 2 ^ 8) × (info.harts < 2 ^ 8) × (info.flags < 2 ^ 8)
    × (info.granule < 2 ^ 8) × (info.skew < 2 ^ 32)
BodyInRange (body.Poke poke) = TargetInRange poke.target × (poke.value < 2 ^ 64)
BodyInRange (body.Read piece) = PieceInRange piece
BodyInRange (body.Insert piece) = PieceInRange piece
BodyInRange (body.Write write) =
    (write.line < 2 ^ 64) × (write.mask < 2 ^ 64) × (length write.bytes ≡ 64) × AreBytes write.bytes
BodyInRange (body.Bypass piece) = PieceInRange piece
BodyInRange (body.Retire retire) = RetireInRange retire
BodyInRange body.Squash = Unit {0}
BodyInRange body.End = Unit {0}

-- each number is in the range of its field
abbrev pub InRange : Message → Type 0
InRange message = (message.head.hart < 2 ^ 8) × (message.head.time < 2 ^ 64) × (message.head.tag < 2 ^ 64)
    × BodyInRange message.body

-- the bytes are the frame of this message
pub record Spells (bytes : List ℕ) (message : Message) : Type 0 where
  pub is : bytes ≡ frame message
  pub fits : Fits message
  pub holds : InRange message
