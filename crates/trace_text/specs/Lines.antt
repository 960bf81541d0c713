-- The one line that spells a message, as bytes: words with one space between them, and a newline.
use Rattle.std.specs.Prelude.{ℕ, List, [], ◌∷◌, ◌++◌, codes, Option, Some, None}
use Rattle.std.specs.Fmt.{decimal}
use Rattle.std.specs.List.{flat_map}
use Rattle.hex.specs.Hex.{encode_lower}
use Rattle.msg_frames.specs.declared.csrs.CsrValue.{CsrValue}
use Rattle.msg_frames.specs.declared.message.Head.{Head}
use Rattle.msg_frames.specs.declared.message.OpenInfo.{OpenInfo}
use Rattle.msg_frames.specs.declared.message.Target.{Target}
use Rattle.msg_frames.specs.declared.message.Target.TheVariants.{Pc, X, Csr}
use Rattle.msg_frames.specs.declared.message.Poke.{Poke}
use Rattle.msg_frames.specs.declared.message.Piece.{Piece}
use Rattle.msg_frames.specs.declared.message.LineWrite.{LineWrite}
use Rattle.msg_frames.specs.declared.message.RdValue.{RdValue}
use Rattle.msg_frames.specs.declared.message.Retire.{Retire}
use Rattle.msg_frames.specs.declared.message.Body.{Body}
use Rattle.msg_frames.specs.declared.message.Body.TheVariants as body
use Rattle.msg_frames.specs.declared.message.Message.{Message}
use Rattle.numerals.specs.Numerals.{decimal_or_dash, hexadecimal}
use Rattle.tandem_base.specs.Texts.{newline}

-- ---- the values of fields

-- what a Poke sets: `pc`, `xN` for a register, or the number of a CSR in hexadecimal
abbrev pub target_text : Target → List ℕ
target_text Pc = codes "pc"
target_text (X number) = codes "x" ++ decimal number
target_text (Csr number) = hexadecimal number

-- the register that was written with its value, or `-` for none
abbrev pub rd_text : Option RdValue → List ℕ
rd_text None = codes "-"
rd_text (Some rd) = codes "x" ++ decimal rd.number ++ codes ":" ++ hexadecimal rd.value

-- the number and the value of a CSR
abbrev pub csr_text : CsrValue → List ℕ
csr_text csr = hexadecimal csr.number ++ codes ":" ++ hexadecimal csr.value

-- a CSR that follows another
abbrev pub next_csr_text : CsrValue → List ℕ
next_csr_text csr = codes "," ++ csr_text csr

-- the CSRs with commas between them, or `-` for none
abbrev pub csrs_text : List CsrValue → List ℕ
csrs_text [] = codes "-"
csrs_text (csr ∷ csrs) = csr_text csr ++ flat_map next_csr_text csrs

-- ---- the fields, in their order

-- the hart, in decimal
abbrev pub hart_field : Head → List ℕ
hart_field head = codes "hart=" ++ decimal head.hart

-- the time, in decimal
abbrev pub time_field : Head → List ℕ
time_field head = codes "time=" ++ decimal head.time

-- the tag, in decimal
abbrev pub tag_field : Head → List ℕ
tag_field head = codes "tag=" ++ decimal head.tag

-- the version, the harts, the flags, the granule and the skew
abbrev pub open_fields : OpenInfo → List (List ℕ)
open_fields info =
    (codes "version=" ++ decimal info.version) ∷ (codes "harts=" ++ decimal info.harts)
    ∷ (codes "flags=" ++ decimal info.flags) ∷ (codes "granule=" ++ decimal info.granule)
    ∷ (codes "skew=" ++ decimal info.skew) ∷ []

-- what is set, and the value
abbrev pub poke_fields : Poke → List (List ℕ)
poke_fields poke = (codes "reg=" ++ target_text poke.target) ∷ (codes "value=" ++ hexadecimal poke.value) ∷ []

-- the address and the bytes
abbrev pub piece_fields : Piece → List (List ℕ)
piece_fields piece = (codes "addr=" ++ hexadecimal piece.addr) ∷ (codes "bytes=" ++ encode_lower piece.bytes) ∷ []

-- the line, the mask and the 64 bytes of the line
abbrev pub write_fields : LineWrite → List (List ℕ)
write_fields write =
    (codes "line=" ++ hexadecimal write.line) ∷ (codes "mask=" ++ hexadecimal write.mask)
    ∷ (codes "bytes=" ++ encode_lower write.bytes) ∷ []

-- the pc, the word, the next pc, the cause of a trap, the register and the CSRs
abbrev pub retire_fields : Retire → List (List ℕ)
retire_fields retire =
    (codes "pc=" ++ hexadecimal retire.pc) ∷ (codes "word=" ++ hexadecimal retire.word)
    ∷ (codes "next=" ++ hexadecimal retire.next) ∷ (codes "trap=" ++ decimal_or_dash retire.trap)
    ∷ (codes "rd=" ++ rd_text retire.rd) ∷ (codes "csrs=" ++ csrs_text retire.csrs) ∷ []

-- the fields of each kind
abbrev pub fields_of : Head → Body → List (List ℕ)
fields_of head (body.Open info) = time_field head ∷ open_fields info
fields_of head (body.Poke poke) = hart_field head ∷ time_field head ∷ poke_fields poke
fields_of head (body.Read piece) = hart_field head ∷ time_field head ∷ tag_field head ∷ piece_fields piece
fields_of head (body.Insert piece) = hart_field head ∷ time_field head ∷ tag_field head ∷ piece_fields piece
fields_of head (body.Write write) = hart_field head ∷ time_field head ∷ write_fields write
fields_of head (body.Bypass piece) = hart_field head ∷ time_field head ∷ tag_field head ∷ piece_fields piece
fields_of head (body.Retire retire) = hart_field head ∷ time_field head ∷ tag_field head ∷ retire_fields retire
fields_of head body.Squash = hart_field head ∷ time_field head ∷ tag_field head ∷ []
fields_of head body.End = time_field head ∷ []

-- ---- the line

-- the word that tells the kind
abbrev pub kind_word : Body → List ℕ
kind_word (body.Open _) = codes "open"
kind_word (body.Poke _) = codes "poke"
kind_word (body.Read _) = codes "read"
kind_word (body.Insert _) = codes "insert"
kind_word (body.Write _) = codes "write"
kind_word (body.Bypass _) = codes "bypass"
kind_word (body.Retire _) = codes "retire"
kind_word body.Squash = codes "squash"
kind_word body.End = codes "end"

-- a word behind another
abbrev pub spaced : List ℕ → List ℕ
spaced word = codes " " ++ word

-- the words of a message, with single spaces between them
abbrev pub words_of : Message → List ℕ
words_of message = kind_word message.body ++ flat_map spaced (fields_of message.head message.body)

-- the line of a message
abbrev pub message_line : Message → List ℕ
message_line message = words_of message ++ newline

-- the text of messages: their lines, one behind the other
abbrev pub text_of : List Message → List ℕ
text_of messages = flat_map message_line messages
