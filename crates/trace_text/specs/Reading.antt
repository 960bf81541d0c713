-- The message that a line spells, and else the place of its first word that isn't a spelling of the
-- field that is due there.
use Rattle.std.specs.Prelude.{ℕ, if◌then◌else◌, List, length, codes}
use Rattle.std.specs.Prelude.{Option, Some, None, Result, Ok, Err}
use Rattle.msg_frames.specs.declared.csrs.CsrValue.{CsrValue}
use Rattle.msg_frames.specs.declared.message.Head.{Head}
use Rattle.msg_frames.specs.declared.message.OpenInfo.{OpenInfo}
use Rattle.msg_frames.specs.declared.message.Poke.{Poke}
use Rattle.msg_frames.specs.declared.message.Piece.{Piece}
use Rattle.msg_frames.specs.declared.message.LineWrite.{LineWrite}
use Rattle.msg_frames.specs.declared.message.RdValue.{RdValue}
use Rattle.msg_frames.specs.declared.message.Retire.{Retire}
use Rattle.msg_frames.specs.declared.message.Body.{Body}
use Rattle.msg_frames.specs.declared.message.Body.TheVariants as body
use Rattle.msg_frames.specs.declared.message.Message.{Message}
use Rattle.numerals.specs.Numerals.{hexadecimal_in}
use Rattle.trace_text.specs.Values.{most32, most64, is_text, between, multiple, target_word, poked_value_in}
use Rattle.trace_text.specs.Values.{piece_bytes_in, line_bytes_in, trap_word, rd_word, csrs_word}
use Rattle.trace_text.specs.Words.{◌>>=◌, until, field, ended}
use Rattle.trace_text.specs.declared.kinds.Kind.{Kind}
use Rattle.trace_text.specs.declared.kinds.Kind.TheVariants as kind

-- ---- what messages have in common

-- the hart
abbrev pub hart_at : List ℕ → ℕ → Result (ℕ × ℕ) ℕ
hart_at line at = field (codes "hart=") (between 0 255) line at

-- the time
abbrev pub time_at : List ℕ → ℕ → Result (ℕ × ℕ) ℕ
time_at line at = field (codes "time=") (between 0 most64) line at

-- the tag
abbrev pub tag_at : List ℕ → ℕ → Result (ℕ × ℕ) ℕ
tag_at line at = field (codes "tag=") (between 0 most64) line at

-- the time alone
unfoldable pub timed_at : List ℕ → ℕ → Result (Head × ℕ) ℕ
timed_at line at = do
  time ← time_at line at
  Ok ((record { hart = 0; time = time.0; tag = 0 }), time.1)

-- the hart and the time
unfoldable pub placed_at : List ℕ → ℕ → Result (Head × ℕ) ℕ
placed_at line at = do
  hart ← hart_at line at
  time ← time_at line hart.1
  Ok ((record { hart = hart.0; time = time.0; tag = 0 }), time.1)

-- the hart, the time and the tag
unfoldable pub tagged_at : List ℕ → ℕ → Result (Head × ℕ) ℕ
tagged_at line at = do
  hart ← hart_at line at
  time ← time_at line hart.1
  tag ← tag_at line time.1
  Ok ((record { hart = hart.0; time = time.0; tag = tag.0 }), tag.1)

-- ---- the fields of each kind, up to the line's end

-- the settings of a stream
unfoldable pub open_at : List ℕ → ℕ → Result OpenInfo ℕ
open_at line at = do
  version ← field (codes "version=") (between 1 1) line at
  harts ← field (codes "harts=") (between 1 16) line version.1
  flags ← field (codes "flags=") (between 0 3) line harts.1
  granule ← field (codes "granule=") (between 0 0) line flags.1
  skew ← field (codes "skew=") (between 0 0) line granule.1
  end ← ended line skew.1
  Ok (record { version = version.0; harts = harts.0; flags = flags.0; granule = granule.0; skew = skew.0 })

-- what a Poke sets, and the value
unfoldable pub poke_at : List ℕ → ℕ → Result Poke ℕ
poke_at line at = do
  target ← field (codes "reg=") target_word line at
  value ← field (codes "value=") (poked_value_in target.0) line target.1
  end ← ended line value.1
  Ok (record { target = target.0; value = value.0 })

-- an address and the bytes from there on
unfoldable pub piece_at : List ℕ → ℕ → Result Piece ℕ
piece_at line at = do
  addr ← field (codes "addr=") (hexadecimal_in most64) line at
  bytes ← field (codes "bytes=") piece_bytes_in line addr.1
  end ← ended line bytes.1
  Ok (record { addr = addr.0; bytes = bytes.0 })

-- a line of memory, its mask and its bytes
unfoldable pub write_at : List ℕ → ℕ → Result LineWrite ℕ
write_at line at = do
  address ← field (codes "line=") (multiple 64) line at
  mask ← field (codes "mask=") (hexadecimal_in most64) line address.1
  bytes ← field (codes "bytes=") (line_bytes_in mask.0) line mask.1
  end ← ended line bytes.1
  Ok (record { line = address.0; mask = mask.0; bytes = bytes.0 })

-- the pc, the word and the next pc
unfoldable pub fetch_at : List ℕ → ℕ → Result (ℕ × ℕ × ℕ × ℕ) ℕ
fetch_at line at = do
  pc ← field (codes "pc=") (hexadecimal_in most64) line at
  word ← field (codes "word=") (hexadecimal_in most32) line pc.1
  next ← field (codes "next=") (hexadecimal_in most64) line word.1
  Ok (pc.0, word.0, next.0, next.1)

-- the trap, the register and the CSRs
unfoldable pub outcome_at : List ℕ → ℕ → Result (Option ℕ × Option RdValue × List CsrValue) ℕ
outcome_at line at = do
  trap ← field (codes "trap=") trap_word line at
  rd ← field (codes "rd=") rd_word line trap.1
  csrs ← field (codes "csrs=") csrs_word line rd.1
  end ← ended line csrs.1
  Ok (trap.0, rd.0, csrs.0)

-- what a Retire says
unfoldable pub retire_at : List ℕ → ℕ → Result Retire ℕ
retire_at line at = do
  fetch ← fetch_at line at
  outcome ← outcome_at line fetch.3
  Ok (record {
    pc = fetch.0;
    word = fetch.1;
    next = fetch.2;
    trap = outcome.0;
    rd = outcome.1;
    csrs = outcome.2;
  })

-- ---- the line

-- a message of this head and this body
abbrev pub message_with : Head → Body → Message
message_with head body = record { head = head; body = body }

-- a message with bytes of memory
abbrev pub piece_message : (Piece → Body) → List ℕ → ℕ → Result Message ℕ
piece_message with line at = do
  head ← tagged_at line at
  piece ← piece_at line head.1
  Ok (message_with head.0 (with piece))

-- the kind that the first word names
unfoldable pub kind_named : List ℕ → Option Kind
kind_named word =
    if is_text word (codes "open") then Some kind.Open
    else if is_text word (codes "poke") then Some kind.Poke
    else if is_text word (codes "read") then Some kind.Read
    else if is_text word (codes "insert") then Some kind.Insert
    else if is_text word (codes "write") then Some kind.Write
    else if is_text word (codes "bypass") then Some kind.Bypass
    else if is_text word (codes "retire") then Some kind.Retire
    else if is_text word (codes "squash") then Some kind.Squash
    else if is_text word (codes "end") then Some kind.End
    else None

-- the message of this kind whose fields follow the place `at`
unfoldable pub message_at : Kind → List ℕ → ℕ → Result Message ℕ
message_at kind.Open line at = do
  head ← timed_at line at
  info ← open_at line head.1
  Ok (message_with head.0 (body.Open info))
message_at kind.Poke line at = do
  head ← placed_at line at
  poke ← poke_at line head.1
  Ok (message_with head.0 (body.Poke poke))
message_at kind.Read line at = piece_message (λ piece. body.Read piece) line at
message_at kind.Insert line at = piece_message (λ piece. body.Insert piece) line at
message_at kind.Write line at = do
  head ← placed_at line at
  write ← write_at line head.1
  Ok (message_with head.0 (body.Write write))
message_at kind.Bypass line at = piece_message (λ piece. body.Bypass piece) line at
message_at kind.Retire line at = do
  head ← tagged_at line at
  retire ← retire_at line head.1
  Ok (message_with head.0 (body.Retire retire))
message_at kind.Squash line at = do
  head ← tagged_at line at
  end ← ended line head.1
  Ok (message_with head.0 body.Squash)
message_at kind.End line at = do
  head ← timed_at line at
  end ← ended line head.1
  Ok (message_with head.0 body.End)

-- the message of this kind, if the first word names one
abbrev pub message_of : Option Kind → List ℕ → ℕ → Result Message ℕ
message_of None line at = Err 0
message_of (Some kind) line at = message_at kind line at

-- the message that a line spells, without its newline; else the place of the first wrong word
unfoldable pub line_read : List ℕ → Result Message ℕ
line_read line = message_of (kind_named (until 32 line)) line (length (until 32 line))
