-- Inserts that wait, the newest first.
use Rattle.std.specs.Prelude.{ℕ, ◌≡◌, ◌≢◌, ◌+◌, ◌/◌, ◌%◌, ◌<◌, ◌≤◌, ◌==◌, true, List, [], ◌∷◌}
use Rattle.std.specs.Prelude.{length, Option, None, is_some, if◌then◌else◌}
use Rattle.std.specs.List.{Contains}
use Rattle.tandem_base.specs.Extents.{is_among}
use Rattle.tandem_base.specs.FirstFault.{◌or_else◌}
use Rattle.msg_frames.specs.declared.message.Piece.{Piece}
use Rattle.msg_frames.specs.declared.message.LineWrite.{LineWrite}
use Rattle.msg_frames.specs.Pieces.{byte_in, byte_written}
use Rattle.merge_buffer.specs.declared.merging.Difference.{Difference}
use Rattle.merge_buffer.specs.declared.waiting.Part.{Part}

-- the number of the line of an Insert
abbrev pub line_of : Part → ℕ
line_of p = p.piece.addr / 64

-- the byte at x of the newest of them that has one there
abbrev pub latest_byte : List Part → ℕ → Option ℕ
latest_byte [] x = None
latest_byte (p ∷ ps) x = byte_in p.piece x or_else latest_byte ps x

-- all of them have numbers below this one
abbrev pub AllBelow : ℕ → List Part → Type 0
AllBelow number [] = Unit {0}
AllBelow number (p ∷ ps) = (p.number < number) × AllBelow number ps

-- their numbers fall
abbrev pub Falls : List Part → Type 0
Falls [] = Unit {0}
Falls (p ∷ ps) = AllBelow p.number ps × Falls ps

-- the bytes of each lie within one line
abbrev pub IsWithinLine : Piece → Type 0
IsWithinLine piece = piece.addr % 64 + length piece.bytes ≤ 64

-- they are on this line, each within it
abbrev pub AllOn : ℕ → List Part → Type 0
AllOn line [] = Unit {0}
AllOn line (p ∷ ps) = (line_of p ≡ line) × IsWithinLine p.piece × AllOn line ps

-- the byte that waits at x, and the one that is reported there, are the same
abbrev pub SameByte : List Part → LineWrite → ℕ → Type 0
SameByte ps write x = latest_byte ps x ≡ byte_written write x

-- they are the same at each address of the line
abbrev pub Matches : List Part → LineWrite → Type 0
Matches ps write = (x : ℕ) → is_among write.line 64 x ≡ true → SameByte ps write x

-- they differ, and this is the lowest address at which they do
pub record DiffersAt (ps : List Part) (write : LineWrite) (d : Difference) : Type 0 where
  pub inside : is_among write.line 64 d.at ≡ true
  pub waits : latest_byte ps d.at ≡ d.want
  pub reported : byte_written write d.at ≡ d.got
  pub differ : d.want ≢ d.got
  pub lowest : (x : ℕ) → write.line ≤ x → x < d.at → SameByte ps write x

-- those that wait on a line, after one more Insert
abbrev pub parts_with : Part → ℕ → List Part → List Part
parts_with p line ps = if line == line_of p then p ∷ ps else ps

-- those that wait on a line, after a Write of a line
abbrev pub without_line : ℕ → ℕ → List Part → List Part
without_line written line ps = if line == written then [] else ps

-- p is one of them and has a byte at x, and no newer one has one there
pub record IsNewestAt (ps : List Part) (x : ℕ) (p : Part) : Type 0 where
  pub among : Contains ps p
  pub there : is_some (byte_in p.piece x) ≡ true
  pub newest : (q : Part) → Contains ps q → is_some (byte_in q.piece x) ≡ true → q.number ≤ p.number
