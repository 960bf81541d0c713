-- The kinds of frames, and the lengths that they have.
use Rattle.std.specs.Prelude.{ℕ, ◌==◌, nat_le, ◌&&◌, ◌||◌, Bool, if◌then◌else◌, Option, Some, None}
use Rattle.msg_frames.specs.declared.message.Body.{Body}
use Rattle.msg_frames.specs.declared.message.Body.TheVariants as body
use Rattle.msg_frames.specs.declared.kinds.Kind.{Kind}
use Rattle.msg_frames.specs.declared.kinds.Kind.TheVariants as kind

-- the byte that stands for a kind
abbrev pub code_of : Kind → ℕ
code_of kind.Open = 1
code_of kind.Poke = 2
code_of kind.Read = 3
code_of kind.Insert = 4
code_of kind.Write = 5
code_of kind.Bypass = 6
code_of kind.Retire = 7
code_of kind.Squash = 8
code_of kind.End = 9

-- the kind that a byte stands for
abbrev pub kind_coded : ℕ → Option Kind
kind_coded code =
    if code == 1 then Some kind.Open
    else if code == 2 then Some kind.Poke
    else if code == 3 then Some kind.Read
    else if code == 4 then Some kind.Insert
    else if code == 5 then Some kind.Write
    else if code == 6 then Some kind.Bypass
    else if code == 7 then Some kind.Retire
    else if code == 8 then Some kind.Squash
    else if code == 9 then Some kind.End
    else None

-- the kind of a message
abbrev pub kind_of : Body → Kind
kind_of (body.Open _) = kind.Open
kind_of (body.Poke _) = kind.Poke
kind_of (body.Read _) = kind.Read
kind_of (body.Insert _) = kind.Insert
kind_of (body.Write _) = kind.Write
kind_of (body.Bypass _) = kind.Bypass
kind_of (body.Retire _) = kind.Retire
kind_of body.Squash = kind.Squash
kind_of body.End = kind.End

-- a frame with one to eight bytes of memory
abbrev pub has_piece_length : ℕ → Bool
has_piece_length length = nat_le 28 length && nat_le length 35

-- a kind has frames of this length: of this many bytes behind the two of the length itself
abbrev pub has_length : Kind → ℕ → Bool
has_length kind.Open length = length == 26
has_length kind.Poke length = length == 30
has_length kind.Read length = has_piece_length length
has_length kind.Insert length = has_piece_length length
has_length kind.Write length = length == 98
has_length kind.Bypass length = has_piece_length length
has_length kind.Retire length = length == 50 || length == 60 || length == 70 || length == 80 || length == 90
has_length kind.Squash length = length == 18
has_length kind.End length = length == 18
