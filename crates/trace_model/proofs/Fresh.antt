-- The bytes of Inserts and plain Bypasses are new.
use Rattle.std.proofs.Common.{ℕ, ◌≡◌, List, [], ◌∷◌, true, false}
use Rattle.msg_frames.specs.declared.message.Head.{Head}
use Rattle.msg_frames.specs.declared.message.Piece.{Piece}
use Rattle.msg_frames.specs.declared.message.Body.{Body}
use Rattle.msg_frames.specs.declared.message.Body.TheVariants as body
use Rattle.msg_frames.specs.declared.message.Message.{Message}
use Rattle.matching.specs.declared.stores.Fate.TheVariants.{Nothing}
use Rattle.msg_frames.specs.Pieces.{has}
use Rattle.matching.specs.Pieces.{line_start}
use Rattle.matching.specs.Tags.{is_early}
use Rattle.matching.specs.Fates.{fate}

-- the bytes of a piece of a store were in no message before
abbrev pub IsFresh : List Message → Head → Piece → Type 0
IsFresh before head piece = (x : ℕ) → has piece x ≡ true → fate before head.hart head.tag x ≡ Nothing

abbrev pub IsInLine : Piece → Type 0
IsInLine piece = (x : ℕ) → has piece x ≡ true → line_start x ≡ line_start piece.addr

-- what the faults on Inserts and plain Bypasses leave
abbrev pub IsFreshAt : List Message → Head → Body → Type 0
IsFreshAt before head (body.Open info) = Unit {0}
IsFreshAt before head (body.Poke poke) = Unit {0}
IsFreshAt before head (body.Read piece) = Unit {0}
IsFreshAt before head (body.Insert piece) = IsFresh before head piece × IsInLine piece
IsFreshAt before head (body.Write write) = Unit {0}
IsFreshAt before head (body.Bypass piece) = is_early before head ≡ false → IsFresh before head piece
IsFreshAt before head (body.Retire retire) = Unit {0}
IsFreshAt before head body.Squash = Unit {0}
IsFreshAt before head body.End = Unit {0}

abbrev pub AreFresh : List Message → Type 0
AreFresh [] = Unit {0}
AreFresh (m ∷ before) = AreFresh before × IsFreshAt before m.head m.body
