-- How tables tell of the operations of a trace.
use Rattle.std.specs.Prelude.{ℕ, ◌≡◌, Option, None, Some, true}
use Rattle.std.specs.List.{Contains}
use Rattle.std.specs.Option.{option_map}
use Rattle.tandem_base.specs.declared.names.Place.{Place}
use Rattle.tandem_base.specs.declared.names.Position.{Position}
use Rattle.tandem_base.specs.Places.{earlier, comes_before}
use Rattle.rvwmo_model.specs.declared.operations.Op.{Op}
use Rattle.rvwmo_model.specs.declared.traces.Trace.{Trace}
use Rattle.rvwmo_model.specs.Order.{everything}
use Rattle.rvwmo_model.specs.Sources.{byte_from, origin_of}
use Rattle.growth_laws.specs.Laws.{source_place}
use Rattle.byte_memory.specs.declared.writer.Writer.{Writer}
use Rattle.window_laws.specs.declared.source.ByteSource.{ByteSource}

-- a place without its time, as tables keep it
abbrev pub untimed : Place → Position
untimed p = record { message = p.message; insert = p.insert }

-- the places of a trace compare as tables compare them
abbrev pub ArePositioned : Trace → Type 0
ArePositioned t = (v w : Op) (p q : Place) → Contains (everything t) v → Contains (everything t) w → v.place ≡ Some p
    → w.place ≡ Some q → earlier p q ≡ comes_before (untimed p) (untimed q)

-- v was performed before a place
abbrev pub IsBeforePlace : Place → Op → Type 0
IsBeforePlace place v = (p : Place) × (v.place ≡ Some p) × (earlier p place ≡ true)

-- v was performed after a place
abbrev pub IsAfterPlace : Place → Op → Type 0
IsAfterPlace place v = (p : Place) × (v.place ≡ Some p) × (earlier place p ≡ true)

-- a store as the writer of its bytes; None where it wasn't performed
abbrev pub writer_of : Op → Option Writer
writer_of v = option_map (λ p. record { hart = v.name.hart; tag = v.name.tag; place = untimed p }) v.place

-- the writer of what a store left; initial values have none
abbrev pub writer_from : Option Op → Option Writer
writer_from None = None
writer_from (Some v) = writer_of v

-- a source of the byte at x, told by hart and tag, place and value
abbrev pub source_told : (ℕ → ℕ) → Option Op → ℕ → ByteSource
source_told initial s x =
    record { writer = origin_of s; place = option_map untimed (source_place s); byte = byte_from initial s x }
