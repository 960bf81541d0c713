-- What instructions did to memory as the code keeps it, and what that stands for.
use Rattle.std.specs.Prelude.{◌≡◌, [], ◌∷◌, true, Some, None}
use Rattle.std.specs.declared.option.Option.{Option}
use Rattle.msg_frames.specs.declared.message.Piece.{Piece}
use Rattle.rv_step.specs.Steps.{Doing, trap, plain, counter, load, store, lr, sc, amo}
use Rattle.trace_model.specs.declared.retirements.KeptUse.{KeptUse}
use Rattle.trace_model.specs.declared.retirements.KeptUse.TheVariants as kept_use
use Rattle.trace_model.specs.Groups.{op_of, parts_of}
use Rattle.trace_model.specs.Marks.{place_in}
use Rattle.trace_model.specs.Entries.{MemoryUse, Fixed, Stores}

-- what an instruction did to memory
abbrev pub use_seen : KeptUse → MemoryUse
use_seen (kept_use.Loaded access places) = Fixed (parts_of access (place_in places))
use_seen (kept_use.Stored access) = Stores access
use_seen (kept_use.Whole access place) = Fixed (op_of access (λ k. true) (Some place) ∷ [])

-- where none is kept it did nothing
abbrev pub memory_seen : Option KeptUse → MemoryUse
memory_seen None = Fixed []
memory_seen (Some used) = use_seen used

-- a plain store has bytes that it stores
abbrev pub HasStored : Doing → Option Piece → Type 0
HasStored (trap cause value) o = Unit {0}
HasStored (plain insn) o = Unit {0}
HasStored (counter insn) o = Unit {0}
HasStored (load insn addr len) o = Unit {0}
HasStored (store insn addr len) o = (piece : Piece) × (o ≡ Some piece)
HasStored (lr insn addr len) o = Unit {0}
HasStored (sc insn addr len) o = Unit {0}
HasStored (amo insn addr len) o = Unit {0}
