-- What a kept operation does at a byte.
use Rattle.std.specs.Prelude.{ℕ, ◌-◌, ◌/◌, ◌%◌, ◌^◌, ◌==◌, ◌&&◌, Bool, Option, None, slice_index_or}
use Rattle.tandem_base.specs.declared.names.Origin.{Origin}
use Rattle.tandem_base.specs.declared.names.Position.{Position}
use Rattle.tandem_base.specs.Extents.{is_among}
use Rattle.tandem_base.specs.Places.{comes_before}
use Rattle.rvwmo_model.specs.Order.{kind_loads, kind_stores}
use Rattle.kept_ops.specs.declared.operation.KeptOp.{KeptOp}

-- the byte at x is one of the operation's: it lies in the extent, and its bit of the mask is set
abbrev pub holds_byte : ℕ → KeptOp → Bool
holds_byte x o = is_among o.extent.addr o.extent.len x && ((o.mask / 2 ^ (x - o.extent.addr)) % 2 == 1)

-- the operation loads the byte at x
abbrev pub loads_at : ℕ → KeptOp → Bool
loads_at x o = kind_loads o.kind && holds_byte x o

-- the operation stores to the byte at x
abbrev pub stores_at : ℕ → KeptOp → Bool
stores_at x o = kind_stores o.kind && holds_byte x o

-- the source of its byte at x, None for the initial value
abbrev pub source_at : ℕ → KeptOp → Option Origin
source_at x o = slice_index_or o.sources (x - o.extent.addr) None

-- it was performed after a place
abbrev pub came_after : Position → KeptOp → Bool
came_after place o = comes_before place o.place
