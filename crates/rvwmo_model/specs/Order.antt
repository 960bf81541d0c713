-- The global order of operations, and the bytes of an operation.
use Rattle.std.specs.Prelude.{ℕ, ◌-◌, ◌/◌, ◌%◌, ◌^◌, ◌==◌, ◌&&◌, ◌||◌, nat_lt, List, ◌++◌, Bool, true, false}
use Rattle.std.specs.Prelude.{None, Some, slice_index}
use Rattle.std.specs.declared.option.Option.{Option}
use Rattle.tandem_base.specs.declared.names.OpName.{OpName}
use Rattle.tandem_base.specs.declared.names.Place.{Place}
use Rattle.tandem_base.specs.Extents.{is_among}
use Rattle.tandem_base.specs.Places.{earlier}
use Rattle.rvwmo_model.specs.declared.operations.Op.{Op}
use Rattle.rvwmo_model.specs.declared.operations.OpKind.{OpKind}
use Rattle.rvwmo_model.specs.declared.operations.OpKind.TheVariants.{Load, Store, Both}
use Rattle.rvwmo_model.specs.declared.traces.Trace.{Trace}

-- where an operation stands in the global order: at the place at which it was performed, or, where it wasn't, with the
-- waiting stores, by its hart and tag
pub data Standing : Type 0 where
  performed : Place → Standing
  unperformed : (hart tag : ℕ) → Standing

-- where an operation of that name and place stands
abbrev pub standing_of : OpName → Option Place → Standing
standing_of n (Some p) = performed p
standing_of n None = unperformed n.hart n.tag

-- where an operation stands
abbrev pub standing : Op → Standing
standing o = standing_of o.name o.place

-- what is performed comes first, by its place; what waits comes after it, by hart, then in program order
unfoldable pub stands_before : Standing → Standing → Bool
stands_before (performed p) (performed q) = earlier p q
stands_before (performed p) (unperformed h k) = true
stands_before (unperformed g j) (performed q) = false
stands_before (unperformed g j) (unperformed h k) = nat_lt g h || ((g == h) && nat_lt j k)

-- a precedes b in the global memory order (14.1)
abbrev pub precedes : Op → Op → Bool
precedes a b = stands_before (standing a) (standing b)

-- all that is in the global order: the operations, and the stores that were performed for instructions that have not
-- retired
abbrev pub everything : Trace → List Op
everything t = t.ops ++ t.early

-- the order in which operations are named: by hart, then in program order, then by part
unfoldable pub named_before : OpName → OpName → Bool
named_before m n =
    nat_lt m.hart n.hart
    || ((m.hart == n.hart) && (nat_lt m.tag n.tag || ((m.tag == n.tag) && nat_lt m.part n.part)))

-- an operation of that kind loads
abbrev pub kind_loads : OpKind → Bool
kind_loads Load = true
kind_loads Store = false
kind_loads Both = true

-- an operation of that kind stores
abbrev pub kind_stores : OpKind → Bool
kind_stores Load = false
kind_stores Store = true
kind_stores Both = true

-- an operation loads
abbrev pub op_loads : Op → Bool
op_loads o = kind_loads o.kind

-- an operation stores
abbrev pub op_stores : Op → Bool
op_stores o = kind_stores o.kind

-- the byte at x is one of the operation's: it lies in the extent, and its bit of the mask is set
abbrev pub has_byte : ℕ → Op → Bool
has_byte x o = is_among o.extent.addr o.extent.len x && ((o.mask / 2 ^ (x - o.extent.addr)) % 2 == 1)

-- the operation stores to the byte at x
abbrev pub writes : ℕ → Op → Bool
writes x o = op_stores o && has_byte x o

-- the operation loads the byte at x
abbrev pub reads : ℕ → Op → Bool
reads x o = op_loads o && has_byte x o

-- what the operation loaded from the byte at x
abbrev pub got_at : Op → ℕ → ℕ
got_at o x = slice_index o.got (x - o.extent.addr)

-- what it stored there
abbrev pub put_at : Op → ℕ → ℕ
put_at o x = slice_index o.put (x - o.extent.addr)
