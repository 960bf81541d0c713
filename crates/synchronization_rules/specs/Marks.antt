-- The marks of a hart as its table keeps them, and how they change.
use Rattle.std.specs.Prelude.{ℕ, nat_lt, ◌||◌, ◌&&◌, List, [], ◌∷◌, Bool, false, Option, None, Some, if◌then◌else◌}
use Rattle.tandem_base.specs.declared.mark.Mark.{Mark}
use Rattle.tandem_base.specs.declared.names.OpName.{OpName}
use Rattle.tandem_base.specs.declared.names.Position.{Position}
use Rattle.tandem_base.specs.FirstFault.{◌or_else◌}
use Rattle.tandem_base.specs.Places.{comes_before}
use Rattle.rv_decode.specs.declared.instruction.Insn.{Insn}
use Rattle.rv_decode.specs.Kinds.{is_lr, is_sc}
use Rattle.rvwmo_model.specs.declared.operations.OpKind.{OpKind}
use Rattle.rvwmo_model.specs.Order.{kind_loads, kind_stores}
use Rattle.rvwmo_model.specs.Annotations.{is_annotated, is_rcsc}
use Rattle.rule_laws.specs.Fences.{Class, loading, storing, class_orders}
use Rattle.store_buffer.specs.Stores.{StoreList}
use Rattle.store_buffer.specs.Waiting.{waiting_below}
use Rattle.synchronization_rules.specs.declared.fences.FenceOrder.{FenceOrder}
use Rattle.synchronization_rules.specs.declared.operation.MarkedOp.{MarkedOp}

-- what is kept of a hart
pub record HartTable : Type 0 where
  -- the latest performed operation that loads, that stores, that has an acquire annotation, that has an RCsc annotation
  pub loads : Option Mark
  pub stores : Option Mark
  pub acquires : Option Mark
  pub rcsc : Option Mark
  -- the FENCEs of each order
  pub load_load : FenceOrder
  pub load_store : FenceOrder
  pub store_load : FenceOrder
  pub store_store : FenceOrder
  -- the operation of the open LR
  pub open_lr : Option Mark

-- the FENCEs that order a class before a class
abbrev pub fence_order_of : Class → Class → HartTable → FenceOrder
fence_order_of loading loading m = m.load_load
fence_order_of loading storing m = m.load_store
fence_order_of storing loading m = m.store_load
fence_order_of storing storing m = m.store_store

-- ---- marks

-- an operation has an RCsc annotation
abbrev pub is_rcsc_op : MarkedOp → Bool
is_rcsc_op o = is_rcsc o.acquire || is_rcsc o.release

-- the mark of an operation
abbrev pub op_mark : MarkedOp → Mark
op_mark o = record { name = o.name; place = o.place }

-- the mark of the first of some operations
abbrev pub first_mark : List MarkedOp → Option Mark
first_mark [] = None
first_mark (o ∷ os) = Some (op_mark o)

-- the later of two marks
abbrev pub later_with : Option Mark → Mark → Option Mark
later_with None n = Some n
later_with (Some m) n = if comes_before m.place n.place then Some n else Some m

-- the same, where they are there
abbrev pub later_of_marks : Option Mark → Option Mark → Option Mark
later_of_marks m None = m
later_of_marks m (Some n) = later_with m n

-- a mark, with one more where that counts
abbrev pub raised : Bool → Option Mark → Mark → Option Mark
raised counts m n = if counts then later_with m n else m

-- the name of a mark, where there is one and it comes after a place
abbrev pub named_past : Position → Option Mark → Option OpName
named_past place None = None
named_past place (Some m) = if comes_before place m.place then Some m.name else None

-- ---- how they change

-- no FENCE
abbrev pub no_order : FenceOrder
no_order = record { fence = None; latest = None }

-- no instruction
abbrev pub no_hart_marks : HartTable
no_hart_marks = record {
  loads = None;
  stores = None;
  acquires = None;
  rcsc = None;
  load_load = no_order;
  load_store = no_order;
  store_load = no_order;
  store_store = no_order;
  open_lr = None;
}

-- an operation was performed
abbrev pub with_op : MarkedOp → HartTable → HartTable
with_op o m = record m {
  loads = raised (kind_loads o.kind) m.loads (op_mark o);
  stores = raised (kind_stores o.kind) m.stores (op_mark o);
  acquires = raised (is_annotated o.acquire) m.acquires (op_mark o);
  rcsc = raised (is_rcsc_op o) m.rcsc (op_mark o);
}

-- several, one after the other
abbrev pub with_ops : List MarkedOp → HartTable → HartTable
with_ops [] m = m
with_ops (o ∷ os) m = with_ops os (with_op o m)

-- a FENCE of an order retires under a tag, after all that was performed of the first class
abbrev pub with_fence : Bool → ℕ → Option Mark → FenceOrder → FenceOrder
with_fence is_fence tag latest f = if is_fence then record { fence = Some tag; latest = latest } else f

-- the same of each order that an instruction has as a FENCE
abbrev pub with_fences : ℕ → Insn → HartTable → HartTable
with_fences tag insn m = record m {
  load_load = with_fence (class_orders loading loading insn) tag m.loads m.load_load;
  load_store = with_fence (class_orders loading storing insn) tag m.loads m.load_store;
  store_load = with_fence (class_orders storing loading insn) tag m.stores m.store_load;
  store_store = with_fence (class_orders storing storing insn) tag m.stores m.store_store;
}

-- an LR is open, which has one operation; an SC, failed or not, leaves none open
abbrev pub with_lr : Insn → List MarkedOp → HartTable → HartTable
with_lr insn ops m =
    record m { open_lr = if is_lr insn then first_mark ops else if is_sc insn then None else m.open_lr }

-- an instruction retires under a tag with these performed operations
abbrev pub marks_after_retire : ℕ → Insn → List MarkedOp → HartTable → HartTable
marks_after_retire tag insn ops m = with_ops ops (with_lr insn ops (with_fences tag insn m))

-- a FENCE is after a tag
abbrev pub is_before_fence : ℕ → Option ℕ → Bool
is_before_fence tag None = false
is_before_fence tag (Some fence) = nat_lt tag fence

-- a part of a store, where it counts and a FENCE of the order is after it
abbrev pub with_store_part : Bool → MarkedOp → FenceOrder → FenceOrder
with_store_part counts o f =
    record f { latest = raised (counts && is_before_fence o.name.tag f.fence) f.latest (op_mark o) }

-- the same of each order
abbrev pub with_parts : MarkedOp → HartTable → HartTable
with_parts o m = record m {
  load_load = with_store_part (kind_loads o.kind) o m.load_load;
  load_store = with_store_part (kind_loads o.kind) o m.load_store;
  store_load = with_store_part (kind_stores o.kind) o m.store_load;
  store_store = with_store_part (kind_stores o.kind) o m.store_store;
}

-- a part of a store that waited is performed
abbrev pub after_performed : MarkedOp → HartTable → HartTable
after_performed o m = with_op o (with_parts o m)

-- ---- what they answer

-- the greater of two tags
abbrev pub later_tag : Option ℕ → Option ℕ → Option ℕ
later_tag None n = n
later_tag (Some m) None = Some m
later_tag (Some m) (Some n) = if nat_lt m n then Some n else Some m

-- the tag of the latest FENCE that orders stores before an operation of that kind
abbrev pub fence_for : OpKind → HartTable → Option ℕ
fence_for kind m =
    later_tag (if kind_loads kind then m.store_load.fence else None)
    (if kind_stores kind then m.store_store.fence else None)

-- the latest operation that a FENCE orders before one of that kind
abbrev pub fenced_for : OpKind → HartTable → Option Mark
fenced_for kind m =
    later_of_marks (if kind_loads kind then later_of_marks m.load_load.latest m.store_load.latest else None)
    (if kind_stores kind then later_of_marks m.load_store.latest m.store_store.latest else None)

-- the store of the greatest tag that waits below a tag, where there is one
abbrev pub waiting_under : StoreList → Option ℕ → Option OpName
waiting_under stores None = None
waiting_under stores (Some below) = waiting_below stores.hart stores.stores below None

-- rule 4: a store that waits, else the latest of the marks of FENCEs
abbrev pub name_by_fence : MarkedOp → StoreList → HartTable → Option OpName
name_by_fence o stores m =
    waiting_under stores (fence_for o.kind m) or_else named_past o.place (fenced_for o.kind m)

-- rule 5
abbrev pub name_by_acquire : MarkedOp → HartTable → Option OpName
name_by_acquire o m = named_past o.place m.acquires

-- rule 6: a store that waits, else the latest of all
abbrev pub name_by_release : MarkedOp → StoreList → HartTable → Option OpName
name_by_release o stores m =
    if is_annotated o.release
    then waiting_under stores (Some o.name.tag) or_else named_past o.place (later_of_marks m.loads m.stores)
    else None

-- rule 7
abbrev pub name_by_rcsc : MarkedOp → HartTable → Option OpName
name_by_rcsc o m = if is_rcsc_op o then named_past o.place m.rcsc else None

-- rule 8
abbrev pub name_by_pair : Insn → MarkedOp → HartTable → Option OpName
name_by_pair insn o m = if is_sc insn then named_past o.place m.open_lr else None
