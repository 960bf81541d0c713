-- What the marks of a hart stand for, and what is asked where an instruction retires.
use Rattle.std.specs.Prelude.{ℕ, ◌≡◌, List, [], ◌∷◌, Option, None, Some}
use Rattle.std.specs.Option.{option_map}
use Rattle.tandem_base.specs.declared.mark.Mark.{Mark}
use Rattle.rvwmo_model.specs.declared.instructions.Retired.{Retired}
use Rattle.rvwmo_model.specs.declared.operations.Op.{Op}
use Rattle.rvwmo_model.specs.declared.traces.Trace.{Trace}
use Rattle.rvwmo_model.specs.Order.{op_loads, op_stores}
use Rattle.rvwmo_model.specs.Annotations.{is_annotated, has_rcsc}
use Rattle.growth_laws.specs.Kinds.{WellKinded}
use Rattle.window_laws.specs.Latest.{IsLatestIfAny}
use Rattle.window_laws.specs.Tables.{untimed, ArePositioned}
use Rattle.window_laws.specs.Waiting.{AreWaiting}
use Rattle.rule_laws.specs.FirstLaws.{IsRetiredWith}
use Rattle.rule_laws.specs.Fences.{Class, IsLatestFence}
use Rattle.rule_laws.specs.MarkedOps.{IsMarked, IsFenced}
use Rattle.rule_laws.specs.OpenLrs.{IsOpen}
use Rattle.rule_laws.specs.Own.{IsOwnWaiting}
use Rattle.store_buffer.specs.declared.store.Store.{Store}
use Rattle.store_buffer.specs.Stores.{StoreList, store_of_tag}
use Rattle.store_buffer.specs.Waiting.{AreRetired, waiting_bytes}
use Rattle.synchronization_rules.specs.declared.operation.MarkedOp.{MarkedOp}
use Rattle.synchronization_rules.specs.Marks.{HartTable, op_mark, fence_order_of}

-- ---- the operations of a trace as tables are told of them

-- an operation, where it was performed
abbrev pub op_told : Op → Option MarkedOp
op_told v = option_map (λ p. record {
  kind = v.kind;
  name = v.name;
  place = untimed p;
  acquire = v.acquire;
  release = v.release;
}) v.place

-- one more in front, where it is there
abbrev pub and_told : Option MarkedOp → List MarkedOp → List MarkedOp
and_told None os = os
and_told (Some o) os = o ∷ os

-- those of some operations that were performed
abbrev pub ops_told : List Op → List MarkedOp
ops_told [] = []
ops_told (v ∷ vs) = and_told (op_told v) (ops_told vs)

-- the mark of an operation, where there is one
abbrev pub mark_told : Option Op → Option Mark
mark_told None = None
mark_told (Some v) = option_map op_mark (op_told v)

-- ---- what the tables stand for

-- the mark is that of the latest operation that has the property; there is none where none has it
pub record IsOfLatest (P : Op → Type 0) (mark : Option Mark) : Type 0 where
  pub op : Option Op
  pub latest : IsLatestIfAny P op
  pub told : mark ≡ mark_told op

-- the marks stand for the operations, FENCEs and LRs of hart h
pub record AreMarksOf (t : Trace) (h : ℕ) (m : HartTable) : Type 0 where
  pub loads : IsOfLatest (IsMarked t h op_loads) m.loads
  pub stores : IsOfLatest (IsMarked t h op_stores) m.stores
  pub acquires : IsOfLatest (IsMarked t h (λ v. is_annotated v.acquire)) m.acquires
  pub rcsc : IsOfLatest (IsMarked t h has_rcsc) m.rcsc
  pub fences : (c d : Class) → IsLatestFence t h c d (fence_order_of c d m).fence
  pub fenced : (c d : Class) → IsOfLatest (IsFenced t h c d) (fence_order_of c d m).latest
  pub open_lr : IsOfLatest (IsOpen t h) m.open_lr

-- the stores of the list are those of hart h that wait, each at its address
pub record AreStoresWaiting (t : Trace) (h : ℕ) (stores : StoreList) : Type 0 where
  pub hart : stores.hart ≡ h
  pub retired : AreRetired stores.stores
  pub waits : AreWaiting t h (waiting_bytes stores.stores)
  pub begins : (v : Op) (s : Store) → IsOwnWaiting t h v → store_of_tag v.name.tag stores.stores ≡ Some s
      → v.extent.addr ≡ s.entry.piece.addr

-- ---- what is asked

-- the instruction r retires, and b is an operation of it that was performed, told by `op`; the marks stand for its hart
-- before it
pub record IsSynchronized (t t' : Trace) (r : Retired) (b : Op) (m : HartTable) (op : MarkedOp) : Type 0 where
  pub kinded : WellKinded t
  pub retires : IsRetiredWith t t' r b
  pub positioned : ArePositioned t'
  pub told : op_told b ≡ Some op
  pub marks : AreMarksOf t r.hart m
