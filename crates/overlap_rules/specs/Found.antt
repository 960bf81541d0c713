-- How marks tell of operations of a trace.
use Rattle.std.specs.Prelude.{ℕ, zero, suc, ◌≡◌, Option, None, Some, if◌then◌else◌}
use Rattle.std.specs.List.{Contains}
use Rattle.std.specs.Option.{option_map}
use Rattle.tandem_base.specs.declared.mark.Mark.{Mark}
use Rattle.tandem_base.specs.declared.names.Position.{Position}
use Rattle.tandem_base.specs.Places.{comes_before}
use Rattle.rvwmo_model.specs.declared.operations.Op.{Op}
use Rattle.rvwmo_model.specs.declared.traces.Trace.{Trace}
use Rattle.rvwmo_model.specs.Order.{Standing}
use Rattle.window_laws.specs.Latest.{IsLatestIfAny}
use Rattle.window_laws.specs.Tables.{untimed}
use Rattle.rule_laws.specs.Above.{Over, if_over}

-- the mark is that of the operation v of the trace: it has its name, and tells when it was performed
pub record IsMarkOf (t : Trace) (v : Op) (m : Mark) : Type 0 where
  pub here : Contains t.ops v
  pub name : m.name ≡ v.name
  pub place : Some m.place ≡ option_map untimed v.place

-- a mark is there exactly where an operation is, and is that of it
abbrev pub TellsOp : Trace → Option Op → Option Mark → Type 0
TellsOp t None None = Unit {0}
TellsOp t None (Some m) = ⊥
TellsOp t (Some v) None = ⊥
TellsOp t (Some v) (Some m) = IsMarkOf t v m

-- of the operations that have the property the mark tells the latest; there is no mark where none has it
pub record MarksLatest (t : Trace) (P : Op → Type 0) (mark : Option Mark) : Type 0 where
  pub op : Option Op
  pub latest : IsLatestIfAny P op
  pub told : TellsOp t op mark

-- the same of those after a standing: a stale mark, that isn't after it, may be anything
pub record MarksLatestOver (t : Trace) (P : Op → Type 0) (q : Standing) (mark : Option Mark) : Type 0 where
  pub op : Option Op
  pub latest : IsLatestIfAny (Over P q) (if_over q op)
  pub told : TellsOp t op mark

-- the later of two marks
abbrev pub later_found : Option Mark → Option Mark → Option Mark
later_found None n = n
later_found (Some m) None = Some m
later_found (Some m) (Some n) = if comes_before m.place n.place then Some n else Some m

-- a mark, where it comes after a place
abbrev pub found_over : Position → Option Mark → Option Mark
found_over place None = None
found_over place (Some m) = if comes_before place m.place then Some m else None

-- the latest of the first n answers
abbrev pub latest_found : (ℕ → Option Mark) → ℕ → Option Mark
latest_found answer zero = None
latest_found answer (suc n) = later_found (latest_found answer n) (answer n)
