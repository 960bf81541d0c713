-- Laws of what the marks of a hart stand for while a trace grows.
use Rattle.std.specs.Prelude.{ℕ, ◌≡◌, ◌≢◌, List, Option, Some}
use Rattle.rvwmo_model.specs.declared.instructions.Retired.{Retired}
use Rattle.rvwmo_model.specs.declared.operations.Op.{Op}
use Rattle.rvwmo_model.specs.declared.traces.Trace.{Trace}
use Rattle.growth_laws.specs.Kinds.{WellKinded}
use Rattle.growth_laws.specs.Growth.{Same, AddEarly, AddInsn, PerformsPart}
use Rattle.growth_laws.specs.Laws.{nothing_yet}
use Rattle.window_laws.specs.Tables.{ArePositioned}
use Rattle.synchronization_rules.specs.declared.operation.MarkedOp.{MarkedOp}
use Rattle.synchronization_rules.specs.Marks.{HartTable, no_hart_marks, marks_after_retire, after_performed}
use Rattle.synchronization_rules.specs.Asked.{AreMarksOf, op_told, ops_told}

-- the marks of hart h through each growth
pub record HartMarksGoOn : Type 0 where
  pub start : (granule h : ℕ) → AreMarksOf (nothing_yet granule) h no_hart_marks
  pub nothing : (t t' : Trace) (h : ℕ) (m : HartTable) → Same t t' → AreMarksOf t h m → AreMarksOf t' h m
  pub early : (t t' : Trace) (e : Op) (h : ℕ) (m : HartTable) → AddEarly t t' e → AreMarksOf t h m
      → AreMarksOf t' h m
  -- an instruction of the hart
  pub retired : (t t' : Trace) (r : Retired) (new : List Op) (m : HartTable) → WellKinded t → ArePositioned t'
      → AddInsn t t' r new → AreMarksOf t r.hart m
      → AreMarksOf t' r.hart (marks_after_retire r.tag r.insn (ops_told new) m)
  -- one of another hart
  pub others : (t t' : Trace) (r : Retired) (new : List Op) (h : ℕ) (m : HartTable) → WellKinded t
      → AddInsn t t' r new → r.hart ≢ h → AreMarksOf t h m → AreMarksOf t' h m
  -- a part of a store of the hart is performed
  pub performed : (t t' : Trace) (o n : Op) (rest : Option Op) (op : MarkedOp) (m : HartTable) → WellKinded t
      → ArePositioned t' → PerformsPart t t' o n rest → op_told n ≡ Some op → AreMarksOf t n.name.hart m
      → AreMarksOf t' n.name.hart (after_performed op m)
  -- one of another hart
  pub elsewhere : (t t' : Trace) (o n : Op) (rest : Option Op) (h : ℕ) (m : HartTable) → WellKinded t
      → PerformsPart t t' o n rest → n.name.hart ≢ h → AreMarksOf t h m → AreMarksOf t' h m
