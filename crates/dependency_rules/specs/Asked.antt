-- What is asked where an instruction retires: on which operation it depends, or may not come before.
use Rattle.std.specs.Prelude.{ℕ, ◌≡◌, List, Option, None, Some, if◌then◌else◌}
use Rattle.std.specs.Option.{option_map}
use Rattle.tandem_base.specs.declared.mark.Mark.{Mark}
use Rattle.tandem_base.specs.declared.names.OpName.{OpName}
use Rattle.tandem_base.specs.declared.names.Position.{Position}
use Rattle.tandem_base.specs.Places.{comes_before}
use Rattle.rvwmo_model.specs.declared.instructions.Retired.{Retired}
use Rattle.rvwmo_model.specs.declared.operations.Op.{Op}
use Rattle.rvwmo_model.specs.declared.operations.OpKind.{OpKind}
use Rattle.rvwmo_model.specs.declared.traces.Trace.{Trace}
use Rattle.rvwmo_model.specs.Order.{kind_stores}
use Rattle.growth_laws.specs.Kinds.{WellKinded}
use Rattle.window_laws.specs.Tables.{untimed, ArePositioned}
use Rattle.rule_laws.specs.FirstLaws.{IsRetiredWith}
use Rattle.dep_tracker.specs.Marks.{Started}
use Rattle.dep_tracker.specs.Tables.{MarkTable, StandsFor}
use Rattle.dep_tracker.specs.Tagged.{Lists}
use Rattle.dependency_rules.specs.Starts.{AreStarts}

-- the table stands for the instructions of hart h under the tags below a tag, each with its latest operation
pub record AreDepsOf (t : Trace) (h below : ℕ) (table : MarkTable) : Type 0 where
  pub starts : ℕ → Option Mark
  pub latest : AreStarts t h below starts
  pub insns : List Started
  pub listed : Lists t.insns h starts below insns
  pub stands : StandsFor table insns

-- the instruction r retires, and b is an operation of it that was performed at the place; the table stands for the
-- instructions of its hart before it
pub record IsDependent (t t' : Trace) (r : Retired) (b : Op) (table : MarkTable) (place : Position) : Type 0 where
  pub kinded : WellKinded t
  pub retires : IsRetiredWith t t' r b
  pub positioned : ArePositioned t'
  pub placed : Some place ≡ option_map untimed b.place
  pub deps : AreDepsOf t r.hart r.tag table

-- the name of a mark, where there is one and it comes after a place
abbrev pub name_past : Position → Option Mark → Option OpName
name_past place None = None
name_past place (Some m) = if comes_before place m.place then Some m.name else None

-- an answer that only a store has
abbrev pub where_it_stores : OpKind → Option OpName → Option OpName
where_it_stores kind answer = if kind_stores kind then answer else None
