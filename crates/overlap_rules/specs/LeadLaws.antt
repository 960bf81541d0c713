-- Laws of what a lead tells while a trace grows.
use Rattle.std.specs.Prelude.{ℕ, ◌<◌, ◌≡◌, List, Option, false}
use Rattle.tandem_base.specs.declared.mark.Mark.{Mark}
use Rattle.tandem_base.specs.declared.names.Place.{Place}
use Rattle.tandem_base.specs.Places.{earlier}
use Rattle.rvwmo_model.specs.declared.instructions.Retired.{Retired}
use Rattle.rvwmo_model.specs.declared.operations.Op.{Op}
use Rattle.rvwmo_model.specs.declared.traces.Trace.{Trace}
use Rattle.growth_laws.specs.Kinds.{WellKinded}
use Rattle.growth_laws.specs.Growth.{Same, AddEarly, AddInsn, Performs}
use Rattle.overlap_rules.specs.Questions.{TellsLead}

-- what a lead tells of the store under a tag of hart h, once the store has retired, it tells through each growth
pub record LeadsGoOn : Type 0 where
  -- a later place is the oldest that still matters
  pub narrows : (t : Trace) (h : ℕ) (before oldest : Place) (tag : ℕ) (lead : Option Mark)
      → earlier oldest before ≡ false → TellsLead t h before tag lead → TellsLead t h oldest tag lead
  pub nothing : (t t' : Trace) (h : ℕ) (oldest : Place) (tag : ℕ) (lead : Option Mark) → Same t t'
      → TellsLead t h oldest tag lead → TellsLead t' h oldest tag lead
  pub early : (t t' : Trace) (e : Op) (h : ℕ) (oldest : Place) (tag : ℕ) (lead : Option Mark) → AddEarly t t' e
      → TellsLead t h oldest tag lead → TellsLead t' h oldest tag lead
  -- a later instruction
  pub insn : (t t' : Trace) (r : Retired) (new : List Op) (h : ℕ) (oldest : Place) (tag : ℕ) (lead : Option Mark)
      → AddInsn t t' r new → (h ≡ r.hart → tag < r.tag)
      → TellsLead t h oldest tag lead → TellsLead t' h oldest tag lead
  pub stores : (t t' : Trace) (g : ℕ) (parts : List Op) (h : ℕ) (oldest : Place) (tag : ℕ) (lead : Option Mark)
      → WellKinded t → Performs g t parts t'
      → TellsLead t h oldest tag lead → TellsLead t' h oldest tag lead
