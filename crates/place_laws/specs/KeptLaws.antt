-- Laws of kept operations through each growth of a trace.
use Rattle.std.specs.Prelude.{ℕ, ◌≡◌, ◌≢◌, List, [], ◌∷◌, Option, Some}
use Rattle.std.specs.List.{AllPairs, filter}
use Rattle.std.specs.Option.{option_map}
use Rattle.tandem_base.specs.declared.names.Place.{Place}
use Rattle.tandem_base.specs.Places.{earlier, comes_before}
use Rattle.rvwmo_model.specs.declared.instructions.Retired.{Retired}
use Rattle.rvwmo_model.specs.declared.operations.Op.{Op}
use Rattle.rvwmo_model.specs.declared.traces.Trace.{Trace}
use Rattle.growth_laws.specs.Kinds.{WellKinded}
use Rattle.growth_laws.specs.Growth.{Same, AddEarly, AddInsn, Performs}
use Rattle.growth_laws.specs.Laws.{nothing_yet, HasOverlap}
use Rattle.kept_ops.specs.declared.operation.KeptOp.{KeptOp}
use Rattle.kept_ops.specs.Tables.{IsWith, op_stays}
use Rattle.window_laws.specs.Tables.{untimed}
use Rattle.window_laws.specs.Keeping.{IsRecent, IsKeptAs, AreKeptOps}

-- of the operations those that are recent were kept too, one after the other, the first of the list last
pub data AlsoKept (t : Trace) (h : ℕ) (oldest : Option Place) (kept : List KeptOp) : List Op → List KeptOp → Type 0
  where
    none_more : AlsoKept t h oldest kept [] kept
    keeps_more : (ops : List Op) (o : Op) (m : KeptOp) (some longer : List KeptOp) → AlsoKept t h oldest kept ops some
        → IsRecent t h oldest o → IsKeptAs t o m → IsWith m some longer → AlsoKept t h oldest kept (o ∷ ops) longer
    passes_over : (ops : List Op) (o : Op) (longer : List KeptOp) → AlsoKept t h oldest kept ops longer
        → (IsRecent t h oldest o → ⊥) → AlsoKept t h oldest kept (o ∷ ops) longer

-- the kept operations of hart h, through each growth
pub record KeptGoOn : Type 0 where
  -- in the trace of nothing there are none
  pub start : (granule h : ℕ) (oldest : Option Place) → AreKeptOps (nothing_yet granule) h oldest []
  -- what is left where only operations after a later place still matter
  pub narrows : (t : Trace) (h : ℕ) (before oldest : Option Place) (kept : List KeptOp)
      → ((o : Op) → IsRecent t h oldest o → IsRecent t h before o)
      → ((o : Op) (p q : Place) → IsRecent t h before o → o.place ≡ Some p → oldest ≡ Some q
      → earlier q p ≡ comes_before (untimed q) (untimed p))
      → AreKeptOps t h before kept
      → AreKeptOps t h oldest (filter (op_stays (option_map untimed oldest)) kept)
  pub nothing : (t t' : Trace) (h : ℕ) (oldest : Option Place) (kept : List KeptOp) → WellKinded t → Same t t'
      → AreKeptOps t h oldest kept → AreKeptOps t' h oldest kept
  pub early : (t t' : Trace) (e : Op) (h : ℕ) (oldest : Option Place) (kept : List KeptOp) → WellKinded t
      → AddEarly t t' e → AreKeptOps t h oldest kept → AreKeptOps t' h oldest kept
  -- an instruction of any hart, whose operations that are recent are kept too; it lists none twice
  pub retires : (t t' : Trace) (r : Retired) (new : List Op) (h : ℕ) (oldest : Option Place)
      (kept longer : List KeptOp) → WellKinded t → AddInsn t t' r new → AllPairs (λ a b. a ≢ b) new
      → AlsoKept t' h oldest kept new longer → AreKeptOps t h oldest kept → AreKeptOps t' h oldest longer
  -- a message of any hart that performs stores, which are kept too where they are recent, and breaks no pair of rule 1
  pub stores : (t t' : Trace) (g h : ℕ) (parts : List Op) (oldest : Option Place) (kept longer : List KeptOp)
      → WellKinded t → Performs g t parts t' → (HasOverlap t' → ⊥)
      → AlsoKept t' h oldest kept parts longer → AreKeptOps t h oldest kept → AreKeptOps t' h oldest longer
