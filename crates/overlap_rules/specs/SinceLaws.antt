-- Laws of the loads of a byte since a store to it retired, while a trace grows.
use Rattle.std.specs.Prelude.{ℕ, ◌≡◌, List, [], Option, Some, true, false}
use Rattle.std.specs.List.{Contains, filter}
use Rattle.std.specs.Option.{option_map}
use Rattle.tandem_base.specs.declared.names.Place.{Place}
use Rattle.tandem_base.specs.Places.{earlier, comes_before}
use Rattle.rvwmo_model.specs.declared.instructions.Retired.{Retired}
use Rattle.rvwmo_model.specs.declared.operations.Op.{Op}
use Rattle.rvwmo_model.specs.declared.traces.Trace.{Trace}
use Rattle.rvwmo_model.specs.Order.{op_loads, writes}
use Rattle.rvwmo_model.specs.Legal.{Legal}
use Rattle.growth_laws.specs.Kinds.{WellKinded}
use Rattle.growth_laws.specs.Growth.{Same, AddEarly, AddInsn, Performs}
use Rattle.growth_laws.specs.Laws.{nothing_yet}
use Rattle.kept_ops.specs.declared.operation.KeptOp.{KeptOp}
use Rattle.kept_ops.specs.Operations.{loads_at}
use Rattle.kept_ops.specs.Tables.{IsWith, op_stays}
use Rattle.window_laws.specs.Keeping.{IsRecent, IsKeptAs}
use Rattle.window_laws.specs.Tables.{untimed}
use Rattle.rule_laws.specs.ByteMarkLaws.{NoneStores, IsLoadIn}
use Rattle.overlap_rules.specs.Since.{AreLoadsSince}

-- c is recent, and is kept as m
abbrev pub IsKeptRecent : Trace → ℕ → Option Place → Op → KeptOp → Type 0
IsKeptRecent t h oldest c m = IsRecent t h oldest c × IsKeptAs t c m

-- the loads of byte x of hart h since a store to it retired, through each growth
pub record LoadsSinceGoOn : Type 0 where
  -- in the trace of nothing there are none
  pub start : (granule h x : ℕ) (oldest : Option Place) → AreLoadsSince (nothing_yet granule) h oldest x []
  -- what is left where only operations after a later place still matter
  pub narrows : (t : Trace) (h x : ℕ) (before oldest : Option Place) (since : List KeptOp) → WellKinded t
      → ((o : Op) → IsRecent t h oldest o → IsRecent t h before o)
      → ((o : Op) (p q : Place) → IsRecent t h before o → o.place ≡ Some p → oldest ≡ Some q
      → earlier q p ≡ comes_before (untimed q) (untimed p))
      → AreLoadsSince t h before x since
      → AreLoadsSince t h oldest x (filter (op_stays (option_map untimed oldest)) since)
  -- an operation is kept that doesn't load the byte
  pub others : (t : Trace) (h x : ℕ) (oldest : Option Place) (since longer : List KeptOp) (m : KeptOp)
      → IsWith m since longer → loads_at x m ≡ false → AreLoadsSince t h oldest x since
      → AreLoadsSince t h oldest x longer
  pub nothing : (t t' : Trace) (h x : ℕ) (oldest : Option Place) (since : List KeptOp) → WellKinded t → Same t t'
      → AreLoadsSince t h oldest x since → AreLoadsSince t' h oldest x since
  pub early : (t t' : Trace) (e : Op) (h x : ℕ) (oldest : Option Place) (since : List KeptOp) → WellKinded t
      → AddEarly t t' e → AreLoadsSince t h oldest x since → AreLoadsSince t' h oldest x since
  -- an instruction that doesn't touch the byte
  pub rests : (t t' : Trace) (r : Retired) (new : List Op) (h x : ℕ) (oldest : Option Place) (since : List KeptOp)
      → WellKinded t → AddInsn t t' r new → NoneStores new h x → ((v : Op) → IsLoadIn new h x v → ⊥)
      → AreLoadsSince t h oldest x since → AreLoadsSince t' h oldest x since
  -- one that loads it, by c, which is kept
  pub noted : (t t' : Trace) (r : Retired) (new : List Op) (h x : ℕ) (oldest : Option Place)
      (since longer : List KeptOp) (c : Op) (m : KeptOp) → WellKinded t → AddInsn t t' r new → NoneStores new h x
      → IsLoadIn new h x c → IsKeptRecent t' h oldest c m → IsWith m since longer
      → AreLoadsSince t h oldest x since → AreLoadsSince t' h oldest x longer
  -- one that stores to it, by c, performed or not, and loads nothing
  pub cleared : (t t' : Trace) (r : Retired) (new : List Op) (h x : ℕ) (oldest : Option Place) (c : Op)
      → WellKinded t → AddInsn t t' r new → Contains new c → c.name.hart ≡ h → writes x c ≡ true
      → op_loads c ≡ false → AreLoadsSince t' h oldest x []
  -- one that loads it and stores to it, by c, which is kept
  pub atomic : (t t' : Trace) (r : Retired) (new : List Op) (h x : ℕ) (oldest : Option Place) (longer : List KeptOp)
      (c : Op) (m : KeptOp) → WellKinded t → AddInsn t t' r new → IsLoadIn new h x c → writes x c ≡ true
      → IsKeptRecent t' h oldest c m → IsWith m [] longer → AreLoadsSince t' h oldest x longer
  -- a message that performs stores, where no pair is broken in the end
  pub stores : (initial : ℕ → ℕ) (t t' : Trace) (g : ℕ) (parts : List Op) (h x : ℕ) (oldest : Option Place)
      (since : List KeptOp) → WellKinded t → Performs g t parts t' → Legal initial t'
      → AreLoadsSince t h oldest x since → AreLoadsSince t' h oldest x since
