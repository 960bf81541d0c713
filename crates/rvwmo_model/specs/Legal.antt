-- When a trace is legal (14.1): the load value axiom, preserved program order, and the atomicity axiom.
use Rattle.std.specs.Prelude.{ℕ, ◌≡◌, ◌≢◌, true}
use Rattle.std.specs.List.{Contains}
use Rattle.rvwmo_model.specs.declared.operations.Op.{Op}
use Rattle.rvwmo_model.specs.declared.traces.Trace.{Trace}
use Rattle.rvwmo_model.specs.Order.{reads, got_at}
use Rattle.rvwmo_model.specs.Sources.{source, byte_from}
use Rattle.rvwmo_model.specs.Rules.{Rule, Broken}
use Rattle.rvwmo_model.specs.Atomicity.{Unpaired, Torn}

-- byte x of the load i isn't the one that its source gives
pub record WrongValue (initial : ℕ → ℕ) (t : Trace) (i : Op) (x : ℕ) : Type 0 where
  pub load_in : Contains t.ops i
  pub loads : reads x i ≡ true
  pub wrong : got_at i x ≢ byte_from initial (source t i x) x

-- a trace is legal: no pair of preserved program order is broken, every byte loaded is its source's, each successful SC
-- has its pair, and each pair is atomic
pub record Legal (initial : ℕ → ℕ) (t : Trace) : Type 0 where
  pub ordered : (k : Rule) (a b : Op) → Broken k t a b → ⊥
  pub valued : (i : Op) (x : ℕ) → WrongValue initial t i x → ⊥
  pub paired : (w : Op) → Unpaired t w → ⊥
  pub atomic : (r w : Op) → Torn t r w → ⊥
