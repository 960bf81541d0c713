-- The latest operations of the instructions of a hart, on which later ones may depend.
use Rattle.std.specs.Prelude.{ℕ, ◌<◌, ◌≡◌, Option, None, Some, false}
use Rattle.std.specs.Option.{option_map}
use Rattle.tandem_base.specs.declared.mark.Mark.{Mark}
use Rattle.rv_decode.specs.Kinds.{is_store}
use Rattle.rvwmo_model.specs.declared.operations.Op.{Op}
use Rattle.rvwmo_model.specs.declared.traces.Trace.{Trace}
use Rattle.rvwmo_model.specs.ProgramOrder.{insn_of, is_one}
use Rattle.window_laws.specs.Latest.{IsLatestIfAny}
use Rattle.window_laws.specs.Tables.{untimed}
use Rattle.rule_laws.specs.Own.{IsOwnPerformed}

-- v is a performed operation of the instruction of hart h under the tag k, which is no plain store: it is a load, LR,
-- AMO or SC
abbrev pub IsStartOf : Trace → ℕ → ℕ → Op → Type 0
IsStartOf t h k v = IsOwnPerformed t h v × (v.name.tag ≡ k) × (is_one is_store (insn_of t v) ≡ false)

-- a performed operation as tables remember it
abbrev pub op_as_mark : Op → Option Mark
op_as_mark v = option_map (λ p. record { name = v.name; place = untimed p }) v.place

-- the same where there is one
abbrev pub as_mark : Option Op → Option Mark
as_mark None = None
as_mark (Some v) = op_as_mark v

-- under each tag below a tag, starts has the latest such operation of hart h
abbrev pub AreStarts : Trace → ℕ → ℕ → (ℕ → Option Mark) → Type 0
AreStarts t h below starts = (k : ℕ) → k < below
    → (latest : Option Op) × IsLatestIfAny (IsStartOf t h k) latest × (starts k ≡ as_mark latest)
