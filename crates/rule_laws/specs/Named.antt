-- How an answer names the first operation of a broken pair.
use Rattle.std.specs.Prelude.{◌≡◌, Option}
use Rattle.std.specs.Option.{option_map}
use Rattle.tandem_base.specs.declared.names.OpName.{OpName}
use Rattle.rvwmo_model.specs.declared.operations.Op.{Op}
use Rattle.rvwmo_model.specs.declared.preserved.Rule.{Rule}
use Rattle.rvwmo_model.specs.declared.traces.Trace.{Trace}
use Rattle.rvwmo_model.specs.Rules.{Broken}
use Rattle.window_laws.specs.Latest.{IsLatestIfAny}

-- the answer names the latest operation that is first in a pair of rule k broken with b second; there is none exactly
-- where no such pair is broken
abbrev pub NamesFirst : Rule → Trace → Op → Option OpName → Type 0
NamesFirst k t b answer =
    (first : Option Op) × IsLatestIfAny (λ v. Broken k t v b) first × (answer ≡ option_map (λ v. v.name) first)
