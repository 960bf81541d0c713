-- The register that a step writes. That it is one is a proposition. The proof stands here since the fact is declared
-- with the step.
use Rattle.std.proofs.Props.{props}
use Rattle.std.specs.Prelude.{◌<◌, IfSome, Some, None}
use Rattle.std.specs.declared.option.Option.{Option}
use Rattle.msg_frames.specs.declared.message.RdValue.{RdValue}

-- the register that an instruction writes, if it writes one, is x1 to x31
abbrev pub WritesRegister : Option RdValue → Type 0
WritesRegister rd = IfSome rd (λ (r : RdValue). (0 < r.number) × (r.number < 32))

-- of two proofs of it each is the other
pub register_prop : (rd : Option RdValue) → IsProp (WritesRegister rd)
register_prop None = hlevel props
register_prop (Some r) = hlevel props
