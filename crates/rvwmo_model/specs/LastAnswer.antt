-- What the plain program answers at the newest step of a trace, as a function: the first of value, order and atomicity.
use Rattle.std.specs.Prelude.{ℕ, ◌==◌, ◌&&◌, nat_lt, List, [], ◌∷◌, Bool, false, None, Some, if◌then◌else◌}
use Rattle.std.specs.List.{filter}
use Rattle.std.specs.declared.option.Option.{Option}
use Rattle.tandem_base.specs.FirstFault.{◌or_else◌}
use Rattle.rvwmo_model.specs.declared.answers.Judged.{Judged}
use Rattle.rvwmo_model.specs.declared.answers.Judged.TheVariants as judged
use Rattle.rvwmo_model.specs.declared.answers.Last.{Last}
use Rattle.rvwmo_model.specs.declared.answers.Last.TheVariants as last
use Rattle.rvwmo_model.specs.declared.operations.Op.{Op}
use Rattle.rvwmo_model.specs.declared.traces.Trace.{Trace}
use Rattle.rvwmo_model.specs.Tests.{is_wrong, wrong_byte}
use Rattle.rvwmo_model.specs.Answer.{least_of, value_at, order_answer, has_torn, atomicity_of}

-- o is an operation of the instruction of that hart and tag; without a tag none is
abbrev pub is_retiring : ℕ → Option ℕ → Op → Bool
is_retiring hart None o = false
is_retiring hart (Some tag) o = (o.name.hart == hart) && (o.name.tag == tag)

-- an offence as it is answered at the newest step, without the name of the operation that retires. A missing pair is
-- not asked there
abbrev pub newest_of : Option Judged → Option Last
newest_of None = None
newest_of (Some judged.Legal) = None
newest_of (Some (judged.Pair name)) = None
newest_of (Some (judged.Value name x want got)) = Some (last.Value x want got)
newest_of (Some (judged.Order rule first second)) = Some (last.Order rule first second)
newest_of (Some (judged.Atomicity name x store)) = Some (last.Atomicity x store)

-- ---- value

-- the lower of two addresses, where there are two
abbrev pub lower_of : Option ℕ → Option ℕ → Option ℕ
lower_of None y = y
lower_of (Some x) None = Some x
lower_of (Some x) (Some y) = if nat_lt y x then Some y else Some x

-- the lowest of the wrong bytes of some loads and of one that is there already
abbrev pub lowest_wrong : (ℕ → ℕ) → Trace → Option ℕ → List Op → Option ℕ
lowest_wrong initial t best [] = best
lowest_wrong initial t best (i ∷ is) = lowest_wrong initial t (lower_of best (wrong_byte initial t i)) is

-- i is of the retiring instruction, and byte x of it is wrong
abbrev pub retires_wrong : (ℕ → ℕ) → Trace → ℕ → Option ℕ → ℕ → Op → Bool
retires_wrong initial t hart tag x i = is_retiring hart tag i && is_wrong initial t i x

-- the offence of the load i at byte x
abbrev pub value_here : (ℕ → ℕ) → Trace → ℕ → Option Op → Option Last
value_here initial t x None = None
value_here initial t x (Some i) = newest_of (value_at initial t i (Some x))

-- the offence of the retiring instruction at byte x
abbrev pub value_with : (ℕ → ℕ) → Trace → ℕ → Option ℕ → Option ℕ → Option Last
value_with initial t hart tag None = None
value_with initial t hart tag (Some x) = value_here initial t x (least_of (retires_wrong initial t hart tag x) t.ops)

-- the offence of value
abbrev pub last_value : (ℕ → ℕ) → Trace → ℕ → Option ℕ → Option Last
last_value initial t hart tag =
    value_with initial t hart tag (lowest_wrong initial t None (filter (is_retiring hart tag) t.ops))

-- ---- order

-- the offence of order
abbrev pub last_order : Trace → Option Last
last_order t = newest_of (order_answer t)

-- ---- atomicity

-- w is of the retiring instruction, and in a pair that isn't atomic
abbrev pub retires_torn : Trace → ℕ → Option ℕ → Op → Bool
retires_torn t hart tag w = is_retiring hart tag w && has_torn t w

-- the offence of atomicity
abbrev pub last_atomicity : Trace → ℕ → Option ℕ → Option Last
last_atomicity t hart tag = newest_of (atomicity_of t (least_of (retires_torn t hart tag) t.ops))

-- ---- the answer

-- fine, where there is no offence
abbrev pub fine_unless : Option Last → Last
fine_unless None = last.Fine
fine_unless (Some l) = l

-- the first offence, where there is one
abbrev pub last_offence : (ℕ → ℕ) → Trace → ℕ → Option ℕ → Option Last
last_offence initial t hart tag =
    last_value initial t hart tag or_else (last_order t or_else last_atomicity t hart tag)

-- what the plain program answers
abbrev pub newest_answer : (ℕ → ℕ) → Trace → ℕ → Option ℕ → Last
newest_answer initial t hart tag = fine_unless (last_offence initial t hart tag)
