-- What the plain program answers.
use Rattle.std.specs.Prelude.{ℕ, is_some, List, [], ◌∷◌, Bool, None, Some, if◌then◌else◌}
use Rattle.std.specs.List.{filter, list_any}
use Rattle.std.specs.declared.option.Option.{Option}
use Rattle.tandem_base.specs.FirstFault.{◌or_else◌}
use Rattle.rvwmo_model.specs.declared.answers.Judged.{Judged}
use Rattle.rvwmo_model.specs.declared.answers.Judged.TheVariants as judged
use Rattle.rvwmo_model.specs.declared.operations.Op.{Op}
use Rattle.rvwmo_model.specs.declared.traces.Trace.{Trace}
use Rattle.rvwmo_model.specs.Order.{named_before, got_at}
use Rattle.rvwmo_model.specs.Sources.{latest_from, source, byte_from, key_of}
use Rattle.rvwmo_model.specs.Rules.{Rule, R1, R2, R3, R4, R5, R6, R7, R8, R9, R10, R11, R12, R13}
use Rattle.rvwmo_model.specs.Report.{number}
use Rattle.rvwmo_model.specs.Search.{best_from}
use Rattle.rvwmo_model.specs.Tests.{is_broken, wrong_byte, is_unpaired, torn_byte, is_pair_torn, block_byte}
use Rattle.rvwmo_model.specs.Tests.{intrudes_block, is_foreign, is_late, latest_everywhere}

-- the name of a comes before that of b
abbrev pub is_named_first : Op → Op → Bool
is_named_first a b = named_before a.name b.name

-- the operation of the least name that passes
abbrev pub least_of : (Op → Bool) → List Op → Option Op
least_of p ops = best_from is_named_first None (filter p ops)

-- ---- pair

-- the offence of the SC w, which has no pair
abbrev pub pair_of : Option Op → Option Judged
pair_of None = None
pair_of (Some w) = Some (judged.Pair w.name)

-- the offence of pair
abbrev pub pair_answer : Trace → Option Judged
pair_answer t = pair_of (least_of (is_unpaired t) t.ops)

-- ---- value

-- the offence of the load i at byte x
abbrev pub value_at : (ℕ → ℕ) → Trace → Op → Option ℕ → Option Judged
value_at initial t i None = None
value_at initial t i (Some x) = Some (judged.Value i.name x (byte_from initial (source t i x) x) (got_at i x))

-- the offence of the load i
abbrev pub value_of : (ℕ → ℕ) → Trace → Option Op → Option Judged
value_of initial t None = None
value_of initial t (Some i) = value_at initial t i (wrong_byte initial t i)

-- the offence of value
abbrev pub value_answer : (ℕ → ℕ) → Trace → Option Judged
value_answer initial t = value_of initial t (least_of (λ i. is_some (wrong_byte initial t i)) t.ops)

-- ---- order

-- the latest operation that rule k puts before b, and that comes after it
abbrev pub broken_first : Rule → Trace → Op → Option Op
broken_first k t b = latest_from None (filter (λ a. is_broken k t a b) t.ops)

-- rule k puts an operation before b that comes after it
unfoldable pub has_first : Rule → Trace → Op → Bool
has_first k t b = list_any (λ a. is_broken k t a b) t.ops

-- the second operation of a broken pair of rule k that has the least name
abbrev pub broken_second : Rule → Trace → Option Op
broken_second k t = least_of (has_first k t) t.ops

-- the offence of a and b by rule k
abbrev pub order_pair : Rule → Op → Option Op → Option Judged
order_pair k b None = None
order_pair k b (Some a) = Some (judged.Order (number k) a.name b.name)

-- the offence by rule k whose second operation is b
abbrev pub order_of : Rule → Trace → Option Op → Option Judged
order_of k t None = None
order_of k t (Some b) = order_pair k b (broken_first k t b)

-- the offence by the first rule of a list that is broken
abbrev pub order_from : Trace → List Rule → Option Judged
order_from t [] = None
order_from t (k ∷ ks) = order_of k t (broken_second k t) or_else order_from t ks

-- the rules in their order
abbrev pub all_rules : List Rule
all_rules = R1 ∷ R2 ∷ R3 ∷ R4 ∷ R5 ∷ R6 ∷ R7 ∷ R8 ∷ R9 ∷ R10 ∷ R11 ∷ R12 ∷ R13 ∷ []

-- the offence of order
abbrev pub order_answer : Trace → Option Judged
order_answer t = order_from t all_rules

-- ---- atomicity

-- the offence of the SC w at byte x, by the store s
abbrev pub torn_at : Op → ℕ → Option Op → Option Judged
torn_at w x None = None
torn_at w x (Some s) = Some (judged.Atomicity w.name x (key_of s))

-- the store that is named at a byte
abbrev pub blamed : Trace → Op → ℕ → Option Op → Option Op
blamed t w x s = if is_late s w then s else latest_everywhere (is_foreign w x) t

-- the offence of the SC w at byte x of the block
abbrev pub block_at : Op → Op → Option ℕ → Option Judged
block_at w s None = None
block_at w s (Some x) = Some (judged.Atomicity w.name x (key_of s))

-- the offence of the pair r and w in its block, by the store s
abbrev pub block_of : Trace → Op → Op → Option Op → Option Judged
block_of t r w None = None
block_of t r w (Some s) = block_at w s (block_byte t r s)

-- the offence of the pair r and w, by its lowest byte, else in its block
abbrev pub torn_of : Trace → Op → Op → Option ℕ → Option Judged
torn_of t r w None = block_of t r w (latest_everywhere (intrudes_block t r w) t)
torn_of t r w (Some x) = torn_at w x (blamed t w x (source t r x))

-- the offence of the SC w with the LR r
abbrev pub pair_torn : Trace → Op → Option Op → Option Judged
pair_torn t w None = None
pair_torn t w (Some r) = torn_of t r w (torn_byte t r w)

-- the offence of the SC w
abbrev pub atomicity_of : Trace → Option Op → Option Judged
atomicity_of t None = None
atomicity_of t (Some w) = pair_torn t w (least_of (λ r. is_pair_torn t r w) t.ops)

-- the SC w is in a pair that isn't atomic
unfoldable pub has_torn : Trace → Op → Bool
has_torn t w = list_any (λ r. is_pair_torn t r w) t.ops

-- the offence of atomicity
abbrev pub atomicity_answer : Trace → Option Judged
atomicity_answer t = atomicity_of t (least_of (has_torn t) t.ops)

-- ---- the answer

-- legal, where there is no offence
abbrev pub legal_unless : Option Judged → Judged
legal_unless None = judged.Legal
legal_unless (Some j) = j

-- what the plain program answers
abbrev pub answer : (ℕ → ℕ) → Trace → Judged
answer initial t =
    legal_unless (pair_answer t or_else (value_answer initial t or_else (order_answer t or_else atomicity_answer t)))
