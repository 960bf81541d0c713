-- What tells of the first operation v of a broken pair, rule by rule, where the second operation b is of an instruction
-- that retires. t is the trace before it, and t' the trace with it; v is of the hart of b and stood in t. Each line
-- says of t, as far as it can, what the rule of that number says of v and b in t'.
use Rattle.std.specs.Prelude.{ℕ, ◌<◌, ◌≡◌, ◌⊎◌, true, Some}
use Rattle.rv_decode.specs.Kinds.{is_sc, is_amo_or_sc}
use Rattle.rvwmo_model.specs.declared.operations.Op.{Op}
use Rattle.rvwmo_model.specs.declared.traces.Trace.{Trace}
use Rattle.rvwmo_model.specs.Order.{standing, op_stores, reads}
use Rattle.rvwmo_model.specs.ProgramOrder.{insn_of, is_one}
use Rattle.rvwmo_model.specs.Sources.{source, origin}
use Rattle.rvwmo_model.specs.Flows.{AddressDep, DataDep, BranchDep}
use Rattle.rvwmo_model.specs.declared.preserved.Rule.{Rule}
use Rattle.rvwmo_model.specs.declared.preserved.Rule.TheVariants.{R1, R2, R3, R4, R5, R6, R7, R8, R9, R10, R11, R12}
use Rattle.rvwmo_model.specs.declared.preserved.Rule.TheVariants.{R13}
use Rattle.rvwmo_model.specs.Rules.{Overlap, Acquires, Releases, BothRcsc, AddressFrom, DataFrom}
use Rattle.rule_laws.specs.Above.{Over}
use Rattle.rule_laws.specs.Own.{IsOwn}
use Rattle.rule_laws.specs.Fences.{Class, kind_in, FencedOff}
use Rattle.rule_laws.specs.TwoMarks.{LoadsOther}
use Rattle.rule_laws.specs.OpenLrs.{LeavesOpen}

-- ---- overlapping-address orderings

-- 1: v has a byte that b stores to, by Overlap

-- 2: v loads a byte that b loads, from another source, and no store of the hart to it is after v
abbrev pub LoadsApart : Trace → Trace → Op → Op → Type 0
LoadsApart t t' b v = (x : ℕ) × (reads x b ≡ true) × LoadsOther t b.name.hart x (origin t' b x) v

-- 3: v is of an AMO or SC, and the source of a byte that b loads
abbrev pub IsAtomicRead : Trace → Trace → Op → Op → Type 0
IsAtomicRead t t' b v =
    (is_one is_amo_or_sc (insn_of t v) ≡ true) × ((x : ℕ) × (reads x b ≡ true) × (source t' b x ≡ Some v))

-- ---- explicit synchronization

-- 4: v is of a class that a FENCE after it orders before a class of b
abbrev pub IsFencedOff : Trace → Op → Op → Type 0
IsFencedOff t b v = (c : Class) × (d : Class) × (kind_in d b.kind ≡ true) × FencedOff t b.name.hart c d v

-- 5: v has an acquire annotation, by Acquires
-- 6: b has a release annotation, by Releases
-- 7: v and b both have RCsc annotations, by BothRcsc

-- 8: b is of an SC, and v of an LR that no LR or SC of the hart is after
abbrev pub IsStillOpen : Trace → Trace → Op → Op → Type 0
IsStillOpen t t' b v = (is_one is_sc (insn_of t' b) ≡ true) × LeavesOpen t b.name.hart v

-- ---- syntactic dependencies

-- 9: b has a syntactic address dependency on v, by AddressFrom
-- 10: b has a syntactic data dependency on v, by DataFrom

-- 11: b is a store, and where a branch or indirect jump after v goes depends on v
abbrev pub IsBranchedOn : Trace → Op → Op → Type 0
IsBranchedOn t b v =
    (op_stores b ≡ true) × ((k : ℕ) × (v.name.tag < k) × BranchDep t.insns b.name.hart k v.name.tag)

-- ---- pipeline dependencies

-- 12: the source of a byte that b loads is a store m of the hart after v, with an address or data dependency on v
abbrev pub LeadsToRead : Trace → Trace → Op → Op → Type 0
LeadsToRead t t' b v =
    (x : ℕ) × (m : Op) × (reads x b ≡ true) × (source t' b x ≡ Some m) × IsOwn t b.name.hart m
    × (v.name.tag < m.name.tag)
    × (AddressDep t.insns b.name.hart m.name.tag v.name.tag ⊎ DataDep t.insns b.name.hart m.name.tag v.name.tag)

-- 13: b is a store, and an instruction after v has an address dependency on v
abbrev pub IsAddressPassed : Trace → Op → Op → Type 0
IsAddressPassed t b v =
    (op_stores b ≡ true) × ((k : ℕ) × (v.name.tag < k) × AddressDep t.insns b.name.hart k v.name.tag)

-- ---- all rules

-- v is what rule k asks of the first operation of a pair with b
abbrev pub IsFirstBy : Rule → Trace → Trace → Op → Op → Type 0
IsFirstBy R1 t t' b v = Overlap v b
IsFirstBy R2 t t' b v = LoadsApart t t' b v
IsFirstBy R3 t t' b v = IsAtomicRead t t' b v
IsFirstBy R4 t t' b v = IsFencedOff t b v
IsFirstBy R5 t t' b v = Acquires v
IsFirstBy R6 t t' b v = Releases b
IsFirstBy R7 t t' b v = BothRcsc v b
IsFirstBy R8 t t' b v = IsStillOpen t t' b v
IsFirstBy R9 t t' b v = AddressFrom t' v b
IsFirstBy R10 t t' b v = DataFrom t' v b
IsFirstBy R11 t t' b v = IsBranchedOn t b v
IsFirstBy R12 t t' b v = LeadsToRead t t' b v
IsFirstBy R13 t t' b v = IsAddressPassed t b v

-- an operation of the hart of b that is that
abbrev pub IsOwnFirst : Rule → Trace → Trace → Op → Op → Type 0
IsOwnFirst k t t' b v = IsOwn t b.name.hart v × IsFirstBy k t t' b v

-- and stands after b in global order: it waits, or was performed after b
abbrev pub IsFirstOver : Rule → Trace → Trace → Op → Op → Type 0
IsFirstOver k t t' b v = Over (IsOwnFirst k t t' b) (standing b) v
