-- The tests that the plain program makes: each computes one word of the definitions.
use Rattle.std.specs.Prelude.{ℕ, ◌+◌, ◌-◌, ◌/◌, ◌==◌, ◌&&◌, ◌||◌, nat_lt, not, is_some, Bool, true, false, None, Some}
use Rattle.std.specs.List.{filter, list_any}
use Rattle.std.specs.declared.option.Option.{Option}
use Rattle.tandem_base.specs.declared.names.Origin.{Origin}
use Rattle.rvwmo_model.specs.declared.instructions.Retired.{Retired}
use Rattle.rvwmo_model.specs.declared.judge.walk.Use.{Use}
use Rattle.rvwmo_model.specs.declared.judge.walk.Use.TheVariants.{Address, Data, Control}
use Rattle.rvwmo_model.specs.declared.operations.Op.{Op}
use Rattle.rvwmo_model.specs.declared.traces.Trace.{Trace}
use Rattle.rvwmo_model.specs.Order.{op_stores, has_byte, reads, writes, precedes, got_at}
use Rattle.rvwmo_model.specs.ProgramOrder.{insn_of, is_one}
use Rattle.rvwmo_model.specs.Sources.{latest_from, source, byte_from, origin}
use Rattle.rvwmo_model.specs.Rules.{Rule, R1, R2, R3, R4, R5, R6, R7, R8, R9, R10, R11, R12, R13}
use Rattle.rv_decode.specs.Kinds.{is_lr, is_sc, is_amo_or_sc}
use Rattle.rvwmo_model.specs.InsnKinds.{has_stored, fence_orders}
use Rattle.rvwmo_model.specs.Annotations.{is_annotated, has_rcsc}
use Rattle.rvwmo_model.specs.Search.{some_byte, first_byte}
use Rattle.rvwmo_model.specs.Walk.{finds}

-- an instruction of that hart and tag is strictly between a and b in program order
abbrev pub is_between : Op → Op → ℕ → ℕ → Bool
is_between a b hart tag = (hart == a.name.hart) && nat_lt a.name.tag tag && nat_lt tag b.name.tag

-- ---- rules

-- rule 1
abbrev pub overlap : Op → Op → Bool
overlap a b = some_byte (λ x. has_byte x a && writes x b) a

-- sources are the same
abbrev pub same_origin : Option Origin → Option Origin → Bool
same_origin None None = true
same_origin None (Some n) = false
same_origin (Some m) None = false
same_origin (Some m) (Some n) = (m.hart == n.hart) && (m.tag == n.tag)

-- o is a store to byte x between a and b
abbrev pub store_between : Op → Op → ℕ → Op → Bool
store_between a b x o = is_between a b o.name.hart o.name.tag && writes x o

-- a and b read byte x from different sources, with no store to it between them
abbrev pub read_apart_at : Trace → Op → Op → ℕ → Bool
read_apart_at t a b x =
    reads x a && reads x b && not (list_any (store_between a b x) t.ops)
    && not (same_origin (origin t a x) (origin t b x))

-- rule 2
abbrev pub read_apart : Trace → Op → Op → Bool
read_apart t a b = some_byte (read_apart_at t a b) a

-- o stands where s does
abbrev pub stands_with : Op → Op → Bool
stands_with s o = not (precedes o s) && not (precedes s o)

-- s is an operation of the trace, and no early store
abbrev pub is_operation : Trace → Op → Bool
is_operation t s = list_any (stands_with s) t.ops

-- a source is an operation of the instruction of hart h under the tag k
abbrev pub is_store_of : Trace → ℕ → ℕ → Option Op → Bool
is_store_of t h k None = false
is_store_of t h k (Some s) = (s.name.hart == h) && (s.name.tag == k) && is_operation t s

-- b reads from the instruction of hart h under the tag k
abbrev pub reads_from : Trace → Op → ℕ → ℕ → Bool
reads_from t b h k = some_byte (λ x. reads x b && is_store_of t h k (source t b x)) b

-- rule 3
abbrev pub reads_atomic : Trace → Op → Op → Bool
reads_atomic t a b = is_one is_amo_or_sc (insn_of t a) && reads_from t b a.name.hart a.name.tag

-- w is a FENCE between a and b that orders them
abbrev pub fence_at : Op → Op → Retired → Bool
fence_at a b w = is_between a b w.hart w.tag && fence_orders w.insn a.kind b.kind

-- rule 4
abbrev pub fenced : Trace → Op → Op → Bool
fenced t a b = list_any (fence_at a b) t.insns

-- w is an LR or SC between a and b
abbrev pub parts_pair : Op → Op → Retired → Bool
parts_pair a b w = is_between a b w.hart w.tag && (is_lr w.insn || is_sc w.insn)

-- rule 8
abbrev pub is_pair_of : Trace → Op → Op → Bool
is_pair_of t a b = is_one is_lr (insn_of t a) && is_one is_sc (insn_of t b) && not (list_any (parts_pair a b) t.insns)

-- the instruction under a tag depends on that of a
abbrev pub depends_at : Use → Trace → Op → ℕ → Bool
depends_at by t a tag =
    finds (record { hart = a.name.hart; start = a.name.tag; from = tag; to = tag; by = by }) t.insns

-- an instruction between a and b depends on that of a
abbrev pub depends_between : Use → Trace → Op → Op → Bool
depends_between by t a b =
    finds (record { hart = a.name.hart; start = a.name.tag; from = a.name.tag + 1; to = b.name.tag - 1; by = by })
    t.insns

-- a source is an operation between a and b that depends on a
abbrev pub is_dependent : Trace → Op → Op → Option Op → Bool
is_dependent t a b None = false
is_dependent t a b (Some s) =
    is_between a b s.name.hart s.name.tag && is_operation t s
    && (depends_at Address t a s.name.tag || depends_at Data t a s.name.tag)

-- rule 12
abbrev pub reads_dependent : Trace → Op → Op → Bool
reads_dependent t a b = some_byte (λ x. reads x b && is_dependent t a b (source t b x)) b

-- rule k puts a before b
abbrev pub orders : Rule → Trace → Op → Op → Bool
orders R1 t a b = overlap a b
orders R2 t a b = read_apart t a b
orders R3 t a b = reads_atomic t a b
orders R4 t a b = fenced t a b
orders R5 t a b = is_annotated a.acquire
orders R6 t a b = is_annotated b.release
orders R7 t a b = has_rcsc a && has_rcsc b
orders R8 t a b = is_pair_of t a b
orders R9 t a b = depends_at Address t a b.name.tag
orders R10 t a b = depends_at Data t a b.name.tag
orders R11 t a b = op_stores b && depends_between Control t a b
orders R12 t a b = reads_dependent t a b
orders R13 t a b = op_stores b && depends_between Address t a b

-- and b comes before a
abbrev pub is_broken : Rule → Trace → Op → Op → Bool
is_broken k t a b = (b.name.hart == a.name.hart) && nat_lt a.name.tag b.name.tag && precedes b a && orders k t a b

-- ---- values

-- byte x of the load i isn't its source's
abbrev pub is_wrong : (ℕ → ℕ) → Trace → Op → ℕ → Bool
is_wrong initial t i x = reads x i && not (got_at i x == byte_from initial (source t i x) x)

-- the lowest wrong byte
abbrev pub wrong_byte : (ℕ → ℕ) → Trace → Op → Option ℕ
wrong_byte initial t i = first_byte (is_wrong initial t i) i

-- ---- pairs

-- r and w are of an LR and its successful SC
abbrev pub is_pair : Trace → Op → Op → Bool
is_pair t r w =
    (w.name.hart == r.name.hart) && nat_lt r.name.tag w.name.tag && is_pair_of t r w && has_stored (insn_of t w)

-- each byte of w is one of r
abbrev pub is_covered_by : Op → Op → Bool
is_covered_by w r = not (some_byte (λ x. has_byte x w && not (has_byte x r)) w)

-- w is of a successful SC without a pair whose bytes contain its own
abbrev pub is_unpaired : Trace → Op → Bool
is_unpaired t w = has_stored (insn_of t w) && not (list_any (λ r. is_pair t r w && is_covered_by w r) t.ops)

-- ---- atomicity

-- some operation or early store passes
abbrev pub some_everywhere : (Op → Bool) → Trace → Bool
some_everywhere p t = list_any p t.ops || list_any p t.early

-- the latest of those that pass
abbrev pub latest_everywhere : (Op → Bool) → Trace → Option Op
latest_everywhere p t = latest_from (latest_from None (filter p t.ops)) (filter p t.early)

-- v is a store of another hart than w, before w
abbrev pub is_other_before : Op → Op → Bool
is_other_before w v = not (v.name.hart == w.name.hart) && precedes v w

-- v stores to byte x, and is of another hart than w, before w
abbrev pub is_foreign : Op → ℕ → Op → Bool
is_foreign w x v = writes x v && is_other_before w v

-- v comes after a source
abbrev pub is_after : Option Op → Op → Bool
is_after None v = true
is_after (Some s) v = precedes s v

-- a source doesn't precede w
abbrev pub is_late : Option Op → Op → Bool
is_late None w = false
is_late (Some s) w = not (precedes s w)

-- v stores to byte x, after the source s and before w
abbrev pub intrudes : Option Op → Op → ℕ → Op → Bool
intrudes s w x v = is_foreign w x v && is_after s v

-- the pair isn't atomic at byte x
abbrev pub is_torn_at : Trace → Op → Op → ℕ → Bool
is_torn_at t r w x =
    reads x r && (is_late (source t r x) w || some_everywhere (intrudes (source t r x) w x) t)

-- the lowest byte of r at which the pair isn't atomic
abbrev pub torn_byte : Trace → Op → Op → Option ℕ
torn_byte t r w = first_byte (is_torn_at t r w) r

-- byte x lies in the block of r
abbrev pub in_block : Trace → Op → ℕ → Bool
in_block t r x = nat_lt 0 t.granule && (x / t.granule == r.extent.addr / t.granule)

-- v stores to byte x of the block of r
abbrev pub writes_block : Trace → Op → Op → ℕ → Bool
writes_block t r v x = writes x v && in_block t r x

-- the lowest byte of the block of r that v stores to
abbrev pub block_byte : Trace → Op → Op → Option ℕ
block_byte t r v = first_byte (writes_block t r v) v

-- v stores to the block of r, between r and w
abbrev pub intrudes_block : Trace → Op → Op → Op → Bool
intrudes_block t r w v = is_other_before w v && precedes r v && is_some (block_byte t r v)

-- the pair r and w isn't atomic
abbrev pub is_pair_torn : Trace → Op → Op → Bool
is_pair_torn t r w = is_pair t r w && (is_some (torn_byte t r w) || some_everywhere (intrudes_block t r w) t)
