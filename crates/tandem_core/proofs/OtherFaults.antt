-- No message has the fault that the stream ended within a frame.
use Rattle.std.proofs.Common.{◌≡◌, ℕ, zero, suc, ◌+◌, ◌%◌, Bool, true, false, not, ◌&&◌, List, [], ◌∷◌}
use Rattle.std.proofs.Common.{None, Some}
use Rattle.std.specs.Prelude.{if◌then◌else◌, ◌==◌, nat_eq, nat_le, nat_lt, is_some}
use Rattle.std.specs.declared.option.Option.{Option}
use Rattle.std.specs.Option.{option_eq}
use Rattle.msg_frames.specs.declared.csrs.CsrValue.{CsrValue}
use Rattle.msg_frames.specs.declared.message.Head.{Head}
use Rattle.msg_frames.specs.declared.message.LineWrite.{LineWrite}
use Rattle.msg_frames.specs.declared.message.Piece.{Piece}
use Rattle.msg_frames.specs.declared.message.Body.{Body}
use Rattle.msg_frames.specs.declared.message.Body.TheVariants as body
use Rattle.msg_frames.specs.declared.message.Message.{Message}
use Rattle.msg_frames.specs.declared.message.RdValue.{RdValue}
use Rattle.msg_frames.specs.declared.message.Retire.{Retire}
use Rattle.elf_image.specs.Images.{Loaded}
use Rattle.rv_step.specs.declared.effect.Effect.{Effect}
use Rattle.rv_step.specs.Plans.{PlanOf}
use Rattle.rv_step.specs.Steps.{Doing, trap, plain, counter, load, store, lr, sc, amo}
use Rattle.rvwmo_model.specs.declared.answers.Last.{Last}
use Rattle.rvwmo_model.specs.declared.answers.Last.TheVariants as last
use Rattle.verdict_report.specs.declared.fault.Fault.{Fault}
use Rattle.verdict_report.specs.declared.fault.Fault.TheVariants as fault
use Rattle.verdict_report.specs.declared.fault.RdWant.{RdWant}
use Rattle.tandem_base.specs.FirstFault.{◌or_else◌}
use Rattle.matching.specs.declared.reports.OpenReport.{OpenReport}
use Rattle.matching.specs.declared.run.Pair.{Pair}
use Rattle.matching.specs.declared.stores.Fate.{Fate}
use Rattle.matching.specs.declared.stores.Held.{Held}
use Rattle.matching.specs.declared.stores.Stored.{Stored}
use Rattle.matching.specs.Compares.{tag_fault_of, pc_fault_of, word_fault_of, trap_fault_of, next_fault_of, meets}
use Rattle.matching.specs.Compares.{rd_fault_of, same_csr, csr_entry_fault_of, csr_difference, csr_fault_of}
use Rattle.matching.specs.EndFaults.{unwritten_fault_at, unwritten_fault_in}
use Rattle.matching.specs.EndFaults.{unwritten_fault_of, unwritten_below, first_bypass, unretired_fault_of}
use Rattle.matching.specs.Fates.{waiting}
use Rattle.matching.specs.Matching.{stream_fault_of, part_fault_of, bypass_fault_at}
use Rattle.matching.specs.Matching.{body_fault_of, match_fault}
use Rattle.matching.specs.PartFaults.{poke_fault_of, late_fault_of, range_fault_of, read_range_fault}
use Rattle.matching.specs.PartFaults.{insert_range_fault, bypass_range_fault, is_in_space, is_in_image, is_in_line}
use Rattle.matching.specs.PartFaults.{is_known, unknown_fault_of, data_fault_in, data_fault_of, is_aligned, is_whole}
use Rattle.matching.specs.PartFaults.{torn_store_fault_of, part_fault_in, fate_at, second_bypass_fault}
use Rattle.matching.specs.PartFaults.{merge_fault_in}
use Rattle.matching.specs.Reports.{live, early}
use Rattle.matching.specs.RetireFaults.{lowest_stray, stray_fault_of, missing_fault_in, torn_fault_in}
use Rattle.matching.specs.RetireFaults.{missing_fault_of, torn_fault_of, reads_torn, does_amo, bypass_fault_of}
use Rattle.matching.specs.RetireFaults.{amo_fault_in, amo_fault, amo_fault_of, rd_want_of, register_fault_of}
use Rattle.matching.specs.RetireFaults.{is_in_pair, pair_fault_of, effect_fault_in, retire_fault_in}
use Rattle.matching.specs.Runs.{Run, run_of, plan_at, effect_at, bypass_at}
use Rattle.matching.specs.Settings.{is_open, harts_of}
use Rattle.matching.specs.Stores.{retired_stores, store_under}
use Rattle.matching.specs.Tags.{last_tag, is_early}
use Rattle.order_laws.specs.Faults.{last_of, order_fault_of, order_fault, message_fault}

-- it is not the fault that the stream ended within a frame
pub record IsOther (f : Option Fault) : Type 0 where
  pub other : (have : ℕ) → f ≡ Some (fault.Truncated have) → ⊥

none_other : IsOther None
none_other = record { other = λ have e. absurd (cc) }

-- the first of two such faults
both : (first later : Option Fault) → IsOther first → IsOther later → IsOther (first or_else later)
both None later a b = b
both (Some f) later a b = a

-- a fault or none, by a test
unless_so : (test : Bool) (f : Fault) → IsOther (Some f) → IsOther (if test then None else Some f)
unless_so true f other = none_other
unless_so false f other = other

if_so : (test : Bool) (f : Fault) → IsOther (Some f) → IsOther (if test then Some f else None)
if_so true f other = other
if_so false f other = none_other

either : (test : Bool) (a b : Option Fault) → IsOther a → IsOther b → IsOther (if test then a else b)
either true a b p q = p
either false a b p q = q

-- ---- the stream, and parts of stores

stream_other : (before : List Message) (m : Message) → IsOther (stream_fault_of before m)
stream_other [] m = unless_so (is_open m.body) fault.BadOpen (record { other = λ have e. absurd (cc) })
stream_other (last ∷ before) m =
    either (is_open m.body) (Some fault.BadOpen) _ (record { other = λ have e. absurd (cc) })
    (either (nat_lt m.head.hart (harts_of (last ∷ before))) _ (Some fault.BadHart)
    (if_so (nat_lt m.head.time last.head.time) (fault.TimeBack last.head.time)
    (record { other = λ have e. absurd (cc) })) (record { other = λ have e. absurd (cc) }))

tag_other : (last : Option ℕ) (tag : ℕ) → IsOther (tag_fault_of last tag)
tag_other None tag = none_other
tag_other (Some last) tag = if_so (nat_le tag last) (fault.TagOrder last) (record { other = λ have e. absurd (cc) })

poke_other : (last : Option ℕ) → IsOther (poke_fault_of last)
poke_other None = none_other
poke_other (Some last) = record { other = λ have e. absurd (cc) }

late_other : (last : Option ℕ) (tag : ℕ) → IsOther (late_fault_of last tag)
late_other None tag = none_other
late_other (Some last) tag = if_so (nat_le tag last) (fault.LateTag last) (record { other = λ have e. absurd (cc) })

range_other : (fits : Bool) → IsOther (range_fault_of fits)
range_other fits = unless_so fits fault.BadRange (record { other = λ have e. absurd (cc) })

data_other : (piece : Piece) (s : Stored) (o : Option ℕ) → IsOther (data_fault_in piece s o)
data_other piece s None = none_other
data_other piece s (Some k) = record { other = λ have e. absurd (cc) }

part_in_other : (fates : Stored → ℕ → Fate) (piece : Piece) (o : Option Stored) → IsOther (part_fault_in fates piece o)
part_in_other fates piece None = record { other = λ have e. absurd (cc) }
part_in_other fates piece (Some s) =
    both (unknown_fault_of (fates s) piece s) _
    (unless_so (is_known (fates s) piece s) fault.UnknownStore (record { other = λ have e. absurd (cc) }))
    (both (data_fault_of piece s) (torn_store_fault_of piece s) (data_other piece s _)
    (if_so (is_aligned s.piece && not (is_whole piece s.piece)) fault.TornStore
    (record { other = λ have e. absurd (cc) })))

part_other : (image : Loaded) (before : List Message) (head : Head) (piece : Piece)
    → IsOther (part_fault_of image before head piece)
part_other image before head piece = part_in_other (fate_at before head.hart) piece
    (store_under head.tag (retired_stores image before head.hart))

second_other : (tag : ℕ) (o : Option OpenReport) → IsOther (second_bypass_fault tag o)
second_other tag None = none_other
second_other tag (Some r) = record { other = λ have e. absurd (cc) }

merge_other : (held : List Held) (write : LineWrite) (o : Option ℕ) → IsOther (merge_fault_in held write o)
merge_other held write None = none_other
merge_other held write (Some k) = record { other = λ have e. absurd (cc) }

-- ---- Retires

stray_other : (o : Option ℕ) → IsOther (stray_fault_of o)
stray_other None = none_other
stray_other (Some t) = record { other = λ have e. absurd (cc) }

missing_in_other : (addr : ℕ) (o : Option ℕ) → IsOther (missing_fault_in addr o)
missing_in_other addr None = none_other
missing_in_other addr (Some k) = record { other = λ have e. absurd (cc) }

torn_in_other : (addr : ℕ) (o : Option ℕ) → IsOther (torn_fault_in addr o)
torn_in_other addr None = none_other
torn_in_other addr (Some k) = record { other = λ have e. absurd (cc) }

missing_other : (rs : List OpenReport) (t : ℕ) (d : Doing) → IsOther (missing_fault_of rs t d)
missing_other rs t (trap cause value) = none_other
missing_other rs t (plain i) = none_other
missing_other rs t (counter i) = none_other
missing_other rs t (load i addr len) = missing_in_other addr _
missing_other rs t (store i addr len) = none_other
missing_other rs t (lr i addr len) = missing_in_other addr _
missing_other rs t (sc i addr len) = none_other
missing_other rs t (amo i addr len) = missing_in_other addr _

torn_other : (rs : List OpenReport) (t : ℕ) (d : Doing) → IsOther (torn_fault_of rs t d)
torn_other rs t (trap cause value) = none_other
torn_other rs t (plain i) = none_other
torn_other rs t (counter i) = none_other
torn_other rs t (load i addr len) =
    either (addr % len == 0) (reads_torn rs t addr len) None (torn_in_other addr _) none_other
torn_other rs t (store i addr len) = none_other
torn_other rs t (lr i addr len) = torn_in_other addr _
torn_other rs t (sc i addr len) = none_other
torn_other rs t (amo i addr len) = torn_in_other addr _

amo_in_other : (addr : ℕ) (result got : Piece) (o : Option ℕ) → IsOther (amo_fault_in addr result got o)
amo_in_other addr result got None = none_other
amo_in_other addr result got (Some k) = record { other = λ have e. absurd (cc) }

amo_over_other : (addr len : ℕ) (result : Option Piece) (bypass : Option OpenReport)
    → IsOther (amo_fault addr len result bypass)
amo_over_other addr len None bypass = none_other
amo_over_other addr len (Some result) None = none_other
amo_over_other addr len (Some result) (Some bypass) = amo_in_other addr result bypass.piece _

amo_other : (d : Doing) (result : Option Piece) (bypass : Option OpenReport) → IsOther (amo_fault_of d result bypass)
unfolding amo_fault_of
amo_other (trap cause value) result bypass = none_other
amo_other (plain i) result bypass = none_other
amo_other (counter i) result bypass = none_other
amo_other (load i addr len) result bypass = none_other
amo_other (store i addr len) result bypass = none_other
amo_other (lr i addr len) result bypass = none_other
amo_other (sc i addr len) result bypass = amo_over_other addr len result bypass
amo_other (amo i addr len) result bypass = amo_over_other addr len result bypass

pair_other : (pair : Option Pair) (stored : Bool) (d : Doing) → IsOther (pair_fault_of pair stored d)
pair_other pair stored (trap cause value) = none_other
pair_other pair stored (plain i) = none_other
pair_other pair stored (counter i) = none_other
pair_other pair stored (load i addr len) = none_other
pair_other pair stored (store i addr len) = none_other
pair_other pair stored (lr i addr len) = none_other
pair_other pair stored (sc i addr len) =
    if_so (stored && not (is_in_pair addr len pair)) fault.ScPair (record { other = λ have e. absurd (cc) })
pair_other pair stored (amo i addr len) = none_other

csr_other : (index : ℕ) (want got : Option CsrValue) → IsOther (csr_entry_fault_of index want got)
csr_other index want got =
    unless_so (option_eq same_csr want got) (fault.Csr index want got) (record { other = λ have e. absurd (cc) })

csrs_other : (index : ℕ) (wants gots : List CsrValue) → IsOther (csr_difference index wants gots)
csrs_other index [] [] = none_other
csrs_other index [] (got ∷ gots) = csr_other index None (Some got)
csrs_other index (want ∷ wants) [] = csr_other index (Some want) None
csrs_other index (want ∷ wants) (got ∷ gots) =
    both (csr_entry_fault_of index (Some want) (Some got)) (csr_difference (index + 1) wants gots)
    (csr_other index (Some want) (Some got)) (csrs_other (index + 1) wants gots)

rd_other : (want : RdWant) (got : Option RdValue) → IsOther (rd_fault_of want got)
rd_other want got = unless_so (meets want got) (fault.Rd want got) (record { other = λ have e. absurd (cc) })

retire_in_other : (run : Run) (rs bs : List OpenReport) (head : Head) (retire : Retire) (plan : PlanOf)
    (effect : Effect) (bypass : Option OpenReport)
    → IsOther (retire_fault_in run rs bs head retire plan effect bypass)
unfolding retire_fault_in effect_fault_in register_fault_of
retire_in_other run rs bs head retire plan effect bypass =
    both (stray_fault_of (lowest_stray plan.doing head.hart head.tag bs)) _ (stray_other _)
    (both (pc_fault_of run.hart.pc retire.pc) _
    (unless_so (run.hart.pc == retire.pc) (fault.Pc run.hart.pc retire.pc) (record { other = λ have e. absurd (cc) }))
    (both (word_fault_of plan.word retire.word) _
    (unless_so (plan.word == retire.word) (fault.Word plan.word retire.word)
    (record { other = λ have e. absurd (cc) }))
    (both (trap_fault_of effect.trap retire.trap) _
    (unless_so (option_eq nat_eq effect.trap retire.trap) (fault.Trap effect.trap retire.trap)
    (record { other = λ have e. absurd (cc) }))
    (both (missing_fault_of rs head.tag plan.doing) _ (missing_other rs head.tag plan.doing)
    (both (torn_fault_of rs head.tag plan.doing) _ (torn_other rs head.tag plan.doing)
    (both (bypass_fault_of bypass plan.doing) _
    (if_so (does_amo plan.doing && not (is_some bypass)) fault.MissingBypass
    (record { other = λ have e. absurd (cc) }))
    (both (next_fault_of effect.next retire.next) _
    (unless_so (effect.next == retire.next) (fault.NextPc effect.next retire.next)
    (record { other = λ have e. absurd (cc) }))
    (both (rd_fault_of (rd_want_of plan.doing (is_some bypass) run.clocks effect.rd) retire.rd) _
    (rd_other (rd_want_of plan.doing (is_some bypass) run.clocks effect.rd) retire.rd)
    (both (csr_fault_of effect.csrs retire.csrs) _ (csrs_other 0 effect.csrs retire.csrs)
    (both (amo_fault_of plan.doing effect.store bypass) _ (amo_other plan.doing effect.store bypass)
    (pair_other run.pair (is_some bypass) plan.doing)))))))))))

-- ---- the End

unwritten_at_other : (h : ℕ) (s : Stored) (o : Option ℕ) → IsOther (unwritten_fault_at h s o)
unwritten_at_other h s None = none_other
unwritten_at_other h s (Some k) = record { other = λ have e. absurd (cc) }

unwritten_other : (fates : Stored → ℕ → Fate) (h : ℕ) (o : Option Stored) → IsOther (unwritten_fault_in fates h o)
unwritten_other fates h None = none_other
unwritten_other fates h (Some s) = unwritten_at_other h s _

below_other : (image : Loaded) (before : List Message) (n : ℕ) → IsOther (unwritten_below image before n)
unfolding unwritten_below
below_other image before zero = none_other
below_other image before (suc n) = both (unwritten_below image before n) (unwritten_fault_of image before n)
    (below_other image before n) (unwritten_other (fate_at before n) n _)

unretired_other : (o : Option OpenReport) → IsOther (unretired_fault_of o)
unretired_other None = none_other
unretired_other (Some r) = record { other = λ have e. absurd (cc) }

-- ---- the whole

body_other : (image : Loaded) (before : List Message) (head : Head) (b : Body)
    → IsOther (body_fault_of image before head b)
body_other image before head (body.Open info) = none_other
body_other image before head (body.Poke poke) = poke_other (last_tag before head.hart)
body_other image before head (body.Read piece) =
    both (late_fault_of (last_tag before head.hart) head.tag) (read_range_fault piece)
    (late_other (last_tag before head.hart) head.tag) (range_other (is_in_space piece))
body_other image before head (body.Insert piece) =
    both (insert_range_fault image piece) (part_fault_of image before head piece)
    (range_other (is_in_image image piece && is_in_line piece)) (part_other image before head piece)
body_other image before head (body.Write write) = merge_other (waiting before head.hart write.line) write _
body_other image before head (body.Bypass piece) =
    both (bypass_range_fault image piece) (bypass_fault_at image before head piece)
    (range_other (is_in_image image piece))
    (either (is_early before head) (second_bypass_fault head.tag (bypass_at before head))
    (part_fault_of image before head piece) (second_other head.tag (bypass_at before head))
    (part_other image before head piece))
body_other image before head (body.Retire retire) =
    both (tag_fault_of (last_tag before head.hart) head.tag) _ (tag_other (last_tag before head.hart) head.tag)
    (retire_in_other (run_of image before head.hart) (live before head.hart) (early before) head retire
    (plan_at image before head.hart) (effect_at image before head retire) (bypass_at before head))
body_other image before head body.Squash = none_other
body_other image before head body.End =
    both (unwritten_below image before 16) (unretired_fault_of (first_bypass (early before)))
    (below_other image before 16) (unretired_other (first_bypass (early before)))

order_other : (l : Last) → IsOther (order_fault_of l)
order_other last.Fine = none_other
order_other (last.Value x want got) = record { other = λ have e. absurd (cc) }
order_other (last.Order rule first second) = record { other = λ have e. absurd (cc) }
order_other (last.Atomicity x origin) = record { other = λ have e. absurd (cc) }

pub message_other : (image : Loaded) (before : List Message) (m : Message) → IsOther (message_fault image before m)
message_other image before m =
    both (match_fault image before m) (order_fault image before m)
    (both (stream_fault_of before m) (body_fault_of image before m.head m.body) (stream_other before m)
    (body_other image before m.head m.body)) (order_other (last_of image before m))
