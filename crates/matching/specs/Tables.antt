-- What the tables of the code hold, and what they stand for. Lists have the newest first; the tables keep them in the
-- order in which they came. The fault of a message and the hart after it are told here a second time, by one hart's
-- table, since that is what the code computes: proofs show that they are those of Matching, where the meaning stands.
use Rattle.std.specs.Prelude.{ℕ, ◌≡◌, ◌+◌, ◌<◌, ◌==◌, ◌&&◌, not, nat_lt, List, [], ◌∷◌, reverse, map}
use Rattle.std.specs.Prelude.{slice_index_or, is_some, Bool, Some, None, if◌then◌else◌}
use Rattle.std.specs.List.{filter, cons_option, find}
use Rattle.std.specs.declared.option.Option.{Option}
use Rattle.std.specs.Option.{option_map, option_map_or}
use Rattle.msg_frames.specs.declared.message.OpenInfo.{OpenInfo}
use Rattle.msg_frames.specs.declared.message.Head.{Head}
use Rattle.msg_frames.specs.declared.message.Piece.{Piece}
use Rattle.msg_frames.specs.declared.message.Retire.{Retire}
use Rattle.msg_frames.specs.declared.message.Body.{Body}
use Rattle.msg_frames.specs.declared.message.Body.TheVariants as body
use Rattle.msg_frames.specs.declared.message.Message.{Message}
use Rattle.elf_image.specs.Images.{Loaded}
use Rattle.rv_step.specs.declared.plan.Config.{Config}
use Rattle.rv_step.specs.Harts.{HartState}
use Rattle.rv_step.specs.Plans.{doing_seen, plan_of, plan_seen}
use Rattle.rv_step.specs.Steps.{Doing, committed}
use Rattle.rv_step.specs.declared.effect.Effect.{Effect}
use Rattle.tandem_base.specs.FirstFault.{◌or_else◌}
use Rattle.verdict_report.specs.declared.fault.Fault.{Fault}
use Rattle.verdict_report.specs.declared.fault.Fault.TheVariants as fault
use Rattle.matching.specs.declared.reports.OpenReport.{OpenReport}
use Rattle.matching.specs.declared.step.Step.{Step}
use Rattle.matching.specs.declared.stores.Fate.{Fate}
use Rattle.matching.specs.declared.stores.Fate.TheVariants.{Nothing, Waiting, Done}
use Rattle.matching.specs.declared.stores.Held.{Held}
use Rattle.matching.specs.declared.stores.Stored.{Stored}
use Rattle.matching.specs.declared.stores.Tracked.{Tracked}
use Rattle.matching.specs.declared.hart_table.HartTable.{HartTable}
use Rattle.matching.specs.declared.tables.Matching.{Matching}
use Rattle.matching.specs.Searches.{earliest}
use Rattle.matching.specs.Settings.{number_after, last_time, open_of, config_in, harts_of, config_of}
use Rattle.msg_frames.specs.Pieces.{has}
use Rattle.matching.specs.Pieces.{line_start}
use Rattle.matching.specs.Tags.{is_younger, last_tag}
use Rattle.matching.specs.Reports.{open_report_of, is_report, live, early, early_of}
use Rattle.matching.specs.Fates.{drained}
use Rattle.matching.specs.Runs.{Run, run_of, run_poked, clocks_after, pair_after, doing_in, done_of}
use Rattle.matching.specs.Stores.{retired_stores, new_store}
use Rattle.matching.specs.Compares.{tag_fault_of}
use Rattle.matching.specs.PartFaults.{poke_fault_of, late_fault_of, read_range_fault, insert_range_fault}
use Rattle.matching.specs.PartFaults.{bypass_range_fault, unknown_fault_of, data_fault_of, torn_store_fault_of}
use Rattle.matching.specs.PartFaults.{fate_at, second_bypass_fault, merge_fault_of}
use Rattle.matching.specs.RetireFaults.{retire_fault_in}
use Rattle.matching.specs.EndFaults.{first_left, unwritten_fault_at}
use Rattle.matching.specs.Matching.{IsClean}

-- ---- a store with the fates of its bytes

-- a store whose byte k has fate k, of eight
abbrev pub tracked : (ℕ → Fate) → Stored → Tracked
tracked fates s = record {
  store = s;
  fates = fates 0 ∷ fates 1 ∷ fates 2 ∷ fates 3 ∷ fates 4 ∷ fates 5 ∷ fates 6 ∷ fates 7 ∷ [];
}

-- the fate of its byte k
abbrev pub fate_in_store : Tracked → ℕ → Fate
fate_in_store t k = slice_index_or t.fates k Nothing

-- a store of which no byte was in a message
abbrev pub untouched : Stored → Tracked
untouched s = tracked (λ k. Nothing) s

-- the bytes of a piece of the store under a tag have this fate
abbrev pub with_part : Fate → ℕ → Piece → Tracked → Tracked
with_part new tag piece t =
    tracked (λ k. if (tag == t.store.tag) && has piece (t.store.piece.addr + k) then new else fate_in_store t k) t.store

-- the bytes of a line that wait are performed by message n
abbrev pub with_line : ℕ → ℕ → ℕ → Tracked → Tracked
with_line time n line t = tracked
    (λ k. if line == line_start (t.store.piece.addr + k) then drained time n (fate_in_store t k)
    else fate_in_store t k) t.store

-- ---- what is kept of a hart

-- the run of a hart, its last retired tag, its live Reads, its waiting Inserts of all lines, and its stores
pub record Table : Type 0 where
  pub run : Run
  pub last : Option ℕ
  pub live : List OpenReport
  pub inserts : List Held
  pub stores : List Tracked

-- the same, as the code keeps it
abbrev pub table_of : HartTable → Table
table_of t = record {
  run = record { hart = t.hart; clocks = t.clocks; pair = t.pair };
  last = t.last;
  live = reverse t.live.items;
  inserts = reverse t.inserts.items;
  stores = reverse t.stores.items;
}

-- an Insert of this line
abbrev pub is_in : ℕ → Held → Bool
is_in line e = line_start e.piece.addr == line

-- an Insert that is message n
abbrev pub held_of : ℕ → Head → Piece → Held
held_of n head piece = record { number = n; tag = head.tag; piece = piece }

-- the hart after a Retire: what it is to do, what it becomes, and the bytes that it stores
abbrev pub table_retiring : Table → Head → Retire → Doing → HartState → Option Piece → Table
table_retiring t head retire doing hart store =
    record {
      run = record {
        hart = hart;
        clocks = clocks_after doing retire.rd t.run.clocks;
        pair = pair_after doing t.run.pair;
      };
      last = Some head.tag;
      live = filter (λ (r : OpenReport). nat_lt head.tag r.tag) t.live;
      inserts = t.inserts;
      stores = cons_option (option_map untouched (new_store doing head.tag store)) t.stores;
    }

-- the hart after its Retire
abbrev pub table_retired : Loaded → Config → List OpenReport → Table → Head → Retire → Table
table_retired image config early t head retire =
    let doing = doing_in image config t.run in
    let done = done_of t.run t.live (early_of early head.hart head.tag) head.tag retire doing in
    table_retiring t head retire doing done.hart done.effect.store

-- the hart after its Retire, by the step that is kept
abbrev pub table_stepped : Table → Head → Retire → Step → Table
table_stepped t head retire step =
    table_retiring t head retire (doing_seen step.plan.what) (committed t.run.hart step.effect) step.effect.store

-- the hart after message n, which is its own; what it is after its Retire is given
abbrev pub table_with : ℕ → Table → Head → Body → (Retire → Table) → Table
table_with n t head (body.Open info) retired = t
table_with n t head (body.Poke poke) retired = record t { run = run_poked t.run poke }
table_with n t head (body.Read piece) retired = record t { live = open_report_of n head piece ∷ t.live }
table_with n t head (body.Insert piece) retired =
    record t {
      inserts = held_of n head piece ∷ t.inserts;
      stores = map (with_part (Waiting n) head.tag piece) t.stores;
    }
table_with n t head (body.Write write) retired =
    record t {
      inserts = filter (λ (e : Held). not (is_in write.line e)) t.inserts;
      stores = map (with_line head.time n write.line) t.stores;
    }
table_with n t head (body.Bypass piece) retired =
    if is_younger t.last head.tag then t
    else record t {
      stores =
          map (with_part (Done (record { time = head.time; message = n; insert = n })) head.tag piece) t.stores;
    }
table_with n t head (body.Retire retire) retired = retired retire
table_with n t head body.Squash retired =
    record t { live = filter (λ (r : OpenReport). nat_lt r.tag head.tag) t.live }
table_with n t head body.End retired = t

-- the hart after message n, which is its own
abbrev pub table_after : Loaded → Config → List OpenReport → ℕ → Table → Head → Body → Table
table_after image config early n t head b =
    table_with n t head b (λ (retire : Retire). table_retired image config early t head retire)

-- the same, by the step that is kept
abbrev pub table_taken : ℕ → Table → Head → Body → Step → Table
table_taken n t head b step = table_with n t head b (λ (retire : Retire). table_stepped t head retire step)

-- ---- what is wrong with a message, by what is kept

-- the store under a tag
abbrev pub tracked_under : ℕ → List Tracked → Option Tracked
tracked_under tag ts = find (λ (t : Tracked). t.store.tag == tag) ts

-- the faults of a part of this store
abbrev pub tracked_fault : Piece → Option Tracked → Option Fault
tracked_fault piece None = Some fault.UnknownStore
tracked_fault piece (Some t) =
    unknown_fault_of (fate_in_store t) piece t.store
    or_else data_fault_of piece t.store
    or_else torn_store_fault_of piece t.store

-- the fault of a Bypass that has no fault of range
abbrev pub bypass_fault_in : List OpenReport → Table → Head → Piece → Option Fault
bypass_fault_in early t head piece =
    if is_younger t.last head.tag then second_bypass_fault head.tag (early_of early head.hart head.tag)
    else tracked_fault piece (tracked_under head.tag t.stores)

-- what the instruction of a Retire does, as the model has it
abbrev pub effect_in : Loaded → Config → List OpenReport → Table → Head → Retire → Effect
effect_in image config early t head retire =
    (done_of t.run t.live (early_of early head.hart head.tag) head.tag retire (doing_in image config t.run)).effect

-- what is kept of the step of a Retire is that of the hart
pub record TableStepIs (image : Loaded) (config : Config) (early : List OpenReport) (t : Table) (head : Head)
    (retire : Retire) (step : Step) : Type 0 where
  pub plan : plan_seen step.plan ≡ plan_of t.run.hart image config
  pub effect : step.effect ≡ effect_in image config early t head retire
  pub bypass : step.bypass ≡ early_of early head.hart head.tag

-- the same where the message is a Retire
abbrev pub IsTableStep : Loaded → Config → List OpenReport → Table → Head → Body → Step → Type 0
IsTableStep image config early t head (body.Open info) step = Unit {0}
IsTableStep image config early t head (body.Poke poke) step = Unit {0}
IsTableStep image config early t head (body.Read piece) step = Unit {0}
IsTableStep image config early t head (body.Insert piece) step = Unit {0}
IsTableStep image config early t head (body.Write write) step = Unit {0}
IsTableStep image config early t head (body.Bypass piece) step = Unit {0}
IsTableStep image config early t head (body.Retire retire) step = TableStepIs image config early t head retire step
IsTableStep image config early t head body.Squash step = Unit {0}
IsTableStep image config early t head body.End step = Unit {0}

-- the fault of a Retire
abbrev pub table_retire_fault : Loaded → Config → List OpenReport → Table → Head → Retire → Option Fault
table_retire_fault image config early t head retire =
    let plan = plan_of t.run.hart image config in
    let bypass = early_of early head.hart head.tag in
    tag_fault_of t.last head.tag
    or_else retire_fault_in t.run t.live early head retire plan
    (done_of t.run t.live bypass head.tag retire plan.doing).effect bypass

-- the fault of a message of the hart; that of the End is of all harts
abbrev pub table_fault : Loaded → Config → List OpenReport → Table → Head → Body → Option Fault
table_fault image config early t head (body.Open info) = None
table_fault image config early t head (body.Poke poke) = poke_fault_of t.last
table_fault image config early t head (body.Read piece) = late_fault_of t.last head.tag or_else read_range_fault piece
table_fault image config early t head (body.Insert piece) =
    insert_range_fault image piece or_else tracked_fault piece (tracked_under head.tag t.stores)
table_fault image config early t head (body.Write write) =
    merge_fault_of (filter (is_in write.line) t.inserts) write
table_fault image config early t head (body.Bypass piece) =
    bypass_range_fault image piece or_else bypass_fault_in early t head piece
table_fault image config early t head (body.Retire retire) = table_retire_fault image config early t head retire
table_fault image config early t head body.Squash = None
table_fault image config early t head body.End = None

-- a byte of the store isn't performed
abbrev pub is_left_open : Tracked → Bool
is_left_open t = is_some (first_left (fate_in_store t) t.store)

-- the fault of a store that isn't performed
abbrev pub left_fault_in : ℕ → Option Tracked → Option Fault
left_fault_in h None = None
left_fault_in h (Some t) = unwritten_fault_at h t.store (first_left (fate_in_store t) t.store)

-- the earliest store of the hart that isn't performed
abbrev pub left_fault : ℕ → Table → Option Fault
left_fault h t = left_fault_in h (earliest is_left_open t.stores)

-- ---- what it stands for

-- the Inserts of hart h that wait, after message n
abbrev pub inserts_in : ℕ → List Held → Head → Body → ℕ → List Held
inserts_in n old head (body.Open info) h = old
inserts_in n old head (body.Poke poke) h = old
inserts_in n old head (body.Read piece) h = old
inserts_in n old head (body.Insert piece) h = if head.hart == h then held_of n head piece ∷ old else old
inserts_in n old head (body.Write write) h =
    if head.hart == h then filter (λ (e : Held). not (is_in write.line e)) old else old
inserts_in n old head (body.Bypass piece) h = old
inserts_in n old head (body.Retire retire) h = old
inserts_in n old head body.Squash h = old
inserts_in n old head body.End h = old

-- the Inserts of hart h that wait in any line
abbrev pub inserts : List Message → ℕ → List Held
inserts [] h = []
inserts (m ∷ before) h = inserts_in (number_after before) (inserts before h) m.head m.body h

-- a store of hart h with the fates of its bytes
abbrev pub tracked_at : List Message → ℕ → Stored → Tracked
tracked_at before h s = tracked (fate_at before h s) s

-- hart h after these messages
abbrev pub table_at : Loaded → List Message → ℕ → Table
table_at image before h = record {
  run = run_of image before h;
  last = last_tag before h;
  live = live before h;
  inserts = inserts before h;
  stores = map (tracked_at before h) (retired_stores image before h);
}

-- what is kept of hart h
abbrev pub table_in : Matching → ℕ → HartTable → Table
table_in m h other = table_of (slice_index_or m.harts.items h other)

-- the tables have taken these messages, newest first, of which each is well-formed and none has a fault
pub record Stands (image : Loaded) (m : Matching) (before : List Message) : Type 0 where
  pub clean : IsClean image before
  pub known : m.known ≡ harts_of before
  pub config : m.config ≡ config_of before
  pub time : m.time ≡ last_time before
  pub early : reverse m.early.items ≡ early before
  pub each : (h : ℕ) (other : HartTable) → h < 16 → table_in m h other ≡ table_at image before h

-- ---- the parts of a message's way through the tables

-- the two tables hold the same
pub record IsSame (old new : Matching) : Type 0 where
  pub known : new.known ≡ old.known
  pub config : new.config ≡ old.config
  pub time : new.time ≡ old.time
  pub early : reverse new.early.items ≡ reverse old.early.items
  pub each : (h : ℕ) (other : HartTable) → h < 16 → table_in new h other ≡ table_in old h other

-- hart h after message n, which may be another's
abbrev pub kept_after : ℕ → Message → Step → Matching → ℕ → HartTable → Table
kept_after n m step old h other =
    if m.head.hart == h then table_taken n (table_in old h other) m.head m.body step else table_in old h other

-- message n is taken into the table of its hart, and all else is the same
pub record TakesHart (n : ℕ) (m : Message) (step : Step) (old new : Matching) : Type 0 where
  pub known : new.known ≡ old.known
  pub config : new.config ≡ old.config
  pub time : new.time ≡ old.time
  pub early : reverse new.early.items ≡ reverse old.early.items
  pub each : (h : ℕ) (other : HartTable) → h < 16 → table_in new h other ≡ kept_after n m step old h other

-- the early Bypasses with that of message n, where the last retired tag of its hart is this
abbrev pub early_put : ℕ → Option ℕ → List OpenReport → Head → Body → List OpenReport
early_put n last old head (body.Open info) = old
early_put n last old head (body.Poke poke) = old
early_put n last old head (body.Read piece) = old
early_put n last old head (body.Insert piece) = old
early_put n last old head (body.Write write) = old
early_put n last old head (body.Bypass piece) =
    if is_younger last head.tag then open_report_of n head piece ∷ old else old
early_put n last old head (body.Retire retire) = old
early_put n last old head body.Squash = old
early_put n last old head body.End = old

-- message n is taken into the early Bypasses, or into the table of its hart, and all else is the same
pub record TakesReport (n : ℕ) (m : Message) (step : Step) (old new : Matching) : Type 0 where
  pub known : new.known ≡ old.known
  pub config : new.config ≡ old.config
  pub time : new.time ≡ old.time
  pub early : (other : HartTable)
      → reverse new.early.items
      ≡ early_put n (table_in old m.head.hart other).last (reverse old.early.items) m.head m.body
  pub each : (h : ℕ) (other : HartTable) → h < 16 → table_in new h other ≡ kept_after n m step old h other

-- the early Bypasses without that of the instruction that retires
abbrev pub early_dropped : List OpenReport → Head → Body → List OpenReport
early_dropped old head (body.Open info) = old
early_dropped old head (body.Poke poke) = old
early_dropped old head (body.Read piece) = old
early_dropped old head (body.Insert piece) = old
early_dropped old head (body.Write write) = old
early_dropped old head (body.Bypass piece) = old
early_dropped old head (body.Retire retire) = filter (λ (r : OpenReport). not (is_report head.hart head.tag r)) old
early_dropped old head body.Squash = old
early_dropped old head body.End = old

-- message n is taken
pub record Takes (n : ℕ) (m : Message) (step : Step) (old new : Matching) : Type 0 where
  pub known : new.known ≡ option_map_or (λ (info : OpenInfo). info.harts) (open_of m.body) old.known
  pub config : new.config ≡ option_map_or (λ (info : OpenInfo). config_in info.flags) (open_of m.body) old.config
  pub time : new.time ≡ m.head.time
  pub early : (other : HartTable)
      → reverse new.early.items
      ≡ early_dropped (early_put n (table_in old m.head.hart other).last (reverse old.early.items) m.head m.body) m.head
      m.body
  pub each : (h : ℕ) (other : HartTable) → h < 16 → table_in new h other ≡ kept_after n m step old h other
