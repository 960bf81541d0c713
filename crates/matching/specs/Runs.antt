-- A hart over a run: its state, its counters and its LR, as its Pokes and Retires leave them.
use Rattle.std.specs.Prelude.{ℕ, ◌==◌, List, [], ◌∷◌, Some, None, if◌then◌else◌, is_some}
use Rattle.std.specs.declared.option.Option.{Option}
use Rattle.msg_frames.specs.declared.message.Head.{Head}
use Rattle.msg_frames.specs.declared.message.Poke.{Poke}
use Rattle.msg_frames.specs.declared.message.RdValue.{RdValue}
use Rattle.msg_frames.specs.declared.message.Retire.{Retire}
use Rattle.msg_frames.specs.declared.message.Body.{Body}
use Rattle.msg_frames.specs.declared.message.Body.TheVariants as body
use Rattle.msg_frames.specs.declared.message.Message.{Message}
use Rattle.msg_frames.specs.Frames.{rd_value}
use Rattle.elf_image.specs.Images.{Loaded}
use Rattle.rv_decode.specs.declared.instruction.Insn.{Insn}
use Rattle.rv_decode.specs.declared.instruction.Insn.TheVariants as insn
use Rattle.rv_step.specs.declared.plan.Config.{Config}
use Rattle.rv_step.specs.declared.effect.Effect.{Effect}
use Rattle.rv_step.specs.declared.effect.Outside.{Outside}
use Rattle.rv_step.specs.Harts.{HartState, at_start, hart_poked}
use Rattle.rv_step.specs.Steps.{Doing, Done, trap, plain, counter, load, store, lr, sc, amo, finished}
use Rattle.rv_step.specs.Plans.{PlanOf, plan_of}
use Rattle.tandem_base.specs.CsrNumbers as csr
use Rattle.matching.specs.declared.run.Clocks.{Clocks}
use Rattle.matching.specs.declared.run.Pair.{Pair}
use Rattle.matching.specs.declared.reports.OpenReport.{OpenReport}
use Rattle.matching.specs.Settings.{config_of}
use Rattle.matching.specs.Reports.{live, early, early_of, bytes_counted}

-- a hart's state, the last reported values of its counters, and the bytes of the latest LR that no LR or SC followed
pub record Run : Type 0 where
  pub hart : HartState
  pub clocks : Clocks
  pub pair : Option Pair

-- a hart before its first message
abbrev pub started : ℕ → ℕ → Run
started number entry =
    record { hart = at_start number entry; clocks = record { cycle = 0; time = 0 }; pair = None }

-- ---- what the model takes from the reports

-- the bytes of the Reads that count, for an instruction that loads; 0 where no Read counts
abbrev pub loaded_in : List OpenReport → ℕ → Doing → Option (List ℕ)
loaded_in live t (trap cause value) = None
loaded_in live t (plain i) = None
loaded_in live t (counter i) = None
loaded_in live t (load i addr len) = Some (bytes_counted live t addr len)
loaded_in live t (store i addr len) = None
loaded_in live t (lr i addr len) = Some (bytes_counted live t addr len)
loaded_in live t (sc i addr len) = None
loaded_in live t (amo i addr len) = Some (bytes_counted live t addr len)

-- the loaded bytes; an SC stored exactly where it has an early Bypass; the value reported for rd, 0 where there is none
abbrev pub outside_of : List OpenReport → Option OpenReport → ℕ → Retire → Doing → Outside
outside_of live bypass t retire doing =
    record {
      load = loaded_in live t doing;
      stored = is_some bypass;
      reported = rd_value retire.rd;
    }

-- the step of a hart that does this
abbrev pub done_of : Run → List OpenReport → Option OpenReport → ℕ → Retire → Doing → Done
done_of run live bypass t retire doing = finished run.hart (outside_of live bypass t retire doing) doing

-- ---- counters

-- the number of the CSR that an instruction names
abbrev pub csr_number : Insn → ℕ
csr_number (insn.Csr op rd source number) = number
csr_number _ = 0

-- the last reported value of a counter, cycle or time
abbrev pub clock_at : ℕ → Clocks → ℕ
clock_at number clocks = if number == csr.cycle then clocks.cycle else clocks.time

-- one of the counters set
abbrev pub clock_set : ℕ → ℕ → Clocks → Clocks
clock_set number value clocks =
    if number == csr.cycle then record clocks { cycle = value } else record clocks { time = value }

-- the counters after a Retire: one that was read into a register has the value reported there
abbrev pub clocks_after : Doing → Option RdValue → Clocks → Clocks
clocks_after (trap cause value) rd clocks = clocks
clocks_after (plain i) rd clocks = clocks
clocks_after (counter i) None clocks = clocks
clocks_after (counter i) (Some rd) clocks = clock_set (csr_number i) rd.value clocks
clocks_after (load i addr len) rd clocks = clocks
clocks_after (store i addr len) rd clocks = clocks
clocks_after (lr i addr len) rd clocks = clocks
clocks_after (sc i addr len) rd clocks = clocks
clocks_after (amo i addr len) rd clocks = clocks

-- ---- pairs (Unprivileged ISA 20191213, section 8.2)

-- the bytes of the LR that a later SC is paired with: an LR sets them, and an SC, failed or not, ends them
abbrev pub pair_after : Doing → Option Pair → Option Pair
pair_after (trap cause value) pair = pair
pair_after (plain i) pair = pair
pair_after (counter i) pair = pair
pair_after (load i addr len) pair = pair
pair_after (store i addr len) pair = pair
pair_after (lr i addr len) pair = Some (record { addr = addr; len = len })
pair_after (sc i addr len) pair = None
pair_after (amo i addr len) pair = pair

-- ---- the run

-- the hart after a Poke
abbrev pub run_poked : Run → Poke → Run
run_poked run poke = record run { hart = hart_poked run.hart poke.target poke.value }

-- the hart after a Retire
abbrev pub run_retired : Run → List OpenReport → Option OpenReport → ℕ → Retire → Doing → Run
run_retired run live bypass t retire doing =
    record {
      hart = (done_of run live bypass t retire doing).hart;
      clocks = clocks_after doing retire.rd run.clocks;
      pair = pair_after doing run.pair;
    }

-- what hart h is to do, with the settings
abbrev pub doing_in : Loaded → Config → Run → Doing
doing_in image config run = (plan_of run.hart image config).doing

-- hart h after one more message: its Pokes and Retires alone change it
abbrev pub run_in : Loaded → List Message → Run → Head → Body → ℕ → Run
run_in image before old head (body.Open info) h = old
run_in image before old head (body.Poke poke) h = if head.hart == h then run_poked old poke else old
run_in image before old head (body.Read piece) h = old
run_in image before old head (body.Insert piece) h = old
run_in image before old head (body.Write write) h = old
run_in image before old head (body.Bypass piece) h = old
run_in image before old head (body.Retire retire) h =
    if head.hart == h
    then run_retired old (live before h) (early_of (early before) head.hart head.tag) head.tag retire
    (doing_in image (config_of before) old)
    else old
run_in image before old head body.Squash h = old
run_in image before old head body.End h = old

-- hart h after these messages
abbrev pub run_of : Loaded → List Message → ℕ → Run
run_of image [] h = started h image.entry
run_of image (m ∷ before) h = run_in image before (run_of image before h) m.head m.body h

-- ---- the model at a Retire

-- the plan of hart h after these messages
abbrev pub plan_at : Loaded → List Message → ℕ → PlanOf
plan_at image before h = plan_of (run_of image before h).hart image (config_of before)

-- what it is to do
abbrev pub doing_at : Loaded → List Message → ℕ → Doing
doing_at image before h = doing_in image (config_of before) (run_of image before h)

-- the early Bypass of a message's instruction, if it has one
abbrev pub bypass_at : List Message → Head → Option OpenReport
bypass_at before head = early_of (early before) head.hart head.tag

-- the step of hart h at its Retire after these messages
abbrev pub step_at : Loaded → List Message → ℕ → Head → Retire → Done
step_at image before h head retire =
    done_of (run_of image before h) (live before h) (bypass_at before head) head.tag retire (doing_at image before h)

-- what the model has for a Retire after these messages
abbrev pub effect_at : Loaded → List Message → Head → Retire → Effect
effect_at image before head retire = (step_at image before head.hart head retire).effect
