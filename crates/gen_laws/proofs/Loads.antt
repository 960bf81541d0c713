-- The loads of the program retire.
use Rattle.std.proofs.Common.{ℕ, ◌≡◌, ◌+◌, ◌-◌, ◌%◌, ◌^◌, ◌<◌, ◌≤◌, ◌==◌, List, [], ◌∷◌, length, take, set}
use Rattle.std.proofs.Common.{get_or, Bool, true, false, cond, refl, ap, ◌∙◌, arith, Some, None, is_some, pos, lit≤}
use Rattle.std.proofs.Common.{get_or-set_same}
use Rattle.std.specs.Int.{w64, from_le_bytes}
use Rattle.std.specs.declared.option.Option.{Option}
use Rattle.std.proofs.lemmas.Bool.{eq-eqb, and_from}
use Rattle.std.proofs.lemmas.Nat.{from_le_bytes-to_le_bytes_8}
use Rattle.tandem_base.specs.Bytes.{padded}
use Rattle.tandem_base.specs.Signs.{sign_extended, is_negative}
use Rattle.verdict_report.specs.declared.fault.Fault.{Fault}
use Rattle.verdict_report.specs.declared.fault.Fault.TheVariants as fault
use Rattle.verdict_report.specs.declared.fault.RdWant.TheVariants as want
use Rattle.rv_decode.specs.declared.instruction.Insn.{Insn}
use Rattle.rv_decode.specs.declared.instruction.Insn.TheVariants.{Load}
use Rattle.rv_decode.specs.declared.operations.LoadOp.{LoadOp}
use Rattle.rv_step.specs.Memory.{load_result}
use Rattle.rv_step.specs.Plans.{plan_of}
use Rattle.rv_step.specs.Steps.{Doing, load}
use Rattle.matching.specs.declared.reports.OpenReport.{OpenReport}
use Rattle.matching.specs.declared.run.Clocks.{Clocks}
use Rattle.matching.specs.Settings.{config_in}
use Rattle.matching.specs.Reports.{bytes_counted, early_of}
use Rattle.matching.specs.RetireFaults.{reads_missing, reads_torn, register_fault_of, amo_fault_of}
use Rattle.trace_gen.specs.Program.{made_image, pc_of, word_of}
use Rattle.trace_gen.specs.Rounds.{tag_of, bytes_of_number, low_half_of, rd_with}
use Rattle.gen_laws.proofs.Says.{Seen}
use Rattle.gen_laws.proofs.ReadBytes.{none_missing, none_torn, bytes_are}
use Rattle.gen_laws.proofs.States.{IsNext, HasRead, x_in}
use Rattle.gen_laws.proofs.Moves.{set_next, none_stray}
use Rattle.gen_laws.proofs.Retires.{IsFine, retired}

-- ---- what the Reads bring

module _ (round k addr : ℕ) (bytes : List ℕ) (live : List OpenReport) (has : HasRead round k addr bytes live) where
  pub missing_none : (n : ℕ) → n ≤ length bytes → reads_missing live (tag_of round k) addr n ≡ None
  missing_none n le =
      ap (λ (rs : List OpenReport). reads_missing rs (tag_of round k) addr n) has.is
      ∙ none_missing has.own (has.ahead ∷ []) (tag_of round k) addr bytes has.tag has.piece n le

  pub torn_none : (n : ℕ) → n ≤ length bytes → 0 < length bytes → reads_torn live (tag_of round k) addr n ≡ None
  torn_none n le some =
      ap (λ (rs : List OpenReport). reads_torn rs (tag_of round k) addr n) has.is
      ∙ none_torn has.own (has.ahead ∷ []) (tag_of round k) addr bytes has.tag has.piece n le some

  pub bytes_loaded : (n : ℕ) → n ≤ length bytes → bytes_counted live (tag_of round k) addr n ≡ take n bytes
  bytes_loaded n le =
      ap (λ (rs : List OpenReport). bytes_counted rs (tag_of round k) addr n) has.is
      ∙ bytes_are has.own (has.ahead ∷ []) (tag_of round k) addr bytes has.tag has.piece n le

-- the number of eight bytes
pub number_read : (round k addr value : ℕ) (live : List OpenReport)
    → HasRead round k addr (bytes_of_number value) live → value < 2 ^ 64
    → from_le_bytes w64 (padded (bytes_counted live (tag_of round k) addr 8)) ≡ value
number_read round k addr value live has small =
    ap (λ (bs : List ℕ). from_le_bytes w64 (padded bs))
    (bytes_loaded round k addr (bytes_of_number value) live has 8 (lit≤ tt))
    ∙ from_le_bytes-to_le_bytes_8 value small

-- the low half of a number
half_is : (value : ℕ) → from_le_bytes w64 (padded (low_half_of value)) ≡ value % 2 ^ 32
half_is value = omega arith

pub half_read : (round k addr value : ℕ) (live : List OpenReport) → HasRead round k addr (low_half_of value) live
    → sign_extended 32 (from_le_bytes w64 (padded (bytes_counted live (tag_of round k) addr 4)))
    ≡ sign_extended 32 value
half_read round k addr value live has =
    let same : value % 2 ^ 32 % 2 ^ 32 ≡ value % 2 ^ 32 = omega arith in
    ap (λ (bs : List ℕ). sign_extended 32 (from_le_bytes w64 (padded bs)))
    (bytes_loaded round k addr (low_half_of value) live has 4 (lit≤ tt))
    ∙ ap (sign_extended 32) (half_is value)
    ∙ ap (λ (low : ℕ). cond (is_negative 32 low) (low + (2 ^ 64 - 2 ^ 32)) low) same

-- ---- the register

load_register : (i : Insn) (addr len : ℕ) (stored : Bool) (clocks : Clocks) (number value got : ℕ) → value ≡ got
    → register_fault_of (load i addr len) stored clocks (Some (record { number = number; value = value }))
    (Some (record { number = number; value = got })) ≡ None
unfolding register_fault_of
load_register i addr len stored clocks number value got e =
    ap (λ (b : Bool). cond b None (Some (fault.Rd (want.Value (record { number = number; value = value }))
    (Some (record { number = number; value = got })))))
    (and_from (number == number) (value == got) (eq-eqb number number refl) (eq-eqb value got e))

load_stores_not : (i : Insn) (addr len : ℕ) (bypass : Option OpenReport)
    → amo_fault_of (load i addr len) None bypass ≡ None
unfolding amo_fault_of
load_stores_not i addr len bypass = refl

maybe_none : (b : Bool) (f : Option Fault) → f ≡ None → cond b f None ≡ None
maybe_none true f e = e
maybe_none false f e = refl

-- a load of a value into a register, whose bytes are the newest that were read
module _ (poked h n : ℕ) (v : Seen) (round k : ℕ) (op : LoadOp) (number rs1 addr len value : ℕ) (bytes : List ℕ)
    (small : k < 6) (some : (number == 0) ≡ false) (low : number < 10) (next : IsNext poked h round k v.table)
    (none : v.early ≡ [])
    (plan : plan_of v.table.run.hart made_image (config_in 0)
    ≡ record { word = word_of k; doing = load (Load op number rs1 (pos 0)) addr len })
    (has : HasRead round k addr bytes v.table.live) (le : len ≤ length bytes) (any : 0 < length bytes)
    (is : load_result op (from_le_bytes w64 (padded (bytes_counted v.table.live
    (tag_of round k) addr len))) ≡ value) where
  abbrev doing : Doing
  doing = load (Load op number rs1 (pos 0)) addr len

  abbrev loaded : ℕ
  loaded = load_result op (from_le_bytes w64 (padded (bytes_counted v.table.live (tag_of round k) addr len)))

  goes_on : (v.table.run.hart.pc + 4) % 2 ^ 64 ≡ pc_of ((k + 1) % 7)
  goes_on = omega (arith, next.pc, small)

  abbrev rs : List ℕ
  rs = v.table.run.hart.registers

  -- nothing is wrong with it
  pub load_fine : IsFine h n v round k (rd_with number value) doing
  load_fine = record {
    plan = plan;
    last = next.last;
    pc = next.pc;
    stray = none_stray doing h (tag_of round k) v.early none;
    trap = refl;
    missing = missing_none round k addr bytes v.table.live has len le;
    torn = maybe_none (addr % len == 0) _ (torn_none round k addr bytes v.table.live has len le any);
    bypassed = refl;
    next = goes_on;
    register =
        ap (λ (b : Bool). register_fault_of doing (is_some (early_of v.early h (tag_of round k))) v.table.run.clocks
        (cond b None (Some (record { number = number; value = loaded }))) (rd_with number value)) some
        ∙ load_register (Load op number rs1 (pos 0)) addr len _ v.table.run.clocks number loaded value is;
    csrs = refl;
    amo = load_stores_not (Load op number rs1 (pos 0)) addr len _;
    pair = refl;
  }

  abbrev after : Seen
  after = retired h n v round k (rd_with number value) doing

  -- the next instruction is the next one
  pub load_next : IsNext poked h round (k + 1) after.table
  load_next =
      let on : (v.table.run.hart.pc + 4) % 2 ^ 64 ≡ pc_of (k + 1) = omega (arith, next.pc, small) in
      set_next poked h round k round (k + 1) number loaded v.table after.table low next (omega arith) on
      (ap (λ (b : Bool). cond b rs (set rs number loaded)) some)

  -- the register has the value
  pub load_value : x_in after.table number ≡ value
  load_value =
      ap (λ (b : Bool). get_or (cond b rs (set rs number loaded)) number 0) some
      ∙ get_or-set_same rs number loaded 0 (omega (arith, low, next.registers)) ∙ is
