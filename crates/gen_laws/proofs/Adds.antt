-- The amoadd of the program retires.
use Rattle.std.proofs.Common.{ℕ, ◌≡◌, ◌+◌, ◌-◌, ◌%◌, ◌^◌, ◌<◌, ◌==◌}
use Rattle.std.proofs.Common.{Bool, true, false, cond, refl, ap, sym, ◌∙◌, arith, Some, None, lit<, lit≤}
use Rattle.std.specs.Int.{w64, from_le_bytes}
use Rattle.std.specs.declared.option.Option.{Option}
use Rattle.std.proofs.lemmas.Bool.{eq-eqb, and_from}
use Rattle.tandem_base.specs.Bytes.{padded}
use Rattle.tandem_base.specs.Signs.{sign_extended, is_negative}
use Rattle.msg_frames.specs.declared.message.Piece.{Piece}
use Rattle.msg_frames.specs.Pieces.{byte_in}
use Rattle.verdict_report.specs.declared.fault.Fault.TheVariants as fault
use Rattle.verdict_report.specs.declared.fault.RdWant.TheVariants as want
use Rattle.rv_decode.specs.declared.instruction.Insn.{Insn}
use Rattle.rv_decode.specs.declared.instruction.Insn.TheVariants.{Amo}
use Rattle.rv_decode.specs.declared.operations.AmoOp.TheVariants as amo_op
use Rattle.rv_step.specs.Memory.{low_bytes}
use Rattle.rv_step.specs.Steps.{Doing, amo}
use Rattle.matching.specs.declared.reports.OpenReport.{OpenReport}
use Rattle.matching.specs.declared.run.Clocks.{Clocks}
use Rattle.matching.specs.Reports.{bytes_counted}
use Rattle.matching.specs.RetireFaults.{register_fault_of, amo_fault_of, amo_fault, amo_fault_in, bypass_fault_of}
use Rattle.trace_gen.specs.Program.{counter_addr}
use Rattle.trace_gen.specs.Rounds.{tag_of, bytes_of_number, rd_with}
use Rattle.gen_laws.proofs.Says.{Seen}
use Rattle.gen_laws.proofs.ReadBytes.{first_none}
use Rattle.gen_laws.proofs.States.{IsNext, HasRead, HasBypass, x_in, number_at}
use Rattle.gen_laws.proofs.Stores.{same_option}
use Rattle.gen_laws.proofs.Moves.{set_next, found_early, not_stray}
use Rattle.gen_laws.proofs.Plans.{plan_3}
use Rattle.gen_laws.proofs.Loads.{missing_none, torn_none, number_read}
use Rattle.gen_laws.proofs.Retires.{IsFine, retired, bypass, does}

amo_register : (i : Insn) (addr len : ℕ) (stored : Bool) (clocks : Clocks) (number value got : ℕ) → value ≡ got
    → register_fault_of (amo i addr len) stored clocks (Some (record { number = number; value = value }))
    (Some (record { number = number; value = got })) ≡ None
unfolding register_fault_of
amo_register i addr len stored clocks number value got e =
    ap (λ (b : Bool). cond b None (Some (fault.Rd (want.Value (record { number = number; value = value }))
    (Some (record { number = number; value = got })))))
    (and_from (number == number) (value == got) (eq-eqb number number refl) (eq-eqb value got e))

-- the bytes of the Bypass are those of the result
same_result : (i : Insn) (addr : ℕ) (result : Piece) (report : OpenReport) (piece : Piece) → result ≡ piece
    → report.piece ≡ piece → amo_fault_of (amo i addr 8) (Some result) (Some report) ≡ None
unfolding amo_fault_of
same_result i addr result report piece e f =
    ap (λ (p : Piece). amo_fault addr 8 (Some p) (Some report)) (e ∙ sym f)
    ∙ ap (amo_fault_in addr report.piece report.piece)
    (first_none _ 8 (λ k lt. same_option (byte_in report.piece (addr + k))))

-- 64 bits are as they are
whole_number : (value loaded : ℕ) → loaded ≡ value → value < 2 ^ 64 → sign_extended 64 (loaded % 2 ^ 64) ≡ value
whole_number value loaded e small = by_sign (is_negative 64 (loaded % 2 ^ 64 % 2 ^ 64)) where
  by_sign : (b : Bool) → cond b (loaded % 2 ^ 64 % 2 ^ 64 + (2 ^ 64 - 2 ^ 64)) (loaded % 2 ^ 64 % 2 ^ 64) ≡ value
  by_sign true = omega (arith, e, small)
  by_sign false = omega (arith, e, small)

one_more : (value loaded one : ℕ) → loaded ≡ value → one ≡ 1 → value + 1 < 2 ^ 64
    → (loaded % 2 ^ 64 + one % 2 ^ 64) % 2 ^ 64 ≡ value + 1
one_more value loaded one e f small = omega (arith, e, f, small)

module _ (poked h n : ℕ) (v : Seen) (round value : ℕ) (mine : h < poked) (next : IsNext poked h round 3 v.table)
    (has : HasRead round 3 counter_addr (bytes_of_number value) v.table.live)
    (more : HasBypass h round (value + 1) v.early) (small : value + 1 < 2 ^ 64) where
  abbrev insn : Insn
  insn = Amo amo_op.Add true false false 6 10 12

  abbrev pub adds : Doing
  adds = amo insn counter_addr 8

  abbrev loaded : ℕ
  loaded = from_le_bytes w64 (padded (bytes_counted v.table.live (tag_of round 3) counter_addr 8))

  loaded_is : loaded ≡ value
  loaded_is = number_read round 3 counter_addr value v.table.live has (omega (arith, small))

  abbrev stored : Piece
  stored = record {
    addr = x_in v.table 10;
    bytes = low_bytes ((loaded % 2 ^ 64 + x_in v.table 12 % 2 ^ 64) % 2 ^ 64) 8;
  }

  stored_is : stored ≡ number_at counter_addr (value + 1)
  stored_is =
      ap (λ (a : ℕ). record {
        addr = a;
        bytes = low_bytes ((loaded % 2 ^ 64 + x_in v.table 12 % 2 ^ 64) % 2 ^ 64) 8;
      }) (next.counter mine)
      ∙ ap (λ (x : ℕ). record { addr = counter_addr; bytes = low_bytes x 8 })
      (one_more value loaded (x_in v.table 12) loaded_is (next.one mine) small)

  found : bypass h n v round 3 (rd_with 6 value) adds ≡ Some more.report
  found = found_early h round (value + 1) v.early more

  amo_fine : amo_fault_of adds (does h n v round 3 (rd_with 6 value) adds).effect.store
      (bypass h n v round 3 (rd_with 6 value) adds)
      ≡ None
  amo_fine =
      ap (amo_fault_of adds (Some stored)) found
      ∙ same_result insn counter_addr stored more.report (number_at counter_addr (value + 1)) stored_is more.piece

  -- nothing is wrong with it
  pub add_fine : IsFine h n v round 3 (rd_with 6 value) adds
  add_fine = record {
    plan = plan_3 poked h round v.table mine next;
    last = next.last;
    pc = next.pc;
    stray = not_stray h round (value + 1) v.early more insn;
    trap = refl;
    missing = missing_none round 3 counter_addr (bytes_of_number value) v.table.live has 8 (lit≤ tt);
    torn = torn_none round 3 counter_addr (bytes_of_number value) v.table.live has 8 (lit≤ tt) (lit< tt);
    bypassed = ap (λ (o : Option OpenReport). bypass_fault_of o adds) found;
    next = ap (λ (pc : ℕ). (pc + 4) % 2 ^ 64) next.pc;
    register =
        amo_register insn counter_addr 8 _ v.table.run.clocks 6 (sign_extended 64 (loaded % 2 ^ 64)) value
        (whole_number value loaded loaded_is (omega (arith, small)));
    csrs = refl;
    amo = amo_fine;
    pair = refl;
  }

  pub add_next : IsNext poked h round 4 (retired h n v round 3 (rd_with 6 value) adds).table
  add_next =
      set_next poked h round 3 round 4 6 _ v.table (retired h n v round 3 (rd_with 6 value) adds).table (lit< tt) next
      (omega arith) (ap (λ (pc : ℕ). (pc + 4) % 2 ^ 64) next.pc) refl
