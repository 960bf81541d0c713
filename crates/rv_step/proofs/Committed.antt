-- What an instruction reports is all that it changes.
use Rattle.std.proofs.Common.{◌≡◌, ◌∙◌, ℕ, suc, ◌+◌, ◌<◌, ◌≤◌, ◌==◌, Bool, true, false, List}
use Rattle.std.proofs.Common.{drop, length, Some, None, refl, sym, subst, ap, inl, inr, arith}
use Rattle.std.specs.Prelude.{slice_set, if◌then◌else◌}
use Rattle.std.specs.List.{slice_get}
use Rattle.std.proofs.Math.Seq.{drop-cons}
use Rattle.std.proofs.Math.ListN.{drop_of_length-le}
use Rattle.std.proofs.lemmas.Bool.{cases_Bool, eqb-true}
use Rattle.std.proofs.lemmas.Option.{slice_get_within, get_or_from_slice_get}
use Rattle.std.specs.Int.{bit_at}
use Rattle.csr_file.specs.CsrFile.{CsrValues, kept, mie_kept, mstatus_kept, mstatus_of, multiple_of_4}
use Rattle.csr_file.specs.CsrFile.{written}
use Rattle.msg_frames.specs.declared.csrs.CsrValue.{CsrValue}
use Rattle.rv_decode.specs.Registers.{writes_csr}
use Rattle.rv_decode.specs.declared.operations.CsrOp.{CsrOp}
use Rattle.rv_decode.specs.declared.instruction.Insn.{Insn}
use Rattle.rv_decode.specs.declared.instruction.Insn.TheVariants.{Lui, Auipc, Jal, Jalr, Branch, Load, Store, AluImm}
use Rattle.rv_decode.specs.declared.instruction.Insn.TheVariants.{Alu, Fence, Ecall, Ebreak, Mret, Wfi, Csr, Lr, Sc}
use Rattle.rv_decode.specs.declared.instruction.Insn.TheVariants.{Amo}
use Rattle.rv_step.specs.declared.effect.Outside.{Outside}
use Rattle.rv_step.specs.Harts.{HartState, with_x}
use Rattle.rv_step.specs.Steps.{Doing, Done, amo, committed, counter, csr_done, csrs_set, executed, finished, goes}
use Rattle.rv_step.specs.Steps.{load, lr, incremented}
use Rattle.rv_step.specs.Steps.{plain, rd_written, register_set, returns, sc, sets_csr, store, trap, traps}
use Rattle.rv_step.specs.Steps.{writes_rd}

-- one more of the list
pub csrs_set-next : (csrs : CsrValues) (list : List CsrValue) (k : ℕ) (item : CsrValue) → slice_get list k ≡ Some item
    → csrs_set csrs (drop k list) ≡ csrs_set (written csrs item.number item.value) (drop (k + 1) list)
unfolding csrs_set
csrs_set-next csrs list k item e =
    let one : k + 1 ≡ suc k = omega arith in
    rw (one, drop-cons list k item (slice_get_within list k item e), get_or_from_slice_get list k item item e) refl

-- none of the list
pub csrs_set-end : (csrs : CsrValues) (list : List CsrValue) (k : ℕ) → length list ≤ k → csrs_set csrs
    (drop k list) ≡ csrs
unfolding csrs_set
csrs_set-end csrs list k past = rw (drop_of_length-le list past) refl

-- a choice has what each of its sides has
choice : {X : Type 0} (P : X → Type 0) (test : Bool) (x y : X) → (test ≡ true → P x) → (test ≡ false → P y)
    → P (if test then x else y)
choice P true x y first second = first refl
choice P false x y first second = second refl

-- the register that a report says
register_written : (registers : List ℕ) (rd value : ℕ)
    → register_set registers (rd_written rd value) ≡ with_x registers rd value
register_written registers rd value = by_test (rd == 0)
  where
    by_test : (test : Bool)
        → register_set registers (if test then None else Some (record { number = rd; value = value }))
        ≡ (if test then registers else slice_set registers rd value)
    by_test true = refl
    by_test false = refl

-- what a register keeps it keeps again
mstatus_twice : (mie mpie : ℕ) → mie < 2 → mpie < 2 → mstatus_kept (mstatus_of mie mpie) ≡ mstatus_of mie mpie
mstatus_twice mie mpie h h' = omega (arith, h, h')

mie_twice : (value : ℕ) → mie_kept (mie_kept value) ≡ mie_kept value
mie_twice value = omega arith

low_twice : (value : ℕ) → multiple_of_4 (multiple_of_4 value) ≡ multiple_of_4 value
low_twice value = omega arith

kept_twice : (csrs : CsrValues) (number value : ℕ) → written csrs number (kept number value) ≡ written csrs number value
kept_twice csrs number value =
    elim (cases_Bool (number == 0x300)) [
      | inl e ↦ at 0x300 e (ap (λ v. record csrs { mstatus = v })
          (mstatus_twice (bit_at value 3) (bit_at value 7) (omega arith) (omega arith)))
      | inr a ↦
          elim (cases_Bool (number == 0x304)) [
            | inl e ↦ at 0x304 e (ap (λ v. record csrs { mie = v }) (mie_twice value))
            | inr b ↦
                elim (cases_Bool (number == 0x305)) [
                  | inl e ↦ at 0x305 e (ap (λ v. record csrs { mtvec = v }) (low_twice value))
                  | inr c ↦
                      elim (cases_Bool (number == 0x341)) [
                        | inl e ↦ at 0x341 e (ap (λ v. record csrs { mepc = v }) (low_twice value))
                        | inr d ↦
                            elim (cases_Bool (number == 0x340)) [
                              | inl e ↦ at 0x340 e refl
                              | inr f ↦
                                  elim (cases_Bool (number == 0x342)) [
                                    | inl e ↦ at 0x342 e refl
                                    | inr g ↦
                                        elim (cases_Bool (number == 0x343)) [
                                          | inl e ↦ at 0x343 e refl
                                          | inr h ↦ rw (a, b, c, d, f, g, h) refl
                                        ]
                                  ]
                            ]
                      ]
                ]
          ]
    ]
  where
    at : (n : ℕ) → (number == n) ≡ true → written csrs n (kept n value) ≡ written csrs n value
        → written csrs number (kept number value) ≡ written csrs number value
    at n e same =
        subst (λ (m : ℕ). written csrs m (kept m value) ≡ written csrs m value) (sym (eqb-true number n e)) same

module _ (hart : HartState) where
  goes_is : (next : ℕ) → committed hart (goes hart next).effect ≡ (goes hart next).hart
  unfolding csrs_set
  goes_is next = refl

  writes_is : (next rd value : ℕ) → committed hart (writes_rd hart next rd value).effect
      ≡ (writes_rd hart next rd value).hart
  unfolding csrs_set
  writes_is next rd value =
      ap (λ (r : List ℕ). let h : HartState = record hart
      { pc = next; registers = r; retired = incremented hart.retired } in h)
      (register_written hart.registers rd value)

  sets_is : (next rd old number value : ℕ)
      → committed hart (sets_csr (writes_rd hart next rd old) number value).effect
      ≡ (sets_csr (writes_rd hart next rd old) number value).hart
  unfolding csrs_set
  sets_is next rd old number value =
      ap
      (λ (r : List ℕ).
      let h : HartState = record {
        pc = next;
        registers = r;
        csrs = written hart.csrs number (kept number value);
        retired = incremented hart.retired;
      } in h)
      (register_written hart.registers rd old)
      ∙ ap
      (λ (c : CsrValues).
      let h : HartState = record {
        pc = next;
        registers = with_x hart.registers rd old;
        csrs = c;
        retired = incremented hart.retired;
      } in h)
      (kept_twice hart.csrs number value)

  traps_is : (cause value : ℕ) → committed hart (traps hart cause value).effect ≡ (traps hart cause value).hart
  unfolding csrs_set
  traps_is cause value =
      rw (mstatus_twice 0 (bit_at hart.csrs.mstatus 3) (omega arith) (omega arith), low_twice hart.pc) refl

  returns_is : committed hart (returns hart).effect ≡ (returns hart).hart
  unfolding csrs_set
  returns_is = rw (mstatus_twice (bit_at hart.csrs.mstatus 7) 1 (omega arith) (omega arith)) refl

  csr_is : (reported : ℕ) (op : CsrOp) (rd source number : ℕ)
      → committed hart (csr_done hart reported op rd source number).effect
      ≡ (csr_done hart reported op rd source number).hart
  csr_is reported op rd source number =
      choice (λ (d : Done). committed hart d.effect ≡ d.hart) (writes_csr op source) _ _
      (λ _. sets_is _ rd _ number _) (λ _. writes_is _ rd _)

  executed_is : (outside : Outside) (insn : Insn)
      → committed hart (executed hart outside insn).effect ≡ (executed hart outside insn).hart
  executed_is outside (Lui rd imm) = writes_is _ rd _
  executed_is outside (Auipc rd imm) = writes_is _ rd _
  executed_is outside (Jal rd imm) = writes_is _ rd _
  executed_is outside (Jalr rd rs1 imm) = writes_is _ rd _
  executed_is outside (Branch op rs1 rs2 imm) = goes_is _
  executed_is outside (Load op rd rs1 imm) = writes_is _ rd _
  executed_is outside (Store op rs1 rs2 imm) = goes_is _
  executed_is outside (AluImm op rd rs1 imm) = writes_is _ rd _
  executed_is outside (Alu op rd rs1 rs2) = writes_is _ rd _
  executed_is outside (Fence fm pred succ rd rs1) = goes_is _
  executed_is outside Ecall = traps_is _ 0
  executed_is outside Ebreak = traps_is _ 0
  executed_is outside Mret = returns_is
  executed_is outside Wfi = goes_is _
  executed_is outside (Csr op rd source number) = csr_is outside.reported op rd source number
  executed_is outside (Lr wide aq rl rd rs1) = writes_is _ rd _
  executed_is outside (Sc wide aq rl rd rs1 rs2) =
      choice (λ (d : Done). committed hart d.effect ≡ d.hart) outside.stored _ _
      (λ _. writes_is _ rd _) (λ _. writes_is _ rd _)
  executed_is outside (Amo op wide aq rl rd rs1 rs2) = writes_is _ rd _

  pub finished_is : (outside : Outside) (doing : Doing)
      → committed hart (finished hart outside doing).effect ≡ (finished hart outside doing).hart
  finished_is outside (trap cause value) = traps_is cause value
  finished_is outside (plain insn) = executed_is outside insn
  finished_is outside (counter insn) = executed_is outside insn
  finished_is outside (load insn addr len) = executed_is outside insn
  finished_is outside (store insn addr len) = executed_is outside insn
  finished_is outside (lr insn addr len) = executed_is outside insn
  finished_is outside (sc insn addr len) = executed_is outside insn
  finished_is outside (amo insn addr len) = executed_is outside insn
