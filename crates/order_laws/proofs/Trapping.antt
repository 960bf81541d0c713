-- Where a Retire matches and the model has an entry for it, it reports no trap, and the entry is of its hart and tag.
use Rattle.std.proofs.Common.{ℕ, ◌≡◌, Bool, true, false, cond, List, Option, Some, None, refl, sym, ap, subst, ◌∙◌}
use Rattle.std.proofs.lemmas.Bool.{false≢true}
use Rattle.msg_frames.specs.declared.message.Head.{Head}
use Rattle.msg_frames.specs.declared.message.Retire.{Retire}
use Rattle.msg_frames.specs.declared.message.Body.TheVariants as body
use Rattle.msg_frames.specs.declared.message.Message.{Message}
use Rattle.elf_image.specs.Images.{Loaded}
use Rattle.rv_decode.specs.declared.instruction.Insn.{Insn}
use Rattle.rv_decode.specs.declared.instruction.Insn.TheVariants.{Lui, Auipc, Jal, Jalr, Branch, Load, Store, AluImm}
use Rattle.rv_decode.specs.declared.instruction.Insn.TheVariants.{Alu, Fence, Ecall, Ebreak, Mret, Wfi, Csr, Lr, Sc}
use Rattle.rv_decode.specs.declared.instruction.Insn.TheVariants.{Amo}
use Rattle.rv_decode.specs.Kinds.{is_load, is_store, is_lr, is_sc, is_amo}
use Rattle.rv_decode.specs.Registers.{writes_csr}
use Rattle.rv_step.specs.declared.effect.Effect.{Effect}
use Rattle.rv_step.specs.declared.effect.Outside.{Outside}
use Rattle.rv_step.specs.Harts.{HartState, next_of, x_of}
use Rattle.rv_step.specs.CsrUse.{new_csr, old_csr, operand_of}
use Rattle.rv_step.specs.Memory.{low_bytes, atomic_size}
use Rattle.rv_step.specs.Plans.{PlanOf}
use Rattle.rv_step.specs.Promises.{is_call, is_plain, reads_counter}
use Rattle.rv_step.specs.Steps.{Doing, Done, trap, plain, counter, load, store, lr, sc, amo, finished, executed}
use Rattle.rv_step.specs.Steps.{writes_rd}
use Rattle.rv_step.specs.Steps.{stores_bytes, sets_csr}
use Rattle.tandem_base.specs.FirstFault.{◌or_else◌}
use Rattle.matching.specs.declared.reports.OpenReport.{OpenReport}
use Rattle.matching.specs.Compares.{pc_fault_of, word_fault_of, trap_fault_of, tag_fault_of}
use Rattle.matching.specs.Matching.{retire_fault_of}
use Rattle.matching.specs.Reports.{live, early}
use Rattle.matching.specs.RetireFaults.{retire_fault_in, stray_fault_of, lowest_stray}
use Rattle.matching.specs.Runs.{Run, run_of, doing_at, effect_at, plan_at, bypass_at, outside_of}
use Rattle.matching.specs.Settings.{config_of}
use Rattle.matching.specs.Tags.{last_tag}
use Rattle.trace_model.specs.Entries.{Entry}
use Rattle.trace_model.specs.Retirements.{entry_of}
use Rattle.trace_model.specs.Traces.{entry_in, stored_at}
use Rattle.trace_model.proofs.Plans.{IsPlanned, planned}

either : (b : Bool) (x y : Done) → x.effect.trap ≡ None → y.effect.trap ≡ None → (cond b x y).effect.trap ≡ None
either true x y p q = p
either false x y p q = q

-- what calls no environment raises no trap
pub no_trap : (hart : HartState) (outside : Outside) (insn : Insn) → is_call insn ≡ false
    → (executed hart outside insn).effect.trap ≡ None
no_trap hart outside (Lui rd imm) e = refl
no_trap hart outside (Auipc rd imm) e = refl
no_trap hart outside (Jal rd imm) e = refl
no_trap hart outside (Jalr rd rs1 imm) e = refl
no_trap hart outside (Branch op rs1 rs2 imm) e = refl
no_trap hart outside (Load op rd rs1 imm) e = refl
no_trap hart outside (Store op rs1 rs2 imm) e = refl
no_trap hart outside (AluImm op rd rs1 imm) e = refl
no_trap hart outside (Alu op rd rs1 rs2) e = refl
no_trap hart outside (Fence fm pred succ rd rs1) e = refl
no_trap hart outside Ecall e = absurd (false≢true (sym e))
no_trap hart outside Ebreak e = absurd (false≢true (sym e))
no_trap hart outside Mret e = refl
no_trap hart outside Wfi e = refl
no_trap hart outside (Csr op rd source number) e =
    let done = writes_rd hart (next_of hart) rd (old_csr hart number outside.reported) in
    either (writes_csr op source)
    (sets_csr done number
    (new_csr op (old_csr hart number outside.reported) (operand_of hart op source))) done refl refl
no_trap hart outside (Lr wide aq rl rd rs1) e = refl
no_trap hart outside (Sc wide aq rl rd rs1 rs2) e =
    either outside.stored
    (stores_bytes (writes_rd hart (next_of hart) rd 0) (x_of hart rs1) (low_bytes (x_of hart rs2) (atomic_size wide)))
    (writes_rd hart (next_of hart) rd outside.reported) refl refl
no_trap hart outside (Amo op wide aq rl rd rs1 rs2) e = refl

-- an instruction of a kind that ECALL and EBREAK aren't of is neither
other_call : (kind : Insn → Bool) → kind Ecall ≡ false → kind Ebreak ≡ false → (insn : Insn) → kind insn ≡ true
    → is_call insn ≡ false
other_call kind ecall ebreak Ecall e = absurd (false≢true (sym ecall ∙ e))
other_call kind ecall ebreak Ebreak e = absurd (false≢true (sym ebreak ∙ e))
other_call kind ecall ebreak _ e = refl

-- what is planned and is no trap raises none
untrapped : (hart : HartState) (outside : Outside) (rs bs : List OpenReport) (head : Head) (put : List ℕ) (e : Entry)
    (d : Doing) → IsPlanned hart d → entry_of rs bs head put d ≡ Some e → (finished hart outside d).effect.trap ≡ None
untrapped hart outside rs bs head put e (trap cause value) p q = absurd (cc)
untrapped hart outside rs bs head put e (plain insn) p q =
    no_trap hart outside insn (other_call is_plain refl refl insn p)
untrapped hart outside rs bs head put e (counter insn) p q =
    no_trap hart outside insn (other_call reads_counter refl refl insn p)
untrapped hart outside rs bs head put e (load insn addr len) p q =
    no_trap hart outside insn (other_call is_load refl refl insn p.0)
untrapped hart outside rs bs head put e (store insn addr len) p q =
    no_trap hart outside insn (other_call is_store refl refl insn p.0.0)
untrapped hart outside rs bs head put e (lr insn addr len) p q =
    no_trap hart outside insn (other_call is_lr refl refl insn p.0.0)
untrapped hart outside rs bs head put e (sc insn addr len) p q =
    no_trap hart outside insn (other_call is_sc refl refl insn p.0)
untrapped hart outside rs bs head put e (amo insn addr len) p q =
    no_trap hart outside insn (other_call is_amo refl refl insn p.0)

-- an entry is of the hart and tag of its Retire
pub record IsEntryAt (head : Head) (e : Entry) : Type 0 where
  pub hart : e.insn.hart ≡ head.hart
  pub tag : e.insn.tag ≡ head.tag

same_entry : (head : Head) (x e : Entry) → x.insn.hart ≡ head.hart → x.insn.tag ≡ head.tag → Some x ≡ Some e
    → IsEntryAt head e
same_entry head x e h t q =
    let z : x ≡ e = cc in
    record { hart = ap (λ (y : Entry). y.insn.hart) (sym z) ∙ h; tag = ap (λ (y : Entry). y.insn.tag) (sym z) ∙ t }

entry_at : (rs bs : List OpenReport) (head : Head) (put : List ℕ) (e : Entry) (d : Doing)
    → entry_of rs bs head put d ≡ Some e → IsEntryAt head e
entry_at rs bs head put e (trap cause value) q = absurd (cc)
entry_at rs bs head put e (plain insn) q = same_entry head _ e refl refl q
entry_at rs bs head put e (counter insn) q = same_entry head _ e refl refl q
entry_at rs bs head put e (load insn addr len) q = same_entry head _ e refl refl q
entry_at rs bs head put e (store insn addr len) q = same_entry head _ e refl refl q
entry_at rs bs head put e (lr insn addr len) q = same_entry head _ e refl refl q
entry_at rs bs head put e (sc insn addr len) q = same_entry head _ e refl refl q
entry_at rs bs head put e (amo insn addr len) q = same_entry head _ e refl refl q

pub both_none : {X : Type 0} (a b : Option X) → (a or_else b) ≡ None → (a ≡ None) × (b ≡ None)
both_none None b e = (refl, e)
both_none (Some f) b e = absurd (cc)

trap_right : (run : Run) (rs bs : List OpenReport) (head : Head) (retire : Retire) (plan : PlanOf) (effect : Effect)
    (bypass : Option OpenReport) → retire_fault_in run rs bs head retire plan effect bypass ≡ None
    → trap_fault_of effect.trap retire.trap ≡ None
unfolding retire_fault_in
trap_right run rs bs head retire plan effect bypass e =
    let a = both_none (stray_fault_of (lowest_stray plan.doing head.hart head.tag bs)) _ e in
    let b = both_none (pc_fault_of run.hart.pc retire.pc) _ a.1 in
    let c = both_none (word_fault_of plan.word retire.word) _ b.1 in
    (both_none (trap_fault_of effect.trap retire.trap) _ c.1).0

no_trap_reported : (got : Option ℕ) → trap_fault_of None got ≡ None → got ≡ None
no_trap_reported None e = refl
no_trap_reported (Some c) e = absurd (cc)

-- a Retire that matches
module _ (image : Loaded) (before : List Message) (head : Head) (retire : Retire) (e : Entry)
    (matches : retire_fault_of image before head retire ≡ None)
    (there : entry_in image before head (body.Retire retire) ≡ Some e) where
  pub own_entry : IsEntryAt head e
  own_entry = entry_at (live before head.hart) (early before) head (stored_at image before head retire) e
      (doing_at image before head.hart) there

  pub reports_no_trap : retire.trap ≡ None
  reports_no_trap = no_trap_reported retire.trap
      (subst (λ (o : Option ℕ). trap_fault_of o retire.trap ≡ None) (model (doing_at image before head.hart) refl)
      (trap_right (run_of image before head.hart) (live before head.hart) (early before) head retire
      (plan_at image before head.hart) (effect_at image before head retire) (bypass_at before head)
      (both_none (tag_fault_of (last_tag before head.hart) head.tag) _ matches).1))
    where
      model : (d : Doing) → doing_at image before head.hart ≡ d → (effect_at image before head retire).trap ≡ None
      model d q = untrapped (run_of image before head.hart).hart
          (outside_of (live before head.hart) (bypass_at before head) head.tag retire (doing_at image before head.hart))
          (live before head.hart) (early before) head (stored_at image before head retire) e
          (doing_at image before head.hart)
          (planned (run_of image before head.hart).hart image (config_of before)) there
