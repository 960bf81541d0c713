use Rattle.std.proofs.Common.{◌≡◌, false, Some, arith}
use Rattle.rv_decode.specs.Listing.{IsInsn}
use Rattle.rv_step.specs.Plans.{doing_seen}
use Rattle.rv_step.specs.Promises.{HasCsr, IsTarget, planned_insn, is_call}
use Rattle.rv_step.proofs.Planned.{at_some, planned, seen, no_call}
use Rattle.rv_step.proofs.hart.Hart.effect_into.Goals as goal

pub insn_into-requires : goal.insn_into-requires
insn_into-requires c =
    let hart = c.args.self.now in
    let plan = c.args.plan.now in
    let insn = c.in-Plain.insn in
    let d = doing_seen plan.what in
    let found : planned_insn d ≡ Some insn = seen plan.what insn c.in-Plain.is in
    let p = planned hart c.requires.planned.0 c.requires.planned.1 plan (omega arith) c.requires.planned.2 in
    record {
      fits = at_some IsInsn (planned_insn d) insn found p.fits;
      csr = at_some HasCsr (planned_insn d) insn found p.csr;
      call = at_some (λ i. is_call i ≡ false) (planned_insn d) insn found (no_call d p.kind);
      target = at_some (IsTarget hart) (planned_insn d) insn found p.target;
    }
