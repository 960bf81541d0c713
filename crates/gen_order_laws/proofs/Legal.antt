-- A trace whose operations are those of a log is legal.
use Rattle.std.proofs.Common.{ℕ, ◌≡◌, ◌*◌, ◌<◌, List, false, refl, Some, None}
use Rattle.std.specs.declared.option.Option.{Option}
use Rattle.std.proofs.lemmas.Bool.{both_ways, and_right}
use Rattle.elf_image.specs.Images.{initial_byte}
use Rattle.rv_decode.specs.Kinds.{is_sc}
use Rattle.rvwmo_model.specs.declared.instructions.Retired.{Retired}
use Rattle.rvwmo_model.specs.declared.operations.Op.{Op}
use Rattle.rvwmo_model.specs.declared.traces.Trace.{Trace}
use Rattle.rvwmo_model.specs.InsnKinds.{has_stored}
use Rattle.rvwmo_model.specs.Legal.{Legal}
use Rattle.rvwmo_model.specs.ProgramOrder.{insn_of}
use Rattle.rvwmo_model.proofs.LookUp.{found_in}
use Rattle.trace_model.proofs.Lists.{listed}
use Rattle.trace_gen.specs.declared.rounds.Progress.{Progress}
use Rattle.trace_gen.specs.Program.{made_image}
use Rattle.gen_order_laws.proofs.Counting.{IsCounted}
use Rattle.gen_order_laws.proofs.Logs.{Perf, IsLog, turns_of}
use Rattle.gen_order_laws.proofs.MadeOps.{IsMade}
use Rattle.gen_order_laws.proofs.Ordered.{made_ordered}
use Rattle.gen_order_laws.proofs.Valued.{value_right}

-- no SC stored
none_stored : (log : List Perf) (t : Trace) → IsMade log t → (w : Op) → has_stored (insn_of t w) ≡ false
none_stored log t made w = at (insn_of t w) refl
  where
    at : (o : Option Retired) → insn_of t w ≡ o → has_stored o ≡ false
    at None e = refl
    at (Some r) e =
        and_right (is_sc r.insn) r.stored
        (made.insns r (listed t.insns r (found_in t.insns w.name.hart w.name.tag r e).0)).stored

pub made_legal : (log : List Perf) (harts n c rounds : ℕ) (progress : ℕ → Progress) (t : Trace)
    → IsLog log harts n progress → IsCounted log c → IsMade log t
    → ((h : ℕ) → h < harts → turns_of (progress h) ≡ 5 * rounds) → Legal (initial_byte made_image) t
made_legal log harts n c rounds progress t is counted made whole = record {
  ordered = made_ordered log harts n progress t is made;
  valued = λ i x wrong.
      wrong.wrong
      (value_right log harts n c rounds progress t is counted made whole i x wrong.load_in wrong.loads);
  paired = λ w alone. both_ways (has_stored (insn_of t w)) (none_stored log t made w) alone.stored;
  atomic = λ r w torn. both_ways (has_stored (insn_of t w)) (none_stored log t made w) torn.pair.stored;
}
