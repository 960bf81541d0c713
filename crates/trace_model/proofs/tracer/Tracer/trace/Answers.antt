use Rattle.std.proofs.Common.{List, map, reverse, ap, ◌∙◌}
use Rattle.std.specs.List.{flat_map}
use Rattle.trace_model.specs.declared.retirements.KeptUse.{KeptUse}
use Rattle.trace_model.specs.Tracers.{ops_seen}
use Rattle.trace_model.specs.Traces.{early_op}
use Rattle.trace_model.proofs.Tracers.{ops_same}
use Rattle.trace_model.proofs.tracer.Tracer.trace.Goals as goal

pub returns : goal.returns
returns c image before s =
    let kept = c.args.self.now.history.uses.items in
    let insns = c.in_ok-insns.ensures ∙ c.deref.ensures.value ∙ s.keeps.insns in
    let ops = c.in_ok-ops.ensures image before s.stands
    ∙ ap (λ (xs : List KeptUse). flat_map (ops_seen image before) (reverse xs)) c.deref-2.ensures.value
    ∙ ops_same image before s.stands.clean (reverse kept) s.keeps.uses in
    let early = c.in_ok-early_ops.ensures ∙ ap (map early_op) (c.early.ensures image before s.stands) in
    λ i. record { insns = insns i; ops = ops i; early = early i; granule = s.granule i }
