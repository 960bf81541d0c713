use Rattle.std.proofs.Common.{List, length, reverse, ap, ◌∙◌}
use Rattle.std.specs.List.{flat_map}
use Rattle.rvwmo_model.specs.declared.operations.Op.{Op}
use Rattle.trace_model.specs.declared.retirements.KeptUse.{KeptUse}
use Rattle.trace_model.specs.Tracers.{ops_seen}
use Rattle.trace_model.proofs.Tracers.{ops_same}
use Rattle.trace_model.proofs.tracer.Tracer.operations.Goals as goal

pub returns : goal.returns
returns c image before s =
    c.count_ops.ensures image before s.stands
    ∙ ap (λ (xs : List KeptUse). length (flat_map (ops_seen image before) (reverse xs))) c.deref.ensures.value
    ∙ ap (λ (ops : List Op). length ops)
    (ops_same image before s.stands.clean (reverse c.args.self.now.history.uses.items) s.keeps.uses)
