use Rattle.std.proofs.Common.{subst, sym, reverse}
use Rattle.elf_image.specs.Images.{loaded_of}
use Rattle.rv_step.specs.declared.effect.Outside.{Outside}
use Rattle.rv_step.specs.Plans.{doing_seen}
use Rattle.rv_step.specs.Steps.{IsLoaded}
use Rattle.matching.proofs.Loading.{is_loaded}
use Rattle.matching.proofs.hart_table.HartTable.step_into.Goals as goal

pub effect_into-requires-clause-planned : goal.effect_into-requires-clause-planned
effect_into-requires-clause-planned c = (loaded_of c.args.image.now, c.args.config.now, c.plan_into.ensures.value)

pub effect_into-requires-clause-loaded : goal.effect_into-requires-clause-loaded
effect_into-requires-clause-loaded c =
    subst (λ (o : Outside). IsLoaded o (doing_seen c.plan_into.new.plan.what)) (sym c.outside-outside.ensures)
    (is_loaded (reverse c.args.self.now.live.items) c.early_into.new.bypass c.args.head.now.tag c.args.retire.now
    (doing_seen c.plan_into.new.plan.what))
