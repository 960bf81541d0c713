use Rattle.std.proofs.Common.{◌+◌, ◌≡◌, Option, subst, arith}
use Rattle.elf_image.specs.Images.{loaded_of}
use Rattle.matching.specs.Settings.{number_after}
use Rattle.trace_model.specs.Tracers.{Follows}
use Rattle.trace_model.specs.declared.tracer.Tracer.{Tracer}
use Rattle.tandem_core.specs.Cores.{HasTables}
use Rattle.tandem_core.proofs.Examined.{unbroken_where}
use Rattle.tandem_core.proofs.core_state.Core.take_unbreaking.Goals as goal

pub returns-in-Some-clause-faultless : goal.returns-in-Some-clause-faultless
returns-in-Some-clause-faultless c before tables count faultless =
    let image = loaded_of c.args.self.now.image.now in
    let follows : Follows image c.in-Some.tracer before =
    subst (λ (o : Option Tracer). HasTables image o before) c.in-Some.is tables in
    let n : c.args.self.now.count + 1 ≡ number_after before = omega (arith, count) in
    let e = c.take_unbreaking.ensures in
    unbroken_where image before c.args.message.now _ c.take_unbreaking.result faultless (e.order before follows n)
    (e.taken before follows n)
