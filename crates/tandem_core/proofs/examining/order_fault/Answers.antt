use Rattle.std.proofs.Common.{◌∷◌, ap, ◌∙◌}
use Rattle.elf_image.specs.Images.{initial_byte, loaded_of}
use Rattle.rvwmo_model.specs.LastAnswer.{newest_answer}
use Rattle.order_laws.specs.Faults as Faults
use Rattle.tandem_core.proofs.examining.order_fault.Goals as goal

pub returns : goal.returns
returns c =
    λ before follows.
    let t = c.in_ok-trace.ensures {u = tt} (loaded_of c.args.image.now) (c.args.message.now ∷ before) follows in
    let tag = c.retired_tag-tag.ensures in
    c.order_fault_of.ensures
    ∙ ap Faults.order_fault_of ((c.in_ok-last.ensures {u = tt}).computed
    ∙ (λ i. newest_answer (initial_byte (loaded_of c.args.image.now)) (t i) c.args.message.now.head.hart (tag i)))
