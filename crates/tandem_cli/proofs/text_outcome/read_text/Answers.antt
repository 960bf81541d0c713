use Rattle.std.proofs.Common.{ap, ◌∙◌, Some, Bool}
use Rattle.tandem_cli.proofs.CheckLaws.{rose_on}
use Rattle.tandem_cli.proofs.TextLaws.{text_told, text_caused}
use Rattle.tandem_cli.proofs.text_outcome.read_text.Goals as goal

pub returns-clause-text : goal.returns-clause-text
returns-clause-text g c =
    let before = g.met.I.Inputs.is_stream c.attach.new.self in
    let after = g.met.I.Inputs.is_stream c.take_text.new.src in
    let attached = (c.in-Ok-true.ensures {u = tt}).attaches in
    let told = c.take_text.ensures.text in
    rw c.text_or_fault.ensures
    (text_told (g.I.Inputs.names c.args.ins.now) c.args.name.now c.take_text.result c.in-Ok-true.field-0
    (g.I.Inputs.slots c.args.ins.now).stream.left (g.I.Inputs.slots c.attach.new.self).stream.left
    (g.I.Inputs.slots c.take_text.new.src).stream.left told.0
    (g.I.Inputs.slots c.take_text.new.src).stream.ended c.in-Ok-true.field-0-test attached.answer
    attached.left (rw (before.left_is, after.left_is) told.1.consumed) (rw (after.left_is, after.ended_is) told.2))

pub returns-clause-cause : goal.returns-clause-cause
returns-clause-cause g c =
    let before = g.met.I.Inputs.is_stream c.attach.new.self in
    let after = g.met.I.Inputs.is_stream c.take_text.new.src in
    let beside = g.met.I.Inputs.is_beside c.take_text.new.src c.attach.new.self c.take_text.ensures.beside in
    let attached = (c.in-Ok-true.ensures {u = tt}).attaches in
    let told = c.take_text.ensures.text in
    rw c.text_or_fault.ensures
    (text_caused c.take_text.result told.0 (g.I.Inputs.slots c.take_text.new.src).stream.left
    (g.I.Inputs.slots c.args.ins.now).stream
    (g.I.Inputs.slots c.take_text.new.src).stream
    (beside.attached_is ∙ attached.attached ∙ ap (λ (b : Bool). Some b) c.in-Ok-true.field-0-test)
    (rw (after.left_is, after.ended_is) told.2)
    (λ failed. rose_on (g.I.Inputs.slots c.args.ins.now).stream.faults
    (g.I.Inputs.slots c.attach.new.self).stream.faults
    (g.I.Inputs.slots c.take_text.new.src).stream.faults attached.count
    (rw (before.faults_is, after.faults_is) c.take_text.ensures.count)
    (rw (before.faults_is, after.faults_is) (c.take_text.ensures.cause failed))))

pub returns-clause-image : goal.returns-clause-image
returns-clause-image g c =
    let beside = g.met.I.Inputs.is_beside c.take_text.new.src c.attach.new.self c.take_text.ensures.beside in
    beside.image_is ∙ c.attach.ensures.other
