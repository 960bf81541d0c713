use Rattle.std.proofs.Common.{ap, ◌∙◌, Some, Bool}
use Rattle.tandem_cli.proofs.CheckLaws.{rose_on}
use Rattle.tandem_cli.proofs.TextLaws.{printed_told, lines_taken, printed_caused}
use Rattle.tandem_cli.proofs.text_outcome.show.Goals as goal

pub returns-clause-printed : goal.returns-clause-printed
returns-clause-printed g c =
    let before = g.met.I.Inputs.is_stream c.attach.new.self in
    let after = g.met.I.Inputs.is_stream c.print_stream.new.src in
    let attached = (c.in-Ok-true.ensures {u = tt}).attaches in
    let told = c.print_stream.ensures.printed in
    rw c.printed_or_fault.ensures (
      told.0,
      printed_told (g.I.Inputs.names c.args.ins.now) c.args.name.now c.print_stream.result c.in-Ok-true.field-0
          (g.I.Inputs.slots c.args.ins.now).stream.left (g.I.Inputs.slots c.attach.new.self).stream.left
          (g.I.Inputs.slots c.print_stream.new.src).stream.left told.0
          (g.I.Inputs.slots c.print_stream.new.src).stream.ended (g.K.Sink.written c.args.out.now)
          (g.K.Sink.written c.print_stream.new.out) c.in-Ok-true.field-0-test attached.answer attached.left
          (rw (before.left_is, after.left_is) told.1.consumed) (rw (after.left_is, after.ended_is) told.2),
      lines_taken c.print_stream.result told.0 (g.I.Inputs.slots c.print_stream.new.src).stream.left
          (g.I.Inputs.slots c.print_stream.new.src).stream.ended (g.K.Sink.written c.args.out.now)
          (g.K.Sink.written c.print_stream.new.out) (rw (after.left_is, after.ended_is) told.2),
    )

pub returns-clause-cause : goal.returns-clause-cause
returns-clause-cause g c =
    let before = g.met.I.Inputs.is_stream c.attach.new.self in
    let after = g.met.I.Inputs.is_stream c.print_stream.new.src in
    let beside = g.met.I.Inputs.is_beside c.print_stream.new.src c.attach.new.self c.print_stream.ensures.beside in
    let attached = (c.in-Ok-true.ensures {u = tt}).attaches in
    rw c.printed_or_fault.ensures
    (printed_caused c.print_stream.result (g.I.Inputs.slots c.args.ins.now).stream
    (g.I.Inputs.slots c.print_stream.new.src).stream
    (beside.attached_is ∙ attached.attached ∙ ap (λ (b : Bool). Some b) c.in-Ok-true.field-0-test)
    (rw after.ended_is c.print_stream.ensures.ended)
    (λ failed. rose_on (g.I.Inputs.slots c.args.ins.now).stream.faults
    (g.I.Inputs.slots c.attach.new.self).stream.faults
    (g.I.Inputs.slots c.print_stream.new.src).stream.faults attached.count
    (rw (before.faults_is, after.faults_is) c.print_stream.ensures.count)
    (rw (before.faults_is, after.faults_is) (c.print_stream.ensures.unread failed))))

pub returns-clause-image : goal.returns-clause-image
returns-clause-image g c =
    let beside = g.met.I.Inputs.is_beside c.print_stream.new.src c.attach.new.self c.print_stream.ensures.beside in
    beside.image_is ∙ c.attach.ensures.other
