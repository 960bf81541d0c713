use Rattle.std.proofs.Common.{ap, ◌∙◌, Some, Bool}
use Rattle.elf_image.specs.Images.{loaded_of}
use Rattle.tandem_cli.specs.Seen.{asked_seen}
use Rattle.tandem_cli.proofs.CheckLaws.{missing_stream, stream_caused, rose_on}
use Rattle.tandem_cli.proofs.outcome.judge_stream.Goals as goal

pub returns-in-Ok-false-clause-stream : goal.returns-in-Ok-false-clause-stream
returns-in-Ok-false-clause-stream g c =
    let attached = (c.in-Ok-false.ensures {u = tt}).attaches in
    missing_stream (g.I.Inputs.names c.args.ins.now) (asked_seen c.args.asked.now) (loaded_of c.args.image.now)
    c.in-Ok-false.field-0 c.in-Ok-false.field-0-test attached.answer

pub returns-clause-cause : goal.returns-clause-cause
returns-clause-cause g c =
    let before = g.met.I.Inputs.is_stream c.attach.new.self in
    let after = g.met.I.Inputs.is_stream c.judge.new.src in
    let beside = g.met.I.Inputs.is_beside c.judge.new.src c.attach.new.self c.judge.ensures.beside in
    let attached = (c.in-Ok-true.ensures {u = tt}).attaches in
    rw c.verdict_or_fault.ensures
    (stream_caused c.judge.result (g.I.Inputs.slots c.args.ins.now).stream (g.I.Inputs.slots c.judge.new.src).stream
    (beside.attached_is ∙ attached.attached ∙ ap (λ (b : Bool). Some b) c.in-Ok-true.field-0-test)
    (rw after.ended_is c.judge.ensures.ended)
    (λ failed. rose_on (g.I.Inputs.slots c.args.ins.now).stream.faults
    (g.I.Inputs.slots c.attach.new.self).stream.faults
    (g.I.Inputs.slots c.judge.new.src).stream.faults attached.count
    (rw (before.faults_is, after.faults_is) c.judge.ensures.count)
    (rw (before.faults_is, after.faults_is) (c.judge.ensures.cause failed))))

pub returns-clause-image : goal.returns-clause-image
returns-clause-image g c =
    let beside = g.met.I.Inputs.is_beside c.judge.new.src c.attach.new.self c.judge.ensures.beside in
    beside.image_is ∙ c.attach.ensures.other
