use Rattle.std.proofs.Common.{List, ℕ, subst}
use Rattle.elf_image.specs.Faults.{Reads}
use Rattle.tandem_cli.specs.Checks.{meaning_of}
use Rattle.tandem_cli.specs.Seen.{asked_seen, chosen_seen}
use Rattle.tandem_cli.proofs.CheckLaws.{whole_answer}
use Rattle.tandem_cli.proofs.outcome.read_image.Goals as goal

pub returns-in-Bytes-clause-image : goal.returns-in-Bytes-clause-image
returns-in-Bytes-clause-image g c =
    let attached = (c.in-Ok-true.ensures {u = tt}).attaches in
    let whole = (c.in-Bytes.ensures {u = tt}).bytes in
    let reads : Reads c.make_image.result (meaning_of (chosen_seen c.args.asked.now.options) c.in-Bytes.bytes.items) =
    subst (λ (b : List ℕ). Reads c.make_image.result (meaning_of (chosen_seen c.args.asked.now.options) b))
    c.deref.ensures.value
    c.make_image.ensures in
    rw c.image_or_fault.ensures
    (whole_answer (g.I.Inputs.names c.args.ins.now) (asked_seen c.args.asked.now) c.in-Ok-true.field-0
    (g.I.Inputs.slots c.args.ins.now).image.left (g.I.Inputs.slots c.attach.new.self).image.left
    (g.I.Inputs.slots c.read_whole.new.ins).image.left c.in-Bytes.bytes.items c.make_image.result
    c.in-Ok-true.field-0-test
    attached.answer attached.left whole.0 whole.2 reads)
