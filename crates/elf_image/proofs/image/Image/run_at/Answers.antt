use Rattle.elf_image.proofs.Found.{held_in_segment, held_in_ram, image_byte-none}
use Rattle.elf_image.proofs.image.Image.run_at.Goals as goal

pub returns-in_err-locate-in-None-clause-none : goal.returns-in_err-locate-in-None-clause-none
returns-in_err-locate-in-None-clause-none c =
    let image = c.self.inside in
    let outside = rw c.deref.ensures.value at (c.in-None.ensures {u = tt}).none in
    let outside' = rw c.deref-in-None.ensures.value at (c.in_err-locate-in-None.ensures {u = tt}).none in
    let none = image_byte-none image.entry image.segments.items image.rams.items image.file.items
    c.args.addr outside outside' in
    rw c.from_residual.ensures (rw c.self.view_is at none)

pub returns-in-Some : goal.returns-in-Some
returns-in-Some c =
    let image = c.self.inside in
    let found = (c.in-Some.ensures {u = tt}).found in
    let among = rw c.deref.ensures.value at found.0 in
    let held = held_in_segment image.entry image.segments.items image.rams.items image.file.items
    c.in-Some.range.now c.args.addr c.rest_from.result c.self.invariant.apart among found.1 c.rest_from.ensures in
    let held' = rw c.self.view_is at held in
    record { some = held'.some; each = held'.each; none = tt }

pub returns-in_ok-locate-in-None : goal.returns-in_ok-locate-in-None
returns-in_ok-locate-in-None c =
    let image = c.self.inside in
    let found = (c.in_ok-locate-in-None.ensures {u = tt}).found in
    let among = rw c.deref-in-None.ensures.value at found.0 in
    let held = held_in_ram image.entry image.segments.items image.rams.items image.file.items
    c.in_ok-locate-in-None.field-0.now c.args.addr c.rest_from-in-None.result among found.1
    c.rest_from-in-None.ensures in
    let held' = rw c.self.view_is at held in
    record { some = held'.some; each = held'.each; none = tt }
