use Rattle.std.proofs.Common.{sym}
use Rattle.elf_image.proofs.Found.{image_byte-segment, image_byte-ram, image_byte-none}
use Rattle.elf_image.proofs.image.Image.byte.Goals as goal

pub returns-in-Some : goal.returns-in-Some
returns-in-Some c =
    let image = c.self.inside in
    let found = (c.in-Some.ensures {u = tt}).found in
    let among = rw c.deref.ensures.value at found.0 in
    let byte = image_byte-segment image.entry image.segments.items image.rams.items image.file.items
    c.in-Some.range.now c.args.addr c.self.invariant.apart among found.1 in
    rw (c.file_byte.ensures, c.deref-in-Some.ensures.value, ← c.self.view_is) (sym byte)

pub returns-in_err-locate-in-None : goal.returns-in_err-locate-in-None
returns-in_err-locate-in-None c =
    let image = c.self.inside in
    let outside = rw c.deref.ensures.value at (c.in-None.ensures {u = tt}).none in
    let outside' = rw c.deref-in-None.ensures.value at (c.in_err-locate-in-None.ensures {u = tt}).none in
    let none = image_byte-none image.entry image.segments.items image.rams.items image.file.items
    c.args.addr outside outside' in
    rw (c.from_residual.ensures, ← c.self.view_is) (sym none)

pub returns-in_ok-locate-in-None : goal.returns-in_ok-locate-in-None
returns-in_ok-locate-in-None c =
    let image = c.self.inside in
    let outside = rw c.deref.ensures.value at (c.in-None.ensures {u = tt}).none in
    let found = (c.in_ok-locate-in-None.ensures {u = tt}).found in
    let among = rw c.deref-in-None.ensures.value at found.0 in
    let byte = image_byte-ram image.entry image.segments.items image.rams.items image.file.items
    c.in_ok-locate-in-None.field-0.now c.args.addr outside among found.1 in
    rw (← c.self.view_is) (sym byte)
