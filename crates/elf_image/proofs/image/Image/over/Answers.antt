use Rattle.elf_image.proofs.Same.{same_over}
use Rattle.elf_image.proofs.image.Image.over.Goals as goal

pub returns : goal.returns
returns c =
    same_over c.args.entry c.args.segments.items c.in_ok-rams.rams.items c.in_ok-file.file.items c.args.file.now
    c.args.rams.now (c.in_ok-file.ensures {u = tt}).items (c.in_ok-rams.ensures {u = tt}).same
