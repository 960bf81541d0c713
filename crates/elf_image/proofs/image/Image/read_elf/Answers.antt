use Rattle.std.proofs.Common.{◌≡◌, sym, subst, None}
use Rattle.std.specs.declared.result.Result.{Result}
use Rattle.elf_image.specs.declared.fault.ImageFault.{ImageFault}
use Rattle.elf_image.specs.Elf.{header_fault}
use Rattle.elf_image.specs.Faults.{Reads, file_fault}
use Rattle.elf_image.specs.Images.{Loaded}
use Rattle.elf_image.proofs.Same.{header_read, none_wrong}
use Rattle.elf_image.proofs.image.Image.read_elf.Goals as goal

pub returns : goal.returns
returns c =
    let bytes = c.args.bytes.now in
    let rams = c.args.rams.now in
    let short : file_fault bytes ≡ None = none_wrong _ tt (c.in_ok-check_file.ensures {u = tt}).fault in
    let right : header_fault bytes ≡ None = none_wrong _ tt (c.in_ok-check_header.ensures {u = tt}).fault in
    let found = (c.in_ok-loads.ensures {u = tt}).found in
    let read = rw (c.deref.ensures.value, found) at c.load.ensures in
    subst (λ (m : Result Loaded ImageFault). Reads c.load.result m) (sym (header_read bytes rams short right)) read
