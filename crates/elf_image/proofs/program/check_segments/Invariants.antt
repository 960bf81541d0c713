use Rattle.std.proofs.Common.{◌≡◌, drop}
use Rattle.std.specs.List.{find}
use Rattle.elf_image.specs.Elf.{is_misplaced}
use Rattle.elf_image.proofs.program.check_segments.Given as goal

abbrev pub invariant-loop-load : goal.invariant-loop-load
invariant-loop-load l = find (is_misplaced l.file_len) (drop l.load-index l.loads) ≡ find (is_misplaced l.file_len)
    l.loads
