use Rattle.std.proofs.Common.{◌≡◌, drop}
use Rattle.elf_image.specs.Elf.{overlap_fault}
use Rattle.elf_image.proofs.program.check_overlap.Given as goal

abbrev pub invariant-loop-place : goal.invariant-loop-place
invariant-loop-place l = overlap_fault (drop l.place l.loads) ≡ overlap_fault l.loads
