use Rattle.std.proofs.Common.{◌≡◌, map}
use Rattle.std.specs.List.{filter, range_with_len}
use Rattle.elf_image.specs.Elf.{is_loadable, program_header}
use Rattle.elf_image.proofs.program.loadable.Given as goal

abbrev pub invariant-loop-index : goal.invariant-loop-index
invariant-loop-index l = l.found.items ≡ filter is_loadable (map (program_header l.bytes) (range_with_len 0 l.index))
