use Rattle.std.proofs.Common.{◌≡◌, ◌++◌, drop}
use Rattle.elf_image.specs.Tables.{all_reaching, nowhere}
use Rattle.elf_image.proofs.table.widen.Given as goal

abbrev pub invariant-loop-range : goal.invariant-loop-range
invariant-loop-range l =
    l.wide.items ++ all_reaching l.before (drop l.range-index l.range-items) ≡ all_reaching nowhere l.fn.ranges.items
