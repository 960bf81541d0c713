use Rattle.std.proofs.Common.{rules}
use Rattle.std.proofs.lemmas.List.Sorted.{IsNonDecreasingBy-from_sort_by_key}
use Rattle.elf_image.specs.declared.range.Range.{Range}
use Rattle.elf_image.proofs.table.sort.Goals as goal

pub returns-clause-sorted : goal.returns-clause-sorted
returns-clause-sorted c =
    IsNonDecreasingBy-from_sort_by_key (λ (r : Range). r.base) _
    c.sort_unstable_by_key.ensures.sorted (λ a r f k. search rules)
