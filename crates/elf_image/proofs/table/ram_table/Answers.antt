use Rattle.std.proofs.Common.{map}
use Rattle.std.specs.List.Sorted.{IsPermutation}
use Rattle.std.proofs.lemmas.Result.{IfOk-weaker}
use Rattle.elf_image.specs.Tables.{nowhere, ram_range}
use Rattle.elf_image.proofs.Wide.{widened_climb, ram_table_same}
use Rattle.elf_image.proofs.table.ram_table.Goals as goal

pub returns-clause-climb : goal.returns-clause-climb
returns-clause-climb c =
    IfOk-weaker c.widen.result _ _
    (λ table wide. rw wide (widened_climb nowhere c.sorted-ranges.result.items c.sorted-ranges.ensures.sorted))
    c.widen.ensures

pub returns-clause-same : goal.returns-clause-same
returns-clause-same c =
    let moved : IsPermutation (map ram_range c.args.rams.now) c.sorted-ranges.result.items =
    rw (c.in_ok-ram_ranges.ensures {u = tt}) at c.sorted-ranges.ensures.permutation in
    IfOk-weaker c.widen.result _ _
    (λ table wide x. rw wide (ram_table_same c.args.rams.now c.sorted-ranges.result.items moved
    c.sorted-ranges.ensures.sorted x))
    c.widen.ensures
