use Rattle.std.proofs.Common.{map}
use Rattle.std.specs.List.Sorted.{IsPermutation}
use Rattle.elf_image.specs.Tables.{load_range}
use Rattle.elf_image.proofs.Apart.{sorted_apart, sorted_in_file, sorted_same}
use Rattle.elf_image.proofs.segments.segment_table.Goals as goal

pub returns : goal.returns
returns c =
    let loads = c.args.loads.now in
    let table = c.sorted.result.items in
    let moved : IsPermutation (map load_range loads) table =
    rw (c.in_ok-load_ranges.ensures {u = tt}) at c.sorted.ensures.permutation in
    let apart = sorted_apart loads table c.requires.once c.requires.sized moved c.sorted.ensures.sorted in
    record {
      apart = apart;
      in_file = sorted_in_file loads table moved;
      same = sorted_same loads table moved apart;
    }
