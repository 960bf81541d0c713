use Rattle.std.proofs.Common.{rules, leb, leb-true, leb-false}
use Rattle.std.proofs.lemmas.List.Sorted.{IsPartitionPoint-from_clause, IsPartitionedBy-leb}
use Rattle.elf_image.specs.declared.range.Range.{Range}
use Rattle.elf_image.proofs.Located.{bases_rise}
use Rattle.elf_image.proofs.range.first_after.Goals as goal

pub returns : goal.returns
returns c =
    let ranges = c.args.ranges.now in
    let addr = c.args.addr in
    let point =
    IsPartitionPoint-from_clause (λ (r : Range). leb r.base addr) ranges c.partition_point.result
    c.partition_point.ensures.partitioned
    (IsPartitionedBy-leb (λ (r : Range). r.base) ranges addr (bases_rise ranges c.requires))
    (λ a r f k. search rules) in
    record {
      bound = c.partition_point.ensures.bound;
      before = λ k d low high. leb-true _ addr (point.0 k d low high);
      after = λ k d low high. leb-false _ addr (point.1 k d low high);
    }
