use Rattle.std.proofs.Common.{◌+◌, sym, subst, List}
use Rattle.tag_window.specs.declared.reports.Read.{Read}
use Rattle.tag_window.specs.declared.reports.Early.{Early}
use Rattle.tag_window.specs.Windows.{Tagged, AllEarlier, places_of_reads, places_of_bypasses}
use Rattle.tag_window.proofs.Later.{at, all_next, reads_next}
use Rattle.table_tests.proofs.windows.read.Goals as goal

pub returns-in_err-bytes : goal.returns-in_err-bytes
returns-in_err-bytes c = (
  all_next c.args.message (places_of_reads c.args.tags.now.reads) c.requires.0,
  all_next c.args.message (places_of_bypasses c.args.tags.now.bypasses) c.requires.1,
)

pub returns : goal.returns
returns c = (
  subst (λ (rs : List (Tagged Read)). AllEarlier (at (c.args.message + 1)) (places_of_reads rs))
      (sym c.read.ensures.reads)
      (reads_next c.read.result c.args.message c.args.tag _ c.args.tags.now.reads c.seen.ensures c.requires.0),
  subst (λ (bs : List (Tagged Early)). AllEarlier (at (c.args.message + 1)) (places_of_bypasses bs))
      (sym c.read.ensures.bypasses)
      (all_next c.args.message (places_of_bypasses c.args.tags.now.bypasses) c.requires.1),
)
