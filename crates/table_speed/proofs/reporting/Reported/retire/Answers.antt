use Rattle.std.proofs.Common.{sym, subst, List}
use Rattle.tag_window.specs.declared.reports.Read.{Read}
use Rattle.tag_window.specs.declared.reports.Early.{Early}
use Rattle.tag_window.specs.Windows.{Tagged, AllEarlier, places_of_reads, places_of_bypasses}
use Rattle.tag_window.proofs.Later.{at}
use Rattle.table_speed.proofs.Staying.{staying}
use Rattle.table_speed.proofs.reporting.Reported.retire.Goals as goal

pub invariant_of-self : goal.invariant_of-self
invariant_of-self c = (
  subst (λ (rs : List (Tagged Read)). AllEarlier (at c.self.inside.next) (places_of_reads rs))
      (sym c.retire.ensures.reads)
      (staying _ (at c.self.inside.next) _ c.self.inside.tags.reads c.self.invariant.0),
  subst (λ (bs : List (Tagged Early)). AllEarlier (at c.self.inside.next) (places_of_bypasses bs))
      (sym c.retire.ensures.bypasses)
      (staying _ (at c.self.inside.next) _ c.self.inside.tags.bypasses c.self.invariant.1),
)
