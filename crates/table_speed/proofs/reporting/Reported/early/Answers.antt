use Rattle.std.proofs.Common.{◌+◌, sym, subst, List}
use Rattle.tandem_base.specs.declared.names.Position.{Position}
use Rattle.tag_window.specs.declared.reports.Read.{Read}
use Rattle.tag_window.specs.declared.reports.Early.{Early}
use Rattle.tag_window.specs.Windows.{Tagged, AllEarlier, places_of_reads, places_of_bypasses}
use Rattle.tag_window.proofs.Later.{at, all_next, bypasses_next}
use Rattle.table_speed.proofs.reporting.Reported.early.Goals as goal

pub early-took-requires : goal.early-took-requires
early-took-requires c = record {
  later = subst (λ (p : Position). AllEarlier p (places_of_bypasses c.self.inside.tags.bypasses))
      (sym c.place-seen.ensures) c.self.invariant.1;
}

pub invariant_of-self : goal.invariant_of-self
invariant_of-self c = (
  subst (λ (rs : List (Tagged Read)). AllEarlier (at (c.self.inside.next + 1)) (places_of_reads rs))
      (sym c.early-took.ensures.reads)
      (all_next c.self.inside.next (places_of_reads c.self.inside.tags.reads) c.self.invariant.0),
  subst (λ (bs : List (Tagged Early)). AllEarlier (at (c.self.inside.next + 1)) (places_of_bypasses bs))
      (sym c.early-took.ensures.bypasses)
      (bypasses_next c.early-took.result c.self.inside.next c.args.tag _ c.self.inside.tags.bypasses
      c.place-seen.ensures
      c.self.invariant.1),
)
