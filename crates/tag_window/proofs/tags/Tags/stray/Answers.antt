use Rattle.std.proofs.Common.{subst}
use Rattle.tag_window.specs.Order.{live_reports}
use Rattle.tag_window.specs.Slots.{no_bypass, place_of_bypass}
use Rattle.tag_window.specs.Windows.{Window, IsLowestGiven}
use Rattle.tag_window.proofs.Slotted.{lowest_tagged}
use Rattle.tag_window.proofs.tags.Tags.stray.Goals as goal

pub returns : goal.returns
returns c =
    let t = c.self.inside in
    subst (λ (w : Window). IsLowestGiven c.args.below c.lowest_tag.result w.bypasses) c.self.view_is
    (lowest_tagged place_of_bypass no_bypass c.args.below c.lowest_tag.result t.bypass_items.items
    (live_reports t.bypasses)
    c.lowest_tag.ensures)
