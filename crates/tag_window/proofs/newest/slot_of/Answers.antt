use Rattle.std.proofs.Common.{◌≡◌, Option, None, Some}
use Rattle.std.specs.Option.{IfSome, IfNone}
use Rattle.tag_window.specs.declared.newest.Newest.{Newest}
use Rattle.std.proofs.Common.{ℕ, List}
use Rattle.tag_window.specs.Order.{slot_under, SplitsAt, FitsAt}
use Rattle.tag_window.proofs.TagLists.{own_is, other_is}
use Rattle.tag_window.proofs.newest.slot_of.Goals as goal

either : (xs : List Newest) (k t : ℕ) (o : Option ℕ) → IfSome o (λ s. SplitsAt xs k t s) → IfNone o (FitsAt xs k t)
    → o ≡ slot_under xs t
either xs k t None own other = other_is xs k t other
either xs k t (Some s) own other = own_is xs k t s own

pub returns : goal.returns
returns c = either c.args.newest.now.items c.rank-k.result c.args.tag c.slot_at.result c.slot_at.ensures.own
    c.slot_at.ensures.other
