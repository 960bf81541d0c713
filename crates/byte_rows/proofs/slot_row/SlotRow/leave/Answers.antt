use Rattle.std.proofs.Common.{◌≤◌, ◌∙◌, List, Option, IsSome, sym, subst}
use Rattle.byte_rows.specs.declared.links.Link.{Link}
use Rattle.byte_rows.specs.Links.{at, IsRow, AreOneRow}
use Rattle.byte_rows.proofs.Found.{whole, one_row_left, place_there}
use Rattle.byte_rows.proofs.slot_row.SlotRow.leave.Goals as goal

pub unlink-requires-clause-there : goal.unlink-requires-clause-there
unlink-requires-clause-there c =
    let there : IsSome (at c.self.inside.links.items c.args.slot) = rw c.deref.ensures.value at
    (sym c.waits.ensures ∙ c.if-waits.true) in
    rw c.deref_mut.ensures.value
    (place_there (at c.self.inside.links.items c.args.slot) 0 there (λ n e. c.self.invariant.1 c.args.slot n e))

pub invariant_of-self : goal.invariant_of-self
invariant_of-self c =
    subst (λ (xs : List (Option Link)). IsRow (at xs) 0 c.unlink.new.ends × AreOneRow (at xs)
    × (c.self.inside.capacity ≤ c.self.inside.links.cap))
    (sym (whole c.self.inside.links.len c.unlink.new.links c.self.inside.links.items
    (c.unlink.ensures.len ∙ c.deref_mut.ensures.len))) (
      c.unlink.ensures.row,
      one_row_left (at c.self.inside.links.items) (at c.unlink.new.links) c.self.invariant.1
          (rw c.deref_mut.ensures.value at c.unlink.ensures.elsewhere),
      c.self.invariant.2,
    )
