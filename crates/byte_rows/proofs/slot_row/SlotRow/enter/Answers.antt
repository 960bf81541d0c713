use Rattle.std.proofs.Common.{ℕ, ◌≤◌, ◌∙◌, List, Option, sym, subst, arith}
use Rattle.byte_rows.specs.declared.links.Link.{Link}
use Rattle.byte_rows.specs.Links.{at, IsRow, AreOneRow}
use Rattle.byte_rows.proofs.Found.{whole, same_links, one_row_entered, tags_under}
use Rattle.byte_rows.proofs.slot_row.SlotRow.enter.Goals as goal

pub append-requires-clause-row : goal.append-requires-clause-row
append-requires-clause-row c =
    rw c.deref_mut.ensures.value
    (subst (λ (f : ℕ → Option Link). IsRow f 0 c.self.inside.ends)
    (same_links c.self.inside.links.items c.grow.new.links.items c.grow.ensures.same) c.self.invariant.0)

pub append-requires-clause-newest : goal.append-requires-clause-newest
append-requires-clause-newest c =
    rw c.deref_mut.ensures.value
    (tags_under (at c.self.inside.links.items) (at c.grow.new.links.items) c.args.waiter.tag
    (same_links c.self.inside.links.items c.grow.new.links.items c.grow.ensures.same) c.self.invariant.1
    (rw (sym c.self.view_is) at c.requires.newest))

pub invariant_of-self : goal.invariant_of-self
invariant_of-self c =
    subst (λ (xs : List (Option Link)). IsRow (at xs) 0 c.append.new.ends × AreOneRow (at xs)
    × (c.self.inside.capacity ≤ c.grow.new.links.cap))
    (sym (whole c.grow.new.links.len c.append.new.links c.grow.new.links.items
    (c.append.ensures.len ∙ c.deref_mut.ensures.len))) (
      c.append.ensures.row,
      one_row_entered (at c.grow.new.links.items) (at c.append.new.links)
          (subst (λ (f : ℕ → Option Link). AreOneRow f)
          (same_links c.self.inside.links.items c.grow.new.links.items c.grow.ensures.same) c.self.invariant.1)
          (rw c.deref_mut.ensures.value at c.append.ensures.elsewhere),
      omega (arith, c.self.invariant.2, c.grow.ensures.capacity),
    )
