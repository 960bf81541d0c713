use Rattle.std.proofs.Common.{ℕ, Option, None, ap, ◌∙◌, if◌then◌else◌, slice_set}
use Rattle.std.proofs.lemmas.List.{get_or-set_other}
use Rattle.byte_rows.specs.declared.links.Link.{Link}
use Rattle.byte_rows.specs.Links.{at, is_place, is_none, with_older}
use Rattle.byte_rows.proofs.Leaving.{left_row, left_elsewhere, set_gone, on_row}
use Rattle.byte_rows.proofs.links.unlink.Goals as goal

pub returns-clause-row : goal.returns-clause-row
returns-clause-row c =
    let n = c.link_at-link.result in
    left_row (at c.args.links.now) (at
    (slice_set c.set_older.new.links c.args.place None)) c.args.ends.now c.set_older.new.ends c.args.row c.args.place n
    c.link_at-link.ensures (on_row (at c.args.links.now c.args.place) n c.args.row c.link_at-link.ensures
    c.requires.there) c.requires.row (set_gone c.set_older.new.links c.args.place)
    (λ j d. get_or-set_other c.set_older.new.links c.args.place j None None d ∙ c.set_older.ensures.links j
    ∙ ap (λ (o : Option Link). if is_place n.newer j then with_older n.older o else o) (c.set_newer.ensures.links j))
    (c.set_older.ensures.newest
    ∙ ap (λ (o : Option ℕ). if is_none n.newer then n.older else o) c.set_newer.ensures.newest)
    (c.set_older.ensures.oldest ∙ c.set_newer.ensures.oldest)

pub returns-clause-elsewhere : goal.returns-clause-elsewhere
returns-clause-elsewhere c =
    let n = c.link_at-link.result in
    left_elsewhere (at c.args.links.now) (at
    (slice_set c.set_older.new.links c.args.place None)) c.args.ends.now c.set_older.new.ends c.args.row c.args.place n
    c.link_at-link.ensures (on_row (at c.args.links.now c.args.place) n c.args.row c.link_at-link.ensures
    c.requires.there) c.requires.row (set_gone c.set_older.new.links c.args.place)
    (λ j d. get_or-set_other c.set_older.new.links c.args.place j None None d ∙ c.set_older.ensures.links j
    ∙ ap (λ (o : Option Link). if is_place n.newer j then with_older n.older o else o) (c.set_newer.ensures.links j))
    (c.set_older.ensures.newest
    ∙ ap (λ (o : Option ℕ). if is_none n.newer then n.older else o) c.set_newer.ensures.newest)
    (c.set_older.ensures.oldest ∙ c.set_newer.ensures.oldest)
