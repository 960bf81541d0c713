use Rattle.std.proofs.Common.{◌∙◌, Some, None, refl, set}
use Rattle.std.proofs.lemmas.List.{get_or-set_same, get_or-set_other}
use Rattle.byte_rows.specs.declared.links.Link.{Link}
use Rattle.byte_rows.specs.Links.{at}
use Rattle.byte_rows.proofs.Entering.{entered_row}
use Rattle.byte_rows.proofs.Leaving.{within_now}
use Rattle.byte_rows.proofs.links.append.Goals as goal

pub returns-clause-row : goal.returns-clause-row
returns-clause-row c =
    let link : Link = record {
      row = c.args.row;
      tag = c.args.tag;
      older = c.args.ends.now.newest;
      newer = None;
    } in
    entered_row (at c.args.links.now) (at (set c.set_newer.new.links c.args.place (Some link))) c.args.ends.now
    (record { oldest = c.set_newer.new.ends.oldest; newest = Some c.args.place }) c.args.row c.args.place c.args.tag
    c.requires.vacant c.requires.row c.requires.newest
    (get_or-set_same c.set_newer.new.links c.args.place (Some link) None
    (within_now c.args.place c.args.links.now c.set_newer.new.links c.requires.within c.set_newer.ensures.len))
    (λ j d. get_or-set_other c.set_newer.new.links c.args.place j (Some link) None d ∙ c.set_newer.ensures.links j)
    refl c.set_newer.ensures.oldest
