use Rattle.tag_window.proofs.TagLists.{own_is, other_is, set_rises, set_slots, inserted_rises, inserted_slots}
use Rattle.tag_window.proofs.newest.put.Goals as goal

pub returns-in-Some-clause-was : goal.returns-in-Some-clause-was
returns-in-Some-clause-was c =
    own_is c.args.newest.now.items c.rank-k.result c.args.tag c.in-Some.was (c.in-Some.ensures {u = tt}).own

pub returns-in-Some-clause-rises : goal.returns-in-Some-clause-rises
returns-in-Some-clause-rises c =
    set_rises c.args.newest.now.items c.rank-k.result c.args.tag c.in-Some.was c.requires.rises
    (c.in-Some.ensures {u = tt}).own c.args.slot

pub returns-in-Some-clause-slots : goal.returns-in-Some-clause-slots
returns-in-Some-clause-slots c =
    set_slots c.args.newest.now.items c.rank-k.result c.args.tag c.in-Some.was c.requires.rises
    (c.in-Some.ensures {u = tt}).own c.args.slot

pub returns-in-Ok-clause-was : goal.returns-in-Ok-clause-was
returns-in-Ok-clause-was c =
    other_is c.args.newest.now.items c.rank-k.result c.args.tag (c.in-None.ensures {u = tt}).other

pub returns-in-Ok-clause-rises : goal.returns-in-Ok-clause-rises
returns-in-Ok-clause-rises c = rw (c.in-Ok.ensures {u = tt}).items
    (inserted_rises c.args.newest.now.items c.rank-k.result
    c.args.tag c.args.slot c.requires.rises (c.in-None.ensures {u = tt}).other)

pub returns-in-Ok-clause-slots : goal.returns-in-Ok-clause-slots
returns-in-Ok-clause-slots c = rw (c.in-Ok.ensures {u = tt}).items
    (inserted_slots c.args.newest.now.items c.rank-k.result
    c.args.tag c.args.slot c.requires.rises (c.in-None.ensures {u = tt}).other)
