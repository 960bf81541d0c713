use Rattle.std.proofs.Common.{rules, ◌≡◌, length, deque_len, arith}
use Rattle.tag_window.proofs.TagLists.{own_is, other_is, on_some, removed_rises, removed_slots, untaken_slots}
use Rattle.tag_window.proofs.newest.take.Goals as goal

pub returns-in-None-clause-was : goal.returns-in-None-clause-was
returns-in-None-clause-was c =
    other_is c.args.newest.now.items c.rank-k.result c.args.tag (c.in-None.ensures {u = tt}).other

pub returns-in-None-clause-slots : goal.returns-in-None-clause-slots
returns-in-None-clause-slots c =
    untaken_slots c.args.newest.now.items c.rank-k.result c.args.tag (c.in-None.ensures {u = tt}).other

pub returns-in-Some-clause-was : goal.returns-in-Some-clause-was
returns-in-Some-clause-was c =
    own_is c.args.newest.now.items c.rank-k.result c.args.tag c.in-Some.was (c.in-Some.ensures {u = tt}).own

pub returns-in-Some-clause-rises : goal.returns-in-Some-clause-rises
returns-in-Some-clause-rises c =
    let n : deque_len c.args.newest.now ≡ length c.args.newest.now.items = search rules in
    let own = (c.in-Some.ensures {u = tt}).own in
    let e = on_some c.remove.result (c.remove.ensures.variant.1 (omega (arith, n, own.inside))) c.remove.ensures.items
    in
    rw e (removed_rises c.args.newest.now.items c.rank-k.result c.args.tag c.in-Some.was c.requires.rises own)

pub returns-in-Some-clause-slots : goal.returns-in-Some-clause-slots
returns-in-Some-clause-slots c =
    let n : deque_len c.args.newest.now ≡ length c.args.newest.now.items = search rules in
    let own = (c.in-Some.ensures {u = tt}).own in
    let e = on_some c.remove.result (c.remove.ensures.variant.1 (omega (arith, n, own.inside))) c.remove.ensures.items
    in
    rw e (removed_slots c.args.newest.now.items c.rank-k.result c.args.tag c.in-Some.was c.requires.rises own)
