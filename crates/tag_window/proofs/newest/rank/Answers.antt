use Rattle.std.proofs.Common.{rules, ◌≡◌, ◌-◌, length, deque_len, arith}
use Rattle.tag_window.proofs.TagLists.{rank_none, rank_past, rank_here, rank_first}
use Rattle.tag_window.proofs.newest.rank.Goals as goal

pub returns-then-count-eq0 : goal.returns-then-count-eq0
returns-then-count-eq0 c =
    let n : deque_len c.args.newest.now ≡ length c.args.newest.now.items = search rules in
    rank_none c.args.newest.now.items c.args.tag (omega (arith, n, c.len-count.ensures, c.if-count-eq0.true))

pub returns-then-last-tag : goal.returns-then-last-tag
returns-then-last-tag c =
    let n : deque_len c.args.newest.now ≡ length c.args.newest.now.items = search rules in
    let e = c.len-count.ensures in
    let z = c.if-count-eq0.false in
    rank_past c.args.newest.now.items c.args.tag (c.len-count.result - 1) c.index.result.now c.requires
    (omega (arith, n, e, z)) c.index.ensures c.len-count.result (omega (arith, n, e)) (omega (arith, z))
    c.if-last-tag.true

pub returns-then-last-tag-2 : goal.returns-then-last-tag-2
returns-then-last-tag-2 c =
    let n : deque_len c.args.newest.now ≡ length c.args.newest.now.items = search rules in
    let e = c.len-count.ensures in
    let z = c.if-count-eq0.false in
    rank_here c.args.newest.now.items c.args.tag (c.len-count.result - 1) c.index.result.now c.requires
    (omega (arith, n, e, z)) c.index.ensures c.if-last-tag-2.true

pub returns-then-tag-index : goal.returns-then-tag-index
returns-then-tag-index c =
    let n : deque_len c.args.newest.now ≡ length c.args.newest.now.items = search rules in
    let e = c.len-count.ensures in
    let z = c.if-count-eq0.false in
    rank_first c.args.newest.now.items c.args.tag 0 c.index-2.result.now c.requires (omega (arith, n, e, z))
    c.index-2.ensures (omega arith) c.if-tag-index.true
