use Rattle.std.proofs.Common.{◌≡◌, ◌<◌, ◌++◌, List, [], ap, ◌∙◌, length, map, reverse, take, drop, slice_set}
use Rattle.std.proofs.Common.{get_or, arith}
use Rattle.std.proofs.lemmas.List.{append-nil, drop_all, take_all}
use Rattle.matching.specs.declared.stores.Tracked.{Tracked}
use Rattle.matching.specs.Tables.{with_part}
use Rattle.matching.proofs.Mapped.{mapped_more, mapped_all, length-mapped, map-reversed}
use Rattle.matching.proofs.stores.take_part.Goals as goal

pub loop-tracked-init : goal.loop-tracked-init
loop-tracked-init c = c.deref_mut-tracked-items.ensures.value

pub loop-tracked-preserved : goal.loop-tracked-preserved
loop-tracked-preserved c =
    let f = with_part c.args.new c.args.tag c.args.piece.now in
    let i = c.loop-tracked.tracked-index in
    let items = c.args.stores.now.items in
    let d = c.tracked-item.result in
    let inv = c.loop-tracked.invariant in
    let n = ap length inv in
    let sized = length-mapped f i items in
    let low : i < length items = omega (arith, n, sized, c.loop-tracked-test.true) in
    ap (λ (xs : List Tracked). slice_set xs i c.take_part.new.self) inv
    ∙ mapped_more f i items d c.take_part.new.self low
    (c.take_part.ensures ∙ ap f (ap (λ (xs : List Tracked). get_or xs i d) inv))

pub returns : goal.returns
returns c =
    let f = with_part c.args.new c.args.tag c.args.piece.now in
    let i = c.loop-tracked.tracked-index in
    let items = c.args.stores.now.items in
    let inv = c.loop-tracked.invariant in
    let n = ap length inv in
    let sized = length-mapped f i items in
    let all : c.loop-tracked.tracked-items ≡ map f items =
    inv ∙ mapped_all f i items (omega (arith, n, sized, c.loop-tracked-test.false)) in
    let ti = c.loop-tracked.tracked-items in
    let first = ap length c.deref_mut-tracked-items.ensures.value in
    let len = c.deref_mut-tracked-items.ensures.len in
    let none : drop (length ti) items ≡ [] = drop_all (length ti) items (omega (arith, n, sized)) in
    let kept : take c.args.stores.now.len (ti ++ drop (length ti) items) ≡ ti =
    ap (λ (xs : List Tracked). take c.args.stores.now.len (ti ++ xs)) none
    ∙ ap (take c.args.stores.now.len) (append-nil ti)
    ∙ take_all c.args.stores.now.len ti (omega (arith, n, sized, first, len)) in
    ap reverse (kept ∙ all) ∙ map-reversed f items
