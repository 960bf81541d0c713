use Rattle.std.proofs.Common.{ℕ, suc, ◌≡◌, ◌+◌, ◌<◌, length, Some, slice_get, refl, subst, arith}
use Rattle.std.proofs.lemmas.Option.{slice_get_read}
use Rattle.drain_rules.proofs.Steps.{Progress, progress_more, progress_all}
use Rattle.drain_rules.proofs.worst.worst_of.Goals as goal

-- the part is noted, and its answers are taken in
pub loop-index-preserved : goal.loop-index-preserved
loop-index-preserved c =
    let l : c.loop-index.index < length c.args.parts.now = omega arith in
    let g : slice_get c.args.parts.now c.loop-index.index ≡ Some c.index-parts-index.result =
    slice_get_read c.args.parts.now (length c.args.parts.now) c.loop-index.index c.index-parts-index.result refl l
    c.index-parts-index.is in
    let e : suc c.loop-index.index ≡ c.loop-index.index + 1 = omega arith in
    subst (λ (n : ℕ). Progress c.args.hart c.args.stores.now c.args.parts.now n c.note.new.self c.worse-worst.result) e
    (progress_more c.args.hart c.args.stores.now c.args.parts.now c.loop-index.index c.index-parts-index.result
    c.loop-index.seen c.note.new.self c.loop-index.worst c.worse-worst.result c.requires g c.loop-index.invariant
    c.worse-worst.ensures c.note.ensures)

-- all parts were taken in
pub returns : goal.returns
returns c =
    progress_all c.args.hart c.args.stores.now c.args.parts.now c.loop-index.index c.loop-index.seen
    c.loop-index.worst (omega arith) c.loop-index.invariant
