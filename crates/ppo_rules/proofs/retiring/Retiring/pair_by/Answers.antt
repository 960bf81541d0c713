use Rattle.std.proofs.Common.{ℕ, suc, ◌≡◌, ◌+◌, ◌<◌, length, Some, slice_get, refl, sym, subst, arith}
use Rattle.std.proofs.lemmas.Option.{slice_get_read, slice_get_within}
use Rattle.ppo_rules.proofs.Joined.{NoneYet, none_at_once, none_more, none_by, first_by}
use Rattle.ppo_rules.proofs.retiring.Retiring.pair_by.Goals as goal

pub loop-fresh-init : goal.loop-fresh-init
loop-fresh-init c = none_at_once c.args.rule c.args.self.now c.args.ops.now

-- the operation has no answer either
pub loop-fresh-preserved : goal.loop-fresh-preserved
loop-fresh-preserved c =
    let l : c.loop-fresh.fresh-index < length c.args.ops.now = omega arith in
    let g : slice_get c.args.ops.now c.loop-fresh.fresh-index ≡ Some c.fresh-item.result =
    slice_get_read c.args.ops.now (length c.args.ops.now) c.loop-fresh.fresh-index c.fresh-item.result refl l
    c.fresh-item.is in
    none_more c.args.rule c.args.self.now c.args.ops.now c.loop-fresh.fresh-index c.fresh-item.result g
    c.in-None.ensures c.loop-fresh.invariant

-- its answer is the first
pub returns-in-Some : goal.returns-in-Some
returns-in-Some c =
    let l : c.loop-fresh.fresh-index < length c.args.ops.now = omega arith in
    let g : slice_get c.args.ops.now c.loop-fresh.fresh-index ≡ Some c.fresh-item.result =
    slice_get_read c.args.ops.now (length c.args.ops.now) c.loop-fresh.fresh-index c.fresh-item.result refl l
    c.fresh-item.is in
    first_by c.args.rule c.args.self.now c.args.ops.now c.loop-fresh.fresh-index c.fresh-item.result
    c.in-Some.first g c.loop-fresh.invariant c.in-Some.ensures

-- no operation has one
pub returns : goal.returns
returns c =
    none_by c.args.rule c.args.self.now c.args.ops.now
    (λ j f l g. c.loop-fresh.invariant j f
    (let m = slice_get_within c.args.ops.now j f g in omega arith) g)
