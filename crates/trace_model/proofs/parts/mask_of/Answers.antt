use Rattle.std.proofs.Common.{◌-◌, arith}
use Rattle.trace_model.specs.Marks.{is_marked}
use Rattle.trace_model.proofs.Marks.{mask_small}
use Rattle.trace_model.proofs.parts.mask_of.Goals as goal

pub overflow_mul-mask : goal.overflow_mul-mask
overflow_mul-mask c =
    let s = mask_small (is_marked c.args.marks.now) c.loop-k.k (c.args.len - c.loop-k.k) (omega arith) in
    let e = c.loop-k.invariant.1 in
    omega (arith, s, e)

pub overflow_add-mask : goal.overflow_add-mask
overflow_add-mask c =
    let s = mask_small (is_marked c.args.marks.now) c.loop-k.k (c.args.len - c.loop-k.k) (omega arith) in
    let e = c.loop-k.invariant.1 in
    omega (arith, s, e)
