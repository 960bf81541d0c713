use Rattle.std.proofs.Common.{◌/◌, arith}
use Rattle.slab.specs.Slab.{get}
use Rattle.kept_ops.specs.Divisions.{cell_size}
use Rattle.kept_ops.proofs.Cells.{loads_all, loads_more}
use Rattle.kept_ops.proofs.doubleword.Doubleword.common.Goals as goal

pub loop-c-preserved : goal.loop-c-preserved
loop-c-preserved c = record {
  finer = omega (arith, c.finer-common-in-loop-c.ensures.one, c.loop-c.invariant.finer);
  even = omega (arith, c.finer-common-in-loop-c.ensures.one, c.loop-c.invariant.even);
  loads = loads_more (get c.args.ops.now) c.args.self.now c.loop-c.common c.division.result
      c.finer-common-in-loop-c.result c.loop-c.c c.finer-common-in-loop-c.ensures.one
      c.finer-common-in-loop-c.ensures.other c.division.ensures c.loop-c.invariant.loads;
}

pub returns-clause-loads : goal.returns-clause-loads
returns-clause-loads c = loads_all (get c.args.ops.now) c.args.self.now c.loop-c.common c.loop-c.c
    (8 / cell_size c.args.self.now.division) c.count-c-end.result c.count-c-end.ensures c.loop-c-test.false
    c.loop-c.invariant.loads
