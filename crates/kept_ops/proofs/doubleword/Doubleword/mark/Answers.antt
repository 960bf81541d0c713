use Rattle.slab.specs.Slab.{get}
use Rattle.kept_ops.proofs.Cells.{marked}
use Rattle.kept_ops.proofs.doubleword.Doubleword.mark.Goals as goal

pub returns-clause-keys : goal.returns-clause-keys
returns-clause-keys c =
    marked (get c.args.ops.now) c.args.self.now c.divide.new.self c.mark_cells.new.self c.args.division
    c.common-common.result c.args.key c.args.op.now c.requires.even c.common-common.ensures.even
    c.common-common.ensures.loads c.divide.ensures.number c.divide.ensures.division c.divide.ensures.keys
    c.mark_cells.ensures.division c.mark_cells.ensures.cells
