use Rattle.std.proofs.Common.{arith}
use Rattle.kept_ops.proofs.Fits.{index_fits}
use Rattle.kept_ops.proofs.words.Words.reach.Goals as goal

pub put-requires : goal.put-requires
put-requires c =
    let fits = index_fits c.args.self.now.words c.args.self.now.index c.requires.found
    (c.in-None.ensures {u = tt}).distinct in
    record { room = omega (arith, fits, c.requires.keys) }
