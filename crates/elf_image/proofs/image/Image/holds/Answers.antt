use Rattle.std.proofs.Common.{arith}
use Rattle.elf_image.specs.Images.{loaded_of}
use Rattle.elf_image.proofs.Found.{held_further}
use Rattle.elf_image.proofs.image.Image.holds.Goals as goal

pub loop-held-preserved : goal.loop-held-preserved
loop-held-preserved c =
    let run = (c.in-Some.ensures {u = tt}).each in (
      omega (arith, c.min-held.ensures),
      held_further (loaded_of c.args.self.now) c.args.extent.now.addr c.loop-held.held c.min-held.result c.in-Some.run'
          (omega (arith, c.min-held.ensures)) c.loop-held.invariant.1 run,
    )
