use Rattle.std.proofs.Common.{◌≡◌, List}
use Rattle.elf_image.specs.Images.{Loaded}
use Rattle.msg_frames.specs.declared.message.Message.{Message}
use Rattle.tandem_base.specs.FirstFault.{passed}
use Rattle.matching.specs.EndFaults.{unwritten_below}
use Rattle.matching.specs.Tables.{Stands}
use Rattle.matching.proofs.tables.Matching.check_stores.Given as goal

abbrev pub invariant-loop-hart : goal.invariant-loop-hart
invariant-loop-hart l =
    (image : Loaded) (before : List Message) → Stands image l.self before
    → l.checked ≡ passed (unwritten_below image before l.hart)
