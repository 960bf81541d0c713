use Rattle.std.proofs.Common.{◌≡◌, ◌≤◌, ◌++◌, List, length, reverse, take}
use Rattle.std.specs.List.{flat_map}
use Rattle.msg_frames.specs.declared.message.Message.{Message}
use Rattle.elf_image.specs.Images.{Loaded}
use Rattle.matching.specs.Tables.{Stands}
use Rattle.trace_model.specs.Tracers.{ops_seen}
use Rattle.trace_model.proofs.building.ops.Given as goal

abbrev pub invariant-loop-n : goal.invariant-loop-n
invariant-loop-n l =
    (l.n ≤ length l.uses)
    × ((image : Loaded) (before : List Message) → Stands image l.matching before
    → l.list ++ flat_map (ops_seen image before) (reverse (take l.n l.uses))
    ≡ flat_map (ops_seen image before) (reverse l.uses))

abbrev pub decreases-loop-n : goal.decreases-loop-n
decreases-loop-n l = l.n
