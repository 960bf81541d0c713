use Rattle.std.proofs.Common.{◌≡◌, ◌≤◌, ◌*◌, List, length, reverse, take}
use Rattle.std.specs.List.{flat_map}
use Rattle.msg_frames.specs.declared.message.Message.{Message}
use Rattle.elf_image.specs.Images.{Loaded}
use Rattle.matching.specs.Tables.{Stands}
use Rattle.trace_model.specs.Tracers.{ops_seen}
use Rattle.trace_model.proofs.building.count_ops.Given as goal

abbrev pub invariant-loop-used : goal.invariant-loop-used
invariant-loop-used l = record {
  bound : l.count ≤ 8 * l.used-index;
  value : (image : Loaded) (before : List Message) → Stands image l.matching before
      → l.count ≡ length (flat_map (ops_seen image before) (reverse (take l.used-index l.uses)));
}
