use Rattle.std.proofs.Common.{reverse, take}
use Rattle.elf_image.specs.Images.{loaded_of}
use Rattle.trace_model.specs.Tracers.{Follows}
use Rattle.trace_model.proofs.plain.plain_trace.Given as goal

abbrev pub invariant-loop-k : goal.invariant-loop-k
invariant-loop-k l = Follows (loaded_of l.image) l.tracer (reverse (take l.k l.messages))
