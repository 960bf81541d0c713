use Rattle.byte_memory.specs.Captures.{FindsForeign}
use Rattle.byte_memory.proofs.capture.latest_of_line.Given as goal

abbrev pub invariant-loop-k : goal.invariant-loop-k
invariant-loop-k l = FindsForeign l.memory l.hart l.base l.k l.found
