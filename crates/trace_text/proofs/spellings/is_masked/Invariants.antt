use Rattle.std.proofs.Common.{◌≡◌, drop}
use Rattle.msg_frames.specs.Reading.{unmasked_zeros}
use Rattle.trace_text.proofs.spellings.is_masked.Given as goal

abbrev pub invariant-loop-k : goal.invariant-loop-k
invariant-loop-k l = unmasked_zeros l.mask l.k (drop l.k l.bytes) ≡ unmasked_zeros l.mask 0 l.bytes
