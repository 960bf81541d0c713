use Rattle.std.proofs.Common.{refl}
use Rattle.byte_memory.proofs.Lines.{none_of_none}
use Rattle.byte_memory.proofs.line.Line.new.Goals as goal

pub returns : goal.returns
returns c = λ k. rw none_of_none refl
