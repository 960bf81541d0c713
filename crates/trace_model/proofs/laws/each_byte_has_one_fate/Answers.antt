use Rattle.trace_model.proofs.laws.each_byte_has_one_fate.Goals as goal
use Rattle.trace_model.proofs.FirstWrites.{one_fate}
use Rattle.trace_model.proofs.Known.{clean}
use Rattle.trace_model.proofs.Cleaned.{suited}

pub returns : goal.returns
returns c = λ image messages h t x f g fine told other.
    one_fate messages (clean image messages (suited image messages fine)) h t x f g told other
