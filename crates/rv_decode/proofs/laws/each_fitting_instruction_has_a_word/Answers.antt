use Rattle.rv_decode.proofs.Range.{has_word}
use Rattle.rv_decode.proofs.laws.each_fitting_instruction_has_a_word.Goals as goal

pub returns : goal.returns
returns c = has_word
