use Rattle.rv_decode.proofs.Only.{reads_what_it_encodes}
use Rattle.rv_decode.proofs.laws.words_are_read_as_what_they_encode.Goals as goal

pub returns : goal.returns
returns c = reads_what_it_encodes
