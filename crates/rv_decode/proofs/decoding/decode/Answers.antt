use Rattle.std.proofs.Common.{◌∙◌}
use Rattle.rv_decode.proofs.Found.{decoding_found}
use Rattle.rv_decode.proofs.Only.{only, none_encoded}
use Rattle.rv_decode.proofs.decoding.decode.Goals as goal

pub returns : goal.returns
returns c =
    let word = c.args.word in
    record {
      is = c.by_opcode.ensures;
      found = rw c.by_opcode.ensures (decoding_found word c.ranges.word.fits);
      none = rw c.by_opcode.ensures (none_encoded word);
      only = λ i e. c.by_opcode.ensures ∙ only word i e;
    }
