use Rattle.hex.proofs.HexLemmas.{length-encode_with}
use Rattle.hex.specs.Hex.{lower_digits}
use Rattle.trace_text.proofs.values.encode.Goals as goal

pub returns-clause-length : goal.returns-clause-length
returns-clause-length c = length-encode_with lower_digits c.args.bytes.now
