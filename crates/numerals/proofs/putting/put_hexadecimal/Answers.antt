use Rattle.tandem_base.proofs.PutsLaws.{puts_then}
use Rattle.numerals.proofs.putting.put_hexadecimal.Goals as goal

pub returns-clause-puts : goal.returns-clause-puts
returns-clause-puts c = puts_then c.put-end.ensures c.put_digits.ensures.puts
