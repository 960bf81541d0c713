use Rattle.tandem_base.proofs.PutsLaws.{puts_then}
use Rattle.tandem_cli.proofs.gen_lines.put_flip.Goals as goal

-- the number stands behind the word
pub returns-in-Some-clause-puts : goal.returns-in-Some-clause-puts
returns-in-Some-clause-puts c = rw c.in-Some.is (puts_then c.put-end.ensures c.put_decimal.ensures.puts)
