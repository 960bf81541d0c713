use Rattle.tandem_base.proofs.PutsLaws.{puts_then}
use Rattle.trace_text.proofs.values.put_csr.Goals as goal

-- each part stands behind the one before
pub returns-clause-puts : goal.returns-clause-puts
returns-clause-puts c =
    puts_then (puts_then (rw c.from.ensures at c.put_hexadecimal-end.ensures.puts) c.put-end.ensures)
    c.put_hexadecimal.ensures.puts
