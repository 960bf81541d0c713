use Rattle.tandem_base.proofs.PutsLaws.{puts_then}
use Rattle.trace_text.proofs.fields.put_retire.Goals as goal

-- each part stands behind the one before
pub returns-clause-puts : goal.returns-clause-puts
returns-clause-puts c =
    puts_then c.put-end.ensures (puts_then c.put_hexadecimal-end.ensures.puts
    (puts_then c.put-end-2.ensures (puts_then (rw c.from.ensures at c.put_hexadecimal-end-2.ensures.puts)
    (puts_then c.put-end-3.ensures (puts_then c.put_hexadecimal-end-3.ensures.puts c.put_outcome.ensures.puts)))))
