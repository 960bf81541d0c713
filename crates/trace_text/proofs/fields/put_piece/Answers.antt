use Rattle.tandem_base.proofs.PutsLaws.{puts_then, puts_none}
use Rattle.trace_text.proofs.fields.put_piece.Goals as goal

-- each part stands behind the one before
pub returns-clause-puts : goal.returns-clause-puts
returns-clause-puts c =
    puts_then c.put-end.ensures (puts_then c.put_hexadecimal-end.ensures.puts
    (puts_then c.put-end-2.ensures (puts_then (rw c.as_slice.ensures at c.put_bytes.ensures.puts)
    ((puts_none _ _)))))
