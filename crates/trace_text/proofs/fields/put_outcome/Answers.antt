use Rattle.tandem_base.proofs.PutsLaws.{puts_then, puts_none}
use Rattle.trace_text.proofs.fields.put_outcome.Goals as goal

-- each part stands behind the one before
pub returns-clause-puts : goal.returns-clause-puts
returns-clause-puts c =
    puts_then c.put-end.ensures (puts_then c.put_decimal_or_dash-end.ensures.puts
    (puts_then c.put-end-2.ensures (puts_then c.put_rd-end.ensures.puts
    (puts_then c.put-end-3.ensures (puts_then c.put_csrs.ensures.puts ((puts_none _ _)))))))
