use Rattle.tandem_base.proofs.PutsLaws.{puts_then}
use Rattle.trace_text.proofs.fields.put_time.Goals as goal

-- each part stands behind the one before
pub returns-clause-puts : goal.returns-clause-puts
returns-clause-puts c =
    puts_then c.put-end.ensures c.put_decimal.ensures.puts
