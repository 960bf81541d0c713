use Rattle.tandem_base.proofs.PutsLaws.{puts_then}
use Rattle.verdict_report.proofs.text.put_fault.Goals as goal

pub returns-clause-puts : goal.returns-clause-puts
returns-clause-puts c =
    puts_then (puts_then (puts_then c.put-end.ensures (rw c.number.ensures at c.put_decimal-end.ensures.puts))
    c.put-end-2.ensures) (rw c.name.ensures.name at c.put.ensures)
