use Rattle.tandem_base.proofs.PutsLaws.{puts_then}
use Rattle.verdict_report.proofs.detail.put_differing.Goals as goal

pub returns-clause-puts : goal.returns-clause-puts
returns-clause-puts c =
    puts_then (puts_then (puts_then c.put-end.ensures c.put_fault_value-end.ensures.puts) c.put-end-2.ensures)
    c.put_fault_value.ensures.puts
