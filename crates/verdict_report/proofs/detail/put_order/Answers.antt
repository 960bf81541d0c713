use Rattle.tandem_base.proofs.PutsLaws.{puts_then}
use Rattle.verdict_report.proofs.detail.put_order.Goals as goal

pub returns-clause-puts : goal.returns-clause-puts
returns-clause-puts c =
    let rule = puts_then c.put-end.ensures c.put_decimal-end.ensures.puts in
    let first = puts_then (puts_then rule c.put-end-2.ensures) c.put_operation-end.ensures.puts in
    puts_then (puts_then first c.put-end-3.ensures) c.put_operation.ensures.puts
