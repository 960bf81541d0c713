use Rattle.tandem_base.proofs.PutsLaws.{puts_then}
use Rattle.verdict_report.proofs.detail.put_operation.Goals as goal

pub returns-clause-puts : goal.returns-clause-puts
returns-clause-puts c =
    let tag = puts_then (puts_then c.put_decimal-end.ensures.puts c.put-end.ensures) c.put_decimal-end-2.ensures.puts in
    puts_then (puts_then tag c.put-end-2.ensures) c.put_decimal.ensures.puts
