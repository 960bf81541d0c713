use Rattle.tandem_base.proofs.PutsLaws.{puts_then}
use Rattle.verdict_report.proofs.text.put_report.Goals as goal

-- each part stands behind the one before
pub returns-clause-puts : goal.returns-clause-puts
returns-clause-puts c =
    let message = puts_then c.put-end.ensures c.put_decimal-end.ensures.puts in
    let offset = puts_then (puts_then message c.put-end-2.ensures) c.put_decimal-end-2.ensures.puts in
    puts_then (puts_then (puts_then offset c.put_fault-end.ensures.puts) c.put_head-end.ensures.puts)
    c.put_detail.ensures.puts
