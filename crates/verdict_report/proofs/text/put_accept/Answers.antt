use Rattle.tandem_base.proofs.PutsLaws.{puts_then}
use Rattle.verdict_report.proofs.text.put_accept.Goals as goal

-- each part stands behind the one before
pub returns-clause-puts : goal.returns-clause-puts
returns-clause-puts c =
    let messages = puts_then c.put-end.ensures c.put_decimal-end.ensures.puts in
    let retired = puts_then (puts_then messages c.put-end-2.ensures) c.put_decimal-end-2.ensures.puts in
    let operations = puts_then (puts_then retired c.put-end-3.ensures) c.put_decimal-end-3.ensures.puts in
    puts_then operations c.put.ensures
