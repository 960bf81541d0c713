use Rattle.tandem_base.proofs.PutsLaws.{puts_then}
use Rattle.verdict_report.proofs.text.put_undecided.Goals as goal

-- each part stands behind the one before
pub returns-clause-puts : goal.returns-clause-puts
returns-clause-puts c =
    let name = rw c.limit_name.ensures.name at c.put-end-3.ensures in
    let message = puts_then c.put-end.ensures c.put_decimal-end.ensures.puts in
    let limit = puts_then (puts_then message c.put-end-2.ensures) name in
    let hart = puts_then (puts_then limit c.put-end-4.ensures) c.put_limit_hart-end.ensures.puts in
    let count = puts_then (puts_then hart c.put-end-5.ensures) c.put_decimal-end-2.ensures.puts in
    puts_then count c.put.ensures
