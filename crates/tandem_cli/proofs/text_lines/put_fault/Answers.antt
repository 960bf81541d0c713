use Rattle.tandem_base.proofs.PutsLaws.{puts_then}
use Rattle.tandem_cli.proofs.text_lines.put_fault.Goals as goal

-- each part stands behind the one before
pub returns-clause-puts : goal.returns-clause-puts
returns-clause-puts c =
    let first = puts_then c.put-end.ensures c.put_decimal-end.ensures.puts in
    let second = puts_then (puts_then first c.put-end-2.ensures) c.put_decimal-end-2.ensures.puts in
    puts_then second c.put.ensures
