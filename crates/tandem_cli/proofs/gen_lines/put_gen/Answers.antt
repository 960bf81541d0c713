use Rattle.tandem_base.proofs.PutsLaws.{puts_then}
use Rattle.tandem_cli.proofs.gen_lines.put_gen.Goals as goal

-- each part stands behind the one before
pub returns-clause-puts : goal.returns-clause-puts
returns-clause-puts c =
    let seed = puts_then c.put-end.ensures c.put_decimal-end.ensures.puts in
    let harts = puts_then (puts_then seed c.put-end-2.ensures) c.put_decimal-end-2.ensures.puts in
    let count = puts_then (puts_then harts c.put-end-3.ensures) c.put_decimal-end-3.ensures.puts in
    puts_then (puts_then count c.put_flip-end.ensures.puts) c.put.ensures
