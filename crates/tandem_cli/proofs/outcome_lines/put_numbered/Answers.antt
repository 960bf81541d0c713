use Rattle.tandem_base.proofs.PutsLaws.{puts_then}
use Rattle.tandem_cli.proofs.outcome_lines.put_numbered.Goals as goal

-- each part stands behind the one before
pub returns-clause-puts : goal.returns-clause-puts
returns-clause-puts c = puts_then (puts_then c.put-end.ensures c.put_decimal-end.ensures.puts) c.put.ensures
