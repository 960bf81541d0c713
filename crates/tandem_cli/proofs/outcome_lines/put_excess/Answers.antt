use Rattle.std.proofs.Common.{refl}
use Rattle.tandem_base.proofs.PutsLaws.{puts_then, puts_as}
use Rattle.tandem_cli.proofs.outcome_lines.put_excess.Goals as goal

pub returns-in-File-clause-puts : goal.returns-in-File-clause-puts
returns-in-File-clause-puts c = puts_as (puts_then c.put-end.ensures c.put_decimal.ensures.puts) (rw c.in-File.is refl)

pub returns-in-Ranges-clause-puts : goal.returns-in-Ranges-clause-puts
returns-in-Ranges-clause-puts c =
    puts_as (puts_then c.put-end-in-Ranges.ensures c.put_decimal-in-Ranges.ensures.puts) (rw c.in-Ranges.is refl)

pub returns-in-Sum-clause-puts : goal.returns-in-Sum-clause-puts
returns-in-Sum-clause-puts c =
    puts_as (puts_then c.put-end-in-Sum.ensures c.put_decimal-in-Sum.ensures.puts) (rw c.in-Sum.is refl)
