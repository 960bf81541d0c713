use Rattle.std.proofs.Common.{refl}
use Rattle.tandem_base.proofs.PutsLaws.{puts_then, puts_as}
use Rattle.tandem_cli.proofs.outcome_lines.put_image_fault.Goals as goal

pub returns-in-TooLarge-clause-puts : goal.returns-in-TooLarge-clause-puts
returns-in-TooLarge-clause-puts c =
    puts_as (puts_then (puts_then c.put-end.ensures c.put_excess-end.ensures.puts) c.put-in-TooLarge.ensures)
    (rw c.in-TooLarge.is refl)
