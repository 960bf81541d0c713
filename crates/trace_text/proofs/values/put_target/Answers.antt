use Rattle.std.proofs.Common.{refl}
use Rattle.tandem_base.proofs.PutsLaws.{puts_then, puts_as}
use Rattle.trace_text.proofs.values.put_target.Goals as goal

-- each part stands behind the one before
pub returns-in-X-clause-puts : goal.returns-in-X-clause-puts
returns-in-X-clause-puts c =
    puts_as (puts_then c.put-end.ensures c.put_decimal.ensures.puts) (rw c.in-X.is refl)
