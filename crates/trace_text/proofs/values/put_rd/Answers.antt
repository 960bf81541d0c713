use Rattle.std.proofs.Common.{refl}
use Rattle.tandem_base.proofs.PutsLaws.{puts_then, puts_as}
use Rattle.trace_text.proofs.values.put_rd.Goals as goal

-- each part stands behind the one before
pub returns-in-Some-clause-puts : goal.returns-in-Some-clause-puts
returns-in-Some-clause-puts c =
    puts_as (puts_then (puts_then (puts_then c.put-end.ensures c.put_decimal-end.ensures.puts)
    c.put-end-in-Some.ensures) c.put_hexadecimal.ensures.puts) (rw c.in-Some.is refl)
