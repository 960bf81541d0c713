use Rattle.std.proofs.Common.{refl}
use Rattle.tandem_base.proofs.PutsLaws.{puts_then, puts_as}
use Rattle.verdict_report.proofs.fault_values.put_rd.Goals as goal

pub returns-in-Some-clause-puts : goal.returns-in-Some-clause-puts
returns-in-Some-clause-puts c =
    puts_as (puts_then c.put_register-end.ensures.puts c.put_hexadecimal.ensures.puts) (rw c.in-Some.is refl)
