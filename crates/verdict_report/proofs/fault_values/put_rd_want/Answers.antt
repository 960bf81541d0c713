use Rattle.std.proofs.Common.{refl}
use Rattle.tandem_base.proofs.PutsLaws.{puts_then, puts_as}
use Rattle.verdict_report.proofs.fault_values.put_rd_want.Goals as goal

pub returns-in-Nonzero-clause-puts : goal.returns-in-Nonzero-clause-puts
returns-in-Nonzero-clause-puts c =
    puts_as (puts_then c.put_register-end.ensures.puts c.put-in-Nonzero.ensures) (rw c.in-Nonzero.is refl)

pub returns-in-AtLeast-clause-puts : goal.returns-in-AtLeast-clause-puts
returns-in-AtLeast-clause-puts c =
    puts_as (puts_then (puts_then c.put_register-end-in-AtLeast.ensures.puts c.put-end.ensures)
    c.put_hexadecimal.ensures.puts) (rw c.in-AtLeast.is refl)
