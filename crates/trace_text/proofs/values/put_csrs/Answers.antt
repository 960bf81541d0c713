use Rattle.std.proofs.Common.{◌∙◌, sym}
use Rattle.tandem_base.proofs.PutsLaws.{puts_then, puts_as}
use Rattle.trace_text.proofs.CsrLaws.{first_and_next}
use Rattle.trace_text.proofs.values.put_csrs.Goals as goal

pub returns-in-Some-clause-puts : goal.returns-in-Some-clause-puts
returns-in-Some-clause-puts c =
    puts_as (puts_then c.put_csr-end.ensures.puts c.put_next_csrs.ensures.puts)
    (first_and_next c.args.csrs.now c.in-Some.csr (sym c.get.ensures ∙ c.in-Some.is))
