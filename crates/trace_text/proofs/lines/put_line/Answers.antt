use Rattle.tandem_base.proofs.PutsLaws.{puts_then}
use Rattle.trace_text.proofs.lines.put_line.Goals as goal

-- each part stands behind the one before
pub returns-clause-puts : goal.returns-clause-puts
returns-clause-puts c =
    puts_then (puts_then (rw c.kind_word.ensures.word at c.put-end.ensures) c.put_fields-end.ensures.puts) c.put.ensures
