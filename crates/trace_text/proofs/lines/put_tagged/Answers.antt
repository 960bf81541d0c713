use Rattle.tandem_base.proofs.PutsLaws.{puts_then, puts_none}
use Rattle.trace_text.proofs.lines.put_tagged.Goals as goal

-- each part stands behind the one before
pub returns-clause-puts : goal.returns-clause-puts
returns-clause-puts c =
    puts_then c.put_hart-end.ensures.puts (puts_then c.put_time-end.ensures.puts
    (puts_then c.put_tag.ensures.puts ((puts_none _ _))))
