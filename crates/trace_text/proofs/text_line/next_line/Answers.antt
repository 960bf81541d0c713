use Rattle.std.proofs.Common.{sym, ◌∙◌}
use Rattle.trace_text.proofs.LineFound.{line_found}
use Rattle.trace_text.proofs.text_line.next_line.Goals as goal

-- a line that is read is that of a message with a frame
pub returns-then-end-text-clause-fits : goal.returns-then-end-text-clause-fits
returns-then-end-text-clause-fits c =
    (line_found c.part_from-line.result.now c.in-Ok.message (sym c.line_read.ensures.value ∙ c.in-Ok.is)).1
