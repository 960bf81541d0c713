use Rattle.std.proofs.Common.{◌≡◌, ◌<◌, ◌≤◌, length, Ok, Some, None, sym, ◌∙◌, arith}
use Rattle.trace_text.specs.Texts.{text_line_at}
use Rattle.text_runs.proofs.Texts.{first_line, later_line, ends_there, wrong_there, is_fine}
use Rattle.text_runs.proofs.frames.find_fault.Goals as goal

pub loop-column-init : goal.loop-column-init
loop-column-init c = record { stands = first_line c.args.text.now; count = omega arith; low = omega arith }

-- a line is wrong
pub returns-in-Err-clause-wrong : goal.returns-in-Err-clause-wrong
returns-in-Err-clause-wrong c =
    wrong_there c.in-Err.column c.loop-column.invariant.stands (sym c.next_line.ensures.read ∙ c.in-Err.is)

-- the text ends
pub returns-in-Ok-None-clause-fine : goal.returns-in-Ok-None-clause-fine
returns-in-Ok-None-clause-fine c =
    let l = c.loop-column in
    let e : text_line_at c.args.text.now l.start ≡ Ok None =
    cc (c.next_line.ensures.read, c.in-Ok-None.is, c.in-Ok-None.field-0-is) in
    is_fine l.invariant.stands.messages (ends_there l.invariant.stands e)

-- a line is read
pub loop-column-preserved : goal.loop-column-preserved
loop-column-preserved c =
    let l = c.loop-column in
    let line = c.in-Ok-Some.line in
    let e : text_line_at c.args.text.now l.start ≡ Ok (Some line) =
    cc (c.next_line.ensures.read, c.in-Ok-Some.is, c.in-Ok-Some.field-0-is) in
    let bound : (l.start < line.next) × (line.next ≤ length c.args.text.now) =
    rw c.in-Ok-Some.field-0-is at c.in-Ok-Some.ensures.bound in
    record {
      stands = later_line line l.invariant.stands e bound.1;
      count = omega (arith, l.invariant.count, bound.0);
      low = bound.1;
    }
