use Rattle.std.proofs.Common.{◌≡◌, ◌+◌, append-nil, drop, length, ◌<◌, ◌≤◌, inr, Ok, Some, None, sym, ap, ◌∙◌, arith}
use Rattle.trace_text.specs.Texts.{text_from, text_read, text_line_at}
use Rattle.trace_text.proofs.TextLaws.{after_messages, after_none, after_one, next_none, next_some, next_err}
use Rattle.trace_text.proofs.text.read_lines.Goals as goal

pub loop-column-init : goal.loop-column-init
unfolding text_read
loop-column-init c =
    record {
      low = omega arith;
      count = omega arith;
      same = ap (λ l. after_messages l (text_from 1 c.args.text.now)) c.new-messages.ensures
          ∙ after_none (text_from 1 c.args.text.now);
    }

-- a line is wrong
pub returns-in-Err : goal.returns-in-Err
returns-in-Err c =
    let l = c.loop-column in
    let wrong = next_err c.args.text.now l.start l.number c.in-Err.column l.invariant.low
    (sym c.next_line.ensures.read ∙ c.in-Err.is) in
    inr (sym (ap (after_messages l.messages) wrong) ∙ l.invariant.same)

-- the text ends
pub returns-in-Ok-None : goal.returns-in-Ok-None
returns-in-Ok-None c =
    let l = c.loop-column in
    let e : text_line_at c.args.text.now l.start ≡ Ok None =
    cc (c.next_line.ensures.read, c.in-Ok-None.is, c.in-Ok-None.field-0-is) in
    inr (ap Ok (sym (append-nil l.messages))
    ∙ sym (ap (after_messages l.messages) (next_none c.args.text.now l.start l.number e)) ∙ l.invariant.same)

-- a line is read
pub loop-column-preserved : goal.loop-column-preserved
loop-column-preserved c =
    let l = c.loop-column in
    let line = c.in-Ok-Some.line in
    let e : text_line_at c.args.text.now l.start ≡ Ok (Some line) =
    cc (c.next_line.ensures.read, c.in-Ok-Some.is, c.in-Ok-Some.field-0-is) in
    let rest = text_from (l.number + 1) (drop line.next c.args.text.now) in
    let bound : (l.start < line.next) × (line.next ≤ length c.args.text.now) =
    rw c.in-Ok-Some.field-0-is at c.in-Ok-Some.ensures.bound in
    record {
      low = bound.1;
      count = omega (arith, l.invariant.count, bound.0);
      same = ap (λ m. after_messages m rest) c.in-Ok.ensures.ok ∙ sym (after_one l.messages line.message rest)
          ∙ sym (ap (after_messages l.messages) (next_some c.args.text.now l.start l.number line e)) ∙ l.invariant.same;
    }
