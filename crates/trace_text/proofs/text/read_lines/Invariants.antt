use Rattle.std.proofs.Common.{◌≡◌, ◌+◌, ◌-◌, ◌≤◌, length, drop}
use Rattle.trace_text.specs.Texts.{text_from, text_read}
use Rattle.trace_text.proofs.TextLaws.{after_messages}
use Rattle.trace_text.proofs.text.read_lines.Given as goal

abbrev pub invariant-loop-column : goal.invariant-loop-column
invariant-loop-column l = record {
  low : l.start ≤ length l.text;
  count : l.number ≤ l.start + 1;
  same : after_messages l.messages (text_from l.number (drop l.start l.text)) ≡ text_read l.text;
}

abbrev pub decreases-loop-column : goal.decreases-loop-column
decreases-loop-column l = length l.text - l.start
