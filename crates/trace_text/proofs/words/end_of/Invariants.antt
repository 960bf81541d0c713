use Rattle.std.proofs.Common.{◌≡◌, ◌+◌, ◌-◌, ◌≤◌, length, drop}
use Rattle.trace_text.specs.Words.{until}
use Rattle.trace_text.proofs.words.end_of.Given as goal

abbrev pub invariant-loop-end : goal.invariant-loop-end
invariant-loop-end l = record {
  low : l.start ≤ l.end;
  high : l.end ≤ length l.text;
  same : l.end + length (until l.stop (drop l.end l.text)) ≡ l.start + length (until l.stop (drop l.start l.text));
}

abbrev pub decreases-loop-end : goal.decreases-loop-end
decreases-loop-end l = length l.text - l.end
