use Rattle.std.proofs.Common.{◌+◌, ◌-◌, ◌≤◌, length}
use Rattle.text_runs.proofs.Texts.{Stands}
use Rattle.text_runs.proofs.frames.find_fault.Given as goal

abbrev pub invariant-loop-column : goal.invariant-loop-column
invariant-loop-column l = record {
  stands : Stands l.text l.start l.number;
  count : l.number ≤ l.start + 1;
  low : l.start ≤ length l.text;
}

abbrev pub decreases-loop-column : goal.decreases-loop-column
decreases-loop-column l = length l.text - l.start
