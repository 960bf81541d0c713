use Rattle.std.proofs.Common.{◌-◌, ◌<◌, ◌≤◌, length}
use Rattle.text_runs.proofs.Texts.{Writing}
use Rattle.text_runs.proofs.frames.write_by.Given as goal

abbrev pub invariant-loop-column : goal.invariant-loop-column
invariant-loop-column g l = record {
  writing : Writing l.text l.start (g.K.Sink.written l.fn.out) (g.K.Sink.written l.out) l.piece l.used;
  room : l.used < 16384;
  low : l.start ≤ length l.text;
  count : g.K.Sink.faults l.fn.out ≤ g.K.Sink.faults l.out;
}

abbrev pub decreases-loop-column : goal.decreases-loop-column
decreases-loop-column g l = length l.text - l.start
