use Rattle.std.proofs.Common.{◌≡◌, ◌-◌, ◌*◌, ◌<◌, ◌≤◌}
use Rattle.text_runs.proofs.PrintLaws.{Printing}
use Rattle.text_runs.proofs.printing.print_by.Given as goal

abbrev pub invariant-loop-out : goal.invariant-loop-out
invariant-loop-out g l = record {
  printing : Printing (g.S.Source.left l.fn.src) (g.S.Source.left l.src) (g.S.Source.log l.fn.src)
      (g.S.Source.log l.src) (g.K.Sink.written l.fn.out) (g.K.Sink.written l.out) l.text l.used l.count l.offset;
  few : l.count ≤ 4000000000;
  low : l.offset ≤ 514 * l.count;
  room : l.used < 16384;
  count : g.S.Source.faults l.fn.src ≤ g.S.Source.faults l.src;
  beside : g.S.Source.aside l.src ≡ g.S.Source.aside l.fn.src;
  sink_count : g.K.Sink.faults l.fn.out ≤ g.K.Sink.faults l.out;
}

abbrev pub decreases-loop-out : goal.decreases-loop-out
decreases-loop-out g l = 4000000000 - l.count
