use Rattle.std.proofs.Common.{◌+◌, ◌*◌, ◌≤◌, drop, take}
use Rattle.std.specs.List.{flat_map}
use Rattle.tandem_base.specs.Puts.{Puts}
use Rattle.trace_text.specs.Lines.{next_csr_text}
use Rattle.trace_text.proofs.values.put_next_csrs.Given as goal

abbrev pub invariant-loop-k : goal.invariant-loop-k
invariant-loop-k l = record {
  some : 1 ≤ l.k;
  bound : l.end + 38 ≤ l.at + 38 * l.k;
  puts : Puts l.at l.fn.out l.end l.out (flat_map next_csr_text (drop 1 (take l.k l.csrs)));
}
