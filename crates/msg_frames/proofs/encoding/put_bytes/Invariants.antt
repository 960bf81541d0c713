use Rattle.std.proofs.Common.{◌≡◌, ◌+◌, take}
use Rattle.tandem_base.specs.Puts.{Puts}
use Rattle.msg_frames.proofs.encoding.put_bytes.Given as goal

abbrev pub invariant-loop-k : goal.invariant-loop-k
invariant-loop-k l = record {
  order : l.end ≡ l.at + l.k;
  puts : Puts l.at l.fn.out l.end l.out (take l.k l.bytes);
}
