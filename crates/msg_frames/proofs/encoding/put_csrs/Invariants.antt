use Rattle.std.proofs.Common.{◌≡◌, ◌+◌, ◌*◌, take}
use Rattle.std.specs.List.{flat_map}
use Rattle.msg_frames.specs.Frames.{csr_bytes}
use Rattle.tandem_base.specs.Puts.{Puts}
use Rattle.msg_frames.proofs.encoding.put_csrs.Given as goal

abbrev pub invariant-loop-k : goal.invariant-loop-k
invariant-loop-k l = record {
  order : l.end ≡ l.at + 10 * l.k;
  puts : Puts l.at l.fn.out l.end l.out (flat_map csr_bytes (take l.k l.csrs));
}
