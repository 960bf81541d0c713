use Rattle.std.proofs.Common.{◌≡◌, reverse, take, length}
use Rattle.matching.specs.Reports
use Rattle.matching.proofs.reports.bytes_read.Given as goal

abbrev pub invariant-loop-k : goal.invariant-loop-k
invariant-loop-k l =
    (take l.k l.buf ≡ Reports.bytes_counted (reverse l.live) l.tag l.extent.addr l.k) × (length l.buf ≡ 8)
