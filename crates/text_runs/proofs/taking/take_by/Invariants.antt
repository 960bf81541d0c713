use Rattle.std.proofs.Common.{◌≡◌, ◌+◌, ◌-◌, ◌≤◌, length, vec_len}
use Rattle.msg_frames.specs.Taking.{TakenFrom}
use Rattle.text_runs.proofs.taking.take_by.Given as goal

abbrev pub invariant-loop-bytes : goal.invariant-loop-bytes
invariant-loop-bytes g l = record {
  took : TakenFrom (g.S.Source.left l.fn.src) (g.S.Source.left l.src) (g.S.Source.log l.fn.src) (g.S.Source.log l.src)
      l.bytes.items;
  len : vec_len l.bytes ≤ 67108864;
  items : length l.bytes.items ≡ vec_len l.bytes;
  count : g.S.Source.faults l.fn.src ≤ g.S.Source.faults l.src;
  beside : g.S.Source.aside l.src ≡ g.S.Source.aside l.fn.src;
}

abbrev pub decreases-loop-bytes : goal.decreases-loop-bytes
decreases-loop-bytes g l = 67108864 + 1 - vec_len l.bytes
