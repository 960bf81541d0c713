use Rattle.std.proofs.Common.{◌≡◌, ◌≤◌, ◌<◌, ◌-◌, false, length, take}
use Rattle.msg_frames.specs.Taking.{TakenFrom}
use Rattle.msg_frames.proofs.source.fill.Given as goal

abbrev pub invariant-loop-have : goal.invariant-loop-have
invariant-loop-have g l = record {
  took : TakenFrom (g.S.Source.left l.fn.src) (g.S.Source.left l.src) (g.S.Source.log l.fn.src) (g.S.Source.log l.src)
      (take l.have l.buf);
  inside : l.have ≤ length l.buf;
  running : 0 < l.have → g.S.Source.ended l.src ≡ false;
  count : g.S.Source.faults l.fn.src ≤ g.S.Source.faults l.src;
  opened : g.S.Source.is_open l.src ≡ g.S.Source.is_open l.fn.src;
  beside : g.S.Source.aside l.src ≡ g.S.Source.aside l.fn.src;
}

abbrev pub decreases-loop-have : goal.decreases-loop-have
decreases-loop-have g l = length l.buf - l.have
