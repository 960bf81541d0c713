use Rattle.std.proofs.Common.{◌≡◌, ◌+◌, ◌-◌, ◌≤◌}
use Rattle.elf_image.specs.Images.{loaded_of}
use Rattle.tandem_core.proofs.Progress.{Progress}
use Rattle.tandem_core.proofs.judging.judge_in.Given as goal

abbrev pub invariant-loop-core : goal.invariant-loop-core
invariant-loop-core g l = record {
  progress : Progress (loaded_of l.image) l.limits l.core (g.S.Source.left l.fn.src) (g.S.Source.left l.src)
      (g.S.Source.log l.fn.src) (g.S.Source.log l.src);
  count : g.S.Source.faults l.fn.src ≤ g.S.Source.faults l.src;
  beside : g.S.Source.aside l.src ≡ g.S.Source.aside l.fn.src;
}

-- the limit on the number of messages, less those that were taken
abbrev pub decreases-loop-core : goal.decreases-loop-core
decreases-loop-core g l = l.limits.messages + 1 - l.core.count
