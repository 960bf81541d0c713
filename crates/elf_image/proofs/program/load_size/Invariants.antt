use Rattle.std.proofs.Common.{◌≡◌, ◌*◌, ◌^◌, ◌≤◌, take, sum_by}
use Rattle.elf_image.proofs.program.load_size.Given as goal

abbrev pub invariant-loop-load : goal.invariant-loop-load
invariant-loop-load l = (l.size ≡ sum_by (λ load. load.size) (take l.load-index l.loads)) ×
    (l.size ≤ l.load-index * 2 ^ 64)
