use Rattle.std.proofs.Common.{◌≡◌, ◌*◌, ◌^◌, ◌≤◌, take, sum_by}
use Rattle.elf_image.proofs.limits.ram_size.Given as goal

abbrev pub invariant-loop-ram : goal.invariant-loop-ram
invariant-loop-ram l = (l.size ≡ sum_by (λ ram. ram.size) (take l.ram-index l.rams)) × (l.size ≤ l.ram-index * 2 ^ 64)
