use Rattle.std.proofs.Common.{ℕ, ◌+◌, ◌-◌, ◌<◌, ◌≤◌, IsSome}
use Rattle.elf_image.specs.Images.{image_byte}
use Rattle.elf_image.proofs.image.Image.holds.Given as goal

abbrev pub invariant-loop-held : goal.invariant-loop-held
invariant-loop-held l = (l.held ≤ l.len) × ((k : ℕ) → k < l.held → IsSome (image_byte l.self (l.extent.addr + k)))

abbrev pub decreases-loop-held : goal.decreases-loop-held
decreases-loop-held l = l.len - l.held
