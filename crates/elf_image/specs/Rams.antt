-- RAM as it is asked for.
use Rattle.std.specs.Prelude.{◌+◌, ◌^◌, ◌≤◌}
use Rattle.elf_image.specs.declared.ram.Ram.{Ram}
use Rattle.elf_image.specs.Images.{Span}

-- RAM that has an address, and doesn't pass 2^64
abbrev pub IsRam : Ram → Type 0
IsRam ram = (1 ≤ ram.size) × (ram.base + ram.size ≤ 2 ^ 64)

-- the range of an image that this RAM makes
abbrev pub span_of : Ram → Span
span_of ram = record { base = ram.base; size = ram.size }
