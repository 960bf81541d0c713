-- Flat files: the bytes of one segment.
use Rattle.std.specs.Prelude.{ℕ, ◌+◌, ◌^◌, nat_lt, if◌then◌else◌, List, [], ◌∷◌, map, length, sum_by, Option, None}
use Rattle.std.specs.Prelude.{Some, Result}
use Rattle.elf_image.specs.declared.fault.ImageFault.{ImageFault}
use Rattle.elf_image.specs.declared.fault.ImageFault.TheVariants as fault
use Rattle.elf_image.specs.declared.ram.Ram.{Ram}
use Rattle.elf_image.specs.Images.{Segment, Loaded, loaded_of}
use Rattle.elf_image.specs.Rams.{span_of}
use Rattle.elf_image.specs.Faults.{file_fault, limit_fault}
use Rattle.tandem_base.specs.FirstFault.{◌or_else◌, unless}

-- the whole file at `base`; an empty file makes no segment
abbrev pub flat_segments : List ℕ → ℕ → List Segment
flat_segments [] base = []
flat_segments (b ∷ bytes) base =
    record { base = base; bytes = b ∷ bytes; size = length (b ∷ bytes) } ∷ []

-- the segment passes 2^64
abbrev pub flat_end_fault : List ℕ → ℕ → Option ImageFault
flat_end_fault bytes base =
    if nat_lt (2 ^ 64) (base + length bytes) then Some (fault.Segment 0) else None

-- a flat file, which begins at `base`, and RAM: the image, or the first fault
abbrev pub flat_of : List ℕ → ℕ → List Ram → Result Loaded ImageFault
flat_of bytes base rams =
    let segments = flat_segments bytes base in
    unless
    (file_fault bytes or_else flat_end_fault bytes base
    or_else limit_fault (length segments + length rams) (length bytes + sum_by (λ r. r.size) rams))
    (loaded_of (record { entry = base; segments = segments; rams = map span_of rams }))
