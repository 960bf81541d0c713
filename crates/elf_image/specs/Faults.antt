-- The faults that both readers know, and how a reader answers.
use Rattle.std.specs.Prelude.{ℕ, ◌≡◌, ◌+◌, ◌^◌, ◌⊎◌, nat_lt, if◌then◌else◌, List, length, Option, None, Some, Result}
use Rattle.std.specs.Prelude.{Ok, Err}
use Rattle.elf_image.specs.declared.fault.ImageFault.{ImageFault}
use Rattle.elf_image.specs.declared.fault.ImageFault.TheVariants as fault
use Rattle.elf_image.specs.declared.fault.TooLarge.TheVariants as limit
use Rattle.elf_image.specs.Images.{ImageOf, Loaded, loaded_of}

-- a file of more than 2^28 bytes: it is read up to one byte past that
abbrev pub file_fault : List ℕ → Option ImageFault
file_fault bytes =
    if nat_lt (2 ^ 28) (length bytes) then Some (fault.TooLarge (limit.File (2 ^ 28 + 1))) else None

-- segments and RAM: at most 64 ranges, of at most 2^40 bytes together
abbrev pub limit_fault : ℕ → ℕ → Option ImageFault
limit_fault count size =
    if nat_lt 64 count then Some (fault.TooLarge (limit.Ranges count))
    else if nat_lt (2 ^ 40) size then Some (fault.TooLarge (limit.Sum size))
    else None

-- a reader answers what the file and the RAM mean, or that memory is wanting
abbrev pub Reads : Result ImageOf ImageFault → Result Loaded ImageFault → Type 0
Reads (Ok image) meaning = meaning ≡ Ok (loaded_of image)
Reads (Err found) meaning = (found ≡ fault.Memory) ⊎ (meaning ≡ Err found)
