-- Images that no look-up tells apart.
use Rattle.std.proofs.Common.{◌≡◌, ◌∙◌, ℕ, ◌+◌, List, length, map, sum_by, refl, ap, Option, None, Some, Ok, Err}
use Rattle.std.specs.Option.{option_or}
use Rattle.std.proofs.Math.Path.{fun_ext}
use Rattle.elf_image.specs.declared.program.ProgramHeader.{ProgramHeader}
use Rattle.elf_image.specs.declared.ram.Ram.{Ram}
use Rattle.elf_image.specs.declared.range.Range.{Range}
use Rattle.elf_image.specs.declared.fault.ImageFault.{ImageFault}
use Rattle.elf_image.specs.Elf.{elf_of, header_fault, loadable, loads_fault, loads_image, overlap_fault, segment_fault}
use Rattle.elf_image.specs.Faults.{file_fault, limit_fault}
use Rattle.tandem_base.specs.FirstFault.{passed, unless}
use Rattle.elf_image.specs.Images.{Loaded, loaded_of, Segment, Span, image_byte, segment_byte, ram_byte}
use Rattle.elf_image.specs.Rams.{span_of}
use Rattle.elf_image.specs.Tables.{image_in, image_over, segment_in, span_in}

abbrev looked_up : ℕ → (ℕ → Option ℕ) → Loaded
looked_up entry bytes = record { entry = entry; byte_at = bytes }

-- look-ups with the same entry and the same bytes are the same
pub same_loaded : (entry : ℕ) (bytes bytes' : ℕ → Option ℕ) → ((x : ℕ) → bytes x ≡ bytes' x)
    → looked_up entry bytes ≡ looked_up entry bytes'
same_loaded entry bytes bytes' same = ap (looked_up entry) (fun_ext same)

-- another table of RAM
pub same_over : (entry : ℕ) (segments table : List Range) (file file' : List ℕ) (rams : List Ram) → file ≡ file'
    → ((x : ℕ) → ram_byte (map span_in table) x ≡ ram_byte (map span_of rams) x)
    → loaded_of (image_in entry segments table file) ≡ loaded_of (image_over entry segments file' rams)
unfolding image_byte
same_over entry segments table file file' rams copied same =
    same_loaded entry _ _
    (λ x.
    ap (λ f. option_or (segment_byte (map (segment_in f) segments) x) (ram_byte (map span_in table) x)) copied
    ∙ ap (λ o. option_or (segment_byte (map (segment_in file') segments) x) o) (same x))

-- another table of segments
pub same_segments : (entry : ℕ) (table segments : List Segment) (rams : List Span)
    → ((x : ℕ) → segment_byte table x ≡ segment_byte segments x)
    → loaded_of (record { entry = entry; segments = table; rams = rams })
    ≡ loaded_of (record { entry = entry; segments = segments; rams = rams })
unfolding image_byte
same_segments entry table segments rams same =
    same_loaded entry _ _ (λ x. ap (λ o. option_or o (ram_byte rams x)) (same x))

-- nothing is wrong where a check passed
pub none_wrong : (found : Option ImageFault) (u : Unit {0}) → Ok u ≡ passed found → found ≡ None
none_wrong None u e = refl
none_wrong (Some fault) u e = absurd (cc)

-- segments without a fault are an image
pub loads_read : (file_len : ℕ) (loads : List ProgramHeader) (rams : List Ram) (image : Loaded)
    → segment_fault file_len loads ≡ None
    → limit_fault (length loads + length rams) (sum_by (λ h. h.size) loads + sum_by (λ r. r.size) rams) ≡ None
    → overlap_fault loads ≡ None → unless (loads_fault file_len loads rams) image ≡ Ok image
loads_read file_len loads rams image placed limits once = rw (placed, limits, once) refl

-- what a check found wrong
pub some_wrong : (found : Option ImageFault) (fault : ImageFault) → Err fault ≡ passed found → found ≡ Some fault
some_wrong None fault e = absurd (cc)
some_wrong (Some other) fault e = cc

-- a file whose header is right means what its segments mean
pub header_read : (bytes : List ℕ) (rams : List Ram) → file_fault bytes ≡ None → header_fault bytes ≡ None
    → elf_of bytes rams
    ≡ unless (loads_fault (length bytes) (loadable bytes) rams) (loads_image bytes (loadable bytes) rams)
header_read bytes rams short right = rw (short, right) refl

-- and one whose header isn't means its fault
pub header_wrong : (bytes : List ℕ) (rams : List Ram) (fault : ImageFault) → file_fault bytes ≡ None
    → header_fault bytes ≡ Some fault → elf_of bytes rams ≡ Err fault
header_wrong bytes rams fault short wrong = rw (short, wrong) refl
