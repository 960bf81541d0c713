-- ELF64 files: the image that one describes, or its first fault.
use Rattle.std.specs.Prelude.{ℕ, ◌+◌, ◌*◌, ◌%◌, ◌^◌, ◌==◌, Bool, not, ◌&&◌, ◌||◌, nat_eq, nat_lt, if◌then◌else◌, List}
use Rattle.std.specs.Prelude.{[], ◌∷◌, map, length, sum_by, take, drop, slice_index, Option, None, Some, Result}
use Rattle.std.specs.List.{filter, find, range_with_len, starts_with}
use Rattle.std.specs.Option.{option_map}
use Rattle.elf_image.specs.declared.fault.ImageFault.{ImageFault}
use Rattle.elf_image.specs.declared.fault.ImageFault.TheVariants as fault
use Rattle.elf_image.specs.declared.program.ProgramHeader.{ProgramHeader}
use Rattle.elf_image.specs.declared.ram.Ram.{Ram}
use Rattle.elf_image.specs.Images.{Segment, Loaded, loaded_of}
use Rattle.elf_image.specs.Rams.{span_of}
use Rattle.elf_image.specs.Faults.{file_fault, limit_fault}
use Rattle.tandem_base.specs.Fields.{u16_at, u32_at, u64_at}
use Rattle.tandem_base.specs.FirstFault.{◌or_else◌, unless}

-- where a run begins: e_entry of the file header
abbrev pub entry_address : List ℕ → ℕ
entry_address bytes = u64_at 24 bytes

-- where the program header table begins: e_phoff
abbrev pub table_offset : List ℕ → ℕ
table_offset bytes = u64_at 32 bytes

-- how many entries it has: e_phnum
abbrev pub header_count : List ℕ → ℕ
header_count bytes = u16_at 56 bytes

-- 7F and "ELF"
abbrev pub has_magic : List ℕ → Bool
has_magic bytes = starts_with nat_eq bytes (127 ∷ 69 ∷ 76 ∷ 70 ∷ [])

-- ELFCLASS64, ELFDATA2LSB and EV_CURRENT
abbrev pub has_class : List ℕ → Bool
has_class bytes = (slice_index bytes 4 == 2) && (slice_index bytes 5 == 1) && (slice_index bytes 6 == 1)

-- the entries of the table have 56 bytes; a table without entries may say anything
abbrev pub has_entry_size : List ℕ → Bool
has_entry_size bytes = (header_count bytes == 0) || (u16_at 54 bytes == 56)

-- the table lies within the file; one without entries lies anywhere
abbrev pub has_table : List ℕ → Bool
has_table bytes =
    (header_count bytes == 0) || not (nat_lt (length bytes) (table_offset bytes + 56 * header_count bytes))

-- the first fault of the file header: ET_EXEC is 2, and RISC-V is 243
unfoldable pub header_fault : List ℕ → Option ImageFault
header_fault bytes =
    if nat_lt (length bytes) 64 || not (has_magic bytes) then Some fault.NotElf
    else if not (has_class bytes) then Some fault.Class
    else if not (u16_at 16 bytes == 2) then Some fault.Kind
    else if not (u16_at 18 bytes == 243) then Some fault.Machine
    else if not (entry_address bytes % 4 == 0) then Some (fault.Headers 24)
    else if not (has_entry_size bytes) then Some (fault.Headers 54)
    else if not (has_table bytes) then Some (fault.Headers 32)
    else None

-- the program header at a place of the table: p_type, p_offset, p_paddr, p_filesz and p_memsz
abbrev pub program_header : List ℕ → ℕ → ProgramHeader
program_header bytes index =
    let at = table_offset bytes + 56 * index in
    record {
      index = index;
      kind = u32_at at bytes;
      offset = u64_at (at + 8) bytes;
      address = u64_at (at + 24) bytes;
      file_size = u64_at (at + 32) bytes;
      size = u64_at (at + 40) bytes;
    }

-- a segment to be loaded, PT_LOAD, that takes memory
abbrev pub is_loadable : ProgramHeader → Bool
is_loadable header = (header.kind == 1) && nat_lt 0 header.size

-- those of the file, in the table's order
abbrev pub loadable : List ℕ → List ProgramHeader
loadable bytes = filter is_loadable (map (program_header bytes) (range_with_len 0 (header_count bytes)))

-- file bytes past the file's end, more of them than the segment has, or addresses past 2^64;
-- an empty run of file bytes lies anywhere
abbrev pub is_misplaced : ℕ → ProgramHeader → Bool
is_misplaced file_len header =
    (nat_lt 0 header.file_size && nat_lt file_len (header.offset + header.file_size))
    || nat_lt header.size header.file_size
    || nat_lt (2 ^ 64) (header.address + header.size)

-- the first segment that is misplaced
abbrev pub segment_fault : ℕ → List ProgramHeader → Option ImageFault
segment_fault file_len loads = option_map (λ h. fault.Segment h.index) (find (is_misplaced file_len) loads)

-- two ranges share an address
abbrev pub shares_address : ProgramHeader → ProgramHeader → Bool
shares_address a b = nat_lt a.address (b.address + b.size) && nat_lt b.address (a.address + a.size)

-- the first segment that shares an address with a later one, and the first such later one
abbrev pub overlap_fault : List ProgramHeader → Option ImageFault
overlap_fault [] = None
overlap_fault (a ∷ rest) =
    option_map (λ b. fault.Overlap a.index b.index) (find (shares_address a) rest) or_else overlap_fault rest

-- the segment that a program header loads
abbrev pub segment_of : List ℕ → ProgramHeader → Segment
segment_of bytes header =
    record { base = header.address; bytes = take header.file_size (drop header.offset bytes); size = header.size }

-- the first fault of the segments to be loaded from a file of that length, and RAM
abbrev pub loads_fault : ℕ → List ProgramHeader → List Ram → Option ImageFault
loads_fault file_len headers rams =
    segment_fault file_len headers
    or_else limit_fault (length headers + length rams) (sum_by (λ h. h.size) headers + sum_by (λ r. r.size) rams)
    or_else overlap_fault headers

-- the image of the segments to be loaded from these bytes, and RAM
abbrev pub loads_image : List ℕ → List ProgramHeader → List Ram → Loaded
loads_image bytes headers rams =
    loaded_of
    (record { entry = entry_address bytes; segments = map (segment_of bytes) headers; rams = map span_of rams })

-- an ELF64 file and RAM: the image, or the first fault
abbrev pub elf_of : List ℕ → List Ram → Result Loaded ImageFault
elf_of bytes rams =
    unless
    (file_fault bytes or_else header_fault bytes or_else loads_fault (length bytes) (loadable bytes) rams)
    (loads_image bytes (loadable bytes) rams)
