-- The tables in which an image keeps its ranges.
use Rattle.std.specs.Prelude.{ℕ, ◌≡◌, ◌%◌, ◌+◌, ◌-◌, ◌≤◌, ◌<◌, max, Bool, List, [], ◌∷◌, length, map, take, drop}
use Rattle.std.specs.Prelude.{slice_index, Option, Some}
use Rattle.std.specs.List.{All, AllPairs}
use Rattle.elf_image.specs.declared.program.ProgramHeader.{ProgramHeader}
use Rattle.elf_image.specs.declared.ram.Ram.{Ram}
use Rattle.elf_image.specs.declared.range.Range.{Range}
use Rattle.elf_image.specs.Images.{Segment, Span, ImageOf, word_of_bytes}
use Rattle.tandem_base.specs.Extents.{is_among}
use Rattle.elf_image.specs.Rams.{span_of}

-- the range holds x
abbrev pub range_holds : ℕ → Range → Bool
range_holds x range = is_among range.base range.size x

-- the segment that a range of this file is
abbrev pub segment_in : List ℕ → Range → Segment
segment_in file range =
    record { base = range.base; bytes = take range.len (drop range.start file); size = range.size }

-- the byte of a range of this file at an address that it holds
abbrev pub range_byte : List ℕ → Range → ℕ → ℕ
range_byte file range x = slice_index (segment_in file range).bytes (x - range.base)

-- the word of a range of this file at an address from which it holds four bytes
abbrev pub range_word : List ℕ → Range → ℕ → Option ℕ
range_word file range x =
    word_of_bytes (Some (range_byte file range x)) (Some (range_byte file range (x + 1)))
    (Some (range_byte file range (x + 2))) (Some (range_byte file range (x + 3)))

-- the RAM that a range is
abbrev pub span_in : Range → Span
span_in range = record { base = range.base; size = range.size }

-- the first range begins and ends no later than the second
abbrev pub Climbs : Range → Range → Type 0
Climbs a b = (a.base ≤ b.base) × (a.base + a.size ≤ b.base + b.size)

-- the first range ends before the second begins
abbrev pub EndsBefore : Range → Range → Type 0
EndsBefore a b = a.base + a.size ≤ b.base

-- the range's run of file bytes lies in the range, and in the file where it isn't empty
pub record IsInFile (file : List ℕ) (range : Range) : Type 0 where
  pub in_range : range.len ≤ range.size
  pub in_file : 0 < range.len → range.start + range.len ≤ length file

-- what the tables of an image keep: segments that share no address, with their bytes in the file,
-- and RAM in the order of both its bases and its ends
pub record AreTables (entry : ℕ) (segments rams : List Range) (file : List ℕ) : Type 0 where
  pub aligned : entry % 4 ≡ 0
  pub apart : AllPairs EndsBefore segments
  pub in_file : All (IsInFile file) segments
  pub climb : AllPairs Climbs rams

-- the image that such tables give
abbrev pub image_in : ℕ → List Range → List Range → List ℕ → ImageOf
image_in entry segments rams file =
    record { entry = entry; segments = map (segment_in file) segments; rams = map span_in rams }

-- a range without addresses
abbrev pub nowhere : Range
nowhere = record { base = 0; size = 0; start = 0; len = 0 }

-- the range, reaching at least as far as the one before it
abbrev pub reaching : Range → Range → Range
reaching before range =
    record { base = range.base; size = max range.size (before.size - (range.base - before.base)); start = 0; len = 0 }

-- the ranges after one, each reaching at least as far as the one before it
abbrev pub all_reaching : Range → List Range → List Range
all_reaching before [] = []
all_reaching before (range ∷ rest) = reaching before range ∷ all_reaching (reaching before range) rest

-- the range of RAM
abbrev pub ram_range : Ram → Range
ram_range ram = record { base = ram.base; size = ram.size; start = 0; len = 0 }

-- the range of a segment to be loaded
abbrev pub load_range : ProgramHeader → Range
load_range load = record { base = load.address; size = load.size; start = load.offset; len = load.file_size }

-- the image of a table of segments of this file, and RAM
abbrev pub image_over : ℕ → List Range → List ℕ → List Ram → ImageOf
image_over entry segments file rams =
    record { entry = entry; segments = map (segment_in file) segments; rams = map span_of rams }
