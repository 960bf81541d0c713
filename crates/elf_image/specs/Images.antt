-- What an image is: the address at which a run begins, and the byte at each address before it.
use Rattle.std.specs.Prelude.{ℕ, ◌+◌, ◌-◌, ◌^◌, nat_le, if◌then◌else◌, List, [], ◌∷◌}
use Rattle.std.specs.Prelude.{slice_index, unwrap_or, Option, None, Some, IsSome}
use Rattle.std.specs.List.{find}
use Rattle.std.specs.Option.{option_map, option_or}
use Rattle.std.specs.Int.{w32, from_le_bytes}
use Rattle.tandem_base.specs.declared.extent.Extent.{Extent}
use Rattle.tandem_base.specs.Extents.{is_among, Covers}

-- a segment: its bytes from the file, from `base` up, then zeros up to `size` bytes
pub record Segment : Type 0 where
  pub base : ℕ
  pub bytes : List ℕ
  pub size : ℕ

-- RAM: `size` zeros from `base` up
pub record Span : Type 0 where
  pub base : ℕ
  pub size : ℕ

-- the ranges of an image, and the address at which a run begins
pub record ImageOf : Type 0 where
  pub entry : ℕ
  pub segments : List Segment
  pub rams : List Span

-- the byte at x of the first segment that holds x: 0 past the bytes from the file
abbrev pub segment_byte : List Segment → ℕ → Option ℕ
segment_byte segments x =
    option_map (λ s. slice_index s.bytes (x - s.base)) (find (λ s. is_among s.base s.size x) segments)

-- the byte at x of RAM: 0
abbrev pub ram_byte : List Span → ℕ → Option ℕ
ram_byte rams x = option_map (λ _. 0) (find (λ r. is_among r.base r.size x) rams)

-- the byte at x, None where no range holds x: a segment wins over RAM
unfoldable pub image_byte : ImageOf → ℕ → Option ℕ
image_byte image x = option_or (segment_byte image.segments x) (ram_byte image.rams x)

-- what can be looked up in an image: where a run begins, and the byte at each address, None where there is none
pub record Loaded : Type 0 where
  pub entry : ℕ
  pub byte_at : ℕ → Option ℕ

-- what can be looked up in these ranges
abbrev pub loaded_of : ImageOf → Loaded
loaded_of image = record { entry = image.entry; byte_at = image_byte image }

-- the initial value of the byte at x: that of the image, or 0 where it has none
abbrev pub initial_byte : Loaded → ℕ → ℕ
initial_byte image x = unwrap_or (image.byte_at x) 0

-- the number in four bytes, lowest first
abbrev pub word_of_bytes : Option ℕ → Option ℕ → Option ℕ → Option ℕ → Option ℕ
word_of_bytes (Some a) (Some b) (Some c) (Some d) = Some (from_le_bytes w32 (a ∷ b ∷ c ∷ d ∷ []))
word_of_bytes _ _ _ _ = None

-- the word at an address, None where one of its bytes has no range or is past 2^64
unfoldable pub word_at : Loaded → ℕ → Option ℕ
word_at image addr =
    if nat_le addr (2 ^ 64 - 4)
    then
    word_of_bytes (image.byte_at addr) (image.byte_at (addr + 1)) (image.byte_at (addr + 2))
    (image.byte_at (addr + 3))
    else None

-- every byte of the extent is in a range
abbrev pub Holds : Loaded → Extent → Type 0
Holds image extent = (x : ℕ) → Covers extent x → IsSome (image.byte_at x)
