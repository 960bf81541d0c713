-- What a report sees of memory.
use Rattle.std.specs.Prelude.{ℕ, ◌≡◌, ◌⊎◌, ◌+◌, ◌-◌, ◌%◌, ◌<◌, Bool, true, false, nat_lt, ◌==◌, Option, None}
use Rattle.std.specs.Prelude.{Some, slice_index, slice_index_or, if◌then◌else◌}
use Rattle.tandem_base.specs.declared.extent.Extent.{Extent}
use Rattle.elf_image.specs.Images.{Loaded}
use Rattle.byte_memory.specs.declared.capture.Capture.{Capture}
use Rattle.byte_memory.specs.declared.capture.Foreign.{Foreign}
use Rattle.byte_memory.specs.declared.writer.Cell.{Cell}
use Rattle.byte_memory.specs.declared.writer.Writer.{Writer}
use Rattle.byte_memory.specs.declared.memory.Memory.{Memory}
use Rattle.tandem_base.specs.Extents.{is_among}
use Rattle.byte_memory.specs.Memory.{written_at, foreign_writer, other_writer, cell_at}
use Rattle.tandem_base.specs.Places.{comes_before}

-- the extent lies in more than one aligned doubleword
abbrev pub crosses : Extent → Bool
crosses extent = nat_lt 8 (extent.addr % 8 + extent.len)

-- the address of the first byte that a capture of the extent has: that of its aligned doubleword, or its own
abbrev pub capture_base : Extent → ℕ
capture_base extent = if crosses extent then extent.addr else extent.addr - extent.addr % 8

-- how many bytes it has: those of the doubleword, or the extent's own
abbrev pub capture_size : Extent → ℕ
capture_size extent = if crosses extent then extent.len else 8

-- byte k of the `size` bytes from `base` up: past them there is 0, with no writer
abbrev pub cell_from : Memory → Loaded → ℕ → ℕ → ℕ → Cell
cell_from memory image base size k =
    if nat_lt k size then cell_at memory image (base + k) else record { value = 0; last = None; other = None }

-- for byte k of the `size` bytes from `base` up, the last writer of another hart than its last one's
abbrev pub other_from : Memory → ℕ → ℕ → ℕ → Option Writer
other_from memory base size k = if nat_lt k size then other_writer (written_at memory (base + k)) else None

-- byte k of a capture of the extent
abbrev pub captured : Memory → Loaded → Extent → ℕ → Cell
captured memory image extent k = cell_from memory image (capture_base extent) (capture_size extent) k

-- the capture has what memory, over the image, holds of the extent
pub record Sees (memory : Memory) (image : Loaded) (extent : Extent) (capture : Capture) : Type 0 where
  pub base : capture.base ≡ capture_base extent
  pub value : (k : ℕ) → k < 8 → slice_index capture.values k ≡ (captured memory image extent k).value
  pub last : (k : ℕ) → k < 8 → slice_index_or capture.last k None ≡ (captured memory image extent k).last

-- where the aligned block of this size that holds addr begins
abbrev pub block_base : ℕ → ℕ → ℕ
block_base addr block = addr - addr % block

-- the latest store by another hart to one of `size` bytes from `base` up, and the lowest of these that it wrote
pub record IsLatestForeign (memory : Memory) (hart base size : ℕ) (found : Foreign) : Type 0 where
  pub inside : is_among base size found.at ≡ true
  pub wrote : foreign_writer hart (written_at memory found.at) ≡ Some found.writer
  pub latest : (x : ℕ) (w : Writer) → is_among base size x ≡ true → foreign_writer hart (written_at memory x) ≡ Some w
      → comes_before found.writer.place w.place ≡ false
  pub lowest : (x : ℕ) (w : Writer) → is_among base size x ≡ true → x < found.at →
      foreign_writer hart (written_at memory x) ≡ Some w
      → comes_before w.place found.writer.place ≡ true

-- it is that store, or there is none
abbrev pub FindsForeign : Memory → ℕ → ℕ → ℕ → Option Foreign → Type 0
FindsForeign memory hart base size None = (x : ℕ) → is_among base size x ≡ true →
    foreign_writer hart (written_at memory x) ≡ None
FindsForeign memory hart base size (Some found) = IsLatestForeign memory hart base size found

-- there is a writer, and it comes after what was found
abbrev pub is_later : Option Foreign → Option Writer → Bool
is_later found None = false
is_later None (Some w) = true
is_later (Some f) (Some w) = comes_before f.writer.place w.place
