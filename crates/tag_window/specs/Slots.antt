-- What stands in the slots of the reports that are there.
use Rattle.std.specs.Prelude.{ℕ, ◌≡◌, ◌≢◌, ◌<◌, ◌≤◌, Bool, true, List, [], ◌∷◌, length, map, Option, None, Some}
use Rattle.std.specs.Prelude.{◌+◌, is_some, slice_index_or, if◌then◌else◌}
use Rattle.tandem_base.specs.Places.{comes_before}
use Rattle.tandem_base.specs.declared.extent.Extent.{Extent}
use Rattle.tandem_base.specs.declared.names.Position.{Position}
use Rattle.byte_memory.specs.declared.capture.Capture.{Capture}
use Rattle.slab.specs.Slab.{Slab, get, slab_len}
use Rattle.tag_window.specs.declared.links.Link.{Link}
use Rattle.tag_window.specs.declared.order.Arrival.{Arrival}
use Rattle.tag_window.specs.Order.{IsTagChain}
use Rattle.tag_window.specs.declared.reports.Read.{Read}
use Rattle.tag_window.specs.declared.reports.Early.{Early}
use Rattle.msg_frames.specs.Pieces.{has}
use Rattle.tag_window.specs.Windows.{Tagged}

-- the reports in the slots, each with its tag; `none` stands where there is no slot
abbrev pub tagged : {T : Type 0} → T → List T → List Arrival → List (Tagged T)
tagged none items cs = map (λ a. record { tag = a.tag; item = slice_index_or items a.slot none }) cs

-- each has its slot, and the report there has its place
abbrev pub AreIn : {T : Type 0} → (T → Position) → T → List T → List Arrival → Type 0
AreIn place none items [] = Unit {0}
AreIn place none items (a ∷ cs) =
    (a.slot < length items) × (place (slice_index_or items a.slot none) ≡ a.place) × AreIn place none items cs

-- what was never seen
abbrev pub no_capture : Capture
no_capture = record { place = record { message = 0; insert = 0 }; base = 0; values = []; last = [] }

-- a Read that was never made
abbrev pub no_read : Read
no_read = record { piece = record { addr = 0; bytes = [] }; seen = no_capture }

-- a Bypass that was never made
abbrev pub no_bypass : Early
no_bypass = record {
  piece = record { addr = 0; bytes = [] };
  seen = record { seen = no_capture; other = []; foreign = None };
}

-- where a Read came
abbrev pub place_of_read : Read → Position
place_of_read r = r.seen.place

-- where a Bypass came
abbrev pub place_of_bypass : Early → Position
place_of_bypass b = b.seen.seen.place

-- the slots of these reports are below this number
abbrev pub AllWithin : ℕ → List Arrival → Type 0
AllWithin size [] = Unit {0}
AllWithin size (a ∷ cs) = (a.slot < size) × AllWithin size cs

-- from this slot the links lead through reports in slots below this number, of which there are no more than links
pub record AreLinked (links : Slab Link) (head : Option ℕ) (size : ℕ) : Type 0 where
  pub reports : List Arrival
  pub chain : IsTagChain (get links) head reports
  pub within : AllWithin size reports
  pub fits : length reports ≤ slab_len links

-- the slot of the first of these Reads that has the byte at x
abbrev pub slot_with : ℕ → List Read → List Arrival → Option ℕ
slot_with x items [] = None
slot_with x items (a ∷ cs) =
    if has (slice_index_or items a.slot no_read).piece x then Some a.slot else slot_with x items cs

-- the first of the linked Reads that has the byte at x is in this slot, None where none has it
abbrev pub FindsAt : Slab Link → Option ℕ → List Read → ℕ → Option ℕ → Type 0
FindsAt links head items x slot = (cs : List Arrival) → IsTagChain (get links) head cs → slot ≡ slot_with x items cs

-- there is a first slot, and the Read in it has all bytes of a load
pub record HasAll (items : List Read) (head : Option ℕ) (load : Extent) : Type 0 where
  pub slot : ℕ
  pub first : head ≡ Some slot
  pub all : (k : ℕ) → k < load.len → has (slice_index_or items slot no_read).piece (load.addr + k) ≡ true

-- the slot of a byte, once a Read in this one was seen that has the byte or not: the first such stays
abbrev pub noted : Bool → ℕ → Option ℕ → Option ℕ
noted has slot None = if has then Some slot else None
noted has slot (Some first) = Some first

-- k is the lowest of so many numbers that has no slot
pub record IsFirstWithout (slots : List (Option ℕ)) (len k : ℕ) : Type 0 where
  pub inside : k < len
  pub without : slice_index_or slots k None ≡ None
  pub lowest : (i : ℕ) → i < k → is_some (slice_index_or slots i None) ≡ true

-- j is the lowest number up to k with the same slot as k
pub record IsFirstSame (slots : List (Option ℕ)) (k j : ℕ) : Type 0 where
  pub upto : j ≤ k
  pub same : slice_index_or slots j None ≡ slice_index_or slots k None
  pub lowest : (i : ℕ) → i < j → slice_index_or slots i None ≢ slice_index_or slots k None

-- the earlier of two places, where there are two
abbrev pub earlier_position : Option Position → Option Position → Option Position
earlier_position None b = b
earlier_position (Some p) None = Some p
earlier_position (Some p) (Some q) = if comes_before q p then Some q else Some p
