-- The live Reads and early Bypasses of a hart.
use Rattle.std.specs.Prelude.{ℕ, ◌≡◌, ◌≢◌, ◌+◌, ◌<◌, ◌≤◌, ◌==◌, ◌&&◌, ◌⊎◌, not, nat_lt, true, false, List, []}
use Rattle.std.specs.Prelude.{◌∷◌}
use Rattle.std.specs.Prelude.{◌++◌, length, map, Option, None, Some, is_some, if◌then◌else◌}
use Rattle.std.specs.List.{filter}
use Rattle.tandem_base.specs.declared.names.Position.{Position}
use Rattle.tandem_base.specs.declared.extent.Extent.{Extent}
use Rattle.tandem_base.specs.Extents.{is_among}
use Rattle.tandem_base.specs.Places.{comes_before}
use Rattle.msg_frames.specs.Pieces.{has}
use Rattle.tag_window.specs.declared.reports.Read.{Read}
use Rattle.tag_window.specs.declared.reports.Early.{Early}
use Rattle.tag_window.specs.declared.counting.Counting.{Counting}
use Rattle.tag_window.specs.declared.counting.Counting.TheVariants.{All, Missing}
use Rattle.tandem_base.specs.declared.room.Took.{Took}
use Rattle.tandem_base.specs.declared.room.Took.TheVariants.{Yes, Full}

-- a report with the tag that it was given
pub record Tagged (T : Type 0) : Type 0 where
  pub tag : ℕ
  pub item : T

-- the live Reads and the early Bypasses, each the newest first, and how many there may be together
pub record Window : Type 0 where
  pub reads : List (Tagged Read)
  pub bypasses : List (Tagged Early)
  pub capacity : ℕ

-- how many there are
abbrev pub live_count : Window → ℕ
live_count window = length window.reads + length window.bypasses

-- the reports after the answer to one more
abbrev pub after_one : {T : Type 0} → Took → Tagged T → List (Tagged T) → List (Tagged T)
after_one Yes x xs = x ∷ xs
after_one (Full n) x xs = xs

module _ {T : Type 0} where
  -- those of tags below this one
  abbrev pub below : ℕ → List (Tagged T) → List (Tagged T)
  below tag xs = filter (λ x. nat_lt x.tag tag) xs

  -- those of tags above this one
  abbrev pub above : ℕ → List (Tagged T) → List (Tagged T)
  above tag xs = filter (λ x. nat_lt tag x.tag) xs

  -- those of other tags
  abbrev pub without : ℕ → List (Tagged T) → List (Tagged T)
  without tag xs = filter (λ x. not (x.tag == tag)) xs

  -- the newest that was given this tag
  abbrev pub newest_under : ℕ → List (Tagged T) → Option T
  newest_under tag [] = None
  newest_under tag (x ∷ xs) = if x.tag == tag then Some x.item else newest_under tag xs

  -- one of them was given this tag
  abbrev pub Has : ℕ → List (Tagged T) → Type 0
  Has tag [] = ⊥
  Has tag (x ∷ xs) = (x.tag ≡ tag) ⊎ Has tag xs

  -- none of them was given a tag below this one
  abbrev pub AllFrom : ℕ → List (Tagged T) → Type 0
  AllFrom tag [] = Unit {0}
  AllFrom tag (x ∷ xs) = (tag ≤ x.tag) × AllFrom tag xs

  -- the lowest tag that one of them was given is this one, and below a bound; or none is below it
  abbrev pub IsLowestGiven : ℕ → Option ℕ → List (Tagged T) → Type 0
  IsLowestGiven bound None xs = AllFrom bound xs
  IsLowestGiven bound (Some tag) xs = (tag < bound) × Has tag xs × AllFrom tag xs

-- the Read that counts for the byte at x of a load with this tag: the newest of the tag that has the byte
abbrev pub read_counting : ℕ → ℕ → List (Tagged Read) → Option Read
read_counting tag x [] = None
read_counting tag x (r ∷ rs) = if (r.tag == tag) && has r.item.piece x then Some r.item else read_counting tag x rs

-- the bytes at `addr + k` and at `addr + j` count from the same Read, and those below `addr + j` don't: byte k of the
-- load is in the part that begins with byte j
pub record IsInPart (tag addr : ℕ) (reads : List (Tagged Read)) (k j : ℕ) : Type 0 where
  pub counts : is_some (read_counting tag (addr + k) reads) ≡ true
  pub upto : j ≤ k
  pub same : read_counting tag (addr + j) reads ≡ read_counting tag (addr + k) reads
  pub lowest : (i : ℕ) → i < j → read_counting tag (addr + i) reads ≢ read_counting tag (addr + k) reads

-- no Read counts for the byte at this address of the extent, and one counts for each of those below it
pub record IsLowestMissing (tag : ℕ) (extent : Extent) (reads : List (Tagged Read)) (at : ℕ) : Type 0 where
  pub inside : is_among extent.addr extent.len at ≡ true
  pub missing : read_counting tag at reads ≡ None
  pub lowest : (x : ℕ) → extent.addr ≤ x → x < at → is_some (read_counting tag x reads) ≡ true

-- a fact where each byte has a Read
abbrev pub IfAll : Counting → (List ℕ → Type 0) → Type 0
IfAll (All parts) P = P parts
IfAll (Missing at) P = Unit {0}

-- a fact where a byte has none
abbrev pub IfMissing : Counting → (ℕ → Type 0) → Type 0
IfMissing (All parts) P = Unit {0}
IfMissing (Missing at) P = P at

-- the places of the Reads
abbrev pub places_of_reads : List (Tagged Read) → List Position
places_of_reads rs = map (λ r. r.item.seen.place) rs

-- the places of the Bypasses
abbrev pub places_of_bypasses : List (Tagged Early) → List Position
places_of_bypasses bs = map (λ b. b.item.seen.seen.place) bs

-- each of the places comes before this one
abbrev pub AllEarlier : Position → List Position → Type 0
AllEarlier place [] = Unit {0}
AllEarlier place (p ∷ ps) = (comes_before p place ≡ true) × AllEarlier place ps

-- it is one of the places
abbrev pub Among : Position → List Position → Type 0
Among place [] = ⊥
Among place (p ∷ ps) = (p ≡ place) ⊎ Among place ps

-- none of the places comes before this one
abbrev pub NoneEarlier : Position → List Position → Type 0
NoneEarlier place [] = Unit {0}
NoneEarlier place (p ∷ ps) = (comes_before p place ≡ false) × NoneEarlier place ps

-- it is one of the places, and none of them comes before it; or there are none
abbrev pub IsEarliest : List Position → Option Position → Type 0
IsEarliest ps None = ps ≡ []
IsEarliest ps (Some place) = Among place ps × NoneEarlier place ps

-- the place of the oldest report
abbrev pub IsOldestOf : Window → Option Position → Type 0
IsOldestOf window oldest = IsEarliest (places_of_reads window.reads ++ places_of_bypasses window.bypasses) oldest

-- all reports came before this message
abbrev pub ComesAfter : ℕ → Window → Type 0
ComesAfter message window = AllEarlier (record { message = message; insert = message }) (places_of_reads window.reads)
    × AllEarlier (record { message = message; insert = message }) (places_of_bypasses window.bypasses)
