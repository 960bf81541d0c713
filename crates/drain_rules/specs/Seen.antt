-- The least tags of parts.
use Rattle.std.specs.Prelude.{ℕ, zero, suc, ◌+◌, ◌%◌, ◌≡◌, ◌<◌, ◌≤◌, min, nat_lt, ◌||◌, Bool, Option, None, Some}
use Rattle.std.specs.Prelude.{length, slice_index_or, is_some, if◌then◌else◌}
use Rattle.tandem_base.specs.Extents.{is_among}
use Rattle.tandem_base.specs.declared.names.OpName.{OpName}
use Rattle.merge_buffer.specs.declared.waiting.Part.{Part}
use Rattle.merge_buffer.specs.Parts.{IsWithinLine}
use Rattle.store_buffer.specs.declared.store.Entry.{Entry}
use Rattle.tandem_base.specs.declared.extent.Extent.{Extent}
use Rattle.store_buffer.specs.Stores.{StoreList}
use Rattle.store_buffer.specs.Waiting.{waiting_below}
use Rattle.drain_rules.specs.declared.bound.Bound.{Bound}
use Rattle.drain_rules.specs.declared.rule.DrainRule.{DrainRule}
use Rattle.drain_rules.specs.declared.seen.Seen.{Seen}
use Rattle.drain_rules.specs.declared.worst.Worst.{Worst}
use Rattle.drain_rules.specs.declared.rule.DrainRule.TheVariants.{Overlap, Fence, Release}
use Rattle.drain_rules.specs.Answers.{IsBoundOf, entry_under, name_by, lesser_of}

-- the greatest tag: none that a bound asks for is below it
abbrev pub no_tag : ℕ
no_tag = 18446744073709551615

-- the least tag at byte j of the line
abbrev pub byte_least : Seen → ℕ → ℕ
byte_least s j = slice_index_or s.bytes j no_tag

-- the least tag at the n bytes from byte k up, by their places in a line
abbrev pub least_among : Seen → ℕ → ℕ → ℕ
least_among s k zero = no_tag
least_among s k (suc n) = min (least_among s k n) (byte_least s ((k + n) % 64))

-- the least tag at the bytes of an extent, or of all
abbrev pub least_over : Seen → Option Extent → ℕ
least_over s None = s.all
least_over s (Some e) = least_among s (e.addr % 64) e.len

-- a store that waits, or a part that was seen, is one of these
abbrev pub sees_first : StoreList → Seen → Bound → Bool
sees_first list s b =
    is_some (waiting_below list.hart list.stores b.below b.over) || nat_lt (least_over s b.over) b.below

-- the tag at byte i once those at n bytes from byte k up are lowered to a tag
abbrev pub lowered_byte : Seen → ℕ → ℕ → ℕ → ℕ → ℕ
lowered_byte s k n tag i = if is_among k n i then min (byte_least s i) tag else byte_least s i

-- a part is noted: its tag counts for all, and at its bytes where they lie within one line
pub record Notes (old new : Seen) (p : Part) : Type 0 where
  pub all : new.all ≡ min old.all p.tag
  pub bytes : IsWithinLine p.piece → (i : ℕ) → i < 64
      → byte_least new i ≡ lowered_byte old (p.piece.addr % 64) (length p.piece.bytes) p.tag i

-- the answer of a rule for a part, by what its bound has
abbrev pub seen_answer : StoreList → Seen → DrainRule → ℕ → OpName → Option Bound → Option Worst
seen_answer list s k index second None = None
seen_answer list s k index second (Some b) =
    if sees_first list s b then Some (record { rule = k; index = index; second = second; bound = b }) else None

-- a bound is a tag that there may be
abbrev pub IsBelowAll : Option Bound → Type 0
IsBelowAll None = Unit {0}
IsBelowAll (Some b) = b.below ≤ no_tag

-- a rule is asked of a part whose store has this entry
abbrev pub IsAnswerOf : StoreList → Seen → DrainRule → ℕ → OpName → Part → Option Entry → Option Worst → Type 0
IsAnswerOf list s k index second p e answer =
    (b : Option Bound) × IsBoundOf k p e b × IsBelowAll b × (answer ≡ seen_answer list s k index second b)

-- the answer so far, and those of the three rules for a part, which has this index
abbrev pub IsWorse : Option Worst → ℕ → ℕ → Part → Seen → StoreList → Option Worst → Type 0
IsWorse worst index hart p s list answer =
    (overlap : Option Worst) × (fence : Option Worst) × (release : Option Worst)
    × IsAnswerOf list s Overlap index (name_by hart list p) p (entry_under list p.tag) overlap
    × IsAnswerOf list s Fence index (name_by hart list p) p (entry_under list p.tag) fence
    × IsAnswerOf list s Release index (name_by hart list p) p (entry_under list p.tag) release
    × (answer ≡ lesser_of (lesser_of (lesser_of worst overlap) fence) release)
