-- What is first, by each of three rules, to a part that a message performs. The parts of the message stand in a list,
-- the last performed first.
use Rattle.std.specs.Prelude.{ℕ, ◌+◌, ◌-◌, ◌%◌, ◌^◌, ◌≡◌, ◌<◌, ◌≤◌, ◌⊎◌, ◌&&◌, ◌||◌, ◌==◌, nat_lt, List, length, take}
use Rattle.std.specs.Prelude.{find, Bool, true, false, Option, None, Some, is_some, slice_get, if◌then◌else◌}
use Rattle.std.specs.Option.{option_map}
use Rattle.tandem_base.specs.declared.extent.Extent.{Extent}
use Rattle.tandem_base.specs.declared.names.OpName.{OpName}
use Rattle.tandem_base.specs.FirstFault.{◌or_else◌}
use Rattle.msg_frames.specs.declared.message.Piece.{Piece}
use Rattle.merge_buffer.specs.declared.waiting.Part.{Part}
use Rattle.merge_buffer.specs.Parts.{AllOn}
use Rattle.rvwmo_model.specs.Order.{named_before}
use Rattle.store_buffer.specs.declared.store.Entry.{Entry}
use Rattle.store_buffer.specs.Stores.{StoreList, store_of_tag}
use Rattle.store_buffer.specs.Waiting.{waiting_below}
use Rattle.drain_rules.specs.declared.bound.Bound.{Bound}
use Rattle.drain_rules.specs.declared.rule.DrainRule.{DrainRule}
use Rattle.drain_rules.specs.declared.rule.DrainRule.TheVariants.{Overlap, Fence, Release}
use Rattle.drain_rules.specs.declared.worst.Worst.{Worst}

-- the manual's number
abbrev pub drain_number : DrainRule → ℕ
drain_number Overlap = 1
drain_number Fence = 4
drain_number Release = 6

-- the parts of a message: one alone, or those of a line
abbrev pub AreOfOneLine : List Part → Type 0
AreOfOneLine parts = (length parts ≤ 1) ⊎ ((line : ℕ) × AllOn line parts)

-- ---- what is looked for

-- a piece has one to eight bytes, all below 2^64
abbrev pub IsSized : Piece → Type 0
IsSized piece =
    (1 ≤ length piece.bytes) × (length piece.bytes ≤ 8) × (piece.addr + length piece.bytes ≤ 2 ^ 64)

-- the extent has the bytes of the piece
abbrev pub HasBytesOf : Piece → Option Extent → Type 0
HasBytesOf piece None = ⊥
HasBytesOf piece (Some e) = (e.addr ≡ piece.addr) × (e.len ≡ length piece.bytes)

-- stores under tags below that of a part that have one of its bytes
abbrev pub IsOverlapBound : Part → Option Bound → Type 0
IsOverlapBound p None = IsSized p.piece → ⊥
IsOverlapBound p (Some b) = (b.below ≡ p.tag) × HasBytesOf p.piece b.over

-- stores under tags below a FENCE
abbrev pub below_fence : Option ℕ → Option Bound
below_fence None = None
below_fence (Some f) = Some (record { below = f; over = None })

-- the stores that a rule puts before a part whose store has this entry: those that share a byte; those before the
-- latest FENCE; and for a release all
abbrev pub IsBoundOf : DrainRule → Part → Option Entry → Option Bound → Type 0
IsBoundOf k p None b = b ≡ None
IsBoundOf Overlap p (Some e) b = IsOverlapBound p b
IsBoundOf Fence p (Some e) b = b ≡ below_fence e.marks.fence
IsBoundOf Release p (Some e) b = b ≡ (if e.marks.release then Some (record { below = p.tag; over = None }) else None)

-- ---- what is first

-- a piece has a byte in an extent
abbrev pub shares : Extent → Piece → Bool
shares extent piece =
    nat_lt 0 (length piece.bytes) && nat_lt extent.addr (piece.addr + length piece.bytes)
    && nat_lt piece.addr (extent.addr + extent.len)

-- a piece has a byte in an extent, where there is one
abbrev pub shares_any : Option Extent → Piece → Bool
shares_any None piece = true
shares_any (Some e) piece = shares e piece

-- a part is of such a store
abbrev pub is_bounded : Bound → Part → Bool
is_bounded b q = nat_lt q.tag b.below && shares_any b.over q.piece

-- the address of a store
abbrev pub base_of : Part → Option Entry → ℕ
base_of q None = q.piece.addr
base_of q (Some e) = e.piece.addr

-- the name of a part whose store has this entry
abbrev pub part_name : ℕ → Part → Option Entry → OpName
part_name hart q e = record { hart = hart; tag = q.tag; part = (q.piece.addr - base_of q e) % 256 }

-- the entry of the store under a tag
abbrev pub entry_under : StoreList → ℕ → Option Entry
entry_under list tag = option_map (λ s. s.entry) (store_of_tag tag list.stores)

-- the name of a part of a hart with these stores
abbrev pub name_by : ℕ → StoreList → Part → OpName
name_by hart list q = part_name hart q (entry_under list q.tag)

-- the operation that is first: a store that waits, of the greatest tag, else the latest of the later parts
abbrev pub first_name : ℕ → StoreList → List Part → Bound → Option OpName
first_name hart list later b =
    waiting_below list.hart list.stores b.below b.over or_else option_map (name_by hart list) (find
    (is_bounded b) later)

-- ---- which part is reported

-- an answer comes before another: of a lesser rule, or of the same and of a second operation of lesser name
abbrev pub is_lesser : Worst → Worst → Bool
is_lesser v w =
    nat_lt (drain_number v.rule) (drain_number w.rule)
    || ((drain_number v.rule == drain_number w.rule) && named_before v.second w.second)

-- of two answers the one that comes first
abbrev pub lesser_of : Option Worst → Option Worst → Option Worst
lesser_of None w = w
lesser_of (Some v) None = Some v
lesser_of (Some v) (Some w) = if is_lesser w v then Some w else Some v

-- it is one of them, and none of them comes before it; or there is none
abbrev pub IsLeastOf : (Worst → Type 0) → Option Worst → Type 0
IsLeastOf Answers None = (w : Worst) → Answers w → ⊥
IsLeastOf Answers (Some w) = Answers w × ((v : Worst) → Answers v → is_lesser v w ≡ false)

-- a rule has an answer for a part: some store is first to it
pub record IsBrokenAt (hart : ℕ) (list : StoreList) (parts : List Part) (w : Worst) : Type 0 where
  pub part : Part
  pub here : slice_get parts w.index ≡ Some part
  pub named : w.second ≡ name_by hart list part
  pub bound : IsBoundOf w.rule part (entry_under list part.tag) (Some w.bound)
  pub first : is_some (first_name hart list (take w.index parts) w.bound) ≡ true
