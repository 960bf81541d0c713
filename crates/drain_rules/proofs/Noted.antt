-- What the least tags tell of the parts that were noted.
use Rattle.std.proofs.Common.{ℕ, zero, suc, ◌+◌, ◌/◌, ◌%◌, ◌<◌, ◌≤◌, ◌≡◌, ◌⊎◌, inl, inr, Bool, true, false, ◌&&◌, ◌||◌}
use Rattle.std.proofs.Common.{ltb, cond}
use Rattle.std.proofs.Common.{List, [], ◌∷◌, length, take, min, Option, Some, None, slice_get, refl, sym, ap, subst}
use Rattle.std.proofs.Common.{◌∙◌, arith}
use Rattle.std.proofs.lemmas.Bool.Decides.{nat_tests}
use Rattle.std.specs.List.{Contains}
use Rattle.tandem_base.specs.declared.extent.Extent.{Extent}
use Rattle.tandem_base.specs.Extents.{is_among}
use Rattle.rvwmo_model.proofs.Membership.{nothing_in, in_cases}
use Rattle.merge_buffer.specs.declared.waiting.Part.{Part}
use Rattle.merge_buffer.specs.Parts.{IsWithinLine, AllOn, line_of}
use Rattle.drain_rules.specs.declared.bound.Bound.{Bound}
use Rattle.drain_rules.specs.declared.seen.Seen.{Seen}
use Rattle.drain_rules.specs.Answers.{is_bounded, shares_any, HasBytesOf}
use Rattle.drain_rules.specs.Seen.{no_tag, byte_least, least_among, least_over, lowered_byte, Notes}
use Rattle.drain_rules.proofs.Lines.{meet, meet_shares}
use Rattle.drain_rules.proofs.Somes.{some_in, some_take, some_or, none_in, some_same, and_true, or_false}

abbrev under : ℕ → Part → Bool
under below q = ltb q.tag below

abbrev has_at : ℕ → Part → Bool
has_at j q = is_among (q.piece.addr % 64) (length q.piece.bytes) j

-- a tag is below a bound where that of some part is, of all and of those at each byte
pub record HasSeen (parts : List Part) (n : ℕ) (seen : Seen) : Type 0 where
  pub all : (below : ℕ) → below ≤ no_tag → ltb seen.all below ≡ some_in (under below) (take n parts)
  pub bytes : (j below : ℕ) → j < 64 → below ≤ no_tag
      → ltb (byte_least seen j) below ≡ some_in (λ q. has_at j q && under below q) (take n parts)

-- ---- tags

not_below : (a b : ℕ) → b ≤ a → ltb a b ≡ false
not_below a b l = grind (arith, nat_tests)

min_below : (a b c : ℕ) → ltb (min a b) c ≡ (ltb a c || ltb b c)
min_below a b c = grind (arith, nat_tests)

none_below : (n below : ℕ) → n ≡ no_tag → below ≤ no_tag → ltb n below ≡ false
none_below n below e l = ap (λ (x : ℕ). ltb x below) e ∙ not_below no_tag below l

-- ---- lines

pub all_on_in : (line : ℕ) (xs : List Part) (q : Part) → AllOn line xs → Contains xs q
    → (line_of q ≡ line) × IsWithinLine q.piece
all_on_in line [] q a i = absurd (nothing_in q i)
all_on_in line (x ∷ xs) q a i = at (in_cases x xs q i) (λ j. all_on_in line xs q a.2 j)
  where
    at : (q ≡ x) ⊎ Contains xs q → (Contains xs q → (line_of q ≡ line) × IsWithinLine q.piece)
        → (line_of q ≡ line) × IsWithinLine q.piece
    at (inl e) rec =
        subst (λ (z : Part). (line_of z ≡ line) × IsWithinLine z.piece) (sym e) (a.0, a.1)
    at (inr j) rec = rec j

pub all_on_take : (line : ℕ) (n : ℕ) (xs : List Part) → AllOn line xs → AllOn line (take n xs)
all_on_take line zero xs a = tt
all_on_take line (suc n) [] a = tt
all_on_take line (suc n) (x ∷ xs) a = (a.0, a.1, all_on_take line n xs a.2)

pub all_on_at : (line : ℕ) (xs : List Part) (n : ℕ) (q : Part) → AllOn line xs → slice_get xs n ≡ Some q
    → (line_of q ≡ line) × IsWithinLine q.piece
all_on_at line [] n q a e = cc
all_on_at line (x ∷ xs) zero q a e =
    let d : x ≡ q = cc in subst (λ (z : Part). (line_of z ≡ line) × IsWithinLine z.piece) d (a.0, a.1)
all_on_at line (x ∷ xs) (suc n) q a e = all_on_at line xs n q a.2 e

-- ---- one part more

pub seen_none : (parts : List Part) (seen : Seen) → seen.all ≡ no_tag → ((j : ℕ) → byte_least seen j ≡ no_tag)
    → HasSeen parts zero seen
seen_none parts seen e f = record {
  all = λ below l. none_below seen.all below e l;
  bytes = λ j below m l. none_below (byte_least seen j) below (f j) l;
}

pub seen_more : (parts : List Part) (n : ℕ) (p : Part) (old new : Seen) → slice_get parts n ≡ Some p
    → IsWithinLine p.piece → HasSeen parts n old → Notes old new p → HasSeen parts (suc n) new
seen_more parts n p old new g w h notes = record {
  all = λ below l. ap (λ (x : ℕ). ltb x below) notes.all ∙ min_below old.all p.tag below
      ∙ ap (λ (b : Bool). b || under below p) (h.all below l) ∙ sym (some_take (under below) parts n p g);
  bytes = λ j below m l. ap (λ (x : ℕ). ltb x below) (notes.bytes w j m) ∙ lowered j below (has_at j p)
      ∙ ap (λ (b : Bool). b || (has_at j p && under below p)) (h.bytes j below m l)
      ∙ sym (some_take (λ q. has_at j q && under below q) parts n p g);
}
  where
    lowered : (j below : ℕ) (c : Bool) → ltb (cond c (min (byte_least old j) p.tag) (byte_least old j)) below
        ≡ (ltb (byte_least old j) below || (c && under below p))
    lowered j below true = min_below (byte_least old j) p.tag below
    lowered j below false = sym (or_false (ltb (byte_least old j) below))

-- ---- what a bound asks

-- a part has one of the bytes
abbrev meets : ℕ → ℕ → Part → Bool
meets k m q = meet (q.piece.addr % 64) (length q.piece.bytes) k m

least_meets : (parts : List Part) (n : ℕ) (seen : Seen) → HasSeen parts n seen → (below : ℕ) → below ≤ no_tag
    → (k m : ℕ) → ltb (least_among seen k m) below ≡ some_in (λ q. meets k m q && under below q) (take n parts)
least_meets parts n seen h below l k zero = not_below no_tag below l ∙ sym (none_in (take n parts))
least_meets parts n seen h below l k (suc m) =
    let j = (k + m) % 64 in
    min_below (least_among seen k m) (byte_least seen j) below
    ∙ ap (λ (b : Bool). b || ltb (byte_least seen j) below) (least_meets parts n seen h below l k m)
    ∙ ap (λ (b : Bool). some_in (λ q. meets k m q && under below q) (take n parts) || b)
    (h.bytes j below (omega arith) l)
    ∙ sym (some_or (λ q. meets k m q && under below q) (λ q. has_at j q && under below q) (take n parts))
    ∙ some_same (λ q. (meets k m q && under below q) || (has_at j q && under below q))
    (λ q. (meets k m q || has_at j q) && under below q) (take n parts)
    (λ q i. both (meets k m q) (has_at j q) (under below q))
  where
    both : (a b c : Bool) → ((a && c) || (b && c)) ≡ ((a || b) && c)
    both true true true = refl
    both true true false = refl
    both true false true = refl
    both true false false = refl
    both false b c = refl

-- what is asked of no part
pub asked_none : (parts : List Part) (seen : Seen) → HasSeen parts zero seen → (b : Bound) → b.below ≤ no_tag
    → ltb (least_over seen b.over) b.below ≡ false
asked_none parts seen h b l = at b.over
  where
    at : (o : Option Extent) → ltb (least_over seen o) b.below ≡ false
    at None = h.all b.below l
    at (Some e) = least_meets parts zero seen h b.below l (e.addr % 64) e.len

swap : (a b : Bool) → (a && b) ≡ (b && a)
swap true true = refl
swap true false = refl
swap false true = refl
swap false false = refl

sized : (x : Extent) → 0 < x.len
sized x = let s = x.sized in omega arith

-- what is asked of those of a line
pub asked_line : (line : ℕ) (parts : List Part) (n : ℕ) (p : Part) (seen : Seen) → AllOn line parts
    → slice_get parts n ≡ Some p → HasSeen parts n seen → (b : Bound) → b.below ≤ no_tag
    → ((e : Extent) → b.over ≡ Some e → HasBytesOf p.piece (Some e))
    → ltb (least_over seen b.over) b.below ≡ some_in (is_bounded b) (take n parts)
asked_line line parts n p seen a g h b l bytes = at b.over refl
  where
    at : (o : Option Extent) → b.over ≡ o → ltb (least_over seen o) b.below
        ≡ some_in (λ q. under b.below q && shares_any b.over q.piece) (take n parts)
    at None e =
        h.all b.below l
        ∙ some_same (under b.below) (λ q. under b.below q && shares_any b.over q.piece) (take n parts)
        (λ q i. sym (and_true (under b.below q))
        ∙ ap (λ (o : Option Extent). under b.below q && shares_any o q.piece) (sym e))
    at (Some x) e =
        let is = bytes x e in
        let mine = all_on_at line parts n p a g in
        let w : x.addr % 64 + x.len ≤ 64 =
        subst (λ (y : ℕ). y % 64 + x.len ≤ 64) (sym is.0)
        (subst (λ (y : ℕ). p.piece.addr % 64 + y ≤ 64) (sym is.1) mine.1) in
        let on : x.addr / 64 ≡ line = ap (λ (y : ℕ). y / 64) is.0 ∙ mine.0 in
        least_meets parts n seen h b.below l (x.addr % 64) x.len
        ∙ some_same (λ q. meets (x.addr % 64) x.len q && under b.below q)
        (λ q. under b.below q && shares_any b.over q.piece) (take n parts)
        (λ q i.
        let other = all_on_in line (take n parts) q (all_on_take line n parts a) i in
        swap (meets (x.addr % 64) x.len q) (under b.below q)
        ∙ ap (λ (c : Bool). under b.below q && c)
        (meet_shares x.addr x.len q.piece.addr (length q.piece.bytes) (on ∙ sym other.0)
        (sized x) w)
        ∙ ap (λ (o : Option Extent). under b.below q && shares_any o q.piece) (sym e))
