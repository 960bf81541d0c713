-- How what was taken in one read and what was taken in the next join, and when that is a frame.
use Rattle.std.proofs.Common.{◌≡◌, ℕ, ◌+◌, ◌-◌, ◌<◌, ◌≤◌, Bool, true, false, List, [], ◌++◌, length, take, drop}
use Rattle.std.proofs.Common.{map, refl, sym, ◌∙◌, ap, arith, Option, Err, length-append, length-take-le}
use Rattle.std.proofs.Common.{length-drop}
use Rattle.std.specs.Int.{w16, from_le_bytes}
use Rattle.std.specs.Prelude.{nat_lt, nat_le, ◌==◌, ◌&&◌}
use Rattle.std.proofs.KnownBytes.{Consumes-nil, Consumes-trans}
use Rattle.std.proofs.Math.Seq.{take-append-add}
use Rattle.std.proofs.lemmas.List.{map-append, take-append-le, take_at, take_all}
use Rattle.std.proofs.lemmas.Bool.{lt-ltb, le-ltb, cond-true, cond-false, leb-true, and_parts}
use borrow.Rule.Slice.PartMut.{put_mid, post_of}
use Rattle.tandem_io.specs.Told.{Log, taken}
use Rattle.tandem_io.proofs.LogLaws.{Logs-nil, Logs-trans}
use Rattle.msg_frames.specs.declared.message.Form.TheVariants as form
use Rattle.tandem_base.specs.Fields.{u16_at}
use Rattle.msg_frames.specs.Reading.{fault, is_length, has_stated_length, reading}
use Rattle.msg_frames.specs.Cut.{needed}
use Rattle.msg_frames.specs.Taking.{TakenFrom, IsWholeFrame, IsShort}

-- ---- reads in turn

pub TakenFrom-nil : (left : Option (List ℕ)) (log : Log) → TakenFrom left left log log []
TakenFrom-nil left log = record { consumed = Consumes-nil left; logged = Logs-nil log }

pub TakenFrom-trans : (left left' left'' : Option (List ℕ)) (log log' log'' : Log) (first second : List ℕ)
    → TakenFrom left left' log log' first → TakenFrom left' left'' log' log'' second
    → TakenFrom left left'' log log'' (first ++ second)
TakenFrom-trans left left' left'' log log' log'' first second p q = record {
  consumed = Consumes-trans left left' left'' first second p.consumed q.consumed;
  logged = rw map-append (Logs-trans log log' log'' (map taken first) (map taken second) p.logged q.logged);
}

-- the front of a buffer after a part of it was read into
pub take_filled : (at k n : ℕ) (buf part : List ℕ) → at ≤ length buf → n ≤ length part
    → take (at + n) (put_mid at k buf part) ≡ take at buf ++ take n part
take_filled at k n buf part inside few =
    let front : length (take at buf) ≡ at = length-take-le at buf inside in
    ap (λ m. take (m + n) (put_mid at k buf part)) (sym front)
    ∙ take-append-add (take at buf) (part ++ post_of at k buf) n
    ∙ ap (λ l. take at buf ++ l) (take-append-le n part (post_of at k buf) few)

-- ---- what a frame needs

-- a frame with a length that some frame has
pub needed_more : (bytes : List ℕ) (length_of : ℕ) → 2 ≤ length bytes → u16_at 0 bytes ≡ length_of
    → is_length length_of ≡ true → needed bytes ≡ length_of + 2
needed_more bytes length_of long e fits =
    cond-false (nat_lt (length bytes) 2) 2 _ (le-ltb (length bytes) 2 long)
    ∙ cond-true (is_length (u16_at 0 bytes)) (u16_at 0 bytes + 2) 2 (ap is_length e ∙ fits) ∙ ap (λ n. n + 2) e

pub needed_low : (bytes : List ℕ) → length bytes < 2 → needed bytes ≡ 2
needed_low bytes short = cond-true (nat_lt (length bytes) 2) 2 _ (lt-ltb (length bytes) 2 short)

needed_bad : (bytes : List ℕ) → 2 ≤ length bytes → is_length (u16_at 0 bytes) ≡ false → needed bytes ≡ 2
needed_bad bytes long bad =
    cond-false (nat_lt (length bytes) 2) 2 _ (le-ltb (length bytes) 2 long)
    ∙ cond-false (is_length (u16_at 0 bytes)) (u16_at 0 bytes + 2) 2 bad

-- the length stands in the first two bytes
pub u16_front : (first second : List ℕ) → length first ≡ 2 → u16_at 0 (first ++ second) ≡ u16_at 0 first
u16_front first second size =
    let front : take 2 (first ++ second) ≡ take 2 first = take-append-le 2 first second (omega arith) in
    ap (λ l. from_le_bytes w16 l) front

pub short_start : (got : List ℕ) → length got < 2 → IsShort got
short_start got short = rw (needed_low got short) short

pub short_later : (first second : List ℕ) → length first ≡ 2 → is_length (u16_at 0 first) ≡ true
    → length second < u16_at 0 first
    → IsShort (first ++ second)
short_later first second size fits short =
    let all = length-append first second in
    let needs = needed_more (first ++ second) (u16_at 0 first) (omega arith) (u16_front first second size) fits in
    omega arith

pub whole_later : (first second : List ℕ) → length first ≡ 2 → is_length (u16_at 0 first) ≡ true
    → length second ≡ u16_at 0 first
    → IsWholeFrame (first ++ second)
whole_later first second size fits same =
    let all = length-append first second in
    let needs = needed_more (first ++ second) (u16_at 0 first) (omega arith) (u16_front first second size) fits in
    omega arith

pub whole_bad : (got : List ℕ) → length got ≡ 2 → is_length (u16_at 0 got) ≡ false → IsWholeFrame got
whole_bad got size bad = size ∙ sym (needed_bad got (omega arith) bad)

whole_no : (a b c : Bool) → b ≡ false → (a && b && c) ≡ false
whole_no true b c e = rw e refl
whole_no false b c e = refl

-- a length out of bounds
pub reading_bad : (got : List ℕ) → is_length (u16_at 0 got) ≡ false → reading got ≡ Err (fault form.Length 0)
unfolding reading
reading_bad got bad = cond-false (has_stated_length got) _ (Err (fault form.Length 0))
    (whole_no (nat_le 2 (length got)) (is_length (u16_at 0 got)) (length got == u16_at 0 got + 2) bad)

-- ---- the buffer of two reads

-- what the first read got begins with the length
pub length_of_front : (front tail got : List ℕ) (n : ℕ) → length front ≡ 2 → got ≡ front
    → n ≡ u16_at 0 (front ++ tail) → u16_at 0 got ≡ n
length_of_front front tail got n size e is = ap (u16_at 0) e ∙ sym (u16_front front tail size) ∙ sym is

-- what both reads got, as it stands in the buffer
pub whole_text : (front tail second : List ℕ) (n k : ℕ) → length front ≡ 2 → length second ≡ n
    → take (n + 2) (put_mid 2 k (front ++ tail) second) ≡ front ++ second
whole_text front tail second n k size many =
    let turned : n + 2 ≡ 2 + n = omega arith in
    ap (λ m. take m (put_mid 2 k (front ++ tail) second)) turned
    ∙ take_filled 2 k n (front ++ tail) second (omega (arith, length-append front tail)) (omega arith)
    ∙ rw (take_at front tail 2 size, take_all n second (omega arith)) refl

pub is_length_high : (n : ℕ) → is_length n ≡ true → n ≤ 512
is_length_high n e = leb-true n 512 (and_parts (nat_le 18 n) (nat_le n 512) e).1

-- how long the part for the second read is
pub part_size : (front tail part : List ℕ) (n k : ℕ) → length front ≡ 2 → length tail ≡ 512 → n ≤ 512 → k ≡ n
    → length part ≡ length (take (k + 2 - 2) (drop 2 (front ++ tail))) → length part ≡ n
part_size front tail part n k size room few same e =
    e ∙ length-take-le (k + 2 - 2) (drop 2 (front ++ tail))
    (omega (arith, length-drop 2 (front ++ tail), length-append front tail)) ∙ omega arith
