-- What a look-up in the tables of an image finds.
use Rattle.std.proofs.Common.{◌≡◌, ℕ, zero, suc, ◌+◌, ◌-◌, ◌^◌, ◌<◌, ◌≤◌, true, false, cond, List, [], ◌∷◌, length, map}
use Rattle.std.proofs.Common.{get_or, refl, subst, inl, inr, arith, Option, None, Some, slice_index}
use Rattle.std.proofs.Common.{IsSome, ap, ◌∙◌}
use Rattle.std.specs.List.{All, AllPairs, Contains, find}
use Rattle.std.specs.Option.{option_map, option_or}
use Rattle.std.proofs.lemmas.Bool.{and_from, and_parts, cases_lt, le-leb, lt-ltb, leb-true, ltb-true, cond-true}
use Rattle.std.proofs.lemmas.Bool.{cond-false, cond_both, both_ways}
use Rattle.std.proofs.lemmas.List.Elements.{All-tail, All-head}
use Rattle.elf_image.specs.declared.range.Range.{Range}
use Rattle.elf_image.specs.Images.{Loaded, loaded_of, image_byte, segment_byte, ram_byte, Segment, Span}
use Rattle.tandem_base.specs.Extents.{is_among}
use Rattle.elf_image.specs.Images.{word_at}
use Rattle.elf_image.specs.Tables.{EndsBefore, range_holds, segment_in, span_in, image_in, range_byte, range_word}
use Rattle.elf_image.proofs.Located.{ends_below}

-- the parts of what a range holds
pub holds_base : (r : Range) (x : ℕ) → range_holds x r ≡ true → r.base ≤ x
holds_base r x held = leb-true r.base x (and_parts _ _ held).0

pub holds_end : (r : Range) (x : ℕ) → range_holds x r ≡ true → x < r.base + r.size
holds_end r x held = ltb-true x (r.base + r.size) (and_parts _ _ held).1

pairs_tail : (a : Range) (rest : List Range) → AllPairs EndsBefore (a ∷ rest) → AllPairs EndsBefore rest
pairs_tail a rest apart i j d lt below = apart (suc i) (suc j) d (omega arith) (omega arith)

-- of ranges that end before each other, the one that holds x is the first that does
find_at : (file : List ℕ) (ranges : List Range) (k : ℕ) (r : Range) (x : ℕ) → AllPairs EndsBefore ranges
    → k < length ranges → get_or ranges k r ≡ r → range_holds x r ≡ true
    → find (λ s. is_among s.base s.size x) (map (segment_in file) ranges) ≡ Some (segment_in file r)
find_at file [] k r x apart below at held = absurd (omega arith)
find_at file (a ∷ rest) zero r x apart below at held = rw at (cond-true _ _ _ held)
find_at file (a ∷ rest) (suc k) r x apart below at held =
    let before : a.base + a.size ≤ r.base = rw at at (apart 0 (suc k) r (omega arith) below) in
    let outside : range_holds x a ≡ false = ends_below a x (omega (arith, holds_base r x held)) in
    cond-false _ _ _ outside ∙ find_at file rest k r x (pairs_tail a rest apart) (omega arith) at held

pub segment_byte-held : (file : List ℕ) (ranges : List Range) (r : Range) (x : ℕ) → AllPairs EndsBefore ranges
    → Contains ranges r → range_holds x r ≡ true
    → segment_byte (map (segment_in file) ranges) x ≡ Some (slice_index (segment_in file r).bytes (x - r.base))
segment_byte-held file ranges r x apart among held =
    ap (λ o. option_map (λ (s : Segment). slice_index s.bytes (x - s.base)) o)
    (find_at file ranges among.0 r x apart among.1 among.2 held)

find_none : (file : List ℕ) (ranges : List Range) (x : ℕ) → All (λ r. range_holds x r ≡ false) ranges
    → find (λ s. is_among s.base s.size x) (map (segment_in file) ranges) ≡ None
find_none file [] x outside = refl
find_none file (a ∷ rest) x outside =
    cond-false _ _ _ (All-head (λ r. range_holds x r ≡ false) a rest outside)
    ∙ find_none file rest x (All-tail (λ r. range_holds x r ≡ false) a rest outside)

pub segment_byte-none : (file : List ℕ) (ranges : List Range) (x : ℕ)
    → All (λ r. range_holds x r ≡ false) ranges
    → segment_byte (map (segment_in file) ranges) x ≡ None
segment_byte-none file ranges x outside =
    ap (λ o. option_map (λ (s : Segment). slice_index s.bytes (x - s.base)) o) (find_none file ranges x outside)

ram_byte_at : (ranges : List Range) (k : ℕ) (r : Range) (x : ℕ)
    → k < length ranges → get_or ranges k r ≡ r → range_holds x r ≡ true
    → ram_byte (map span_in ranges) x ≡ Some 0
ram_byte_at [] k r x below at held = absurd (omega arith)
ram_byte_at (a ∷ rest) zero r x below at held =
    let here : range_holds x a ≡ true = rw at held in
    ap (λ b. option_map {U = ℕ} (λ (s : Span). 0)
    (cond b (Some (span_in a)) (find (λ s. is_among s.base s.size x) (map span_in rest)))) here
ram_byte_at (a ∷ rest) (suc k) r x below at held =
    cond_both (range_holds x a) (Some (span_in a)) (find (λ s. is_among s.base s.size x) (map span_in rest))
    (λ o. option_map {U = ℕ} (λ (s : Span). 0) o ≡ Some 0)
    (λ _. refl) (λ _. ram_byte_at rest k r x (omega arith) at held)

pub ram_byte-held : (ranges : List Range) (r : Range) (x : ℕ)
    → Contains ranges r → range_holds x r ≡ true
    → ram_byte (map span_in ranges) x ≡ Some 0
ram_byte-held ranges r x among held = ram_byte_at ranges among.0 r x among.1 among.2 held

pub ram_byte-none : (ranges : List Range) (x : ℕ)
    → All (λ r. range_holds x r ≡ false) ranges
    → ram_byte (map span_in ranges) x ≡ None
ram_byte-none [] x outside = refl
ram_byte-none (a ∷ rest) x outside =
    cond_both (range_holds x a) (Some (span_in a)) (find (λ s. is_among s.base s.size x) (map span_in rest))
    (λ o. option_map {U = ℕ} (λ (s : Span). 0) o ≡ None)
    (λ yes. absurd (both_ways _ (All-head (λ r. range_holds x r ≡ false) a rest outside) yes))
    (λ _. ram_byte-none rest x (All-tail (λ r. range_holds x r ≡ false) a rest outside))

pub image_byte-segment : (entry : ℕ) (segments rams : List Range) (file : List ℕ) (r : Range) (x : ℕ)
    → AllPairs EndsBefore segments → Contains segments r → range_holds x r ≡ true
    → image_byte (image_in entry segments rams file) x ≡ Some (slice_index (segment_in file r).bytes (x - r.base))
unfolding image_byte
image_byte-segment entry segments rams file r x apart among held =
    ap (λ o. option_or o (ram_byte (map span_in rams) x)) (segment_byte-held file segments r x apart among held)

pub image_byte-ram : (entry : ℕ) (segments rams : List Range) (file : List ℕ) (r : Range) (x : ℕ)
    → All (λ r. range_holds x r ≡ false) segments → Contains rams r → range_holds x r ≡ true
    → image_byte (image_in entry segments rams file) x ≡ Some 0
unfolding image_byte
image_byte-ram entry segments rams file r x outside among held =
    ap (λ o. option_or o (ram_byte (map span_in rams) x)) (segment_byte-none file segments x outside)
    ∙ ram_byte-held rams r x among held

pub image_byte-none : (entry : ℕ) (segments rams : List Range) (file : List ℕ) (x : ℕ)
    → All (λ r. range_holds x r ≡ false) segments → All (λ r. range_holds x r ≡ false) rams
    → image_byte (image_in entry segments rams file) x ≡ None
unfolding image_byte
image_byte-none entry segments rams file x outside outside' =
    ap (λ o. option_or o (ram_byte (map span_in rams) x)) (segment_byte-none file segments x outside)
    ∙ ram_byte-none rams x outside'

-- a range that holds x holds what follows x up to its end
holds_on : (r : Range) (x n k : ℕ) → range_holds x r ≡ true → x + n ≡ r.base + r.size → k < n
    → range_holds (x + k) r ≡ true
holds_on r x n k held rest below =
    and_from _ _ (le-leb r.base (x + k) (omega (arith, holds_base r x held)))
    (lt-ltb (x + k) (r.base + r.size) (omega arith))

-- the bytes from x up to the end of a range are there
pub record AreHeld (image : Loaded) (x n : ℕ) : Type 0 where
  pub some : 0 < n
  pub each : (k : ℕ) → k < n → IsSome (image.byte_at (x + k))

pub held_in_segment : (entry : ℕ) (segments rams : List Range) (file : List ℕ) (r : Range) (x n : ℕ)
    → AllPairs EndsBefore segments → Contains segments r → range_holds x r ≡ true → x + n ≡ r.base + r.size
    → AreHeld (loaded_of (image_in entry segments rams file)) x n
held_in_segment entry segments rams file r x n apart among held rest =
    record {
      some = omega (arith, holds_end r x held);
      each = λ k below.
          rw (image_byte-segment entry segments rams file r (x + k) apart among
          (holds_on r x n k held rest below)) refl;
    }

some_or : (o p : Option ℕ) → p ≡ Some 0 → IsSome (option_or o p)
some_or (Some b) p e = refl
some_or None p e = rw e refl

pub held_in_ram : (entry : ℕ) (segments rams : List Range) (file : List ℕ) (r : Range) (x n : ℕ)
    → Contains rams r → range_holds x r ≡ true → x + n ≡ r.base + r.size
    → AreHeld (loaded_of (image_in entry segments rams file)) x n
unfolding image_byte
held_in_ram entry segments rams file r x n among held rest =
    record {
      some = omega (arith, holds_end r x held);
      each = λ k below.
          some_or (segment_byte (map (segment_in file) segments) (x + k)) _
          (ram_byte-held rams r (x + k) among (holds_on r x n k held rest below));
    }

-- what holds of the first n bytes and of the m that follow holds of them all
pub held_further : (image : Loaded) (x n m most : ℕ) → m ≤ most
    → ((k : ℕ) → k < n → IsSome (image.byte_at (x + k)))
    → ((k : ℕ) → k < most → IsSome (image.byte_at (x + n + k)))
    → (k : ℕ) → k < n + m → IsSome (image.byte_at (x + k))
held_further image x n m most le first next k below =
    elim (cases_lt k n) [
      | inl lt ↦ first k lt
      | inr ge ↦
          let e : x + n + (k - n) ≡ x + k = omega arith in
          subst (λ (a : ℕ). IsSome (image.byte_at a)) e (next (k - n) (omega arith))
    ]

-- four bytes of one segment are a word
pub word_at-segment : (entry : ℕ) (segments rams : List Range) (file : List ℕ) (r : Range) (x : ℕ)
    → AllPairs EndsBefore segments → Contains segments r → range_holds x r ≡ true → x + 4 ≤ r.base + r.size
    → x ≤ 2 ^ 64 - 4
    → word_at (loaded_of (image_in entry segments rams file)) x ≡ range_word file r x
unfolding word_at
word_at-segment entry segments rams file r x apart among held room top =
    let at : (k : ℕ) → k < 4
    → image_byte (image_in entry segments rams file) (x + k) ≡ Some (range_byte file r (x + k)) =
    λ k below.
    image_byte-segment entry segments rams file r (x + k) apart among
    (and_from _ _ (le-leb r.base (x + k) (omega (arith, holds_base r x held)))
    (lt-ltb (x + k) (r.base + r.size) (omega arith))) in
    rw (
      le-leb x (2 ^ 64 - 4) top,
      image_byte-segment entry segments rams file r x apart among held,
      at 1 (omega arith),
      at 2 (omega arith),
      at 3 (omega arith),
    ) refl
