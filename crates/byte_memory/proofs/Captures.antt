-- One byte more of a capture.
use Rattle.std.proofs.Common.{ℕ, suc, ◌≡◌, ◌≢◌, ◌+◌, ◌<◌, ◌≤◌, inl, inr, Bool, true, false, List, Option, None}
use Rattle.std.proofs.Common.{Some, option_map, if◌then◌else◌, length, get_or, set, refl, sym, ap, ◌∙◌, subst, arith}
use Rattle.std.proofs.lemmas.Bool.{cases_eq, both_ways}
use Rattle.std.proofs.lemmas.Bool.Decides.{nat_tests}
use Rattle.std.proofs.lemmas.List.{get_or-set_same, get_or-set_other}
use Rattle.byte_memory.specs.declared.capture.Foreign.{Foreign}
use Rattle.byte_memory.specs.declared.memory.Memory.{Memory}
use Rattle.tandem_base.specs.declared.names.Position.{Position}
use Rattle.byte_memory.specs.declared.writer.Writer.{Writer}
use Rattle.byte_memory.specs.Captures.{FindsForeign, IsLatestForeign, is_later, other_from}
use Rattle.tandem_base.specs.Extents.{is_among}
use Rattle.byte_memory.specs.Memory.{written_at, foreign_writer, other_writer}
use Rattle.tandem_base.specs.Places.{comes_before}
use Rattle.byte_memory.proofs.Positions.{never_itself, not_after, before_it}

pub other_more : (m : Memory) (base k : ℕ) (xs : List (Option Writer)) → k < length xs
    → ((j : ℕ) → get_or xs j None ≡ other_from m base k j)
    → (j : ℕ) → get_or (set xs k (other_writer (written_at m (base + k)))) j None ≡ other_from m base (k + 1) j
other_more m base k xs l so_far j =
    elim (cases_eq j k) [
      | inl e ↦ subst (λ (i : ℕ). get_or (set xs k (other_writer (written_at m (base + k)))) i None ≡ other_from m
          base (k + 1) i) (sym e)
          (get_or-set_same xs k (other_writer (written_at m (base + k))) None l ∙ sym now)
      | inr n ↦ get_or-set_other xs k j (other_writer (written_at m (base + k))) None n ∙ so_far j ∙ sym (elsewhere n)
    ]
  where
    now : other_from m base (k + 1) k ≡ other_writer (written_at m (base + k))
    now = grind (arith, nat_tests)

    elsewhere : j ≢ k → other_from m base (k + 1) j ≡ other_from m base k j
    elsewhere n = grind (arith, nat_tests)

-- the later of what was found and one more writer, of the byte at x
abbrev later_of : Option Foreign → ℕ → Option Writer → Option Foreign
later_of found x None = found
later_of None x (Some w) = Some (record { at = x; writer = w })
later_of (Some f) x (Some w) =
    if comes_before f.writer.place w.place then Some (record { at = x; writer = w }) else Some f

module _ (m : Memory) (h base k : ℕ) where
  more : (x : ℕ) → is_among base k x ≡ true → is_among base (k + 1) x ≡ true
  more x i = grind (arith, nat_tests)

  itself : is_among base (k + 1) (base + k) ≡ true
  itself = grind (arith, nat_tests)

  fewer : (x : ℕ) → is_among base (k + 1) x ≡ true → x ≢ base + k → is_among base k x ≡ true
  fewer x i n = grind (arith, nat_tests)

  under : (x : ℕ) → is_among base (k + 1) x ≡ true → x < base + k → is_among base k x ≡ true
  under x i l = grind (arith, nat_tests)

  short : (x y : ℕ) → is_among base k y ≡ true → x < y → x < base + k
  short x y i l = grind (arith, nat_tests)

  wrote_at : ℕ → Option Writer
  wrote_at x = foreign_writer h (written_at m x)

  foreign_more : (found : Option Foreign) → FindsForeign m h base k found
      → FindsForeign m h base (k + 1) (later_of found (base + k) (foreign_writer h (written_at m (base + k))))
  foreign_more found so_far = by (foreign_writer h (written_at m (base + k))) refl found so_far
    where
      by : (w : Option Writer) → foreign_writer h (written_at m (base + k)) ≡ w → (found : Option Foreign)
          → FindsForeign m h base k found → FindsForeign m h base (k + 1) (later_of found (base + k) w)
      by None e None s = λ x i. elim (cases_eq x (base + k)) [
        | inl q ↦ subst (λ (y : ℕ). foreign_writer h
            (written_at m y) ≡ None) (sym q) e
        | inr n ↦ s x (fewer x i n)
      ]
      by None e (Some f) s = record {
        inside = more f.at s.inside;
        wrote = s.wrote;
        latest = λ x w i y. elim (cases_eq x (base + k)) [
          | inl q ↦ let no : None ≡ Some w = sym e ∙ subst (λ (z : ℕ). foreign_writer h
              (written_at m z) ≡ Some w) q y in cc
          | inr n ↦ s.latest x w (fewer x i n) y
        ];
        lowest = λ x w i l y. s.lowest x w (under x i (short x f.at s.inside l)) l y;
      }
      by (Some w) e None s = record {
        inside = itself;
        wrote = e;
        latest = λ x v i y. elim (cases_eq x (base + k)) [
          | inl q ↦ let same : Some w ≡ Some v = sym e
              ∙ subst (λ (z : ℕ). foreign_writer h (written_at m z) ≡ Some v) q y in
              subst (λ (z : Writer). comes_before w.place z.place ≡ false) (let r : w ≡ v = cc in
              r) (never_itself w.place)
          | inr n ↦ let no : None ≡ Some v = sym (s x (fewer x i n)) ∙ y in cc
        ];
        lowest = λ x v i l y. (let no : None ≡ Some v = sym (s x (under x i l)) ∙ y in cc);
      }
      by (Some w) e (Some f) s = at (comes_before f.writer.place w.place) refl
        where
          at : (b : Bool) → comes_before f.writer.place w.place ≡ b
              → FindsForeign m h base (k + 1) (later_of (Some f) (base + k) (Some w))
          at true b = rw b (record {
            inside = itself;
            wrote = e;
            latest = λ x v i y. elim (cases_eq x (base + k)) [
              | inl q ↦ let same : Some w ≡ Some v = sym e
                  ∙ subst (λ (z : ℕ). foreign_writer h (written_at m z) ≡ Some v) q y in
                  subst (λ (z : Writer). comes_before w.place z.place ≡ false) (let r : w ≡ v = cc in
                  r) (never_itself w.place)
              | inr n ↦ not_after f.writer.place w.place v.place b (s.latest x v (fewer x i n) y)
            ];
            lowest = λ x v i l y. before_it f.writer.place w.place v.place b (s.latest x v (under x i l) y);
          })
          at false b = rw b (record {
            inside = more f.at s.inside;
            wrote = s.wrote;
            latest = λ x v i y. elim (cases_eq x (base + k)) [
              | inl q ↦ let same : Some w ≡ Some v = sym e
                  ∙ subst (λ (z : ℕ). foreign_writer h (written_at m z) ≡ Some v) q y in
                  subst (λ (z : Writer). comes_before f.writer.place z.place ≡ false) (let r : w ≡ v = cc in r) b
              | inr n ↦ s.latest x v (fewer x i n) y
            ];
            lowest = λ x v i l y. s.lowest x v (under x i (short x f.at s.inside l)) l y;
          })

  -- where the writer comes after what was found, and where it doesn't
  pub foreign_then : (found : Option Foreign) → is_later found (foreign_writer h (written_at m (base + k))) ≡ true
      → FindsForeign m h base k found → FindsForeign m h base (k + 1)
      (option_map (λ w. record { at = base + k; writer = w }) (foreign_writer h (written_at m (base + k))))
  foreign_then found e s =
      subst (λ (o : Option Foreign). FindsForeign m h base (k + 1) o) (is_it found
      (foreign_writer h (written_at m (base + k))) e) (foreign_more found s)
    where
      is_it : (found : Option Foreign) (w : Option Writer) → is_later found w ≡ true
          → later_of found (base + k) w ≡ option_map (λ w. record { at = base + k; writer = w }) w
      is_it found None e = cc
      is_it None (Some w) e = refl
      is_it (Some f) (Some w) e = rw e refl

  pub foreign_else : (found : Option Foreign) → is_later found (foreign_writer h (written_at m (base + k))) ≡ false
      → FindsForeign m h base k found → FindsForeign m h base (k + 1) found
  foreign_else found e s =
      subst (λ (o : Option Foreign). FindsForeign m h base (k + 1) o) (is_it found
      (foreign_writer h (written_at m (base + k))) e) (foreign_more found s)
    where
      is_it : (found : Option Foreign) (w : Option Writer) → is_later found w ≡ false
          → later_of found (base + k) w ≡ found
      is_it found None e = refl
      is_it None (Some w) e = cc
      is_it (Some f) (Some w) e = rw e refl
