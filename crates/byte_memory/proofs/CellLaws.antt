-- What is kept of a byte through the stores to it.
use Rattle.std.proofs.Common.{ℕ, ◌≡◌, ◌==◌, ◌&&◌, not, inl, inr, Bool, true, false, List, Option, None, Some}
use Rattle.std.proofs.Common.{refl, sym, ap, ◌∙◌, subst, arith}
use Rattle.std.specs.Option.{option_map}
use Rattle.std.specs.List.{Contains}
use Rattle.std.proofs.lemmas.Bool.{both_ways}
use Rattle.std.proofs.lemmas.Bool.Decides.{nat_tests}
use Rattle.tandem_base.specs.declared.names.Position.{Position}
use Rattle.byte_memory.specs.declared.writer.Writer.{Writer}
use Rattle.byte_memory.specs.Cells.{ByteStore, IsLatestStore, IsLatestWriter, IsLeft, Gains, is_before}
use Rattle.byte_memory.specs.Cells.{is_foreign_before}
use Rattle.byte_memory.specs.Memory.{Written, overwritten, foreign_writer}
use Rattle.tandem_base.specs.Places.{comes_before}
use Rattle.byte_memory.proofs.Positions.{never_itself, not_before, before_past}

of_both : (a b : Bool) → (a && b) ≡ true → (a ≡ true) × (b ≡ true)
of_both true b e = (refl, e)
of_both false b e = absurd (both_ways _ refl e)

both : (a b : Bool) → a ≡ true → b ≡ true → (a && b) ≡ true
both a b e f = rw (e, f) refl

-- the latest stays the latest where the stores that pass are the same
module _ (passes : Writer → Bool) (stores grown : List ByteStore)
    (there : (s : ByteStore) → passes s.writer ≡ true → Contains stores s → Contains grown s)
    (back : (s : ByteStore) → passes s.writer ≡ true → Contains grown s → Contains stores s) where
  pub latest_same : (latest : Option ByteStore) → IsLatestStore passes stores latest → IsLatestStore passes grown latest
  latest_same None l = λ s i. by s i (passes s.writer) refl
    where
      by : (s : ByteStore) → Contains grown s → (b : Bool) → passes s.writer ≡ b → passes s.writer ≡ false
      by s i true e = l s (back s e i)
      by s i false e = e
  latest_same (Some s) l = (there s l.1 l.0, l.1, λ r i e. l.2 r (back r e i) e)

-- what stands before a place is left as it is by all that comes at the place or later
module _ (place : Position) (stores grown : List ByteStore)
    (there : (s : ByteStore) → is_before place s.writer ≡ true → Contains stores s → Contains grown s)
    (back : (s : ByteStore) → is_before place s.writer ≡ true → Contains grown s → Contains stores s) where
  pub left_stays : (was : Option Written) → IsLeft place stores was → IsLeft place grown was
  left_stays None l = latest_same (is_before place) stores grown there back None l
  left_stays (Some w) l =
      let before : (s : ByteStore) → is_foreign_before place w.last.hart s.writer ≡ true
      → is_before place s.writer ≡ true =
      λ s e. (of_both _ _ e).0 in (
        latest_same (is_before place) stores grown there back (Some (record { writer = w.last; value = w.value })) l.0,
        (
          l.1.0,
          l.1.1,
          latest_same (is_foreign_before place w.last.hart) stores grown (λ s e. there s (before s e))
              (λ s e. back s (before s e)) l.1.0 l.1.2,
        ),
      )

-- the last writer of another hart than h is the last one, or else the last of another hart than its
pub left_foreign : (place : Position) (stores : List ByteStore) (was : Option Written) (h : ℕ) → IsLeft place stores was
    → IsLatestWriter (is_foreign_before place h) stores (foreign_writer h was)
left_foreign place stores None h l = (None, refl, λ s i. (let e = l s i in rw e refl))
left_foreign place stores (Some w) h l = at (w.last.hart == h) refl
  where
    same : (w.last.hart == h) ≡ true → w.last.hart ≡ h
    same e = grind (arith, nat_tests)

    at : (b : Bool) → (w.last.hart == h) ≡ b
        → IsLatestWriter (is_foreign_before place h) stores (foreign_writer h (Some w))
    at true e = rw e (subst (λ (n : ℕ). IsLatestWriter (is_foreign_before place n) stores w.other) (same e) l.1)
    at false e = rw e (
      Some (record { writer = w.last; value = w.value }),
      refl,
      (l.0.0, both _ _ l.0.1 (ap not e), λ s i p. l.0.2 s i (of_both _ _ p).0),
    )

-- one more store, later than all the others
module _ (place later : Position) (stores grown : List ByteStore) (new : ByteStore) (gains : Gains stores new grown)
    (all : (s : ByteStore) → Contains stores s → is_before place s.writer ≡ true)
    (after : comes_before new.writer.place place ≡ false) (before : comes_before new.writer.place later ≡ true) where
  still : (s : ByteStore) → Contains stores s → is_before later s.writer ≡ true
  still s i = before_past s.writer.place place new.writer.place later (all s i) after before

  newest : IsLatestStore (is_before later) grown (Some new)
  newest = (
    gains.there,
    before,
    λ s i p. elim (gains.only s i) [
      | inl e ↦ subst (λ (z : ByteStore). comes_before new.writer.place z.writer.place ≡ false) (sym e)
          (never_itself new.writer.place)
      | inr o ↦ not_before s.writer.place place new.writer.place (all s o) after
    ],
  )

  own : (s : ByteStore) → s ≡ new → is_foreign_before later new.writer.hart s.writer ≡ true → ⊥
  own s e p = none (subst (λ (z : ByteStore). not (z.writer.hart == new.writer.hart) ≡ true) e (of_both _ _ p).1)
    where
      none : not (new.writer.hart == new.writer.hart) ≡ true → ⊥
      none n = grind (arith, nat_tests)

  -- the latest of another hart, among the older ones
  others : (o : Option ByteStore) → IsLatestStore (is_foreign_before place new.writer.hart) stores o
      → IsLatestStore (is_foreign_before later new.writer.hart) grown o
  others None l = λ s i. by s i (is_foreign_before later new.writer.hart s.writer) refl
    where
      by : (s : ByteStore) → Contains grown s → (b : Bool) → is_foreign_before later new.writer.hart s.writer ≡ b
          → is_foreign_before later new.writer.hart s.writer ≡ false
      by s i false e = e
      by s i true e = absurd (elim (gains.only s i) [
        | inl q ↦ own s q e
        | inr o ↦ both_ways _ (l s o) (both _ _ (all s o) (of_both _ _ e).1)
      ])
  others (Some q) l = (
    gains.stay q l.0,
    both _ _ (still q l.0) (of_both _ _ l.1).1,
    λ s i p. elim (gains.only s i) [
      | inl e ↦ absurd (own s e p)
      | inr o ↦ l.2 s o (both _ _ (all s o) (of_both _ _ p).1)
    ],
  )

  pub left_grows : (was : Option Written) → IsLeft place stores was
      → IsLeft later grown (Some (overwritten was new.writer new.value))
  left_grows was l = (newest, at was l)
    where
      at : (was : Option Written) → IsLeft place stores was
          → IsLatestWriter (is_foreign_before later new.writer.hart) grown (foreign_writer new.writer.hart was)
      at None l = (None, refl, others None (λ s i. absurd (both_ways _ (l s i) (all s i))))
      at (Some w) l = let f = left_foreign place stores (Some w) new.writer.hart l in (f.0, f.1, others f.0 f.2)
