-- What it means that a message has its place in the stream, and that a part of a store, a Write or a Bypass fits.
use Rattle.std.proofs.Common.{ℕ, ◌+◌, ◌<◌, ◌≡◌, ◌↔◌, Bool, true, false, cond, not, ltb, ◌&&◌, is_some, List, []}
use Rattle.std.proofs.Common.{◌∷◌, length}
use Rattle.std.proofs.Common.{Option, Some, None, refl, sym, ap, subst, ◌∙◌}
use Rattle.std.proofs.lemmas.Bool.{false≢true, and_parts, and_from}
use Rattle.tandem_base.specs.FirstFault.{◌or_else◌}
use Rattle.msg_frames.specs.declared.message.Head.{Head}
use Rattle.msg_frames.specs.declared.message.LineWrite.{LineWrite}
use Rattle.msg_frames.specs.declared.message.Message.{Message}
use Rattle.msg_frames.specs.declared.message.Piece.{Piece}
use Rattle.elf_image.specs.Images.{Loaded}
use Rattle.matching.specs.declared.reports.OpenReport.{OpenReport}
use Rattle.matching.specs.declared.stores.Fate.{Fate}
use Rattle.matching.specs.declared.stores.Held.{Held}
use Rattle.matching.specs.declared.stores.Stored.{Stored}
use Rattle.matching.specs.Compares.{tag_fault_of}
use Rattle.matching.specs.Fates.{is_fresh}
use Rattle.matching.specs.Matching.{stream_fault_of, part_fault_of}
use Rattle.matching.specs.PartFaults.{poke_fault_of, late_fault_of, range_fault_of}
use Rattle.matching.specs.PartFaults.{is_within}
use Rattle.matching.specs.PartFaults.{is_again, is_known, unknown_fault_of, data_fault_in, data_fault_of, is_aligned}
use Rattle.matching.specs.PartFaults.{is_whole, torn_store_fault_of, part_fault_in, fate_at, second_bypass_fault}
use Rattle.msg_frames.specs.Pieces.{byte_written}
use Rattle.matching.specs.PartFaults.{byte_waiting, merge_fault_in, first_unmerged, merge_fault_of}
use Rattle.msg_frames.specs.Pieces.{has, byte_in}
use Rattle.matching.specs.Runs.{bypass_at}
use Rattle.matching.specs.Searches.{first_below}
use Rattle.matching.specs.Settings.{is_open, harts_of}
use Rattle.matching.specs.Stores.{retired_stores, store_under}
use Rattle.matching.specs.Tags.{is_younger}
use Rattle.order_laws.specs.Formed.{IsInStream, IsNewPart, IsFittingBypass, BringsWaiting}
use Rattle.order_laws.specs.Stepped.{AgreeOver, BringsStored, BypassSteps}
use Rattle.order_laws.proofs.Tests.{passes, fails, both, then, not_below, is_below, above, none_below, none_other}

-- ---- the stream

pub stream_is : (before : List Message) (m : Message) → (stream_fault_of before m ≡ None) ↔ IsInStream before m
stream_is [] m = passes (is_open m.body) _
stream_is (last ∷ before) m =
    at _ _ _ _ _ (is_open m.body) (ltb m.head.hart (harts_of (last ∷ before))) (ltb m.head.time last.head.time)
    (is_below m.head.hart (harts_of (last ∷ before))) (not_below m.head.time last.head.time)
  where
    at : {X : Type 0} (x y z : X) (L M : Type 0) (a b c : Bool) → (b ≡ true) ↔ L → (c ≡ false) ↔ M
        → (cond a (Some x) (cond b (cond c (Some y) None) (Some z)) ≡ None) ↔ ((a ≡ false) × L × M)
    at x y z L M true b c l m = ((λ e. absurd (cc)), λ h. absurd (false≢true (sym h.0)))
    at x y z L M false false c l m = ((λ e. absurd (cc)), λ h. absurd (false≢true (l.1 h.1)))
    at x y z L M false true true l m = ((λ e. absurd (cc)), λ h. absurd (false≢true (sym (m.1 h.2))))
    at x y z L M false true false l m = ((λ e. (refl, l.0 refl, m.0 refl)), λ h. refl)

-- ---- tags

pub poke_is : (o : Option ℕ) → (poke_fault_of o ≡ None) ↔ (o ≡ None)
poke_is None = ((λ e. refl), λ e. refl)
poke_is (Some last) = ((λ e. absurd (cc)), λ e. absurd (cc))

pub late_is : (o : Option ℕ) (tag : ℕ) → (late_fault_of o tag ≡ None) ↔ (is_younger o tag ≡ true)
late_is None tag = ((λ e. refl), λ e. refl)
late_is (Some last) tag = then _ _ _ (fails _ _) (above tag last)

pub tag_is : (o : Option ℕ) (tag : ℕ) → (tag_fault_of o tag ≡ None) ↔ (is_younger o tag ≡ true)
tag_is None tag = ((λ e. refl), λ e. refl)
tag_is (Some last) tag = then _ _ _ (fails _ _) (above tag last)

pub range_is : (b : Bool) → (range_fault_of b ≡ None) ↔ (b ≡ true)
range_is b = passes b _

-- ---- a part of a store

-- the store is known: the bytes are within it, and new
record IsKnownPart (fates : ℕ → Fate) (piece : Piece) (s : Stored) : Type 0 where
  within : is_within piece s.piece ≡ true
  new : (k : ℕ) → k < 8 → has piece (s.piece.addr + k) ≡ true → is_fresh (fates k) ≡ true

known_is : (fates : ℕ → Fate) (piece : Piece) (s : Stored) → (is_known fates piece s ≡ true)
    ↔ IsKnownPart fates piece s
unfolding is_known
known_is fates piece s = (on, back)
  where
    again : Option ℕ
    again = first_below (is_again fates piece s) 8

    no : (o : Option ℕ) → not (is_some o) ≡ true → o ≡ None
    no None e = refl
    no (Some k) e = absurd (false≢true e)

    fresh_at : (a b : Bool) → (a && not b) ≡ false → a ≡ true → b ≡ true
    fresh_at a true e q = refl
    fresh_at true false e q = absurd (false≢true (sym e))
    fresh_at false false e q = absurd (false≢true q)

    again_at : (a b : Bool) → (a ≡ true → b ≡ true) → (a && not b) ≡ false
    again_at true b h = ap not (h refl)
    again_at false b h = refl

    on : (is_within piece s.piece && not (is_some (first_below (is_again fates piece s) 8))) ≡ true
        → IsKnownPart fates piece s
    on e =
        let p = and_parts (is_within piece s.piece) (not (is_some (first_below (is_again fates piece s) 8))) e in
        record {
          within = p.0;
          new = λ k l q. fresh_at (has piece (s.piece.addr + k)) (is_fresh (fates k))
              ((none_below (is_again fates piece s) 8).0 (no _ p.1) k l) q;
        }

    back : IsKnownPart fates piece s
        → (is_within piece s.piece && not (is_some (first_below (is_again fates piece s) 8))) ≡ true
    back h = and_from _ _ h.within (ap (λ (o : Option ℕ). not (is_some o)) ((none_below (is_again fates piece s) 8).1
        (λ k l. again_at (has piece (s.piece.addr + k)) (is_fresh (fates k)) (h.new k l))))

data_none : (piece : Piece) (s : Stored) (o : Option ℕ) → (data_fault_in piece s o ≡ None) ↔ (o ≡ None)
data_none piece s None = ((λ e. refl), λ e. refl)
data_none piece s (Some k) = ((λ e. absurd (cc)), λ e. absurd (cc))

data_is : (piece : Piece) (s : Stored) → (data_fault_of piece s ≡ None)
    ↔ AgreeOver piece.addr (length piece.bytes) s.piece piece
data_is piece s = then _ _ _ (data_none piece s _)
    (none_other (byte_in s.piece) (byte_in piece) piece.addr (length piece.bytes))

torn_is : (piece : Piece) (s : Stored) → (torn_store_fault_of piece s ≡ None)
    ↔ (is_aligned s.piece ≡ true → is_whole piece s.piece ≡ true)
torn_is piece s = then _ _ _ (fails (is_aligned s.piece && not (is_whole piece s.piece)) _)
    (at (is_aligned s.piece) (is_whole piece s.piece))
  where
    at : (a b : Bool) → ((a && not b) ≡ false) ↔ (a ≡ true → b ≡ true)
    at true true = ((λ e q. refl), λ h. refl)
    at true false = ((λ e q. absurd (false≢true (sym e))), λ h. absurd (false≢true (h refl)))
    at false b = ((λ e q. absurd (false≢true q)), λ h. refl)

-- the faults of a part of this store
rows_is : (fates : Stored → ℕ → Fate) (piece : Piece) (s : Stored) → (part_fault_in fates piece (Some s) ≡ None)
    ↔ (IsKnownPart (fates s) piece s × AgreeOver piece.addr (length piece.bytes) s.piece piece
    × (is_aligned s.piece ≡ true → is_whole piece s.piece ≡ true))
rows_is fates piece s =
    let r = both (unknown_fault_of (fates s) piece s) (data_fault_of piece s or_else torn_store_fault_of piece s) _ _
    (then _ _ _ (passes (is_known (fates s) piece s) _) (known_is (fates s) piece s))
    (both (data_fault_of piece s) (torn_store_fault_of piece s) _ _ (data_is piece s) (torn_is piece s)) in
    ((λ e. let p = r.0 e in (p.0, p.1.0, p.1.1)), λ h. r.1 (h.0, (h.1, h.2)))

module _ (image : Loaded) (before : List Message) (head : Head) (piece : Piece) where
  abbrev under : Option Stored
  under = store_under head.tag (retired_stores image before head.hart)

  pub part_is : (part_fault_of image before head piece ≡ None)
      ↔ (IsNewPart image before head piece × BringsStored image before head piece)
  part_is = ((λ e. on under refl e), back)
    where
      on : (o : Option Stored) → under ≡ o → part_fault_in (fate_at before head.hart) piece o ≡ None
          → IsNewPart image before head piece × BringsStored image before head piece
      on None q e = absurd (cc)
      on (Some s) q e =
          let r = (rows_is (fate_at before head.hart) piece s).0 e in (
            record { store = s; retired = q; within = r.0.within; new = r.0.new; whole = r.2 },
            λ t f.
                let same : s ≡ t = let z : Some s ≡ Some t = sym q ∙ f in cc in
                subst (λ (z : Stored). AgreeOver piece.addr (length piece.bytes) z.piece piece) same r.1,
          )

      back : IsNewPart image before head piece × BringsStored image before head piece
          → part_fault_of image before head piece ≡ None
      back h =
          ap (part_fault_in (fate_at before head.hart) piece) h.0.retired
          ∙ (rows_is (fate_at before head.hart) piece h.0.store).1
          (record { within = h.0.within; new = h.0.new }, h.1 h.0.store h.0.retired, h.0.whole)

  second_is : (o : Option OpenReport) → (second_bypass_fault head.tag o ≡ None) ↔ (o ≡ None)
  second_is None = ((λ e. refl), λ e. refl)
  second_is (Some r) = ((λ e. absurd (cc)), λ e. absurd (cc))

  -- a Bypass, early or not
  pub bypass_is : (early : Bool)
      → (cond early (second_bypass_fault head.tag (bypass_at before head)) (part_fault_of image before head piece)
      ≡ None) ↔ (IsFittingBypass image before head piece early × BypassSteps image before head piece early)
  bypass_is true = let r = second_is (bypass_at before head) in ((λ e. (r.0 e, tt)), λ h. r.1 h.0)
  bypass_is false = part_is

-- ---- a Write

merge_none : (held : List Held) (write : LineWrite) (o : Option ℕ) → (merge_fault_in held write o ≡ None)
    ↔ (o ≡ None)
merge_none held write None = ((λ e. refl), λ e. refl)
merge_none held write (Some k) = ((λ e. absurd (cc)), λ e. absurd (cc))

pub merge_is : (held : List Held) (write : LineWrite) → (merge_fault_of held write ≡ None) ↔ BringsWaiting held write
unfolding first_unmerged
merge_is held write = then _ _ _ (merge_none held write (first_unmerged held write))
    (none_other (byte_waiting held) (byte_written write) write.line 64)
