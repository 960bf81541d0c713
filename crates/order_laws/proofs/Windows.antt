-- What is closed precedes what comes.
use Rattle.std.proofs.Common.{ℕ, ◌+◌, ◌<◌, ◌≤◌, ◌≡◌, ◌⊎◌, inl, inr, Bool, true, false, List, [], ◌∷◌, ◌++◌, length}
use Rattle.std.proofs.Common.{eqb, Option, Some, None, refl, sym, ap, subst, ◌∙◌, arith}
use Rattle.std.proofs.lemmas.Bool.{eq-eqb}
use Rattle.std.proofs.lemmas.Bool.Decides.{nat_tests}
use Rattle.std.proofs.lemmas.List.{length-append}
use Rattle.std.proofs.lemmas.List.Elements.{Contains-append_left}
use Rattle.std.specs.List.{filter}
use Rattle.tandem_base.specs.declared.names.Place.{Place}
use Rattle.tandem_base.specs.declared.names.Position.{Position}
use Rattle.tandem_base.specs.Places.{earlier, comes_before}
use Rattle.msg_frames.specs.declared.message.Message.{Message}
use Rattle.elf_image.specs.Images.{Loaded}
use Rattle.rvwmo_model.specs.declared.operations.Op.{Op}
use Rattle.rvwmo_model.specs.declared.traces.Trace.{Trace}
use Rattle.rvwmo_model.specs.Order.{stands_before, performed}
use Rattle.elf_image.specs.Images.{initial_byte}
use Rattle.rvwmo_model.proofs.Membership.{nothing_in}
use Rattle.growth_laws.specs.Growth.{Grows}
use Rattle.growth_laws.specs.Kinds.{WellKinded}
use Rattle.growth_laws.specs.Laws.{IsLater, IsBelow}
use Rattle.growth_laws.proofs.Windows.{windows}
use Rattle.growth_laws.proofs.Chains.{chain_stays}
use Rattle.growth_laws.proofs.Growths.{grows_chain}
use Rattle.matching.specs.declared.reports.OpenReport.{OpenReport}
use Rattle.matching.specs.Reports.{live, early, place_of_report}
use Rattle.matching.specs.Matching.{IsClean}
use Rattle.trace_model.specs.Kept.{earlier_of, earliest_place, oldest_place}
use Rattle.trace_model.specs.LaterPlaces.{IsReported, IsOrigin}
use Rattle.trace_model.specs.Positions.{IsPerformedAt, HasMessage, position_of}
use Rattle.trace_model.specs.Traces.{trace_of}
use Rattle.trace_model.proofs.CleanLists.{lists_are_well_kinded, lists_grow}
use Rattle.trace_model.proofs.LaterPlaces.{places_of_later}
use Rattle.trace_model.proofs.Lists.{In, listed, in_left, in_right, in_filter}
use Rattle.trace_model.proofs.Positions.{places_are_ordered, places_have_messages}
use Rattle.order_laws.specs.Prefixes.{IsLegal, IsNotAfter, IsClosed, ClosedPrecedesLater}
use Rattle.order_laws.proofs.Legality.{clean_before}

-- ---- the order of places

not_earlier_self : (p : Place) → earlier p p ≡ false
not_earlier_self p = grind (arith, nat_tests)

-- not earlier is transitive
not_earlier_trans : (p q r : Place) → earlier p q ≡ false → earlier q r ≡ false → earlier p r ≡ false
not_earlier_trans p q r a b = grind (arith, nat_tests)

asym : (p q : Place) → earlier p q ≡ true → earlier q p ≡ false
asym p q a = grind (arith, nat_tests)

-- ---- the oldest report

-- the earliest of some places is one that none of them is earlier than
record IsEarliest (rs : List OpenReport) (r : OpenReport) : Type 0 where
  place : Place
  is : earliest_place rs ≡ Some place
  first : earlier (place_of_report r) place ≡ false

earliest : (rs : List OpenReport) (r : OpenReport) → In r rs → IsEarliest rs r
earliest [] r i = absurd i
earliest (s ∷ rs) r i = at (earliest_place rs) refl i (earliest rs r)
  where
    p : Place
    p = place_of_report s

    at : (o : Option Place) → earliest_place rs ≡ o → (r ≡ s) ⊎ In r rs → (In r rs → IsEarliest rs r)
        → IsEarliest (s ∷ rs) r
    at None e (inl q) rec = record {
      place = p;
      is = ap (λ (z : Option Place). Some (earlier_of p z)) e;
      first = rw q (not_earlier_self p);
    }
    at None e (inr j) rec = let h = rec j in absurd (let z : Some h.place ≡ None = sym h.is ∙ e in cc)
    at (Some o) e i rec = choose (earlier o p) refl i
      where
        choose : (b : Bool) → earlier o p ≡ b → (r ≡ s) ⊎ In r rs → IsEarliest (s ∷ rs) r
        choose true f i = record {
          place = o;
          is = ap (λ (z : Option Place). Some (earlier_of p z)) e ∙ rw f refl;
          first = elim i [
            | inl q ↦ rw q (asym o p f)
            | inr j ↦ let h = rec j in let z : Some h.place ≡ Some o = sym h.is ∙ e in
                subst (λ (y : Place). earlier (place_of_report r) y ≡ false) (let w : h.place ≡ o = cc in w) h.first
          ];
        }
        choose false f i = record {
          place = p;
          is = ap (λ (z : Option Place). Some (earlier_of p z)) e ∙ rw f refl;
          first = elim i [
            | inl q ↦ rw q (not_earlier_self p)
            | inr j ↦ let h = rec j in let z : Some h.place ≡ Some o = sym h.is ∙ e in
                not_earlier_trans (place_of_report r) o p
                (subst (λ (y : Place). earlier (place_of_report r) y ≡ false) (let w : h.place ≡ o = cc in w) h.first) f
          ];
        }

-- an open report of hart h isn't earlier than what is closed
report_after : (before : List Message) (h : ℕ) (p q : Place) → IsNotAfter p (oldest_place before h)
    → IsReported before h q → earlier q p ≡ false
report_after before h p q n r = rw r.2 (at (earliest (live before h ++ filter (λ (s : OpenReport). eqb s.hart h)
    (early before)) r.0 there))
  where
    there : In r.0 (live before h ++ filter (λ (s : OpenReport). eqb s.hart h) (early before))
    there = elim r.1 [
      | inl i ↦ in_left _ _ r.0 (listed _ r.0 i)
      | inr e ↦ in_right (live before h) _ r.0
          (in_filter (λ (s : OpenReport). eqb s.hart h) (early before) r.0 (listed _ r.0 e.0) (eq-eqb _ _ e.1))
    ]

    at : IsEarliest (live before h ++ filter (λ (s : OpenReport). eqb s.hart h) (early before)) r.0
        → earlier (place_of_report r.0) p ≡ false
    at e = not_earlier_trans (place_of_report r.0) e.place p e.first (subst (IsNotAfter p) e.is n)

-- ---- later messages

-- the message of a place is one of the list
in_list : (messages : List Message) (p : Place) → HasMessage messages p → p.message ≤ length messages
in_list messages p h =
    let e : length messages ≡ length h.message.later + (1 + length h.older) =
    ap length h.message.whole ∙ length-append h.message.later _ ∙ omega arith in
    let n = h.message.number in
    omega arith

position_after : (a b : Position) → a.message < b.message → comes_before b a ≡ false
position_after a b l = grind (arith, nat_tests)

module _ (image : Loaded) (later : List Message) (m : Message) (before : List Message) (a : Op)
    (c : IsClean image (later ++ m ∷ before)) (legal : IsLegal image (m ∷ before))
    (closed : IsClosed image (m ∷ before) a) where
  abbrev old : Trace
  old = trace_of image (m ∷ before)

  abbrev new : Trace
  new = trace_of image (later ++ m ∷ before)

  c' : IsClean image (m ∷ before)
  c' = clean_before image later (m ∷ before) c

  kinded : WellKinded old
  kinded = lists_are_well_kinded image (m ∷ before) c' (omega arith)

  grows : Grows old new
  grows = lists_grow image later (m ∷ before) c (omega arith)

  was : IsPerformedAt image (m ∷ before) a closed.place
  was = record { there = Contains-append_left old.ops old.early a closed.in_ops; place = closed.placed }

  stays : IsPerformedAt image (later ++ m ∷ before) a closed.place
  stays = record {
    there = Contains-append_left new.ops new.early a
        (chain_stays old new a (grows_chain old new kinded grows) closed.in_ops (closed.place, closed.placed));
    place = closed.placed;
  }

  -- the place of b isn't earlier than that of a
  not_earlier : (b : Op) → IsLater old new a b → (q : Place) → b.place ≡ Some q → earlier q closed.place ≡ false
  not_earlier b l q e = at (subst (IsOrigin (m ∷ before) b.name.hart) e
      (places_of_later image later (m ∷ before) b c l.in_ops l.younger))
    where
      at : IsOrigin (m ∷ before) b.name.hart (Some q) → earlier q closed.place ≡ false
      at (inl n) =
          let i = in_list (m ∷ before) closed.place
          (places_have_messages image (m ∷ before) a closed.place c' was) in
          places_are_ordered image (later ++ m ∷ before) b a q closed.place c
          (record { there = Contains-append_left new.ops new.early b l.in_ops; place = e }) stays
          ∙ position_after (position_of closed.place) (position_of q) (omega arith)
      at (inr r) = report_after (m ∷ before) a.name.hart closed.place q closed.oldest
          (subst (λ (h : ℕ). IsReported (m ∷ before) h q) l.one_hart r)

  unprecedes : (p q : Place) → earlier q p ≡ false → stands_before (performed q) (performed p) ≡ false
  unfolding stands_before
  unprecedes p q e = e

  below : IsBelow old new a
  below = record {
    in_ops = closed.in_ops;
    placed = (closed.place, closed.placed);
    below = λ b' l p. rw (p.1, closed.placed) (unprecedes closed.place p.0 (not_earlier b' l p.0 p.1));
  }

pub closed_precedes : ClosedPrecedesLater
closed_precedes image later [] a b c legal closed l = absurd (nothing_in a closed.in_ops)
closed_precedes image later (m ∷ before) a b c legal closed l =
    windows (initial_byte image) _ _ a b (kinded image later m before a c legal closed) legal
    (grows image later m before a c legal closed) (below image later m before a c legal closed) l
