-- Captures stay what the stores before their place left.
use Rattle.std.proofs.Common.{ℕ, ◌+◌, ◌≤◌, ◌≡◌, inl, inr, true, false, subst, Option, Some, None, sym, ◌∙◌}
use Rattle.std.proofs.Common.{slice_index, slice_index_or}
use Rattle.std.proofs.lemmas.Bool.{and_parts}
use Rattle.tandem_base.specs.declared.names.Place.{Place}
use Rattle.tandem_base.specs.Extents.{is_among}
use Rattle.rvwmo_model.specs.declared.operations.Op.{Op}
use Rattle.rvwmo_model.specs.declared.traces.Trace.{Trace}
use Rattle.rvwmo_model.specs.Order.{standing, op_stores, has_byte, precedes, writes}
use Rattle.rvwmo_model.proofs.Orders.{before_self}
use Rattle.growth_laws.specs.Kinds.{WellKinded}
use Rattle.growth_laws.specs.Writers.{GoesOn, WritersGo}
use Rattle.growth_laws.proofs.Places.{not_both, rank_same}
use Rattle.growth_laws.proofs.Facts.{alike}
use Rattle.byte_memory.specs.declared.capture.Foreign.{Foreign}
use Rattle.byte_memory.specs.Captures.{block_base}
use Rattle.growth_laws.proofs.Messages.{keeps_writers}
use Rattle.window_laws.specs.Captures.{IsStoredBefore, IsForeignOf, IsForeignStore, TellsForeignIfAny}
use Rattle.window_laws.specs.CaptureLaws.{StoresAreLate, CapturesStay}
use Rattle.window_laws.proofs.Stores.{IsToldAs, GoOn, foreign_on, tells_latest_on, tells_byte_on, writer_same}

stores_it : (x : ℕ) (n : Op) → writes x n ≡ true → op_stores n ≡ true
stores_it x n q = (and_parts (op_stores n) (has_byte x n) q).0

-- stores before the place go on where they stand
pub before_on : (t t' : Trace) (place : Place) (x : ℕ) → WritersGo t t' x → StoresAreLate t t' place
    → GoOn x (IsStoredBefore t place x) (IsStoredBefore t' place x)
before_on t t' place x go late = record {
  on = λ w p. (let g = go.on w p.0 p.1 in forth w g.0 p g.1);
  back = λ n q. elim (go.back n q.0 q.1) [
    | inl g ↦ behind g.0 n q g.1
    | inr f ↦ absurd (late n q.0 (stores_it x n q.1) f.0 q.2)
  ];
}
  where
    forth : (w n : Op) → IsStoredBefore t place x w → GoesOn t t' x w n
        → (n : Op) × IsStoredBefore t' place x n × IsToldAs x w n
    forth w n p g = elim g.becomes.place [
      | inr m ↦ absurd (not_both w (p.2.0, p.2.1) m.0)
      | inl e ↦ (
        n,
        (g.is, g.stores, (p.2.0, e ∙ p.2.1, p.2.2)),
        record { same = g.becomes.same; place = e; byte = g.byte },
      )
    ]

    behind : (w n : Op) → IsStoredBefore t' place x n → GoesOn t t' x w n
        → (w : Op) × IsStoredBefore t place x w × IsToldAs x w n
    behind w n q g = elim g.becomes.place [
      | inr m ↦ absurd (late n q.0 (stores_it x n q.1) m.2 q.2)
      | inl e ↦ (
        w,
        (g.was, g.stored, (q.2.0, sym e ∙ q.2.1, q.2.2)),
        record { same = g.becomes.same; place = e; byte = g.byte },
      )
    ]

-- the latest store of another hart to a block goes on
module _ (t t' : Trace) (place : Place) (h base size : ℕ) (k : WellKinded t) (go : (x : ℕ) → WritersGo t t' x)
    (late : StoresAreLate t t' place) where
  at_byte : (x : ℕ) → GoOn x (IsForeignOf (IsStoredBefore t place x) h) (IsForeignOf (IsStoredBefore t' place x) h)
  at_byte x = foreign_on x h (IsStoredBefore t place x) (IsStoredBefore t' place x) (before_on t t' place x (go x) late)

  stands : (x : ℕ) (w n : Op) → IsToldAs x w n → standing n ≡ standing w
  stands x w n e = rank_same n w e.same e.place

  pub foreign_stays : (found : Option Foreign) → TellsForeignIfAny t place h base size found
      → TellsForeignIfAny t' place h base size found
  foreign_stays None none = λ v p. (let w = (at_byte p.0).back v p.2 in none w.0 (p.0, p.1, w.1))
  foreign_stays (Some found) f = record {
    store = n.0;
    latest = record { here = (found.at, f.lowest.here.0, n.1); latest = no_later };
    told = writer_same found.at f.store n.0 n.2 ∙ f.told;
    lowest = record { here = (f.lowest.here.0, n.1.0.1); lowest = lowest };
  }
    where
      here : IsForeignOf (IsStoredBefore t place found.at) h f.store
      here = let p = f.latest.here.2 in ((p.0.0, f.lowest.here.1, p.0.2), p.1)

      n : (n : Op) × IsForeignOf (IsStoredBefore t' place found.at) h n × IsToldAs found.at f.store n
      n = (at_byte found.at).on f.store here

      no_later : (u : Op) → IsForeignStore t' place h base size u → precedes n.0 u ≡ false
      no_later u p =
          let w = (at_byte p.0).back u p.2 in
          let y : precedes f.store w.0 ≡ false = f.latest.latest w.0 (p.0, p.1, w.1) in
          rw (stands found.at f.store n.0 n.2, stands p.0 w.0 u w.2) y

      lowest : (y : ℕ) → (is_among base size y ≡ true) × (writes y n.0 ≡ true) → found.at ≤ y
      lowest y p =
          let w = (at_byte y).back n.0 ((n.1.0.0, p.1, n.1.0.2), n.1.1) in
          let same_place : standing w.0 ≡ standing f.store =
          sym (stands y w.0 n.0 w.2) ∙ stands found.at f.store n.0 n.2 in
          let before : precedes w.0 f.store ≡ false = rw same_place (before_self (standing f.store)) in
          let after : precedes f.store w.0 ≡ false = rw same_place (before_self (standing f.store)) in
          let same : w.0 ≡ f.store = alike t w.0 f.store k w.1.0.0 here.0.0 before after in
          f.lowest.lowest y (p.0, subst (λ (z : Op). writes y z ≡ true) same w.1.0.1)

pub captures_go_on : CapturesStay
captures_go_on = record {
  loads = λ initial t t' place extent capture k g late h. record {
    taken = h.taken;
    base = h.base;
    bytes = λ n l. (let x = capture.base + n in
        tells_byte_on initial x (IsStoredBefore t place x) (IsStoredBefore t' place x)
        (slice_index_or capture.last n None) (slice_index capture.values n)
        (before_on t t' place x (keeps_writers t t' x k g) late) (h.bytes n l));
  };
  stores = λ initial t t' place extent hart block capture k g late h. record {
    seen = record {
      taken = h.seen.taken;
      base = h.seen.base;
      bytes = λ n l. (let x = capture.seen.base + n in
          tells_byte_on initial x (IsStoredBefore t place x) (IsStoredBefore t' place x)
          (slice_index_or capture.seen.last n None) (slice_index capture.seen.values n)
          (before_on t t' place x (keeps_writers t t' x k g) late) (h.seen.bytes n l));
    };
    other = λ n w l e. (let x = capture.seen.base + n in
        tells_latest_on x (IsForeignOf (IsStoredBefore t place x) w.hart)
        (IsForeignOf (IsStoredBefore t' place x) w.hart) (slice_index_or capture.other n None)
        (foreign_on x w.hart (IsStoredBefore t place x) (IsStoredBefore t' place x)
        (before_on t t' place x (keeps_writers t t' x k g) late)) (h.other n w l e));
    foreign = foreign_stays t t' place hart (block_base extent.addr block) block k
        (λ x. keeps_writers t t' x k g) late capture.foreign h.foreign;
  };
}
