-- The latest store of another hart to a block, as a capture has it.
use Rattle.std.proofs.Common.{ℕ, option_map, ◌≤◌, ◌≡◌, inl, inr, true, false, Option, Some, None, sym, ap, ◌∙◌}
use Rattle.std.proofs.lemmas.Bool.{both_ways, cases_lt}
use Rattle.tandem_base.specs.declared.names.Place.{Place}
use Rattle.tandem_base.specs.declared.names.Position.{Position}
use Rattle.tandem_base.specs.Extents.{is_among}
use Rattle.tandem_base.specs.Places.{comes_before}
use Rattle.rvwmo_model.specs.declared.operations.Op.{Op}
use Rattle.rvwmo_model.specs.declared.traces.Trace.{Trace}
use Rattle.rvwmo_model.specs.Order.{standing, precedes, writes}
use Rattle.rvwmo_model.specs.Report.{IsLatest}
use Rattle.rvwmo_model.proofs.Orders.{not_before_trans}
use Rattle.byte_memory.specs.declared.capture.Foreign.{Foreign}
use Rattle.byte_memory.specs.declared.memory.Memory.{Memory}
use Rattle.byte_memory.specs.declared.writer.Writer.{Writer}
use Rattle.byte_memory.specs.Captures.{FindsForeign}
use Rattle.byte_memory.specs.Memory.{written_at, foreign_writer}
use Rattle.window_laws.specs.Latest.{IsLatestIfAny}
use Rattle.window_laws.specs.Tables.{untimed, ArePositioned, writer_of, writer_from}
use Rattle.window_laws.specs.Captures.{IsStoredBefore, IsForeignOf, TellsLatest, TellsStores, IsForeignStore}
use Rattle.window_laws.specs.Captures.{TellsForeignIfAny}
use Rattle.window_laws.proofs.Placed.{by_place}
use Rattle.window_laws.proofs.Stores.{foreign_of, writer_place}

module _ (t : Trace) (memory : Memory) (place : Place) (h base size : ℕ) (order : ArePositioned t)
    (told : (x : ℕ) → TellsStores (IsStoredBefore t place x) x (written_at memory x)) where
  abbrev At : ℕ → Op → Type 0
  At x v = IsForeignOf (IsStoredBefore t place x) h v

  at_byte : (x : ℕ) → TellsLatest (At x) (foreign_writer h (written_at memory x))
  at_byte x = foreign_of h (IsStoredBefore t place x) x (written_at memory x) (told x)

  -- where a store of another hart is there, one is found
  some_at : (x : ℕ) (v : Op) → At x v
      → (w : Writer) × (m : Op) × (foreign_writer h (written_at memory x) ≡ Some w) × (writer_of m ≡ Some w)
      × IsLatest (At x) m
  some_at x v p = at (at_byte x).store (at_byte x).latest (at_byte x).told
    where
      at : (s : Option Op) → IsLatestIfAny (At x) s → foreign_writer h (written_at memory x) ≡ writer_from s
          → (w : Writer) × (m : Op) × (foreign_writer h (written_at memory x) ≡ Some w) × (writer_of m ≡ Some w)
          × IsLatest (At x) m
      at None l e = absurd (l v p)
      at (Some m) l e =
          let q = l.here.0.2 in
          let w : Writer = record { hart = m.name.hart; tag = m.name.tag; place = untimed q.0 } in
          let f : writer_of m ≡ Some w = ap (λ (o : Option Place). option_map (λ p. record {
            hart = m.name.hart;
            tag = m.name.tag;
            place = untimed p;
          }) o) q.1 in
          (w, m, e ∙ f, f, l)

  -- the store of a writer that is found at a byte
  found_at : (x : ℕ) (w : Writer) → foreign_writer h (written_at memory x) ≡ Some w
      → (m : Op) × (writer_of m ≡ Some w) × IsLatest (At x) m
  found_at x w e = at (at_byte x).store (at_byte x).latest (at_byte x).told
    where
      at : (s : Option Op) → IsLatestIfAny (At x) s → foreign_writer h (written_at memory x) ≡ writer_from s
          → (m : Op) × (writer_of m ≡ Some w) × IsLatest (At x) m
      at None l f = absurd (let c : Some w ≡ None = sym e ∙ f in cc)
      at (Some m) l f = (m, sym f ∙ e, l)

  -- writers compare as their stores do
  by_writer : (x y : ℕ) (m n : Op) (v w : Writer) → At x m → At y n → writer_of m ≡ Some v → writer_of n ≡ Some w
      → precedes m n ≡ comes_before v.place w.place
  by_writer x y m n v w p q e f =
      let a = p.0.2 in
      let b = q.0.2 in
      by_place m n a.0 b.0 a.1 b.1
      ∙ order m n a.0 b.0 p.0.0 q.0.0 a.1 b.1
      ∙ ap (λ (z : Position). comes_before z (untimed b.0)) (sym (writer_place m v a.0 a.1 e))
      ∙ ap (comes_before v.place) (sym (writer_place n w b.0 b.1 f))

  pub foreign_found : (found : Option Foreign) → FindsForeign memory h base size found
      → TellsForeignIfAny t place h base size found
  foreign_found None none = λ v p. (
      let s = some_at p.0 v p.2 in
      let c : None ≡ Some s.0 = sym (none p.0 p.1) ∙ s.2 in
      absurd (cc))
  foreign_found (Some found) f =
      let m = found_at found.at found.writer f.wrote in
      record {
        store = m.0;
        latest = record { here = (found.at, f.inside, m.2.here); latest = no_later m.0 m.1 m.2 };
        told = m.1;
        lowest = record { here = (f.inside, m.2.here.0.1); lowest = lowest m.0 m.1 m.2 };
      }
    where
      no_later : (m : Op) → writer_of m ≡ Some found.writer → IsLatest (At found.at) m → (u : Op)
          → IsForeignStore t place h base size u → precedes m u ≡ false
      no_later m e l u p =
          let s = some_at p.0 u p.2 in
          let c : precedes m s.1 ≡ false =
          by_writer found.at p.0 m s.1 found.writer s.0 l.here s.4.here e s.3 ∙ f.latest p.0 s.0 p.1 s.2 in
          not_before_trans (standing m) (standing s.1) (standing u) c (s.4.latest u p.2)

      lowest : (m : Op) → writer_of m ≡ Some found.writer → IsLatest (At found.at) m → (y : ℕ)
          → (is_among base size y ≡ true) × (writes y m ≡ true) → found.at ≤ y
      lowest m e l y p = elim (cases_lt y found.at) [
        | inr a ↦ a
        | inl less ↦ absurd (
            let here : At y m = ((l.here.0.0, p.1, l.here.0.2), l.here.1) in
            let s = some_at y m here in
            let c : precedes s.1 m ≡ true =
            by_writer y found.at s.1 m s.0 found.writer s.4.here l.here s.3 e ∙ f.lowest y s.0 p.0 less s.2 in
            both_ways _ (s.4.latest m here) c)
      ]
