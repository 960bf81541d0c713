-- The latest operation on which something depends, from the latest of each instruction.
use Rattle.std.proofs.Common.{ℕ, ◌<◌, ◌≡◌, Bool, true, false, List, cond, Option, Some, None, refl, sym, ap, subst, ◌∙◌}
use Rattle.std.specs.Option.{option_map}
use Rattle.std.specs.List.{Contains}
use Rattle.std.proofs.lemmas.List.Elements.{Contains-append_left}
use Rattle.tandem_base.specs.declared.mark.Mark.{Mark}
use Rattle.tandem_base.specs.declared.names.OpName.{OpName}
use Rattle.tandem_base.specs.declared.names.Place.{Place}
use Rattle.tandem_base.specs.declared.names.Position.{Position}
use Rattle.tandem_base.specs.Places.{comes_before}
use Rattle.rv_decode.specs.Kinds.{is_store}
use Rattle.rvwmo_model.specs.declared.operations.Op.{Op}
use Rattle.rvwmo_model.specs.declared.traces.Trace.{Trace}
use Rattle.rvwmo_model.specs.Order.{performed, stands_before, standing_of, standing, precedes, everything}
use Rattle.rvwmo_model.specs.ProgramOrder.{insn_of, is_one}
use Rattle.rvwmo_model.specs.Report.{IsLatest}
use Rattle.rvwmo_model.proofs.Orders.{not_before_trans}
use Rattle.window_laws.specs.Latest.{IsLatestIfAny}
use Rattle.window_laws.specs.Tables.{untimed, ArePositioned}
use Rattle.rule_laws.specs.Above.{if_over}
use Rattle.rule_laws.specs.Own.{IsOwnPerformed}
use Rattle.dep_tracker.specs.Marks.{IsLatestMark}
use Rattle.dependency_rules.specs.Asked.{name_past}
use Rattle.dependency_rules.specs.Starts.{IsStartOf, op_as_mark, as_mark, AreStarts}

abbrev pub made : Op → Place → Mark
made v p = record { name = v.name; place = untimed p }

pub marked : (v : Op) (p : Place) → v.place ≡ Some p → op_as_mark v ≡ Some (made v p)
marked v p e = ap (λ (o : Option Place). option_map (made v) o) e

-- a mark is of an operation that was performed
pub of_mark : (v : Op) (m : Mark) → op_as_mark v ≡ Some m → (p : Place) × (v.place ≡ Some p) × (m ≡ made v p)
of_mark v m e = at v.place refl
  where
    at : (o : Option Place) → v.place ≡ o → (p : Place) × (v.place ≡ Some p) × (m ≡ made v p)
    at (Some p) f = (
      p,
      f,
      (let c : Some (made v p) ≡ Some m = sym (marked v p f) ∙ e in let d : made v p ≡ m = cc in sym d),
    )
    at None f =
        absurd (let c : None ≡ Some m = sym (ap (λ (o : Option Place). option_map (made v) o) f) ∙ e in cc)

-- operations of a trace stand as their marks do
pub marks_order : (t : Trace) (u w : Op) (m n : Mark) → ArePositioned t → Contains (everything t) u
    → Contains (everything t) w → op_as_mark u ≡ Some m → op_as_mark w ≡ Some n
    → precedes u w ≡ comes_before m.place n.place
unfolding stands_before
marks_order t u w m n order hu hw eu ew =
    let a = of_mark u m eu in
    let b = of_mark w n ew in
    let fu : u.place ≡ Some a.0 = a.1 in
    let fw : w.place ≡ Some b.0 = b.1 in
    let o = order u w a.0 b.0 hu hw fu fw in
    let c : m.place ≡ untimed a.0 = ap (λ (z : Mark). z.place) a.2 in
    let d : n.place ≡ untimed b.0 = ap (λ (z : Mark). z.place) b.2 in
    ap (λ (z : Option Place). stands_before (standing_of u.name z) (standing w)) fu
    ∙ ap (λ (z : Option Place). stands_before (performed a.0) (standing_of w.name z)) fw ∙ o
    ∙ ap (λ (z : Position). comes_before z (untimed b.0)) (sym c)
    ∙ ap (λ (z : Position). comes_before m.place z) (sym d)

-- the name of the mark of an operation that comes after b
pub names_past : (t : Trace) (b : Op) (place : Position) (first : Option Op) → ArePositioned t
    → Contains (everything t) b → Some place ≡ option_map untimed b.place
    → ((v : Op) → first ≡ Some v → Contains (everything t) v × ((p : Place) × (v.place ≡ Some p)))
    → name_past place (as_mark first) ≡ option_map (λ (v : Op). v.name) (if_over (standing b) first)
names_past t b place None order hb eb there = refl
names_past t b place (Some v) order hb eb there =
    let h = there v refl in
    let m = made v h.1.0 in
    let e : op_as_mark v ≡ Some m = marked v h.1.0 h.1.1 in
    let c : precedes b v ≡ comes_before place m.place = at b.place refl m e h.0 in
    ap (λ (o : Option Mark). name_past place o) e ∙ both (comes_before place m.place)
    ∙ ap (λ (z : Bool). option_map (λ (w : Op). w.name) (cond z (Some v) None)) (sym c)
  where
    at : (o : Option Place) → b.place ≡ o → (m : Mark) → op_as_mark v ≡ Some m → Contains (everything t) v
        → precedes b v ≡ comes_before place m.place
    at (Some p) f m e h =
        let c : Some place ≡ Some (untimed p) = eb ∙ ap (λ (o : Option Place). option_map untimed o) f in
        let d : place ≡ untimed p = cc in
        marks_order t b v (made b p) m order hb h (marked b p f) e
        ∙ ap (λ (z : Position). comes_before z m.place) (sym d)
    at None f m e h =
        absurd (let c : Some place ≡ None = eb ∙ ap (λ (o : Option Place). option_map untimed o) f in cc)

    both : (c : Bool) → cond c (Some v.name) None ≡ option_map (λ (w : Op). w.name) (cond c (Some v) None)
    both true = refl
    both false = refl

module _ (t t' : Trace) (h below : ℕ) (order : ArePositioned t') (starts : ℕ → Option Mark)
    (are : AreStarts t h below starts) (P : ℕ → Type 0) (older : (i : ℕ) → P i → i < below)
    (on : (v : Op) → Contains t.ops v → Contains t'.ops v)
    (begins : (v : Op) → IsOwnPerformed t h v → P v.name.tag → is_one is_store (insn_of t v) ≡ false) where
  in_all : (v : Op) → IsOwnPerformed t h v → Contains (everything t') v
  in_all v own = Contains-append_left t'.ops t'.early v (on v own.0.0)

  -- the latest operation of the instruction of v, with its mark
  abbrev Begun : ℕ → Type 0
  Begun k = (u : Op) × (m : Mark) × IsLatest (IsStartOf t h k) u × (op_as_mark u ≡ Some m) × (starts k ≡ Some m)

  begun : (v : Op) → IsOwnPerformed t h v → P v.name.tag → Begun v.name.tag
  begun v own p = let a = are v.name.tag (older v.name.tag p) in at a.0 a.1 a.2
    where
      at : (o : Option Op) → IsLatestIfAny (IsStartOf t h v.name.tag) o → starts v.name.tag ≡ as_mark o
          → Begun v.name.tag
      at (Some u) l e =
          let m = marked u l.here.0.1.0 l.here.0.1.1 in (u, made u l.here.0.1.0, l, m, e ∙ m)
      at None l e = absurd (l v (own, refl, begins v own p))

  abbrev Meant : Op → Type 0
  Meant v = IsOwnPerformed t h v × P v.name.tag

  abbrev Depended : Mark → Type 0
  Depended m = (i : ℕ) × P i × (starts i ≡ Some m)

  pub latest_dep : (mark : Option Mark) → IsLatestMark Depended mark
      → (first : Option Op) × IsLatestIfAny Meant first × (mark ≡ as_mark first)
  latest_dep None d = (None, (λ v q. let s = begun v q.0 q.1 in d s.1 (v.name.tag, q.1, s.4)), refl)
  latest_dep (Some m) d = let a = are d.0.0 (older d.0.0 d.0.1) in at a.0 a.1 (sym d.0.2 ∙ a.2)
    where
      at : (o : Option Op) → IsLatestIfAny (IsStartOf t h d.0.0) o → Some m ≡ as_mark o
          → (first : Option Op) × IsLatestIfAny Meant first × (Some m ≡ as_mark first)
      at None l e = absurd (cc)
      at (Some u) l e = (
        Some u,
        record {
          here = (l.here.0, subst P (sym l.here.1) d.0.1);
          latest = λ v q.
              let s = begun v q.0 q.1 in
              let w = s.0 in
              let c = marks_order t' u w m s.1 order (in_all u l.here.0) (in_all w s.2.here.0) (sym e) s.3 in
              not_before_trans (standing u) (standing w) (standing v)
              (c ∙ d.1 s.1 (v.name.tag, q.1, s.4))
              (s.2.latest v (q.0, refl, begins v q.0 q.1));
        },
        e,
      )
