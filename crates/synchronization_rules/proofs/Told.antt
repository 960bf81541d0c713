-- Marks and the operations that they tell.
use Rattle.std.proofs.Common.{ℕ, ◌≡◌, Bool, true, false, List, [], ◌∷◌, cond, Option, Some, None, refl, sym, ap}
use Rattle.std.proofs.Common.{subst, ◌∙◌}
use Rattle.std.specs.Option.{option_map}
use Rattle.std.specs.List.{Contains, filter}
use Rattle.tandem_base.specs.declared.mark.Mark.{Mark}
use Rattle.tandem_base.specs.declared.names.OpName.{OpName}
use Rattle.tandem_base.specs.declared.names.Place.{Place}
use Rattle.tandem_base.specs.declared.names.Position.{Position}
use Rattle.tandem_base.specs.Places.{comes_before}
use Rattle.rvwmo_model.specs.declared.operations.Op.{Op}
use Rattle.rvwmo_model.specs.declared.traces.Trace.{Trace}
use Rattle.rvwmo_model.specs.Order.{performed, stands_before, standing_of, standing, precedes, everything}
use Rattle.rvwmo_model.specs.Sources.{later, latest_from}
use Rattle.rvwmo_model.specs.InForm.{IsPlaced}
use Rattle.rvwmo_model.proofs.Membership.{first_in, tail_in}
use Rattle.window_laws.specs.Tables.{untimed, ArePositioned}
use Rattle.rule_laws.specs.Above.{if_over, later_of}
use Rattle.synchronization_rules.specs.declared.operation.MarkedOp.{MarkedOp}
use Rattle.synchronization_rules.specs.Marks.{op_mark, later_with, later_of_marks, raised, named_past}
use Rattle.synchronization_rules.specs.Asked.{op_told, and_told, ops_told, mark_told}

-- an operation that was performed at a place
abbrev pub made : Op → Place → MarkedOp
made v p = record { kind = v.kind; name = v.name; place = untimed p; acquire = v.acquire; release = v.release }

abbrev pub mark_at : Op → Place → Mark
mark_at v p = record { name = v.name; place = untimed p }

pub told_at : (v : Op) (p : Place) → v.place ≡ Some p → op_told v ≡ Some (made v p)
told_at v p e = ap (λ (o : Option Place). option_map (made v) o) e

pub mark_is : (v : Op) (p : Place) → v.place ≡ Some p → mark_told (Some v) ≡ Some (mark_at v p)
mark_is v p e = ap (λ (o : Option MarkedOp). option_map op_mark o) (told_at v p e)

-- what is told of was performed
pub told_is : (v : Op) (op : MarkedOp) → op_told v ≡ Some op → (p : Place) × (v.place ≡ Some p) × (made v p ≡ op)
told_is v op e = at v.place refl
  where
    at : (o : Option Place) → v.place ≡ o → (p : Place) × (v.place ≡ Some p) × (made v p ≡ op)
    at (Some p) f = (p, f, (let c : Some (made v p) ≡ Some op = sym (told_at v p f) ∙ e in cc))
    at None f = absurd (let c : None ≡ Some op = sym (ap (λ (o : Option Place). option_map (made v) o) f) ∙ e in cc)

-- an operation of the trace that was performed
abbrev pub IsPlacedIn : Trace → Op → Type 0
IsPlacedIn t v = Contains (everything t) v × IsPlaced v

-- the same, where there is one
abbrev pub IsPlacedIfAny : Trace → Option Op → Type 0
IsPlacedIfAny t m = (v : Op) → m ≡ Some v → IsPlacedIn t v

-- operations stand as their positions do
order_is : (t : Trace) (v w : Op) (p q : Place) → ArePositioned t → Contains (everything t) v
    → Contains (everything t) w → v.place ≡ Some p → w.place ≡ Some q
    → precedes v w ≡ comes_before (untimed p) (untimed q)
unfolding stands_before
order_is t v w p q order hv hw ev ew =
    ap (λ (z : Option Place). stands_before (standing_of v.name z) (standing w)) ev
    ∙ ap (λ (z : Option Place). stands_before (performed p) (standing_of w.name z)) ew ∙ order v w p q hv hw ev ew

-- several operations are taken in, those that pass a test
abbrev pub noted : (MarkedOp → Bool) → List MarkedOp → Option Mark → Option Mark
noted test [] m = m
noted test (o ∷ os) m = noted test os (raised (test o) m (op_mark o))

module _ (t : Trace) (order : ArePositioned t) where
  pub later_told : (m : Option Op) (n : Op) (q : Place) → IsPlacedIfAny t m → Contains (everything t) n
      → n.place ≡ Some q → mark_told (later m n) ≡ later_with (mark_told m) (mark_at n q)
  later_told None n q hm hn en = mark_is n q en
  later_told (Some v) n q hm hn en =
      let h = hm v refl in
      let p = h.1.0 in
      both p h.1.1 (precedes v n)
      ∙ ap (λ (c : Bool). cond c (Some (mark_at n q)) (Some (mark_at v p)))
      (order_is t v n p q order h.0 hn h.1.1 en)
      ∙ ap (λ (z : Option Mark). later_with z (mark_at n q)) (sym (mark_is v p h.1.1))
    where
      both : (p : Place) → v.place ≡ Some p → (c : Bool)
          → mark_told (cond c (Some n) (Some v)) ≡ cond c (Some (mark_at n q)) (Some (mark_at v p))
      both p e true = mark_is n q en
      both p e false = mark_is v p e

  pub later_of_told : (m n : Option Op) → IsPlacedIfAny t m → IsPlacedIfAny t n
      → mark_told (later_of m n) ≡ later_of_marks (mark_told m) (mark_told n)
  later_of_told m None hm hn = refl
  later_of_told m (Some n) hm hn =
      let h = hn n refl in
      later_told m n h.1.0 hm h.0 h.1.1
      ∙ ap (λ (z : Option Mark). later_of_marks (mark_told m) z) (sym (mark_is n h.1.0 h.1.1))

  -- the name of the mark of an operation that comes after b
  pub names_past : (b : Op) (place : Place) (m : Option Op) → Contains (everything t) b → b.place ≡ Some place
      → IsPlacedIfAny t m
      → named_past (untimed place) (mark_told m) ≡ option_map (λ (v : Op). v.name) (if_over (standing b) m)
  names_past b place None hb eb hm = refl
  names_past b place (Some v) hb eb hm =
      let h = hm v refl in
      let p = h.1.0 in
      ap (λ (o : Option Mark). named_past (untimed place) o) (mark_is v p h.1.1)
      ∙ both (comes_before (untimed place) (untimed p))
      ∙ ap (λ (z : Bool). option_map (λ (w : Op). w.name) (cond z (Some v) None))
      (sym (order_is t b v place p order hb h.0 eb h.1.1))
    where
      both : (c : Bool) → cond c (Some v.name) None ≡ option_map (λ (w : Op). w.name) (cond c (Some v) None)
      both true = refl
      both false = refl

  later_placed : (m : Option Op) (n : Op) → IsPlacedIfAny t m → IsPlacedIn t n → IsPlacedIfAny t (later m n)
  later_placed None n hm hn v e = let c : n ≡ v = cc in subst (λ (z : Op). IsPlacedIn t z) c hn
  later_placed (Some m) n hm hn v e = at (precedes m n) e
    where
      at : (c : Bool) → cond c (Some n) (Some m) ≡ Some v → IsPlacedIn t v
      at true f = let c : n ≡ v = cc in subst (λ (z : Op). IsPlacedIn t z) c hn
      at false f = hm v f

  module _ (test : Op → Bool) (told : MarkedOp → Bool) (agree : (v : Op) (p : Place) → told (made v p) ≡ test v) where
    pub raised_told : (m : Option Op) (n : Op) (q : Place) → IsPlacedIfAny t m → Contains (everything t) n
        → n.place ≡ Some q → test n ≡ true
        → raised (told (made n q)) (mark_told m) (mark_at n q) ≡ mark_told (later m n)
    raised_told m n q hm hn en e =
        ap (λ (c : Bool). raised c (mark_told m) (mark_at n q)) (agree n q ∙ e) ∙ sym (later_told m n q hm hn en)

    pub passed_told : (m : Option Op) (n : Op) (q : Place) → test n ≡ false
        → raised (told (made n q)) (mark_told m) (mark_at n q) ≡ mark_told m
    passed_told m n q e = ap (λ (c : Bool). raised c (mark_told m) (mark_at n q)) (agree n q ∙ e)

    pub noted_told : (vs : List Op) (m : Option Op) → ((v : Op) → Contains vs v → IsPlacedIn t v)
        → IsPlacedIfAny t m → noted told (ops_told vs) (mark_told m) ≡ mark_told (latest_from m (filter test vs))
    noted_told [] m hv hm = refl
    noted_told (v ∷ vs) m hv hm =
        let h = hv v (first_in v vs v refl) in
        let p = h.1.0 in
        ap (λ (o : Option MarkedOp). noted told (and_told o (ops_told vs)) (mark_told m)) (told_at v p h.1.1)
        ∙ at p h.1.1 h (test v) refl (λ n hn. noted_told vs n (λ u i. hv u (tail_in v vs u i)) hn)
      where
        at : (p : Place) → v.place ≡ Some p → IsPlacedIn t v → (c : Bool) → test v ≡ c
            → ((n : Option Op) → IsPlacedIfAny t n
            → noted told (ops_told vs) (mark_told n) ≡ mark_told (latest_from n (filter test vs)))
            → noted told (ops_told vs) (raised (told (made v p)) (mark_told m) (mark_at v p))
            ≡ mark_told (latest_from m (cond c (v ∷ filter test vs) (filter test vs)))
        at p e h true q rec =
            ap (noted told (ops_told vs)) (raised_told m v p hm h.0 e q)
            ∙ rec (later m v) (later_placed m v hm h)
        at p e h false q rec = ap (noted told (ops_told vs)) (passed_told m v p q) ∙ rec m hm

-- none of them was performed
pub none_told : (vs : List Op) → ((v : Op) → Contains vs v → v.place ≡ None) → ops_told vs ≡ []
none_told [] h = refl
none_told (v ∷ vs) h =
    ap (λ (o : Option Place). and_told (option_map (made v) o) (ops_told vs)) (h v (first_in v vs v refl))
    ∙ none_told vs (λ u i. h u (tail_in v vs u i))
