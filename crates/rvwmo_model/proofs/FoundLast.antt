-- The searches for what the newest step of a trace breaks.
use Rattle.std.proofs.Common.{ℕ, ◌≤◌, ◌≡◌, ◌⊎◌, inl, inr, Bool, true, false, cond, eqb, ltb, List, [], ◌∷◌, Option}
use Rattle.std.proofs.Common.{Some, None, refl, sym, ap, subst, ◌∙◌, arith}
use Rattle.std.specs.Bool.{Decides}
use Rattle.std.specs.List.{Contains, filter}
use Rattle.std.proofs.lemmas.Bool.{false≢true, eqb-true, eq-eqb, ltb-true, ltb-false, and_parts, and_from}
use Rattle.rvwmo_model.specs.declared.answers.Judged.{Judged}
use Rattle.rvwmo_model.specs.declared.answers.Judged.TheVariants as judged
use Rattle.rvwmo_model.specs.declared.answers.Last.{Last}
use Rattle.rvwmo_model.specs.declared.answers.Last.TheVariants as last
use Rattle.rvwmo_model.specs.declared.operations.Op.{Op}
use Rattle.rvwmo_model.specs.declared.traces.Trace.{Trace}
use Rattle.rvwmo_model.specs.Order.{got_at}
use Rattle.rvwmo_model.specs.Sources.{source, byte_from, key_of}
use Rattle.rvwmo_model.specs.Atomicity.{Torn}
use Rattle.rvwmo_model.specs.Legal.{WrongValue}
use Rattle.rvwmo_model.specs.InForm.{InForm}
use Rattle.rvwmo_model.specs.Report.{number, IsLowest, IsTorn, AllOrdered}
use Rattle.rvwmo_model.specs.Last.{IsRetiring, RetiresWrong, RetiresRight, RetiresAtomic, IsLast}
use Rattle.rvwmo_model.specs.Tests.{wrong_byte, is_pair_torn}
use Rattle.rvwmo_model.specs.Answer.{least_of, order_answer, pair_torn, atomicity_of}
use Rattle.rvwmo_model.specs.LastAnswer.{is_retiring, newest_of, lower_of, lowest_wrong, retires_wrong, value_here}
use Rattle.rvwmo_model.specs.LastAnswer.{value_with, last_value, last_order, retires_torn, last_atomicity}
use Rattle.rvwmo_model.proofs.Membership.{nothing_in, first_in, tail_in, in_cases, in_filter, from_filter}
use Rattle.rvwmo_model.proofs.Tested.{both_is}
use Rattle.rvwmo_model.proofs.Choices.{Computes, least_member, no_member, lowest_byte, no_byte}
use Rattle.rvwmo_model.proofs.FoundValues.{wrong_computes}
use Rattle.rvwmo_model.proofs.FoundOrder.{order_found, order_none}
use Rattle.rvwmo_model.proofs.FoundAtomicity.{lr_computes, sc_computes, torn_found, torn_none}

retiring_is : (hart : ℕ) (tag : Option ℕ) (o : Op) → Decides (is_retiring hart tag o) (IsRetiring hart tag o)
retiring_is hart None o = ((λ e. absurd (false≢true e)), λ h. absurd (let q : None ≡ Some o.name.tag = h.1 in cc))
retiring_is hart (Some k) o = (
  (λ e. let p = and_parts (eqb o.name.hart hart) (eqb o.name.tag k) e in
      (eqb-true o.name.hart hart p.0, ap (λ (n : ℕ). Some n) (sym (eqb-true o.name.tag k p.1)))),
  λ h. let q : Some k ≡ Some o.name.tag = h.1 in
      let same : o.name.tag ≡ k = cc in
      and_from (eqb o.name.hart hart) (eqb o.name.tag k) (eq-eqb o.name.hart hart h.0) (eq-eqb o.name.tag k same),
)

-- ---- the lower of two addresses

lower_left : (a b : Option ℕ) (y : ℕ) → a ≡ Some y → (z : ℕ) × (lower_of a b ≡ Some z) × (z ≤ y)
lower_left None b y e = absurd (cc)
lower_left (Some x) None y e = (x, refl, let q : x ≡ y = cc in omega arith)
lower_left (Some x) (Some w) y e = at (ltb w x) refl
  where
    at : (b : Bool) → ltb w x ≡ b → (z : ℕ) × (cond b (Some w) (Some x) ≡ Some z) × (z ≤ y)
    at true f = (w, refl, let l = ltb-true w x f in let q : x ≡ y = cc in omega arith)
    at false f = (x, refl, let q : x ≡ y = cc in omega arith)

lower_right : (a b : Option ℕ) (y : ℕ) → b ≡ Some y → (z : ℕ) × (lower_of a b ≡ Some z) × (z ≤ y)
lower_right None b y e = (y, e, omega arith)
lower_right (Some x) None y e = absurd (cc)
lower_right (Some x) (Some w) y e = at (ltb w x) refl
  where
    at : (b : Bool) → ltb w x ≡ b → (z : ℕ) × (cond b (Some w) (Some x) ≡ Some z) × (z ≤ y)
    at true f = (w, refl, let q : w ≡ y = cc in omega arith)
    at false f = (x, refl, let l = ltb-false w x f in let q : w ≡ y = cc in omega arith)

lower_from : (a b : Option ℕ) (z : ℕ) → lower_of a b ≡ Some z → (a ≡ Some z) ⊎ (b ≡ Some z)
lower_from None b z e = inr e
lower_from (Some x) None z e = inl e
lower_from (Some x) (Some w) z e = at (ltb w x) e
  where
    at : (b : Bool) → cond b (Some w) (Some x) ≡ Some z → (Some x ≡ Some z) ⊎ (Some w ≡ Some z)
    at true f = inr f
    at false f = inl f

module _ (t : Trace) (form : InForm t) where
  module _ (initial : ℕ → ℕ) where
    -- ---- the lowest wrong byte of some loads

    -- x is that of one of them, or of the one that was there, and none is lower
    record IsLowestWrong (best : Option ℕ) (ops : List Op) (x : ℕ) : Type 0 where
      low : (y : ℕ) → best ≡ Some y → x ≤ y
      lowest : (i : Op) → Contains ops i → (y : ℕ) → wrong_byte initial t i ≡ Some y → x ≤ y
      from : (best ≡ Some x) ⊎ ((i : Op) × Contains ops i × (wrong_byte initial t i ≡ Some x))

    wrong_some : (best : Option ℕ) (ops : List Op) (x : ℕ) → lowest_wrong initial t best ops ≡ Some x
        → IsLowestWrong best ops x
    wrong_some best [] x e = record {
      low = λ y q. (let s : Some x ≡ Some y = sym e ∙ q in let r : x ≡ y = cc in omega arith);
      lowest = λ i h. absurd (nothing_in i h);
      from = inl e;
    }
    wrong_some best (o ∷ os) x e =
        let rec = wrong_some (lower_of best (wrong_byte initial t o)) os x e in
        record {
          low = λ y q.
              let l = lower_left best (wrong_byte initial t o) y q in
              let m = rec.low l.0 l.1 in let n = l.2 in omega arith;
          lowest = λ i h y q. elim (in_cases o os i h) [
            | inl s ↦ let l = lower_right best (wrong_byte initial t o) y
                (ap (λ (v : Op). wrong_byte initial t v) (sym s) ∙ q) in
                let m = rec.low l.0 l.1 in let n = l.2 in omega arith
            | inr j ↦ rec.lowest i j y q
          ];
          from = elim rec.from [
            | inl s ↦ elim (lower_from best (wrong_byte initial t o) x s) [
              | inl a ↦ inl a
              | inr b ↦ inr (o, first_in o os o refl, b)
            ]
            | inr j ↦ inr (j.0, tail_in o os j.0 j.1, j.2)
          ];
        }

    wrong_none : (best : Option ℕ) (ops : List Op) → lowest_wrong initial t best ops ≡ None
        → (best ≡ None) × ((i : Op) → Contains ops i → (y : ℕ) → wrong_byte initial t i ≡ Some y → ⊥)
    wrong_none best [] e = (e, λ i h. absurd (nothing_in i h))
    wrong_none best (o ∷ os) e =
        let rec = wrong_none (lower_of best (wrong_byte initial t o)) os e in (
          at rec.0 best refl,
          λ i h y q. elim (in_cases o os i h) [
            | inl s ↦ let l = lower_right best (wrong_byte initial t o) y
                (ap (λ (v : Op). wrong_byte initial t v) (sym s) ∙ q) in
                let c : Some l.0 ≡ None = sym l.1 ∙ rec.0 in cc
            | inr j ↦ rec.1 i j y q
          ],
        )
      where
        at : lower_of best (wrong_byte initial t o) ≡ None → (m : Option ℕ) → best ≡ m → best ≡ None
        at n None q = q
        at n (Some y) q =
            let l = lower_left best (wrong_byte initial t o) y q in
            let c : Some l.0 ≡ None = sym l.1 ∙ n in
            absurd (cc)

    module _ (hart : ℕ) (tag : Option ℕ) where
      -- ---- value

      retires_computes : (x : ℕ)
          → Computes (retires_wrong initial t hart tag x) (RetiresWrong initial t hart tag x) t.ops
      retires_computes x = record {
        on = λ i hi. both_is _ _ _ _ (retiring_is hart tag i) ((wrong_computes t form initial i hi).on x);
        only = λ i h. h.1.load_in;
      }

      -- the loads of the instruction
      abbrev mine : List Op
      mine = filter (is_retiring hart tag) t.ops

      mine_in : (i : Op) (x : ℕ) → RetiresWrong initial t hart tag x i → Contains mine i
      mine_in i x h = in_filter (is_retiring hart tag) t.ops i h.1.load_in ((retiring_is hart tag i).1 h.0)

      byte_wrong : (i : Op) (y : ℕ) → Contains t.ops i → wrong_byte initial t i ≡ Some y
          → IsLowest (WrongValue initial t i) y
      byte_wrong i y h e = lowest_byte _ (WrongValue initial t i) i y (wrong_computes t form initial i h) e

      -- a load with a wrong byte has a lowest one
      some_wrong : (i : Op) (x : ℕ) → WrongValue initial t i x
          → (y : ℕ) × (wrong_byte initial t i ≡ Some y) × (y ≤ x)
      some_wrong i x h = at (wrong_byte initial t i) refl
        where
          at : (m : Option ℕ) → wrong_byte initial t i ≡ m
              → (y : ℕ) × (wrong_byte initial t i ≡ Some y) × (y ≤ x)
          at None e =
              absurd (no_byte _ (WrongValue initial t i) i (wrong_computes t form initial i h.load_in) e x h)
          at (Some y) e = (y, e, (byte_wrong i y h.load_in e).lowest x h)

      lowest_is : (x : ℕ) → lowest_wrong initial t None mine ≡ Some x
          → IsLowest (λ y. (i : Op) × RetiresWrong initial t hart tag y i) x
      lowest_is x e =
          let w = wrong_some None mine x e in
          record {
            here = elim w.from [
              | inl q ↦ absurd (cc)
              | inr j ↦ let f = from_filter (is_retiring hart tag) t.ops j.0 j.1 in
                  (j.0, ((retiring_is hart tag j.0).0 f.1, (byte_wrong j.0 x f.0 j.2).here))
            ];
            lowest = λ y h.
                let s = some_wrong h.0 y h.1.1 in
                let l = w.lowest h.0 (mine_in h.0 y h.1) s.0 s.1 in let m = s.2 in omega arith;
          }

      lowest_none : lowest_wrong initial t None mine ≡ None → RetiresRight initial t hart tag
      lowest_none e x i h = let s = some_wrong i x h.1 in (wrong_none None mine e).1 i (mine_in i x h) s.0 s.1

      pub value_found : (l : Last) → last_value initial t hart tag ≡ Some l → IsLast initial t hart tag l
      value_found l e = at (lowest_wrong initial t None mine) refl e
        where
          found : (x : ℕ) → IsLowest (λ y. (i : Op) × RetiresWrong initial t hart tag y i) x → (o : Option Op)
              → least_of (retires_wrong initial t hart tag x) t.ops ≡ o → value_here initial t x o ≡ Some l
              → IsLast initial t hart tag l
          found x low None f g = absurd (cc)
          found x low (Some i) f g =
              let same : last.Value x (byte_from initial (source t i x) x) (got_at i x) ≡ l = cc in
              subst (IsLast initial t hart tag) same
              (record {
                lowest = low;
                load = i;
                least = least_member _ (RetiresWrong initial t hart tag x) t.ops i (retires_computes x) f;
                wanted = refl;
                loaded = refl;
              })

          at : (o : Option ℕ) → lowest_wrong initial t None mine ≡ o → value_with initial t hart tag o ≡ Some l
              → IsLast initial t hart tag l
          at None f g = absurd (cc)
          at (Some x) f g = found x (lowest_is x f) (least_of (retires_wrong initial t hart tag x) t.ops) refl g

      pub value_none : last_value initial t hart tag ≡ None → RetiresRight initial t hart tag
      value_none e = at (lowest_wrong initial t None mine) refl e
        where
          found : (x : ℕ) → IsLowest (λ y. (i : Op) × RetiresWrong initial t hart tag y i) x → (o : Option Op)
              → least_of (retires_wrong initial t hart tag x) t.ops ≡ o → value_here initial t x o ≡ None → ⊥
          found x low None f g = no_member _ (RetiresWrong initial t hart tag x) t.ops (retires_computes x) f
              low.here.0 low.here.1
          found x low (Some i) f g = cc

          at : (o : Option ℕ) → lowest_wrong initial t None mine ≡ o → value_with initial t hart tag o ≡ None
              → RetiresRight initial t hart tag
          at None f g = lowest_none f
          at (Some x) f g =
              absurd (found x (lowest_is x f) (least_of (retires_wrong initial t hart tag x) t.ops) refl g)

      -- ---- order

      pub order_answered : (l : Last) → RetiresRight initial t hart tag → last_order t ≡ Some l
          → IsLast initial t hart tag l
      order_answered l right e = at (order_answer t) refl e
        where
          at : (o : Option Judged) → order_answer t ≡ o → newest_of o ≡ Some l → IsLast initial t hart tag l
          at None f g = absurd (cc)
          at (Some j) f g =
              let n = order_found t form j f in
              let k : newest_of (Some (judged.Order (number n.rule) n.first.name n.second.name)) ≡ Some l =
              ap (λ (i : Judged). newest_of (Some i)) n.named ∙ g in
              let same : last.Order (number n.rule) n.first.name n.second.name ≡ l = cc in
              subst (IsLast initial t hart tag) same
              (record {
                right = right;
                broken = n.rule;
                before = n.first;
                after = n.second;
                numbered = refl;
                first_named = refl;
                second_named = refl;
                reported = n.reported;
              })

      -- ---- atomicity

      torn_computes : Computes (retires_torn t hart tag) (λ w. IsRetiring hart tag w × IsTorn t w) t.ops
      torn_computes = record {
        on = λ w hw. both_is _ _ _ _ (retiring_is hart tag w) ((sc_computes t form).on w hw);
        only = λ w h. h.1.1.pair.sc_in;
      }

      pub atomicity_found : (l : Last) → RetiresRight initial t hart tag → AllOrdered t
          → last_atomicity t hart tag ≡ Some l → IsLast initial t hart tag l
      atomicity_found l right ordered e = at (least_of (retires_torn t hart tag) t.ops) refl e
        where
          named : (w r : Op) → IsRetiring hart tag w → Torn t r w → (m : Option Judged)
              → pair_torn t w (Some r) ≡ m → newest_of m ≡ Some l → IsLast initial t hart tag l
          named w r h torn None f g = absurd (cc)
          named w r h torn (Some j) f g =
              let n = torn_found t form r w j f in
              let k : newest_of (Some (judged.Atomicity w.name n.at (key_of n.store))) ≡ Some l =
              ap (λ (i : Judged). newest_of (Some i)) n.named ∙ g in
              let same : last.Atomicity n.at (key_of n.store) ≡ l = cc in
              subst (IsLast initial t hart tag) same
              (record {
                right = right;
                ordered = ordered;
                sc = w;
                lr = r;
                blamed = n.store;
                torn = (h, torn);
                shown = n.shown;
                keyed = refl;
              })

          with_lr : (w : Op) → IsRetiring hart tag w → IsTorn t w → (m : Option Op)
              → least_of (λ r. is_pair_torn t r w) t.ops ≡ m → newest_of (pair_torn t w m) ≡ Some l
              → IsLast initial t hart tag l
          with_lr w h i None f g = absurd (cc)
          with_lr w h i (Some r) f g =
              let torn = (least_member _ (λ v. Torn t v w) t.ops r (lr_computes t form w i.1.pair.sc_in) f).offends in
              named w r h torn (pair_torn t w (Some r)) refl g

          at : (o : Option Op) → least_of (retires_torn t hart tag) t.ops ≡ o → newest_of (atomicity_of t o) ≡ Some l
              → IsLast initial t hart tag l
          at None f g = absurd (cc)
          at (Some w) f g =
              let m = least_member _ (λ v. IsRetiring hart tag v × IsTorn t v) t.ops w torn_computes f in
              with_lr w m.offends.0 m.offends.1 (least_of (λ r. is_pair_torn t r w) t.ops) refl g

      pub atomicity_none : last_atomicity t hart tag ≡ None → RetiresAtomic t hart tag
      atomicity_none e = at (least_of (retires_torn t hart tag) t.ops) refl e
        where
          named : (w r : Op) → Torn t r w → (m : Option Judged) → pair_torn t w (Some r) ≡ m → newest_of m ≡ None → ⊥
          named w r torn None f g = torn_none t form r w torn f
          named w r torn (Some j) f g =
              let n = torn_found t form r w j f in
              let k : newest_of (Some (judged.Atomicity w.name n.at (key_of n.store))) ≡ None =
              ap (λ (i : Judged). newest_of (Some i)) n.named ∙ g in
              cc

          with_lr : (w : Op) → IsTorn t w → (m : Option Op) → least_of (λ r. is_pair_torn t r w) t.ops ≡ m
              → newest_of (pair_torn t w m) ≡ None → ⊥
          with_lr w i None f g = no_member _ (λ r. Torn t r w) t.ops (lr_computes t form w i.1.pair.sc_in) f i.0 i.1
          with_lr w i (Some r) f g =
              let torn = (least_member _ (λ v. Torn t v w) t.ops r (lr_computes t form w i.1.pair.sc_in) f).offends in
              named w r torn (pair_torn t w (Some r)) refl g

          at : (o : Option Op) → least_of (retires_torn t hart tag) t.ops ≡ o → newest_of (atomicity_of t o) ≡ None
              → RetiresAtomic t hart tag
          at None f g = λ r w h. no_member _ (λ v. IsRetiring hart tag v × IsTorn t v) t.ops torn_computes f w
              (h.0, (r, h.1))
          at (Some w) f g =
              let m = least_member _ (λ v. IsRetiring hart tag v × IsTorn t v) t.ops w torn_computes f in
              absurd (with_lr w m.offends.1 (least_of (λ r. is_pair_torn t r w) t.ops) refl g)

  pub order_right : last_order t ≡ None → AllOrdered t
  order_right e = at (order_answer t) refl e
    where
      at : (o : Option Judged) → order_answer t ≡ o → newest_of o ≡ None → AllOrdered t
      at None f g = order_none t form f
      at (Some j) f g =
          let n = order_found t form j f in
          let k : newest_of (Some (judged.Order (number n.rule) n.first.name n.second.name)) ≡ None =
          ap (λ (i : Judged). newest_of (Some i)) n.named ∙ g in
          absurd (cc)
