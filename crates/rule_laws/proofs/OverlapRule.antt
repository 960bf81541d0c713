-- Rule 1 by the last store and the last load of each byte.
use Rattle.std.proofs.Common.{ℕ, ◌<◌, ◌≡◌, ◌⊎◌, inl, inr, true, false, List, Option, Some, None, refl}
use Rattle.std.proofs.Common.{sym, ap, subst, ◌∙◌}
use Rattle.std.specs.List.{Contains}
use Rattle.std.proofs.lemmas.Bool.{both_ways, and_parts, and_from, cases_Bool}
use Rattle.rvwmo_model.specs.declared.instructions.Retired.{Retired}
use Rattle.rvwmo_model.specs.declared.operations.Op.{Op}
use Rattle.rvwmo_model.specs.declared.operations.OpKind.{OpKind}
use Rattle.rvwmo_model.specs.declared.operations.OpKind.TheVariants as kind
use Rattle.rvwmo_model.specs.declared.preserved.Rule.TheVariants.{R1}
use Rattle.rvwmo_model.specs.declared.traces.Trace.{Trace}
use Rattle.rvwmo_model.specs.Order.{kind_loads, kind_stores, standing, precedes, op_loads, op_stores, has_byte}
use Rattle.rvwmo_model.specs.Order.{writes}
use Rattle.rvwmo_model.specs.Rules.{Broken}
use Rattle.rvwmo_model.specs.InForm.{IsPlaced}
use Rattle.rvwmo_model.specs.Legal.{Legal}
use Rattle.rvwmo_model.proofs.Orders.{before_trans}
use Rattle.growth_laws.specs.Kinds.{WellKinded}
use Rattle.growth_laws.specs.Growth.{AddInsn}
use Rattle.growth_laws.proofs.Places.{place_cases}
use Rattle.growth_laws.proofs.Facts.{load_placed}
use Rattle.window_laws.specs.Latest.{IsLatestIfAny, first_there}
use Rattle.window_laws.proofs.Latests.{latest_same}
use Rattle.rule_laws.specs.Above.{Over, later_of, latest_of_bytes}
use Rattle.rule_laws.specs.Own.{IsOwn, IsOwnPerformed}
use Rattle.rule_laws.specs.TwoMarks.{LoadsLast}
use Rattle.rule_laws.specs.Sourced.{IsOwnStored}
use Rattle.rule_laws.proofs.LatestOver.{mark_either, mark_over_bytes}
use Rattle.rule_laws.proofs.Candidates.{IsToPrecede, preserved_precedes}
use Rattle.rule_laws.proofs.Candidates.{broken_mark}

module _ (t t' : Trace) (r : Retired) (new : List Op) (k : WellKinded t) (s : AddInsn t t' r new) (b : Op)
    (mine : Contains new b) (pb : IsPlaced b)
    (initial : ℕ → ℕ) (legal : Legal initial t) where
  abbrev H : ℕ
  H = b.name.hart

  -- where nothing waits at the byte, the later of the last store and the last load
  pub overlap_byte : (x : ℕ) (st one : Option Op) → ((v : Op) → IsOwn t H v → has_byte x v ≡ true → IsPlaced v)
      → IsLatestIfAny (Over (IsOwnStored t H x) (standing b)) st → IsLatestIfAny
      (Over (LoadsLast t H x) (standing b)) one
      → IsLatestIfAny (Over (λ v. IsOwnPerformed t H v × (has_byte x v ≡ true)) (standing b)) (later_of st one)
  overlap_byte x st one placed hs ho = at (later_of st one)
      (mark_either (Over (IsOwnStored t H x) (standing b)) (Over (LoadsLast t H x) (standing b)) st one hs ho)
    where
      is : (v : Op) → Over (IsOwnStored t H x) (standing b) v ⊎ Over (LoadsLast t H x) (standing b) v → Over
          (λ u. IsOwnPerformed t H u × (has_byte x u ≡ true)) (standing b) v
      is v (inl p) = ((p.0.0, (and_parts (op_stores v) (has_byte x v) p.0.1).1), p.1)
      is v (inr p) = (
        (
          (p.0.0, load_placed t v k p.0.0.0 (and_parts (op_loads v) (has_byte x v) p.0.1).0),
          (and_parts (op_loads v) (has_byte x v) p.0.1).1,
        ),
        p.1,
      )

      -- a load before a store to the byte precedes that store
      before_store : (v o : Op) → Over (λ u. IsOwnPerformed t H u × (has_byte x u ≡ true)) (standing b) v
          → IsOwn t H o → v.name.tag < o.name.tag → writes x o ≡ true → precedes v o ≡ true
      before_store v o p own l q = preserved_precedes initial t R1 v o k legal
          (record {
            first_in = p.0.0.0.0;
            second_in = own.0;
            one_hart = own.1 ∙ sym p.0.0.0.1;
            in_order = l;
            rule =
                (x, p.0.1, q);
          })

      -- what offends has such a store after it, or is a mark
      last_or : (v : Op) → Over (λ u. IsOwnPerformed t H u × (has_byte x u ≡ true)) (standing b) v
          → ((o : Op) → Over (IsOwnStored t H x) (standing b) o → precedes v o ≡ true → ⊥) → Over (IsOwnStored t H x)
          (standing b) v ⊎ Over (LoadsLast t H x) (standing b) v
      last_or v p none = kind_cases v.kind refl
        where
          no_store : (o : Op) → IsOwn t H o → v.name.tag < o.name.tag → writes x o ≡ false
          no_store o own l = elim (cases_Bool (writes x o)) [
            | inr e ↦ e
            | inl e ↦ absurd (
                let z = before_store v o p own l e in
                none o (
                  ((own, placed o own (and_parts (op_stores o) (has_byte x o) e).1), e),
                  before_trans
                      (standing b) (standing v) (standing o) p.1 z,
                ) z)
          ]

          load : op_loads v ≡ true → Over (IsOwnStored t H x) (standing b) v ⊎ Over (LoadsLast t H x) (standing b) v
          load e = inr ((p.0.0.0, and_from _ _ e p.0.1, no_store), p.1)

          kind_cases : (z : OpKind) → v.kind ≡ z → Over (IsOwnStored t H x) (standing b) v ⊎ Over (LoadsLast t H x)
              (standing b) v
          kind_cases kind.Load e = load (ap kind_loads e)
          kind_cases kind.Both e = load (ap kind_loads e)
          kind_cases kind.Store e = inl ((p.0.0, and_from _ _ (ap kind_stores e) p.0.1), p.1)

      at : (m : Option Op) → IsLatestIfAny (λ v. Over (IsOwnStored t H x) (standing b) v ⊎ Over (LoadsLast t H x)
          (standing b) v) m → IsLatestIfAny (Over (λ v. IsOwnPerformed t H v × (has_byte x v ≡ true)) (standing b)) m
      at None h = λ v p. h v (last_or v p (λ o q z. h o (inl q)))
      at (Some m) h = record {
        here = is m h.here;
        latest = λ u p. elim (cases_Bool (precedes m u)) [
          | inr e ↦ e
          | inl e ↦ absurd (both_ways _ (h.latest u (last_or u p
              (λ o q z. both_ways _ (h.latest o (inl q)) (before_trans (standing m) (standing u) (standing o) e z)))) e)
        ];
      }

  -- rule 1: a waiting operation that overlaps, else the latest over the bytes
  pub rule1 : (xs : List ℕ) → ((x : ℕ) → writes x b ≡ true → Contains xs x)
      → ((x : ℕ) → Contains xs x → writes x b ≡ true) → (w : Option Op) (st one : ℕ → Option Op)
      → IsLatestIfAny (λ v. (IsOwn t H v × (v.place ≡ None)) × ((x : ℕ) × Contains xs x × (has_byte x v ≡ true))) w
      → ((x : ℕ) → Contains xs x → IsLatestIfAny (Over (IsOwnStored t H x) (standing b)) (st x))
      → ((x : ℕ) → Contains xs x → IsLatestIfAny (Over (LoadsLast t H x) (standing b)) (one x))
      → IsLatestIfAny (λ v. Broken R1 t' v b) (first_there w (latest_of_bytes (λ x. later_of (st x) (one x)) xs))
  rule1 xs all some w st one hw hs ho = broken_mark t t' r new k s R1 b w
      (latest_of_bytes (λ x. later_of (st x) (one x)) xs) mine pb
      (latest_same (λ v. (IsOwn t H v × (v.place ≡ None)) × ((x : ℕ) × Contains xs x × (has_byte x v ≡ true)))
      (λ v. IsToPrecede R1 t t' b v × (v.place ≡ None)) w
      (λ v d. ((d.0.0, (d.1.0, d.1.2, some d.1.0 d.1.1)), d.0.1))
      (λ v d. ((d.0.0, d.1), (d.0.1.0, all d.0.1.0 d.0.1.2, d.0.1.1))) hw)
      (λ none. latest_same (λ v. (x : ℕ) × Contains xs x × Over (λ u. IsOwnPerformed t H u × (has_byte x u ≡ true))
      (standing b) v) (Over (λ v. IsToPrecede R1 t t' b v × IsPlaced v) (standing b))
      (latest_of_bytes (λ x. later_of (st x) (one x)) xs)
      (λ v d. (((d.2.0.0.0, (d.0, d.2.0.1, some d.0 d.1)), d.2.0.0.1), d.2.1))
      (λ v d. let o = d.0.0.1 in (o.0, all o.0 o.2, (((d.0.0.0, d.0.1), o.1), d.1)))
      (mark_over_bytes (λ x v. Over (λ u. IsOwnPerformed t H u × (has_byte x u ≡ true)) (standing b) v)
      (λ x. later_of (st x) (one x)) xs
      (λ x i. overlap_byte x (st x) (one x) (performed none x i) (hs x i) (ho x i))))
    where
      performed : w ≡ None → (x : ℕ) → Contains xs x → (v : Op) → IsOwn t H v → has_byte x v ≡ true → IsPlaced v
      performed e x i v own c = elim (place_cases v) [
        | inl p ↦ p
        | inr f ↦ absurd
            (subst (λ (z : Option Op). IsLatestIfAny (λ u. (IsOwn t H u × (u.place ≡ None))
            × ((y : ℕ) × Contains xs y × (has_byte y u ≡ true))) z) e hw v ((own, f), (x, i, c)))
      ]
