-- The search for a pair that isn't atomic.
use Rattle.std.proofs.Common.{ℕ, ◌≡◌, ◌≢◌, ◌⊎◌, inl, inr, Bool, true, false, not, cond, ◌&&◌, ◌||◌, Option, Some}
use Rattle.std.proofs.Common.{None, refl, ap, subst}
use Rattle.std.specs.Prelude.{is_some}
use Rattle.std.specs.Bool.{Decides}
use Rattle.std.proofs.lemmas.Bool.{both_ways, false≢true, eqb-true, eq-eqb, ltb-true, lt-ltb, and_parts, and_from}
use Rattle.std.specs.List.{Contains}
use Rattle.rvwmo_model.specs.declared.answers.Judged.{Judged}
use Rattle.rvwmo_model.specs.declared.answers.Judged.TheVariants as judged
use Rattle.rvwmo_model.specs.declared.operations.Op.{Op}
use Rattle.rvwmo_model.specs.declared.traces.Trace.{Trace}
use Rattle.rvwmo_model.specs.Order.{op_loads, op_stores, has_byte, reads, writes, precedes, everything}
use Rattle.rvwmo_model.specs.Sources.{source, key_of}
use Rattle.rvwmo_model.specs.Atomicity.{WritesBlock, IsAfter, IsLate, Intrudes, IsTornAt, InBlock, IntrudesBlock, Torn}
use Rattle.rvwmo_model.specs.InForm.{InForm}
use Rattle.rvwmo_model.specs.Report.{IsLeast, IsLatest, IsTorn, IsForeign, Blamed, late, foreign, TornBy, byte, block}
use Rattle.rvwmo_model.specs.Report.{AllPaired, AllRight, AllOrdered, IsAnswer}
use Rattle.rvwmo_model.specs.Tests.{is_pair, some_everywhere, latest_everywhere, is_other_before, is_foreign}
use Rattle.rvwmo_model.specs.Tests.{is_after, is_late, intrudes, is_torn_at, torn_byte, in_block, writes_block}
use Rattle.rvwmo_model.specs.Tests.{block_byte, intrudes_block, is_pair_torn}
use Rattle.rvwmo_model.specs.Answer.{has_torn, least_of, torn_at, blamed, block_at, block_of, torn_of, pair_torn}
use Rattle.rvwmo_model.specs.Answer.{atomicity_of, atomicity_answer}
use Rattle.rvwmo_model.proofs.Searches.{not_false}
use Rattle.rvwmo_model.proofs.Tested.{both_is, either_is, not_is, itself_is}
use Rattle.rvwmo_model.proofs.Choices.{Computes, some_member, least_member, no_member, latest_anywhere, none_anywhere}
use Rattle.rvwmo_model.proofs.Choices.{some_anywhere, ComputesByte, lowest_byte, no_byte, some_lowest}
use Rattle.rvwmo_model.proofs.FoundPairs.{pair_is}

module _ (t : Trace) (form : InForm t) where
  late_is : (o : Option Op) (w : Op) → Decides (is_late o w) (IsLate o w)
  late_is None w = ((λ e. absurd (false≢true e)), λ h. absurd h)
  late_is (Some s) w = ((λ e. not_false _ e), λ h. ap not h)

  after_is : (o : Option Op) (v : Op) → Decides (is_after o v) (IsAfter o v)
  after_is None v = ((λ e. tt), λ h. refl)
  after_is (Some s) v = itself_is (precedes s v)

  other_is : (w v : Op) → Decides (is_other_before w v) ((v.name.hart ≢ w.name.hart) × (precedes v w ≡ true))
  other_is w v =
      both_is _ _ _ _ (not_is _ _ ((λ e. eqb-true v.name.hart w.name.hart e), λ q. eq-eqb v.name.hart w.name.hart q))
      (itself_is (precedes v w))

  foreign_computes : (w : Op) (x : ℕ) → Computes (is_foreign w x) (IsForeign t w x) (everything t)
  foreign_computes w x = record {
    on = λ v hv. (
      (λ e. let p = and_parts (writes x v) (is_other_before w v) e in let q = (other_is w v).0 p.1 in
          record { store_in = hv; stores = p.0; other = q.0; before = q.1 }),
      λ h. and_from _ _ h.stores ((other_is w v).1 (h.other, h.before)),
    );
    only = λ v h. h.store_in;
  }

  intrudes_computes : (r w : Op) (x : ℕ) → Computes (intrudes (source t r x) w x) (λ v. Intrudes t r w v x)
      (everything t)
  intrudes_computes r w x = record {
    on = λ v hv. (
      (λ e.
          let p = and_parts (is_foreign w x v) (is_after (source t r x) v) e in
          let f = ((foreign_computes w x).on v hv).0 p.0 in
          record {
            store_in = hv;
            stores = f.stores;
            other = f.other;
            after = (after_is (source t r x) v).0 p.1;
            before = f.before;
          }),
      λ h. and_from _ _
          (((foreign_computes w x).on v hv).1
          (record { store_in = hv; stores = h.stores; other = h.other; before = h.before }))
          ((after_is (source t r x) v).1 h.after),
    );
    only = λ v h. h.store_in;
  }

  torn_at_computes : (r w : Op) → ComputesByte (is_torn_at t r w) (IsTornAt t r w) r
  torn_at_computes r w = record {
    on = λ x. both_is _ _ _ _ (itself_is (reads x r))
        (either_is _ _ _ _ (late_is (source t r x) w)
        (some_anywhere _ (λ v. Intrudes t r w v x) t (intrudes_computes r w x)));
    own = λ x e. (and_parts (op_loads r) (has_byte x r) (and_parts (reads x r) _ e).0).1;
  }

  in_block_is : (r : Op) (x : ℕ) → Decides (in_block t r x) (InBlock t r x)
  in_block_is r x = both_is _ _ _ _ ((λ e. ltb-true 0 t.granule e), λ h. lt-ltb 0 t.granule h)
      ((λ e. eqb-true _ _ e), λ h. eq-eqb _ _ h)

  block_computes : (r v : Op) → ComputesByte (writes_block t r v) (WritesBlock t r v) v
  block_computes r v = record {
    on = λ x. both_is _ _ _ _ (itself_is (writes x v)) (in_block_is r x);
    own = λ x e. (and_parts (op_stores v) (has_byte x v) (and_parts (writes x v) (in_block t r x) e).0).1;
  }

  intrudes_block_computes : (r w : Op) → Computes (intrudes_block t r w) (IntrudesBlock t r w) (everything t)
  intrudes_block_computes r w = record {
    on = λ v hv. (
      (λ e.
          let p = and_parts (is_other_before w v && precedes r v) (is_some (block_byte t r v)) e in
          let q = and_parts (is_other_before w v) (precedes r v) p.0 in
          let o = (other_is w v).0 q.0 in
          record {
            store_in = hv;
            stores = (some_lowest _ (WritesBlock t r v) v (block_computes r v)).0 p.1;
            other = o.0;
            after = q.1;
            before = o.1;
          }),
      λ h. and_from _ _ (and_from _ _ ((other_is w v).1 (h.other, h.before)) h.after)
          ((some_lowest _ (WritesBlock t r v) v (block_computes r v)).1 h.stores),
    );
    only = λ v h. h.store_in;
  }

  torn_is : (r w : Op) → Contains t.ops r → Contains t.ops w → Decides (is_pair_torn t r w) (Torn t r w)
  torn_is r w hr hw = (
    (λ e. let p = and_parts (is_pair t r w) (is_some (torn_byte t r w) || some_everywhere (intrudes_block t r w) t)
        e in record { pair = (pair_is t form r w hr hw).0 p.0; torn = ways.0 p.1 }),
    λ h. and_from _ _ ((pair_is t form r w hr hw).1 h.pair) (ways.1 h.torn),
  )
    where
      ways : Decides (is_some (torn_byte t r w) || some_everywhere (intrudes_block t r w) t)
          (((x : ℕ) × IsTornAt t r w x) ⊎ ((v : Op) × IntrudesBlock t r w v))
      ways = either_is _ _ _ _ (some_lowest _ (IsTornAt t r w) r (torn_at_computes r w))
          (some_anywhere _ (IntrudesBlock t r w) t (intrudes_block_computes r w))

  pub lr_computes : (w : Op) → Contains t.ops w → Computes (λ r. is_pair_torn t r w) (λ r. Torn t r w) t.ops
  lr_computes w hw = record { on = λ r hr. torn_is r w hr hw; only = λ r h. h.pair.lr_in }

  pub sc_computes : Computes (has_torn t) (IsTorn t) t.ops
  unfolding has_torn
  sc_computes =
      record { on = λ w hw. some_member _ (λ r. Torn t r w) t.ops (lr_computes w hw); only = λ w h. h.1.pair.sc_in }

  -- what is named for a torn pair
  pub record Named (r w : Op) (j : Judged) : Type 0 where
    pub at : ℕ
    pub store : Op
    pub named : judged.Atomicity w.name at (key_of store) ≡ j
    pub shown : TornBy t r w at store

  blamed_found : (r w : Op) (x : ℕ) (s : Op) → blamed t w x (source t r x) ≡ Some s → Blamed t r w x s
  blamed_found r w x s e = look (source t r x) refl e
    where
      look : (o : Option Op) → source t r x ≡ o → blamed t w x o ≡ Some s → Blamed t r w x s
      look None f g = foreign s (λ l. subst (λ (o : Option Op). IsLate o w) f l)
          (latest_anywhere _ (IsForeign t w x) t s (foreign_computes w x) g)
      look (Some v) f g = late_or (precedes v w) refl g
        where
          late_or : (b : Bool) → precedes v w ≡ b
              → cond (not b) (Some v) (latest_everywhere (is_foreign w x) t) ≡ Some s → Blamed t r w x s
          late_or false h i = let same : v ≡ s = cc in subst (Blamed t r w x) same (late v f h)
          late_or true h i = foreign s (λ l. both_ways _ (subst (λ (o : Option Op). IsLate o w) f l) h)
              (latest_anywhere _ (IsForeign t w x) t s (foreign_computes w x) i)

  blamed_none : (r w : Op) (x : ℕ) → IsTornAt t r w x → blamed t w x (source t r x) ≡ None → ⊥
  blamed_none r w x torn e = look (source t r x) refl e
    where
      intruder : (v : Op) → Intrudes t r w v x → latest_everywhere (is_foreign w x) t ≡ None → ⊥
      intruder v h g = none_anywhere _ (IsForeign t w x) t (foreign_computes w x) g v
          (record { store_in = h.store_in; stores = h.stores; other = h.other; before = h.before })

      look : (o : Option Op) → source t r x ≡ o → blamed t w x o ≡ None → ⊥
      look None f g = elim torn.1 [ inl l ↦ subst (λ (o : Option Op). IsLate o w) f l | inr v ↦ intruder v.0 v.1 g ]
      look (Some v) f g = late_or (precedes v w) refl g
        where
          late_or : (b : Bool) → precedes v w ≡ b
              → cond (not b) (Some v) (latest_everywhere (is_foreign w x) t) ≡ None → ⊥
          late_or false h i = cc
          late_or true h i =
              elim torn.1 [
                | inl l ↦ both_ways _ (subst (λ (o : Option Op). IsLate o w) f l) h
                | inr u ↦ intruder u.0
                    u.1 i
              ]

  pub torn_found : (r w : Op) (j : Judged) → torn_of t r w (torn_byte t r w) ≡ Some j → Named r w j
  torn_found r w j e = look (torn_byte t r w) refl e
    where
      by_byte : (x : ℕ) → torn_byte t r w ≡ Some x → (m : Option Op) → blamed t w x (source t r x) ≡ m
          → torn_at w x m ≡ Some j → Named r w j
      by_byte x f None g h = absurd (cc)
      by_byte x f (Some s) g h =
          record {
            at = x;
            store = s;
            named = cc;
            shown = byte x s (lowest_byte _ (IsTornAt t r w) r x (torn_at_computes r w) f) (blamed_found r w x s g);
          }

      by_block : (s : Op) → torn_byte t r w ≡ None → IsLatest (IntrudesBlock t r w) s → (m : Option ℕ)
          → block_byte t r s ≡ m → block_at w s m ≡ Some j → Named r w j
      by_block s f l None g h = absurd (cc)
      by_block s f l (Some x) g h =
          record {
            at = x;
            store = s;
            named = cc;
            shown = block x s (no_byte _ (IsTornAt t r w) r (torn_at_computes r w) f) l
                (lowest_byte _ (WritesBlock t r s) s x (block_computes r s) g);
          }

      last : torn_byte t r w ≡ None → (m : Option Op) → latest_everywhere (intrudes_block t r w) t ≡ m
          → block_of t r w m ≡ Some j → Named r w j
      last f None g h = absurd (cc)
      last f (Some s) g h = by_block s f (latest_anywhere _ (IntrudesBlock t r w) t s (intrudes_block_computes r w) g)
          (block_byte t r s) refl h

      look : (m : Option ℕ) → torn_byte t r w ≡ m → torn_of t r w m ≡ Some j → Named r w j
      look None f g = last f (latest_everywhere (intrudes_block t r w) t) refl g
      look (Some x) f g = by_byte x f (blamed t w x (source t r x)) refl g

  pub torn_none : (r w : Op) → Torn t r w → torn_of t r w (torn_byte t r w) ≡ None → ⊥
  torn_none r w torn e = look (torn_byte t r w) refl e
    where
      by_byte : (x : ℕ) → torn_byte t r w ≡ Some x → (m : Option Op) → blamed t w x (source t r x) ≡ m
          → torn_at w x m ≡ None → ⊥
      by_byte x f None g h = blamed_none r w x (lowest_byte _ (IsTornAt t r w) r x (torn_at_computes r w) f).here g
      by_byte x f (Some s) g h = cc

      by_block : (s : Op) → IsLatest (IntrudesBlock t r w) s → (m : Option ℕ) → block_byte t r s ≡ m
          → block_at w s m ≡ None → ⊥
      by_block s l None g h = no_byte _ (WritesBlock t r s) s (block_computes r s) g l.here.stores.0 l.here.stores.1
      by_block s l (Some x) g h = cc

      last : torn_byte t r w ≡ None → (m : Option Op) → latest_everywhere (intrudes_block t r w) t ≡ m
          → block_of t r w m ≡ None → ⊥
      last f None g h = elim torn.torn [
        | inl x ↦ no_byte _ (IsTornAt t r w) r (torn_at_computes r w) f x.0 x.1
        | inr v ↦ none_anywhere _ (IntrudesBlock t r w) t (intrudes_block_computes r w) g v.0 v.1
      ]
      last f (Some s) g h = by_block s (latest_anywhere _ (IntrudesBlock t r w) t s (intrudes_block_computes r w) g)
          (block_byte t r s) refl h

      look : (m : Option ℕ) → torn_byte t r w ≡ m → torn_of t r w m ≡ None → ⊥
      look None f g = last f (latest_everywhere (intrudes_block t r w) t) refl g
      look (Some x) f g = by_byte x f (blamed t w x (source t r x)) refl g

  module _ (initial : ℕ → ℕ) where
    pub atomicity_found : (j : Judged) → AllPaired t → AllRight initial t → AllOrdered t → atomicity_answer t ≡ Some j
        → IsAnswer initial t j
    atomicity_found j paired right ordered e = look (least_of (has_torn t) t.ops) refl e
      where
        with_lr : (w : Op) → IsLeast (IsTorn t) w → (m : Option Op) → least_of (λ r. is_pair_torn t r w) t.ops ≡ m
            → pair_torn t w m ≡ Some j → IsAnswer initial t j
        with_lr w l None f g = absurd (cc)
        with_lr w l (Some r) f g =
            let n = torn_found r w j g in
            let torn = (least_member _ (λ v. Torn t v w) t.ops r (lr_computes w l.offends.1.pair.sc_in) f).offends in
            subst (IsAnswer initial t) n.named (record {
              paired = paired;
              right = right;
              ordered = ordered;
              sc = w;
              lr = r;
              blamed = n.store;
              named = refl;
              least = l;
              torn = torn;
              shown = n.shown;
              keyed = refl;
            })

        look : (o : Option Op) → least_of (has_torn t) t.ops ≡ o → atomicity_of t o ≡ Some j → IsAnswer initial t j
        look None f g = absurd (cc)
        look (Some w) f g = with_lr w (least_member _ (IsTorn t) t.ops w sc_computes f)
            (least_of (λ r. is_pair_torn t r w) t.ops) refl g

  pub atomicity_none : atomicity_answer t ≡ None → (r w : Op) → Torn t r w → ⊥
  atomicity_none e = look (least_of (has_torn t) t.ops) refl e
    where
      with_lr : (w : Op) → IsLeast (IsTorn t) w → (m : Option Op) → least_of (λ r. is_pair_torn t r w) t.ops ≡ m
          → pair_torn t w m ≡ None → ⊥
      with_lr w l None f g = no_member _ (λ r. Torn t r w) t.ops (lr_computes w l.offends.1.pair.sc_in) f l.offends.0
          l.offends.1
      with_lr w l (Some r) f g =
          torn_none r w (least_member _ (λ v. Torn t v w) t.ops r (lr_computes w l.offends.1.pair.sc_in) f).offends g

      look : (o : Option Op) → least_of (has_torn t) t.ops ≡ o → atomicity_of t o ≡ None → (r w : Op) → Torn t r w → ⊥
      look None f g = λ r w h. no_member _ (IsTorn t) t.ops sc_computes f w (r, h)
      look (Some w) f g =
          absurd (with_lr w (least_member _ (IsTorn t) t.ops w sc_computes f) (least_of (λ r. is_pair_torn t r w) t.ops)
          refl g)
