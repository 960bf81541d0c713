-- What the source of a byte is, where it is a store of the hart.
use Rattle.std.proofs.Common.{ℕ, ◌≡◌, inl, inr, true, false, eqb, ltb, Option, Some, None}
use Rattle.std.proofs.Common.{sym, ap, ◌∙◌, arith}
use Rattle.std.proofs.lemmas.Bool.{both_ways, and_from, cases_Bool, eq-eqb}
use Rattle.std.proofs.lemmas.Bool.Decides.{nat_tests}
use Rattle.std.specs.List.{Contains}
use Rattle.std.proofs.lemmas.List.Elements.{Contains-append_left}
use Rattle.rvwmo_model.specs.declared.operations.Op.{Op}
use Rattle.rvwmo_model.specs.declared.traces.Trace.{Trace}
use Rattle.rvwmo_model.specs.Order.{standing, precedes, writes}
use Rattle.rvwmo_model.specs.ProgramOrder.{is_older}
use Rattle.rvwmo_model.specs.Sources.{IsWriter, source}
use Rattle.rvwmo_model.specs.InForm.{IsPlaced}
use Rattle.rvwmo_model.proofs.Orders.{before_asym, before_trans}
use Rattle.rvwmo_model.proofs.Latest.{source_is}
use Rattle.growth_laws.specs.Kinds.{WellKinded}
use Rattle.growth_laws.proofs.Facts.{alike, older_parts}
use Rattle.growth_laws.proofs.Growths.{insn_link}
use Rattle.growth_laws.proofs.Places.{unplaced_after}
use Rattle.kept_ops.specs.declared.operation.KeptOp.{KeptOp}
use Rattle.kept_ops.specs.Tables.{KeptTable}
use Rattle.store_buffer.specs.Stores.{StoreList}
use Rattle.window_laws.specs.Latest.{IsLatestIfAny}
use Rattle.rule_laws.specs.Own.{IsOwn}
use Rattle.rule_laws.proofs.Candidates.{own_older, older_old}
use Rattle.overlap_rules.specs.Answers.{kept_store}
use Rattle.overlap_rules.specs.Questions.{IsAskedBy}
use Rattle.overlap_rules.proofs.KeptLatest.{KeptLatest, StoredOver, stores_over, store_latest, stays_on}

module _ (t t' : Trace) (b : Op) (fresh : KeptOp) (stores : StoreList) (kept : KeptTable)
    (a : IsAskedBy t t' b fresh stores kept) where
  abbrev H : ℕ
  H = b.name.hart

  pub kinded_with : WellKinded t'
  kinded_with = (insn_link t t' a.r a.new.new a.kinded a.new.retires).after

  -- an operation of the hart that was there is older than b
  older_it : (v : Op) → IsOwn t H v → is_older v b ≡ true
  older_it v o =
      let l = own_older t t' a.r a.new.new a.kinded a.new.retires v b o.0 a.new.here o.1 in
      and_from (eqb v.name.hart b.name.hart) (ltb v.name.tag b.name.tag) (eq-eqb v.name.hart b.name.hart o.1)
      (grind (arith, nat_tests))

  older_there : (v : Op) → Contains t'.ops v → is_older v b ≡ true → IsOwn t H v
  older_there v i o =
      let y = older_parts v b o in
      (older_old t t' a.r a.new.new a.kinded a.new.retires v b i a.new.here (sym y.0) y.1, y.0)

  module _ (x : ℕ) (s : Op) (is : source t' b x ≡ Some s) where
    pub source_writes : writes x s ≡ true
    source_writes = elim (source_is t' b x s is).0 [ inl p ↦ p.1 | inr p ↦ p.1 ]

    -- a source that doesn't precede b is a store of the hart that was there
    pub source_own : (precedes s b ≡ true → ⊥) → IsOwn t H s
    source_own not = at (source_is t' b x s is).0
      where
        at : IsWriter t' b x s → IsOwn t H s
        at (inr p) = absurd (not p.2)
        at (inl p) = elim p.2 [ inl z ↦ absurd (not z) | inr o ↦ older_there s p.0 o ]

    pub source_after : precedes b s ≡ true → IsOwn t H s
    source_after q = source_own (λ z. both_ways _ (before_asym (standing s) (standing b) z) q)

    pub source_waits : s.place ≡ None → IsOwn t H s
    source_waits e = source_own (λ z. both_ways _ (unplaced_after s b e a.new.performed) z)

    -- where it was performed, the last store of the hart after b is the source, if there is one
    module _ (placed : IsPlaced s) where
      is_source : (v : Op) → StoredOver t t' b fresh stores kept a x v
          → ((u : Op) → StoredOver t t' b fresh stores kept a x u → precedes v u ≡ false) → source t' b x ≡ Some v
      is_source v p last = is ∙ ap (λ (o : Op). Some o) (sym same)
        where
          there : Contains t'.ops v
          there = stays_on t t' b fresh stores kept a v p.0.0.0.0

          not_before : precedes s v ≡ false
          not_before = (source_is t' b x s is).1 v (inl (there, p.0.1, inr (older_it v p.0.0.0)))

          not_after : precedes v s ≡ false
          not_after = elim (cases_Bool (precedes v s)) [
            | inr z ↦ z
            | inl z ↦ (let q : precedes b s ≡ true = before_trans (standing b) (standing v) (standing s) p.1 z in
                last s (((source_after q, placed), source_writes), q))
          ]

          same : v ≡ s
          same = elim (source_is t' b x s is).0 [
            | inl w ↦ alike t' v s kinded_with (Contains-append_left t'.ops t'.early v there)
                (Contains-append_left t'.ops t'.early s w.0) not_after not_before
            | inr w ↦ absurd (both_ways (precedes s v) not_before
                (before_trans (standing s) (standing b) (standing v) w.2 p.1))
          ]

      -- v is the source, and a store of the hart after b
      abbrev pub SourceOver : Op → Type 0
      SourceOver v = StoredOver t t' b fresh stores kept a x v × (source t' b x ≡ Some v)

      pub source_found : KeptLatest t kept.ops (stores_over t t' b fresh stores kept a x) SourceOver
          (kept_store kept x fresh.place)
      source_found =
          let k = store_latest t t' b fresh stores kept a x in
          record { op = k.op; latest = at k.op k.latest; told = k.told }
        where
          at : (o : Option Op) → IsLatestIfAny (StoredOver t t' b fresh stores kept a x) o → IsLatestIfAny SourceOver o
          at None h = λ v q. h v q.0
          at (Some v) h = record {
            here = (h.here, is_source v h.here h.latest);
            latest = λ u q. h.latest u q.0;
          }
