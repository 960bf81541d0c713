-- Rule 3 by what the bytes answer.
use Rattle.std.proofs.Common.{ℕ, ◌+◌, ◌≡◌, ◌⊎◌, inl, inr, Bool, true, false, cond, List, Option, Some, None, option_map}
use Rattle.std.proofs.Common.{refl, sym, subst, ◌∙◌, slice_index_or}
use Rattle.std.proofs.lemmas.Bool.{both_ways, and_parts}
use Rattle.tandem_base.specs.declared.extent.Extent.{Extent}
use Rattle.tandem_base.specs.declared.mark.Mark.{Mark}
use Rattle.tandem_base.specs.declared.names.Place.{Place}
use Rattle.rv_decode.specs.Kinds.{is_amo_or_sc}
use Rattle.rvwmo_model.specs.declared.operations.Op.{Op}
use Rattle.rvwmo_model.specs.declared.preserved.Rule.TheVariants.{R1, R3, R4, R6}
use Rattle.rvwmo_model.specs.declared.traces.Trace.{Trace}
use Rattle.rvwmo_model.specs.Order.{standing, op_loads, has_byte, reads}
use Rattle.rvwmo_model.specs.ProgramOrder.{insn_of, is_one}
use Rattle.rvwmo_model.specs.Sources.{source}
use Rattle.rvwmo_model.specs.InForm.{IsPlaced}
use Rattle.growth_laws.specs.Laws.{source_place}
use Rattle.growth_laws.proofs.Places.{place_cases, not_both}
use Rattle.kept_ops.specs.declared.operation.KeptOp.{KeptOp}
use Rattle.kept_ops.specs.Operations.{loads_at}
use Rattle.kept_ops.specs.Tables.{KeptTable}
use Rattle.store_buffer.specs.Stores.{StoreList}
use Rattle.window_laws.specs.declared.source.ByteSource.{ByteSource}
use Rattle.window_laws.specs.Latest.{IsLatestIfAny}
use Rattle.window_laws.specs.Tables.{untimed, source_told}
use Rattle.rule_laws.specs.Above.{Over}
use Rattle.rule_laws.specs.Firsts.{IsFirstBy}
use Rattle.rule_laws.specs.Named.{NamesFirst}
use Rattle.rule_laws.specs.Own.{IsOwnPerformed}
use Rattle.overlap_rules.specs.declared.asked.Question.TheVariants as question
use Rattle.overlap_rules.specs.Answers.{mark_of_op, atomic_op, if_performed, kept_store, atomic_at, answer_at}
use Rattle.overlap_rules.specs.Answers.{unsourced}
use Rattle.overlap_rules.specs.Found.{MarksLatest, latest_found}
use Rattle.overlap_rules.specs.Questions.{IsAskedBy, AreSourcesOf}
use Rattle.overlap_rules.proofs.BySource.{SourceOver, source_found, source_writes}
use Rattle.overlap_rules.proofs.KeptLatest.{TellsKept, kept_loads, stores_over}
use Rattle.overlap_rules.proofs.MarkTold.{none_told, told_same}
use Rattle.overlap_rules.proofs.Naming.{by_address, names_performed}

not3 : (R3 ≡ R1) ⊎ (R3 ≡ R4) ⊎ (R3 ≡ R6) → ⊥
not3 (inl e) = cc
not3 (inr (inl e)) = cc
not3 (inr (inr e)) = cc

-- the source of byte k, which b loads, as it is told
pub source_at_byte : (initial : ℕ → ℕ) (t : Trace) (b : Op) (sources : List ByteSource) (extent : Extent) (k : ℕ)
    → extent ≡ b.extent → AreSourcesOf initial t b sources → reads (extent.addr + k) b ≡ true
    → slice_index_or sources k unsourced ≡ source_told initial (source t b (extent.addr + k)) (extent.addr + k)
source_at_byte initial t b sources extent k e told q =
    subst (λ (z : Extent). reads (z.addr + k) b ≡ true → slice_index_or sources k unsourced
    ≡ source_told initial (source t b (z.addr + k)) (z.addr + k)) (sym e) (told k) q

module _ (t t' : Trace) (b : Op) (fresh : KeptOp) (stores : StoreList) (kept : KeptTable)
    (a : IsAskedBy t t' b fresh stores kept) where
  -- v is of an SC or AMO, comes after b, and is the source of byte x, which b loads
  abbrev AtomicRead : ℕ → Op → Type 0
  AtomicRead x v = (reads x b ≡ true)
      × Over (λ u. IsOwnPerformed t b.name.hart u × ((is_one is_amo_or_sc (insn_of t u) ≡ true)
      × (source t' b x ≡ Some u))) (standing b) v

  found_atomic : (x : ℕ) (s : Op) (is : source t' b x ≡ Some s) (placed : IsPlaced s) → reads x b ≡ true
      → MarksLatest t (AtomicRead x) (atomic_op (kept_store kept x fresh.place))
  found_atomic x s is placed q =
      let k = source_found t t' b fresh stores kept a x s is placed in
      at k.op (kept_store kept x fresh.place) k.latest k.told
    where
      over_it : (u : Op) → AtomicRead x u → SourceOver t t' b fresh stores kept a x s is placed u
      over_it u p = (((p.1.0.0, source_writes t t' b fresh stores kept a x u p.1.0.1.1), p.1.1), p.1.0.1.1)

      at : (o : Option Op) (m : Option KeptOp)
          → IsLatestIfAny (SourceOver t t' b fresh stores kept a x s is placed) o
          → TellsKept t kept.ops (stores_over t t' b fresh stores kept a x) o m
          → MarksLatest t (AtomicRead x) (atomic_op m)
      at None None h k = none_told t (AtomicRead x) (λ u p. h u (over_it u p))
      at None (Some m) h k = absurd k
      at (Some v) None h k = absurd k
      at (Some v) (Some m) h k = by m.atomic refl
        where
          by : (z : Bool) → m.atomic ≡ z → MarksLatest t (AtomicRead x) (cond z (Some (mark_of_op m)) None)
          by true e = record {
            op = Some v;
            latest = record {
              here = (q, ((h.here.0.0.0, (sym k.is.atomic ∙ e, h.here.1)), h.here.0.1));
              latest = λ u p. h.latest u (over_it u p);
            };
            told = record { here = k.old; name = k.is.name; place = k.is.place };
          }
          by false e = none_told t (AtomicRead x) (λ u p. (
              let same : v ≡ u = (let c : Some v ≡ Some u = sym h.here.1 ∙ p.1.0.1.1 in cc) in
              both_ways (is_one is_amo_or_sc (insn_of t u))
              (subst (λ (z : Op). is_one is_amo_or_sc (insn_of t z) ≡ false) same (sym k.is.atomic ∙ e)) p.1.0.1.0))

  by_place : (x : ℕ) (o : Option Op) → source t' b x ≡ o → reads x b ≡ true
      → MarksLatest t (AtomicRead x)
      (if_performed (option_map untimed (source_place o)) (atomic_op (kept_store kept x fresh.place)))
  by_place x None e q = none_told t (AtomicRead x) (λ u p. let c : Some u ≡ None = sym p.1.0.1.1 ∙ e in cc)
  by_place x (Some s) e q = elim (place_cases s) [
    | inl p ↦ subst (λ (z : Option Place). MarksLatest t (AtomicRead x)
        (if_performed (option_map untimed z) (atomic_op (kept_store kept x fresh.place)))) (sym p.1)
        (found_atomic x s e p q)
    | inr n ↦ subst (λ (z : Option Place). MarksLatest t (AtomicRead x)
        (if_performed (option_map untimed z) (atomic_op (kept_store kept x fresh.place)))) (sym n)
        (none_told t (AtomicRead x) (λ u p. (
        let same : s ≡ u = (let c : Some s ≡ Some u = sym e ∙ p.1.0.1.1 in cc) in
        not_both s (subst (λ (z : Op). IsPlaced z) (sym same) p.1.0.0.1) n)))
  ]

  module _ (initial : ℕ → ℕ) (sources : List ByteSource) (told : AreSourcesOf initial t' b sources) where
    atomic_told : (k : ℕ)
        → MarksLatest t (AtomicRead (fresh.extent.addr + k))
        (atomic_at fresh (slice_index_or sources k unsourced) kept (fresh.extent.addr + k))
    atomic_told k = at (loads_at (fresh.extent.addr + k) fresh) refl
      where
        at : (z : Bool) → loads_at (fresh.extent.addr + k) fresh ≡ z
            → MarksLatest t (AtomicRead (fresh.extent.addr + k))
            (cond z (if_performed (slice_index_or sources k unsourced).place
            (atomic_op (kept_store kept (fresh.extent.addr + k) fresh.place))) None)
        at true e =
            let q : reads (fresh.extent.addr + k) b ≡ true =
            sym (kept_loads t' b fresh (fresh.extent.addr + k) a.told) ∙ e in
            subst (λ (z : ByteSource). MarksLatest t (AtomicRead (fresh.extent.addr + k))
            (if_performed z.place (atomic_op (kept_store kept (fresh.extent.addr + k) fresh.place))))
            (sym (source_at_byte initial t' b sources fresh.extent k a.told.extent told q))
            (by_place (fresh.extent.addr + k) (source t' b (fresh.extent.addr + k)) refl q)
        at false e = none_told t (AtomicRead (fresh.extent.addr + k))
            (λ v p. both_ways (reads (fresh.extent.addr + k) b)
            (sym (kept_loads t' b fresh (fresh.extent.addr + k) a.told) ∙ e) p.0)

    abbrev answers : ℕ → Option Mark
    answers = answer_at question.Atomic fresh sources stores.stores kept

    pub names_atomic : NamesFirst R3 t' b (option_map (λ m. m.name) (latest_found answers fresh.extent.len))
    names_atomic =
        names_performed t t' b fresh stores kept a R3 (latest_found answers fresh.extent.len) not3
        (told_same t (λ v. (x : ℕ) × AtomicRead x v)
        (Over (λ v. IsOwnPerformed t b.name.hart v × IsFirstBy R3 t t' b v) (standing b))
        (latest_found answers fresh.extent.len)
        (λ v p. ((p.1.1.0.0, (p.1.1.0.1.0, (p.0, p.1.0, p.1.1.0.1.1))), p.1.1.1))
        (λ v p. (p.0.1.1.0, (p.0.1.1.1, ((p.0.0, (p.0.1.0, p.0.1.1.2)), p.1))))
        (by_address t t' b fresh stores kept a AtomicRead answers
        (λ x v p. (and_parts (op_loads b) (has_byte x b) p.0).1) (λ k l. atomic_told k)))
