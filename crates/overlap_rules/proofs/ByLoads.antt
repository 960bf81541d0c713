-- Rule 2 by what the bytes answer.
use Rattle.std.proofs.Common.{ℕ, ◌+◌, ◌≡◌, ◌⊎◌, inl, inr, Bool, true, false, cond, List, Option, None, option_map}
use Rattle.std.proofs.Common.{refl, sym, subst, ◌∙◌}
use Rattle.std.proofs.lemmas.Bool.{both_ways, and_parts}
use Rattle.tandem_base.specs.declared.names.Origin.{Origin}
use Rattle.rvwmo_model.specs.declared.operations.Op.{Op}
use Rattle.rvwmo_model.specs.declared.preserved.Rule.TheVariants.{R1, R2, R4, R6}
use Rattle.rvwmo_model.specs.declared.traces.Trace.{Trace}
use Rattle.rvwmo_model.specs.Order.{standing, op_loads, has_byte, reads}
use Rattle.rvwmo_model.specs.Sources.{origin}
use Rattle.kept_ops.specs.declared.operation.KeptOp.{KeptOp}
use Rattle.kept_ops.specs.Operations.{loads_at, source_at}
use Rattle.kept_ops.specs.Tables.{KeptTable}
use Rattle.store_buffer.specs.Stores.{StoreList}
use Rattle.window_laws.specs.declared.source.ByteSource.{ByteSource}
use Rattle.rule_laws.specs.Above.{Over}
use Rattle.rule_laws.specs.Firsts.{IsFirstBy}
use Rattle.rule_laws.specs.Named.{NamesFirst}
use Rattle.rule_laws.specs.Own.{IsOwnPerformed}
use Rattle.rule_laws.specs.TwoMarks.{LoadsOther}
use Rattle.overlap_rules.specs.declared.asked.Question.TheVariants as question
use Rattle.overlap_rules.specs.Answers.{found_op, kept_other, elsewhere_at, answer_at}
use Rattle.overlap_rules.specs.Found.{MarksLatest, latest_found}
use Rattle.overlap_rules.specs.Questions.{IsAskedBy}
use Rattle.overlap_rules.proofs.KeptLatest.{kept_loads, kept_source_of, kept_marks, since_of, last_placed}
use Rattle.overlap_rules.proofs.KeptLatest.{ElsewhereOver, elsewhere_over, other_latest}
use Rattle.overlap_rules.proofs.MarkTold.{told_same, none_told}
use Rattle.overlap_rules.proofs.Naming.{by_address, names_performed}

not2 : (R2 ≡ R1) ⊎ (R2 ≡ R4) ⊎ (R2 ≡ R6) → ⊥
not2 (inl e) = cc
not2 (inr (inl e)) = cc
not2 (inr (inr e)) = cc

module _ (t t' : Trace) (b : Op) (fresh : KeptOp) (stores : StoreList) (kept : KeptTable)
    (a : IsAskedBy t t' b fresh stores kept) where
  -- v loads byte x, which b loads, from another source, after b
  abbrev LoadedElsewhere : ℕ → Op → Type 0
  LoadedElsewhere x v = (reads x b ≡ true) × Over (LoadsOther t b.name.hart x (origin t' b x)) (standing b) v

  elsewhere_told : (x : ℕ) → MarksLatest t (LoadedElsewhere x) (elsewhere_at fresh kept x)
  elsewhere_told x = at (loads_at x fresh) refl
    where
      at : (z : Bool) → loads_at x fresh ≡ z
          → MarksLatest t (LoadedElsewhere x)
          (cond z (found_op (kept_other kept x (source_at x fresh) fresh.place)) None)
      at true e =
          let q : reads x b ≡ true = sym (kept_loads t' b fresh x a.told) ∙ e in
          let same : source_at x fresh ≡ origin t' b x = kept_source_of t' b fresh x a.told q in
          told_same t (ElsewhereOver t t' b fresh stores kept a x (source_at x fresh)) (LoadedElsewhere x)
          (found_op (kept_other kept x (source_at x fresh) fresh.place))
          (λ v p. (q, subst (λ (o : Option Origin). Over (LoadsOther t b.name.hart x o) (standing b) v) same p))
          (λ v p. subst (λ (o : Option Origin). Over (LoadsOther t b.name.hart x o) (standing b) v) (sym same) p.1)
          (kept_marks t (since_of t t' b fresh stores kept a x)
          (elsewhere_over t t' b fresh stores kept a x (source_at x fresh))
          (ElsewhereOver t t' b fresh stores kept a x (source_at x fresh))
          (kept_other kept x (source_at x fresh) fresh.place)
          (other_latest t t' b fresh stores kept a x (source_at x fresh)))
      at false e = none_told t (LoadedElsewhere x)
          (λ v p. both_ways (reads x b) (sym (kept_loads t' b fresh x a.told) ∙ e) p.0)

  pub names_load : (sources : List ByteSource)
      → NamesFirst R2 t' b
      (option_map (λ m. m.name) (latest_found (answer_at question.Load fresh sources stores.stores kept)
      fresh.extent.len))
  names_load sources =
      names_performed t t' b fresh stores kept a R2
      (latest_found (answer_at question.Load fresh sources stores.stores kept) fresh.extent.len) not2
      (told_same t (λ v. (x : ℕ) × LoadedElsewhere x v)
      (Over (λ v. IsOwnPerformed t b.name.hart v × IsFirstBy R2 t t' b v) (standing b))
      (latest_found (answer_at question.Load fresh sources stores.stores kept) fresh.extent.len)
      (λ v p. ((last_placed t t' b fresh stores kept a p.0 v p.1.1.0.0, (p.0, p.1.0, p.1.1.0)), p.1.1.1))
      (λ v p. (p.0.1.0, (p.0.1.1, (p.0.1.2, p.1))))
      (by_address t t' b fresh stores kept a LoadedElsewhere
      (answer_at question.Load fresh sources stores.stores kept)
      (λ x v p. (and_parts (op_loads b) (has_byte x b) p.0).1)
      (λ k l. elsewhere_told (fresh.extent.addr + k))))
