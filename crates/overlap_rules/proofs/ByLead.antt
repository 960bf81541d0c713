-- Rule 12 by what the bytes answer.
use Rattle.std.proofs.Common.{ℕ, ◌+◌, ◌<◌, ◌≡◌, ◌⊎◌, inl, inr, Bool, true, false, cond, List, Option, Some, None}
use Rattle.std.proofs.Common.{option_map}
use Rattle.std.proofs.Common.{refl, sym, ap, subst, ◌∙◌, slice_index_or, arith}
use Rattle.std.proofs.lemmas.Bool.{both_ways, and_parts, cases_Bool}
use Rattle.std.proofs.lemmas.List.Elements.{Contains-append_left}
use Rattle.tandem_base.specs.declared.mark.Mark.{Mark}
use Rattle.tandem_base.specs.declared.names.OpName.{OpName}
use Rattle.tandem_base.specs.declared.names.Place.{Place}
use Rattle.rvwmo_model.specs.declared.operations.Op.{Op}
use Rattle.rvwmo_model.specs.declared.preserved.Rule.TheVariants.{R1, R4, R6, R9, R10, R12}
use Rattle.rvwmo_model.specs.declared.traces.Trace.{Trace}
use Rattle.rvwmo_model.specs.Flows.{AddressDep, DataDep}
use Rattle.rvwmo_model.specs.Order.{performed, standing, precedes, kind_stores, op_loads, has_byte, reads, put_at}
use Rattle.rvwmo_model.specs.Sources.{source, origin_of}
use Rattle.rvwmo_model.specs.InForm.{IsPlaced}
use Rattle.rvwmo_model.specs.Legal.{Legal}
use Rattle.rvwmo_model.proofs.Orders.{before_asym}
use Rattle.growth_laws.specs.Laws.{source_place}
use Rattle.growth_laws.proofs.Facts.{alike}
use Rattle.growth_laws.proofs.Places.{place_cases, placed_first}
use Rattle.kept_ops.specs.declared.operation.KeptOp.{KeptOp}
use Rattle.kept_ops.specs.Operations.{came_after, holds_byte, loads_at, stores_at}
use Rattle.kept_ops.specs.Tables.{KeptTable}
use Rattle.store_buffer.specs.declared.store.Store.{Store}
use Rattle.store_buffer.specs.Stores.{StoreList, store_of_tag}
use Rattle.store_buffer.specs.Waiting.{waiting_byte}
use Rattle.window_laws.specs.declared.source.ByteSource.{ByteSource}
use Rattle.window_laws.specs.Latest.{IsLatestIfAny}
use Rattle.window_laws.specs.Tables.{untimed}
use Rattle.rule_laws.specs.Above.{Over}
use Rattle.rule_laws.specs.Firsts.{IsFirstBy}
use Rattle.rule_laws.specs.Named.{NamesFirst}
use Rattle.rule_laws.specs.Own.{IsOwn, IsOwnPerformed}
use Rattle.rule_laws.specs.Sourced.{LeadsTo}
use Rattle.rule_laws.proofs.Candidates.{forced_before, own_older}
use Rattle.overlap_rules.specs.declared.asked.Question.TheVariants as question
use Rattle.overlap_rules.specs.Answers.{kept_lead, entry_lead, kept_store, source_lead, answer_at, unsourced}
use Rattle.overlap_rules.specs.Found.{MarksLatest, found_over, latest_found}
use Rattle.overlap_rules.specs.Questions.{IsAskedBy, AreSourcesOf, TellsLead}
use Rattle.overlap_rules.proofs.ByAtomic.{source_at_byte}
use Rattle.overlap_rules.proofs.BySource.{SourceOver, source_found, source_writes, source_after, source_waits}
use Rattle.overlap_rules.proofs.BySource.{kinded_with}
use Rattle.overlap_rules.proofs.KeptLatest.{TellsKept, kept_loads, stores_over, stays_on, fresh_mark, oldest_below}
use Rattle.overlap_rules.proofs.MarkTold.{none_told, told_same, over_told}
use Rattle.overlap_rules.proofs.Naming.{by_address, names_performed}

not12 : (R12 ≡ R1) ⊎ (R12 ≡ R4) ⊎ (R12 ≡ R6) → ⊥
not12 (inl e) = cc
not12 (inr (inl e)) = cc
not12 (inr (inr e)) = cc

-- s is the source of byte x of b, a store of the hart after b
pub record IsSourceAfter (t t' : Trace) (b : Op) (x : ℕ) (s : Op) : Type 0 where
  pub is : source t' b x ≡ Some s
  pub own : IsOwn t b.name.hart s
  pub after : precedes b s ≡ true

-- b loads byte x, and its source depends on v, which comes after b
pub record IsLeadRead (t t' : Trace) (b : Op) (x : ℕ) (v : Op) : Type 0 where
  pub loads : reads x b ≡ true
  pub store : Op
  pub from : IsSourceAfter t t' b x store
  pub lead : Over (LeadsTo t b.name.hart store.name.tag) (standing b) v

module _ (t t' : Trace) (b : Op) (fresh : KeptOp) (stores : StoreList) (kept : KeptTable)
    (a : IsAskedBy t t' b fresh stores kept) where
  abbrev H : ℕ
  H = b.name.hart

  abbrev LeadRead : ℕ → Op → Type 0
  LeadRead x v = IsLeadRead t t' b x v

  -- a mark of what the source depends on
  by_lead : (x : ℕ) (s : Op) (lead : Option Mark) → reads x b ≡ true → IsSourceAfter t t' b x s
      → TellsLead t H a.oldest s.name.tag lead → MarksLatest t (LeadRead x) (found_over fresh.place lead)
  by_lead x s lead q is h =
      told_same t (Over (LeadsTo t H s.name.tag) (standing b)) (LeadRead x) (found_over fresh.place lead)
      (λ v p. record { loads = q; store = s; from = is; lead = p })
      (λ v p. (let same : p.store ≡ s = (let c : Some p.store ≡ Some s = sym p.from.is ∙ is.is in cc) in
      subst (λ (z : Op). Over (LeadsTo t H z.name.tag) (standing b) v) same p.lead))
      (over_told t t' (stays_on t t' b fresh stores kept a) a.positioned b _ (fresh_mark t t' b fresh stores kept a)
      (LeadsTo t H s.name.tag) (performed a.oldest) lead (oldest_below t t' b fresh stores kept a) h)

  none_reads : (x : ℕ) → source t' b x ≡ None → (v : Op) → LeadRead x v → ⊥
  none_reads x e v p = let c : Some p.store ≡ None = sym p.from.is ∙ e in cc

  -- a source that was performed
  module _ (x : ℕ) (s : Op) (is : source t' b x ≡ Some s) (placed : IsPlaced s) (q : reads x b ≡ true) where
    over_it : (u : Op) → LeadRead x u → SourceOver t t' b fresh stores kept a x s is placed s
    over_it u p =
        let same : p.store ≡ s = (let c : Some p.store ≡ Some s = sym p.from.is ∙ is in cc) in
        let after : precedes b s ≡ true = subst (λ (z : Op). precedes b z ≡ true) same p.from.after in (
          (
            (
              (source_after t t' b fresh stores kept a x s is after, placed),
              source_writes t t' b fresh stores kept a x s is,
            ),
            after,
          ),
          is,
        )

    at_kept : (o : Option Op) (m : Option KeptOp)
        → IsLatestIfAny (SourceOver t t' b fresh stores kept a x s is placed) o
        → TellsKept t kept.ops (stores_over t t' b fresh stores kept a x) o m
        → MarksLatest t (LeadRead x) (found_over fresh.place (kept_lead m))
    at_kept None None h k = none_told t (LeadRead x) (λ u p. h s (over_it u p))
    at_kept None (Some m) h k = absurd k
    at_kept (Some v) None h k = absurd k
    at_kept (Some v) (Some m) h k =
        let w = and_parts (stores_at x m) (came_after fresh.place m) k.passes in
        let stores_it : kind_stores m.kind ≡ true = (and_parts (kind_stores m.kind) (holds_byte x m) w.0).0 in
        by_lead x v m.lead q
        (record { is = h.here.1; own = h.here.0.0.0.0; after = h.here.0.1 })
        (subst (λ (n : OpName). TellsLead t H a.oldest n.tag m.lead) k.is.name
        (a.keeps.leads m k.listed stores_it))

    performed_lead : MarksLatest t (LeadRead x) (found_over fresh.place (kept_lead (kept_store kept x fresh.place)))
    performed_lead =
        let k = source_found t t' b fresh stores kept a x s is placed in
        at_kept k.op (kept_store kept x fresh.place) k.latest k.told

  -- a source that waits
  module _ (x : ℕ) (s : Op) (is : source t' b x ≡ Some s) (waits : s.place ≡ None) (q : reads x b ≡ true) where
    at_waiting : (o : Option Store) → store_of_tag s.name.tag stores.stores ≡ o → waiting_byte o x ≡ Some (put_at s x)
        → MarksLatest t (LeadRead x) (found_over fresh.place (entry_lead (option_map (λ z. z.entry) o)))
    at_waiting None e w = absurd (cc)
    at_waiting (Some z) e w =
        by_lead x s z.entry.marks.lead q
        (record {
          is = is;
          own = source_waits t t' b fresh stores kept a x s is waits;
          after = placed_first b s a.new.performed waits;
        })
        (a.waiting.leads s.name.tag z e)

    waiting_lead : MarksLatest t (LeadRead x)
        (found_over fresh.place (entry_lead (option_map (λ z. z.entry) (store_of_tag s.name.tag stores.stores))))
    waiting_lead =
        let own = source_waits t t' b fresh stores kept a x s is waits in
        at_waiting (store_of_tag s.name.tag stores.stores) refl
        (a.waiting.waits.all s x (own.0, own.1, waits, source_writes t t' b fresh stores kept a x s is))

  by_place : (x : ℕ) (o : Option Op) → source t' b x ≡ o → reads x b ≡ true
      → MarksLatest t (LeadRead x)
      (found_over fresh.place
      (source_lead (option_map untimed (source_place o)) (origin_of o) fresh.place stores.stores kept x))
  by_place x None e q = none_told t (LeadRead x) (none_reads x e)
  by_place x (Some s) e q = elim (place_cases s) [
    | inl p ↦ subst (λ (z : Option Place). MarksLatest t (LeadRead x)
        (found_over fresh.place
        (source_lead (option_map untimed z) (origin_of (Some s)) fresh.place stores.stores kept x))) (sym p.1)
        (performed_lead x s e p q)
    | inr n ↦ subst (λ (z : Option Place). MarksLatest t (LeadRead x)
        (found_over fresh.place
        (source_lead (option_map untimed z) (origin_of (Some s)) fresh.place stores.stores kept x))) (sym n)
        (waiting_lead x s e n q)
  ]

  module _ (initial : ℕ → ℕ) (sources : List ByteSource) (told : AreSourcesOf initial t' b sources) where
    abbrev answers : ℕ → Option Mark
    answers = answer_at question.Lead fresh sources stores.stores kept

    lead_told : (k : ℕ) → MarksLatest t (LeadRead (fresh.extent.addr + k)) (answers k)
    lead_told k = at (loads_at (fresh.extent.addr + k) fresh) refl
      where
        at : (z : Bool) → loads_at (fresh.extent.addr + k) fresh ≡ z
            → MarksLatest t (LeadRead (fresh.extent.addr + k))
            (cond z (found_over fresh.place (source_lead (slice_index_or sources k unsourced).place
            (slice_index_or sources k unsourced).writer fresh.place stores.stores kept (fresh.extent.addr + k))) None)
        at true e =
            let q : reads (fresh.extent.addr + k) b ≡ true =
            sym (kept_loads t' b fresh (fresh.extent.addr + k) a.told) ∙ e in
            subst (λ (z : ByteSource). MarksLatest t (LeadRead (fresh.extent.addr + k))
            (found_over fresh.place
            (source_lead z.place z.writer fresh.place stores.stores kept (fresh.extent.addr + k))))
            (sym (source_at_byte initial t' b sources fresh.extent k a.told.extent told q))
            (by_place (fresh.extent.addr + k) (source t' b (fresh.extent.addr + k)) refl q)
        at false e = none_told t (LeadRead (fresh.extent.addr + k))
            (λ v p. both_ways (reads (fresh.extent.addr + k) b)
            (sym (kept_loads t' b fresh (fresh.extent.addr + k) a.told) ∙ e) p.loads)

    -- in a legal trace a store that depends on what comes after b comes after b
    module _ (legal : Legal initial t) where
      store_after : (v m : Op) → IsOwn t H v → precedes b v ≡ true → IsOwn t H m → v.name.tag < m.name.tag
          → AddressDep t.insns H m.name.tag v.name.tag ⊎ DataDep t.insns H m.name.tag v.name.tag
          → precedes b m ≡ true
      store_after v m own z owns lt dep = elim (cases_Bool (precedes b m)) [
        | inl y ↦ y
        | inr y ↦ elim (cases_Bool (precedes m b)) [
          | inr w ↦ absurd (let same : m ≡ b = alike t' m b (kinded_with t t' b fresh stores kept a)
              (Contains-append_left t'.ops t'.early m (stays_on t t' b fresh stores kept a m owns.0))
              (Contains-append_left t'.ops t'.early b (a.new.retires.added b a.new.here)) w y in
              let less = own_older t t' a.r a.new.new a.kinded a.new.retires m b owns.0 a.new.here owns.1 in
              omega (arith, less, ap (λ (o : Op). o.name.tag) same))
          | inl w ↦ absurd (both_ways _ (before_asym (standing b) (standing v) z) (elim dep [
            | inl d ↦ forced_before initial t R9 v m b a.kinded legal (record {
              first_in = own.0;
              second_in = owns.0;
              one_hart = owns.1 ∙ sym own.1;
              in_order = lt;
              rule = subst (λ (h : ℕ). AddressDep t.insns h m.name.tag v.name.tag) (sym own.1) d;
            }) w
            | inr d ↦ forced_before initial t R10 v m b a.kinded legal (record {
              first_in = own.0;
              second_in = owns.0;
              one_hart = owns.1 ∙ sym own.1;
              in_order = lt;
              rule = subst (λ (h : ℕ). DataDep t.insns h m.name.tag v.name.tag) (sym own.1) d;
            }) w
          ]))
        ]
      ]

      pub names_lead : NamesFirst R12 t' b (option_map (λ m. m.name) (latest_found answers fresh.extent.len))
      names_lead =
          names_performed t t' b fresh stores kept a R12 (latest_found answers fresh.extent.len) not12
          (told_same t (λ v. (x : ℕ) × LeadRead x v)
          (Over (λ v. IsOwnPerformed t b.name.hart v × IsFirstBy R12 t t' b v) (standing b))
          (latest_found answers fresh.extent.len)
          (λ v p. (let d = p.1.lead in let s = p.1.from in
          ((d.0.0, (p.0, p.1.store, p.1.loads, s.is, s.own, d.0.1, d.0.2)), d.1)))
          (λ v p. (let f = p.0.1 in (
            f.0,
            record {
              loads = f.2;
              store = f.1;
              from = record { is = f.3; own = f.4; after = store_after v f.1 p.0.0.0 p.1 f.4 f.5 f.6 };
              lead = ((p.0.0, f.5, f.6), p.1);
            },
          )))
          (by_address t t' b fresh stores kept a LeadRead answers
          (λ x v p. (and_parts (op_loads b) (has_byte x b) p.loads).1) (λ k l. lead_told k)))
