-- What a lead tells while a trace grows.
use Rattle.std.proofs.Common.{ℕ, ◌<◌, ◌≡◌, ◌⊎◌, inl, inr, false, List, Option, Some, None, refl, sym, subst, ◌∙◌, arith}
use Rattle.std.specs.List.{Contains}
use Rattle.tandem_base.specs.declared.mark.Mark.{Mark}
use Rattle.tandem_base.specs.declared.names.Place.{Place}
use Rattle.tandem_base.specs.Places.{earlier}
use Rattle.rvwmo_model.specs.declared.instructions.Retired.{Retired}
use Rattle.rvwmo_model.specs.declared.operations.Op.{Op}
use Rattle.rvwmo_model.specs.declared.preserved.Rule.TheVariants.{R1, R4, R6, R9, R10}
use Rattle.rvwmo_model.specs.declared.traces.Trace.{Trace}
use Rattle.rvwmo_model.specs.Flows.{AddressDep, DataDep}
use Rattle.rvwmo_model.specs.Order.{Standing, performed, stands_before}
use Rattle.rvwmo_model.specs.ProgramOrder.{insn_at}
use Rattle.rvwmo_model.specs.InForm.{IsPlaced}
use Rattle.growth_laws.specs.Kinds.{WellKinded}
use Rattle.growth_laws.specs.Growth.{SameMembers, Keeps, AddInsn, Performs, grow_stores}
use Rattle.growth_laws.proofs.Chains.{chain_stays}
use Rattle.growth_laws.proofs.Growths.{growth_chain}
use Rattle.growth_laws.proofs.Insns.{with_other}
use Rattle.growth_laws.proofs.Parts.{Stems, stems_old, stems_part, stems_left, performs_back, performs_insns}
use Rattle.growth_laws.proofs.Places.{not_both}
use Rattle.growth_laws.proofs.PlainStores.{plain_first}
use Rattle.growth_laws.proofs.SameInsns.{address_on, data_on}
use Rattle.window_laws.proofs.Latests.{latest_same}
use Rattle.rule_laws.specs.Above.{Over, if_over}
use Rattle.rule_laws.specs.Sourced.{LeadsTo}
use Rattle.rule_laws.proofs.LatestOver.{mark_kept}
use Rattle.overlap_rules.specs.Found.{TellsOp, MarksLatestOver}
use Rattle.overlap_rules.specs.LeadLaws.{LeadsGoOn}
use Rattle.overlap_rules.specs.Questions.{TellsLead}
use Rattle.overlap_rules.proofs.MarkTold.{marked_place}

-- ---- a mark, where what was performed stays

module _ (t t' : Trace) (stays : (v : Op) → Contains t.ops v → IsPlaced v → Contains t'.ops v) where
  told_on : (o : Option Op) (m : Option Mark) → TellsOp t o m → TellsOp t' o m
  told_on None None a = tt
  told_on None (Some m) a = absurd a
  told_on (Some v) None a = absurd a
  told_on (Some v) (Some m) a =
      let p = marked_place t v m a in
      record { here = stays v a.here (p.0, p.1); name = a.name; place = a.place }

  same_lead : (P Q : Op → Type 0) (q : Standing) (m : Option Mark) → ((v : Op) → P v → Q v)
      → ((v : Op) → Q v → P v) → MarksLatestOver t P q m → MarksLatestOver t' Q q m
  same_lead P Q q m on back h = record {
    op = h.op;
    latest = latest_same (Over P q) (Over Q q) (if_over q h.op) (λ v p. (on v p.0, p.1)) (λ v p. (back v p.0, p.1))
        h.latest;
    told = told_on h.op m h.told;
  }

-- ---- dependencies of one instruction, where those up to it are the same

module _ (t t' : Trace) (h tag : ℕ)
    (same : (n : ℕ) → (n < tag) ⊎ (n ≡ tag) → insn_at t'.insns h n ≡ insn_at t.insns h n) where
  depends_on : (i : ℕ) → AddressDep t.insns h tag i ⊎ DataDep t.insns h tag i
      → AddressDep t'.insns h tag i ⊎ DataDep t'.insns h tag i
  depends_on i (inl d) = inl (address_on t t' h tag same tag i (inr refl) d)
  depends_on i (inr d) = inr (data_on t t' h tag same tag i (inr refl) d)

  leads_on : (v : Op) → Contains t'.ops v → LeadsTo t h tag v → LeadsTo t' h tag v
  leads_on v i p = (((i, p.0.0.1), p.0.1), p.1, depends_on v.name.tag p.2)

turned : (t t' : Trace) (h tag : ℕ)
    → ((n : ℕ) → (n < tag) ⊎ (n ≡ tag) → insn_at t'.insns h n ≡ insn_at t.insns h n)
    → (n : ℕ) → (n < tag) ⊎ (n ≡ tag) → insn_at t.insns h n ≡ insn_at t'.insns h n
turned t t' h tag same n d = sym (same n d)

-- ---- the same operations

members_lead : (t t' : Trace) (h : ℕ) (oldest : Place) (tag : ℕ) (lead : Option Mark) → Keeps t t' None
    → SameMembers t.ops t'.ops → TellsLead t h oldest tag lead → TellsLead t' h oldest tag lead
members_lead t t' h oldest tag lead keeps ops a =
    same_lead t t' (λ v i p. ops.on v i) (LeadsTo t h tag) (LeadsTo t' h tag) (performed oldest) lead
    (λ v p. leads_on t t' h tag (λ n d. keeps.insns h n) v (ops.on v p.0.0.0) p)
    (λ v p. leads_on t' t h tag (λ n d. sym (keeps.insns h n)) v (ops.back v p.0.0.0) p) a

-- ---- an instruction more

module _ (t t' : Trace) (r : Retired) (new : List Op) (s : AddInsn t t' r new) (h tag : ℕ)
    (less : h ≡ r.hart → tag < r.tag) where
  insns_before : (n : ℕ) → (n < tag) ⊎ (n ≡ tag) → insn_at t'.insns h n ≡ insn_at t.insns h n
  insns_before n d = s.keeps.insns h n ∙ with_other t r h n (λ e. (let l : tag < r.tag = less e in
      elim d [ inl a ↦ omega (arith, a, l) | inr a ↦ omega (arith, a, l) ]))

  was_there : (v : Op) → LeadsTo t' h tag v → Contains t.ops v
  was_there v p = elim (s.ops_back v p.0.0.0) [
    | inr i ↦ i
    | inl m ↦ absurd (
        let of = s.are_of.own v m in
        let l : tag < r.tag = less (sym p.0.0.1 ∙ of.0) in
        let e : v.name.tag ≡ r.tag = of.1 in
        let d : v.name.tag < tag = p.1 in
        omega (arith, l, e, d))
  ]

  insn_lead : (oldest : Place) (lead : Option Mark) → TellsLead t h oldest tag lead → TellsLead t' h oldest tag lead
  insn_lead oldest lead a =
      same_lead t t' (λ v i p. s.ops_on v i) (LeadsTo t h tag) (LeadsTo t' h tag) (performed oldest) lead
      (λ v p. leads_on t t' h tag insns_before v (s.ops_on v p.0.0.0) p)
      (λ v p. leads_on t' t h tag (turned t t' h tag insns_before) v (was_there v p) p) a

-- ---- stores that are performed

-- nothing depends on a plain store
none_on_store : (t : Trace) (o : Op) (tag : ℕ) → WellKinded t → Contains t.ops o → o.place ≡ None
    → AddressDep t.insns o.name.hart tag o.name.tag ⊎ DataDep t.insns o.name.hart tag o.name.tag → ⊥
none_on_store t o tag k i e d = elim d [
  | inl a ↦ not9 (plain_first t R9 o later k i (k.unperformed o i e) a)
  | inr a ↦ not10 (plain_first t R10 o later k i (k.unperformed o i e) a)
]
  where
    later : Op
    later = record o { name = record { hart = o.name.hart; tag = tag; part = 0 } }

    not9 : (R9 ≡ R1) ⊎ (R9 ≡ R4) ⊎ (R9 ≡ R6) → ⊥
    not9 (inl f) = cc
    not9 (inr (inl f)) = cc
    not9 (inr (inr f)) = cc

    not10 : (R10 ≡ R1) ⊎ (R10 ≡ R4) ⊎ (R10 ≡ R6) → ⊥
    not10 (inl f) = cc
    not10 (inr (inl f)) = cc
    not10 (inr (inr f)) = cc

module _ (t t' : Trace) (g : ℕ) (parts : List Op) (k : WellKinded t) (s : Performs g t parts t') (h tag : ℕ) where
  insns_stay : (n : ℕ) → (n < tag) ⊎ (n ≡ tag) → insn_at t'.insns h n ≡ insn_at t.insns h n
  insns_stay n d = performs_insns g t t' parts s h n

  placed_stays : (v : Op) → Contains t.ops v → IsPlaced v → Contains t'.ops v
  placed_stays v i p = chain_stays t t' v (growth_chain t t' k (grow_stores g parts s)) i p

  old_lead : (v : Op) → LeadsTo t' h tag v → Contains t.ops v
  old_lead v p = at (performs_back g t t' parts s v p.0.0.0)
    where
      at : Stems t parts v → Contains t.ops v
      at (stems_old i q) = i
      at (stems_left e o w) = absurd (not_both v p.0.1 e)
      at (stems_part m q above o w) =
          let d = depends_on t' t h tag (turned t t' h tag insns_stay) v.name.tag p.2 in
          let hart : h ≡ o.name.hart = sym p.0.0.1 ∙ w.same.0 in
          absurd (none_on_store t o tag k w.was w.unperformed
          (subst (λ (n : ℕ). AddressDep t.insns o.name.hart tag n ⊎ DataDep t.insns o.name.hart tag n) w.same.1
          (subst (λ (n : ℕ). AddressDep t.insns n tag v.name.tag ⊎ DataDep t.insns n tag v.name.tag) hart d)))

  stored_lead : (oldest : Place) (lead : Option Mark) → TellsLead t h oldest tag lead
      → TellsLead t' h oldest tag lead
  stored_lead oldest lead a =
      same_lead t t' placed_stays (LeadsTo t h tag) (LeadsTo t' h tag) (performed oldest) lead
      (λ v p. leads_on t t' h tag insns_stay v (placed_stays v p.0.0.0 p.0.1) p)
      (λ v p. leads_on t' t h tag (turned t t' h tag insns_stay) v (old_lead v p) p) a

narrowed_lead : (t : Trace) (P : Op → Type 0) (before oldest : Place) (lead : Option Mark)
    → earlier oldest before ≡ false → MarksLatestOver t P (performed before) lead
    → MarksLatestOver t P (performed oldest) lead
unfolding stands_before
narrowed_lead t P before oldest lead e a = record {
  op = a.op;
  latest = mark_kept P a.op (performed before) (performed oldest) e a.latest;
  told = a.told;
}

pub leads_go_on : LeadsGoOn
leads_go_on = record {
  narrows = λ t h before oldest tag lead e a. narrowed_lead t (LeadsTo t h tag) before oldest lead e a;
  nothing = λ t t' h oldest tag lead s a. members_lead t t' h oldest tag lead s.keeps s.ops a;
  early = λ t t' e h oldest tag lead s a. members_lead t t' h oldest tag lead s.keeps s.ops a;
  insn = λ t t' r new h oldest tag lead s less a. insn_lead t t' r new s h tag less oldest lead a;
  stores = λ t t' g parts h oldest tag lead k s a. stored_lead t t' g parts k s h tag oldest lead a;
}
