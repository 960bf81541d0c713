-- Each rule's answer, whatever trace the marks stand for.
use Rattle.std.proofs.Common.{ℕ, ◌<◌, ◌≡◌, ◌⊎◌, inl, inr, Bool, true, false, List, cond, Option, Some, None}
use Rattle.std.proofs.Common.{refl, sym, ap, subst, ◌∙◌, arith}
use Rattle.std.proofs.lemmas.Bool.{both_ways}
use Rattle.std.specs.Option.{option_map}
use Rattle.std.specs.List.{Contains}
use Rattle.std.proofs.lemmas.List.Elements.{Contains-append_left}
use Rattle.tandem_base.specs.declared.mark.Mark.{Mark}
use Rattle.tandem_base.specs.declared.names.OpName.{OpName}
use Rattle.tandem_base.specs.declared.names.Position.{Position}
use Rattle.rv_decode.specs.declared.instruction.Insn.{Insn}
use Rattle.rv_decode.specs.declared.registers.Register.{Register}
use Rattle.rv_decode.specs.Kinds.{is_store}
use Rattle.rv_decode.specs.Registers.{is_address, is_data, is_control}
use Rattle.rvwmo_model.specs.declared.instructions.Retired.{Retired}
use Rattle.rvwmo_model.specs.declared.operations.Op.{Op}
use Rattle.rvwmo_model.specs.declared.operations.OpKind.{OpKind}
use Rattle.rvwmo_model.specs.declared.preserved.Rule.{Rule}
use Rattle.rvwmo_model.specs.declared.preserved.Rule.TheVariants.{R1, R4, R6, R9, R10, R11, R13}
use Rattle.rvwmo_model.specs.declared.traces.Trace.{Trace}
use Rattle.rvwmo_model.specs.Order.{kind_stores, op_stores, standing, everything}
use Rattle.rvwmo_model.specs.InForm.{IsPlaced}
use Rattle.rvwmo_model.specs.Flows.{DependsBy}
use Rattle.rvwmo_model.specs.ProgramOrder.{insn_at, is_one}
use Rattle.rvwmo_model.proofs.LookUp.{found_in}
use Rattle.rvwmo_model.proofs.Tested.{one_some}
use Rattle.growth_laws.proofs.Insns.{more_new, with_other}
use Rattle.window_laws.specs.Latest.{IsLatestIfAny}
use Rattle.window_laws.proofs.Latests.{latest_same}
use Rattle.rule_laws.specs.Above.{Over, if_over}
use Rattle.rule_laws.specs.Firsts.{IsFirstBy}
use Rattle.rule_laws.specs.Named.{NamesFirst}
use Rattle.rule_laws.specs.Own.{IsOwnPerformed}
use Rattle.rule_laws.proofs.FirstTold.{first_is_performed}
use Rattle.rule_laws.proofs.LatestOver.{mark_over}
use Rattle.dep_tracker.specs.Marks.{Started, UsedBy, UsedIn, IsLatestMark}
use Rattle.dep_tracker.specs.Tables.{MarkTable, StandsFor}
use Rattle.dep_tracker.specs.Tagged.{Lists, DependsFrom}
use Rattle.dep_tracker.proofs.Latest.{same}
use Rattle.dep_tracker.proofs.Tagged.{uses_agree, past_uses_agree, lists_stay}
use Rattle.dependency_rules.specs.Asked.{IsDependent, name_past, where_it_stores}
use Rattle.dependency_rules.specs.Starts.{as_mark}
use Rattle.dependency_rules.proofs.Depended.{source_no_store, source_older}
use Rattle.dependency_rules.proofs.Latest.{latest_dep, names_past}

abbrev IsOther : Rule → Type 0
IsOther k = (k ≡ R1) ⊎ (k ≡ R4) ⊎ (k ≡ R6) → ⊥

module _ (t t' : Trace) (r : Retired) (b : Op) (table : MarkTable) (place : Position)
    (a : IsDependent t t' r b table place) where
  abbrev starts : ℕ → Option Mark
  starts = a.deps.starts

  still : (n : ℕ) → n < r.tag → insn_at t'.insns r.hart n ≡ insn_at t.insns r.hart n
  still n l = a.retires.retires.keeps.insns r.hart n ∙ with_other t r r.hart n (λ e. l)

  lists : Lists t'.insns r.hart starts r.tag a.deps.insns
  lists = lists_stay t.insns t'.insns r.hart starts starts r.tag a.deps.insns still (λ n l. refl) a.deps.listed

  -- what r depends on
  abbrev Now : (Insn → Register → Bool) → ℕ → Type 0
  Now test i = DependsBy test t'.insns r.hart r.tag i

  -- what an instruction before it that is younger depends on
  abbrev Before : (Insn → Register → Bool) → ℕ → Type 0
  Before test i = (n : ℕ) × (i < n) × DependsBy test t.insns r.hart n i

  abbrev From : (ℕ → Type 0) → Mark → Type 0
  From P m = (i : ℕ) × P i × (starts i ≡ Some m)

  there : (test : Insn → Register → Bool) (n i : ℕ) → DependsBy test t.insns r.hart n i → n < r.tag
  there test n i d =
      let w = one_some (λ w. test w d.0) (insn_at t.insns r.hart n) d.1 in
      let g = found_in t.insns r.hart n w.0 w.1 in
      let l : w.0.tag < r.tag = a.retires.retires.younger w.0 g.0 g.1 in
      omega (arith, l, g.2)

  now_marks : (test : Insn → Register → Bool) (mark : Option Mark) → IsLatestMark (UsedBy test r.insn a.deps.insns) mark
      → IsLatestMark (From (Now test)) mark
  now_marks test mark h =
      same (UsedBy test r.insn a.deps.insns) (From (Now test))
      (λ m. (uses_agree test t'.insns r.hart starts r.tag r a.deps.insns m lists
      (more_new t t' r a.retires.retires.keeps)).0)
      (λ m. (uses_agree test t'.insns r.hart starts r.tag r a.deps.insns m lists
      (more_new t t' r a.retires.retires.keeps)).1) mark h

  past_marks : (test : Insn → Register → Bool) (mark : Option Mark) → IsLatestMark (UsedIn test a.deps.insns) mark
      → IsLatestMark (From (Before test)) mark
  past_marks test mark h =
      same (UsedIn test a.deps.insns) (From (Before test))
      (λ m u. let p = (past_uses_agree test t.insns r.hart starts r.tag a.deps.insns m a.deps.listed).0 u in
      (p.2.0, (p.0, source_older test t.insns r.hart p.0 p.2.0 p.2.1, p.2.1), p.2.2))
      (λ m d. (past_uses_agree test t.insns r.hart starts r.tag a.deps.insns m a.deps.listed).1
      (d.1.0, there test d.1.0 d.0 d.1.2, (d.0, d.1.2, d.2))) mark h

  -- an operation of the hart that P means
  abbrev Meant : (ℕ → Type 0) → Op → Type 0
  Meant P v = IsOwnPerformed t r.hart v × P v.name.tag

  own : (b.name.hart ≡ r.hart) × (b.name.tag ≡ r.tag)
  own = a.retires.retires.are_of.own b a.retires.here

  -- the mark of the latest that P means tells the latest by a rule that asks for P
  told : (k : Rule) (P : ℕ → Type 0) → IsOther k → ((i : ℕ) → P i → i < r.tag)
      → ((i : ℕ) → P i → is_one is_store (insn_at t.insns r.hart i) ≡ false)
      → ((v : Op) → v.name.hart ≡ r.hart → P v.name.tag → IsFirstBy k t t' b v)
      → ((v : Op) → v.name.hart ≡ r.hart → IsFirstBy k t t' b v → P v.name.tag)
      → (mark : Option Mark) → IsLatestMark (From P) mark → NamesFirst k t' b (name_past place mark)
  told k P other older plain to from mark h =
      let f = latest_dep t t' r.hart r.tag a.positioned starts a.deps.latest P older a.retires.retires.ops_on
      (λ v o p. subst (λ (g : ℕ). is_one is_store (insn_at t.insns g v.name.tag) ≡ false) (sym o.0.1)
      (plain v.name.tag p)) mark h in (
        if_over (standing b) f.0,
        first_is_performed k t t' r b (if_over (standing b) f.0) a.kinded a.retires other
            (latest_same (Over (Meant P) (standing b))
            (Over (λ v. IsOwnPerformed t b.name.hart v × IsFirstBy k t t' b v) (standing b))
            (if_over (standing b) f.0)
            (λ v p. (
              (((p.0.0.0.0, p.0.0.0.1 ∙ sym own.0), p.0.0.1), to v p.0.0.0.1 p.0.1),
              p.1,
            ))
            (λ v p. let e : v.name.hart ≡ r.hart = p.0.0.0.1 ∙ own.0 in
            ((((p.0.0.0.0, e), p.0.0.1), from v e p.0.1), p.1))
            (mark_over (Meant P) f.0 (standing b) f.1)),
        ap (λ (m : Option Mark). name_past place m) f.2
            ∙ names_past t' b place f.0 a.positioned here a.placed (λ v e. there_too P v f.0 f.1 e),
      )
    where
      here : Contains (everything t') b
      here = Contains-append_left t'.ops t'.early b (a.retires.retires.added b a.retires.here)

      there_too : (Q : ℕ → Type 0) (v : Op) (first : Option Op) → IsLatestIfAny (Meant Q) first → first ≡ Some v
          → Contains (everything t') v × IsPlaced v
      there_too Q v None l e = absurd (cc)
      there_too Q v (Some u) l e =
          let c : u ≡ v = cc in
          subst (λ (z : Op). Contains (everything t') z × IsPlaced z) c
          (Contains-append_left t'.ops t'.early u (a.retires.retires.ops_on u l.here.0.0.0), l.here.0.1)

  -- rules 9 and 10: r itself depends on it
  now_older : (test : Insn → Register → Bool) (i : ℕ) → Now test i → i < r.tag
  now_older test i d = source_older test t'.insns r.hart r.tag i d

  now_plain : (test : Insn → Register → Bool) (i : ℕ) → Now test i
      → is_one is_store (insn_at t.insns r.hart i) ≡ false
  now_plain test i d =
      ap (is_one is_store) (sym (still i (now_older test i d))) ∙ source_no_store test t'.insns r.hart r.tag i d

  to_now : (test : Insn → Register → Bool) (v : Op) → v.name.hart ≡ r.hart → Now test v.name.tag
      → DependsBy test t'.insns v.name.hart b.name.tag v.name.tag
  to_now test v e d =
      subst (λ (h : ℕ). DependsBy test t'.insns h b.name.tag v.name.tag) (sym e)
      (subst (λ (n : ℕ). DependsBy test t'.insns r.hart n v.name.tag) (sym own.1) d)

  from_now : (test : Insn → Register → Bool) (v : Op) → v.name.hart ≡ r.hart
      → DependsBy test t'.insns v.name.hart b.name.tag v.name.tag → Now test v.name.tag
  from_now test v e d =
      subst (λ (n : ℕ). DependsBy test t'.insns r.hart n v.name.tag) own.1
      (subst (λ (h : ℕ). DependsBy test t'.insns h b.name.tag v.name.tag) e d)

  pub by_address : (insn : Insn) → r.insn ≡ insn → (mark : Option Mark)
      → ((ws : List Started) → StandsFor table ws → IsLatestMark (UsedBy is_address insn ws) mark)
      → NamesFirst R9 t' b (name_past place mark)
  by_address insn e mark h =
      told R9 (Now is_address) (λ d. elim d [ inl x ↦ cc | inr y ↦ elim y [ inl x ↦ cc | inr x ↦ cc ] ])
      (now_older is_address) (now_plain is_address) (to_now is_address) (from_now is_address) mark
      (now_marks is_address mark (subst (λ (i : Insn). IsLatestMark (UsedBy is_address i a.deps.insns) mark) (sym e)
      (h a.deps.insns a.deps.stands)))

  pub by_data : (insn : Insn) → r.insn ≡ insn → (mark : Option Mark)
      → ((ws : List Started) → StandsFor table ws → IsLatestMark (UsedBy is_data insn ws) mark)
      → NamesFirst R10 t' b (name_past place mark)
  by_data insn e mark h =
      told R10 (Now is_data) (λ d. elim d [ inl x ↦ cc | inr y ↦ elim y [ inl x ↦ cc | inr x ↦ cc ] ])
      (now_older is_data) (now_plain is_data) (to_now is_data) (from_now is_data) mark
      (now_marks is_data mark (subst (λ (i : Insn). IsLatestMark (UsedBy is_data i a.deps.insns) mark) (sym e)
      (h a.deps.insns a.deps.stands)))

  -- rules 11 and 13: an instruction between depends on it, and b stores
  before_older : (test : Insn → Register → Bool) (i : ℕ) → Before test i → i < r.tag
  before_older test i d = let l = there test d.0 i d.2 in let m = d.1 in omega arith

  before_plain : (test : Insn → Register → Bool) (i : ℕ) → Before test i
      → is_one is_store (insn_at t.insns r.hart i) ≡ false
  before_plain test i d = source_no_store test t.insns r.hart d.0 i d.2

  -- what rules 11 and 13 ask
  abbrev Passed : (Insn → Register → Bool) → Op → Type 0
  Passed test v = (op_stores b ≡ true)
      × ((k : ℕ) × (v.name.tag < k) × DependsBy test t.insns b.name.hart k v.name.tag)

  to_passed : (test : Insn → Register → Bool) → op_stores b ≡ true → (v : Op) → Before test v.name.tag
      → Passed test v
  to_passed test e v d =
      (e, (d.0, d.1, subst (λ (h : ℕ). DependsBy test t.insns h d.0 v.name.tag) (sym own.0) d.2))

  from_passed : (test : Insn → Register → Bool) (v : Op) → Passed test v → Before test v.name.tag
  from_passed test v p =
      (p.1.0, p.1.1, subst (λ (h : ℕ). DependsBy test t.insns h p.1.0 v.name.tag) own.0 p.1.2)

  passed : (k : Rule) (test : Insn → Register → Bool) → IsOther k → ((v : Op) → Passed test v → IsFirstBy k t t' b v)
      → ((v : Op) → IsFirstBy k t t' b v → Passed test v) → (kind : OpKind) → b.kind ≡ kind → (mark : Option Mark)
      → ((ws : List Started) → StandsFor table ws → IsLatestMark (UsedIn test ws) mark)
      → NamesFirst k t' b (where_it_stores kind (name_past place mark))
  passed k test other to from kind e mark h = at (kind_stores kind) refl
    where
      at : (c : Bool) → kind_stores kind ≡ c → NamesFirst k t' b (cond c (name_past place mark) None)
      at true f = told k (Before test) other (before_older test) (before_plain test)
          (λ v o p. to v (to_passed test (ap kind_stores e ∙ f) v p)) (λ v o p. from_passed test v (from v p)) mark
          (past_marks test mark (h a.deps.insns a.deps.stands))
      at false f = (
        None,
        first_is_performed k t t' r b None a.kinded a.retires other
            (λ v p. both_ways _ (ap kind_stores e ∙ f) (from v p.0.1).0),
        refl,
      )

  pub by_control : (kind : OpKind) → b.kind ≡ kind → (mark : Option Mark)
      → ((ws : List Started) → StandsFor table ws → IsLatestMark (UsedIn is_control ws) mark)
      → NamesFirst R11 t' b (where_it_stores kind (name_past place mark))
  by_control = passed R11 is_control (λ d. elim d [ inl x ↦ cc | inr y ↦ elim y [ inl x ↦ cc | inr x ↦ cc ] ])
      (λ v p. p) (λ v p. p)

  pub by_address_between : (kind : OpKind) → b.kind ≡ kind → (mark : Option Mark)
      → ((ws : List Started) → StandsFor table ws → IsLatestMark (UsedIn is_address ws) mark)
      → NamesFirst R13 t' b (where_it_stores kind (name_past place mark))
  by_address_between = passed R13 is_address
      (λ d. elim d [ inl x ↦ cc | inr y ↦ elim y [ inl x ↦ cc | inr x ↦ cc ] ]) (λ v p. p) (λ v p. p)
