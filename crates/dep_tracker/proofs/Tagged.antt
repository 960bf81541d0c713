-- What depends by numbers of a list depends by tags, and the other way round.
use Rattle.std.proofs.Common.{ℕ, suc, ◌<◌, ◌≡◌, ◌⊎◌, inl, inr, Bool, true, false, List, ◌∷◌, ◌&&◌, Option, Some, None}
use Rattle.std.proofs.Common.{refl, sym, ap, subst, ◌∙◌, arith, is_some}
use Rattle.std.proofs.lemmas.Bool.{both_ways, false≢true}
use Rattle.std.proofs.lemmas.Bool.{cases_order}
use Rattle.rv_decode.specs.declared.instruction.Insn.{Insn}
use Rattle.rv_decode.specs.declared.instruction.Insn.TheVariants.{Lui, Auipc, Jal, Jalr, Branch, Load, Store, AluImm}
use Rattle.rv_decode.specs.declared.instruction.Insn.TheVariants.{Alu, Fence, Ecall, Ebreak, Mret, Wfi, Csr, Lr, Sc}
use Rattle.rv_decode.specs.declared.instruction.Insn.TheVariants.{Amo}
use Rattle.rv_decode.specs.declared.registers.Register.{Register}
use Rattle.rv_decode.specs.Registers.{is_x, sets, carries}
use Rattle.rv_decode.specs.Kinds.{is_sc}
use Rattle.rvwmo_model.specs.declared.instructions.Retired.{Retired}
use Rattle.rvwmo_model.specs.ProgramOrder.{insn_at, is_one}
use Rattle.rvwmo_model.specs.Flows.{flow_of, flows}
use Rattle.rvwmo_model.specs.Dependencies.{Flow, Reach, skip, here, through}
use Rattle.rvwmo_model.proofs.Reaching.{reach_from_dep, dep_from_reach}
use Rattle.tandem_base.specs.declared.mark.Mark.{Mark}
use Rattle.dep_tracker.specs.Marks.{Started, DependsOn, UsedBy, UsedIn}
use Rattle.dep_tracker.specs.Tagged.{HasStart, Lists, first, gap, next, DependsFrom, UsesAgree, PastUsesAgree}
use Rattle.dep_tracker.specs.Tagged.{ListsStay}
use Rattle.dep_tracker.proofs.Depending.{After, after_one, one_more, none_at_first, below, Back, back_of}
use Rattle.dep_tracker.proofs.Depending.{used_in, used_now, used_before, used_none}

-- what was stored matters for an SC alone
sets_as : (i : Insn) (a b : Bool) (q : Register) → (is_sc i ≡ true → a ≡ b) → sets i a q ≡ sets i b q
sets_as (Lui rd imm) a b q e = refl
sets_as (Auipc rd imm) a b q e = refl
sets_as (Jal rd imm) a b q e = refl
sets_as (Jalr rd rs1 imm) a b q e = refl
sets_as (Branch op rs1 rs2 imm) a b q e = refl
sets_as (Load op rd rs1 imm) a b q e = refl
sets_as (Store op rs1 rs2 imm) a b q e = refl
sets_as (AluImm op rd rs1 imm) a b q e = refl
sets_as (Alu op rd rs1 rs2) a b q e = refl
sets_as (Fence fm before after rd rs1) a b q e = refl
sets_as Ecall a b q e = refl
sets_as Ebreak a b q e = refl
sets_as Mret a b q e = refl
sets_as Wfi a b q e = refl
sets_as (Csr op rd source number) a b q e = refl
sets_as (Lr wide aq rl rd rs1) a b q e = refl
sets_as (Sc wide aq rl rd rs1 rs2) a b q e = ap (λ (z : Bool). z && is_x rd q) (e refl)
sets_as (Amo op wide aq rl rd rs1 rs2) a b q e = refl

module _ (insns : List Retired) (h : ℕ) (starts : ℕ → Option Mark) where
  abbrev code : ℕ → Flow
  code = flows insns h

  abbrev started : ℕ → Retired → Started
  started k w = record { insn = w.insn; start = starts k }

  -- the register depends by tags
  abbrev pub ByTag : ℕ → Register → Mark → Type 0
  ByTag k r m = (i : ℕ) × (s : Register) × Reach code k r i s × (starts i ≡ Some m)

  idle : (k : ℕ) (q : Register) → insn_at insns h k ≡ None → (code k).sets q ≡ false
  idle k q e = ap (λ (o : Option Retired). (flow_of o).sets q) e

  sets_there : (k : ℕ) (w : Retired) (q : Register) → insn_at insns h k ≡ Some w → HasStart w (starts k)
      → (code k).sets q ≡ sets w.insn (is_some (starts k)) q
  sets_there k w q e s =
      ap (λ (o : Option Retired). (flow_of o).sets q) e ∙ sets_as w.insn w.stored (is_some (starts k)) q s

  carries_there : (k : ℕ) (w : Retired) (p q : Register) → insn_at insns h k ≡ Some w
      → (code k).carries p q ≡ carries w.insn p q
  carries_there k w p q e = ap (λ (o : Option Retired). (flow_of o).carries p q) e

  pub to_tag : (k : ℕ) (ws : List Started) (r : Register) (m : Mark) → Lists insns h starts k ws → DependsOn ws r m
      → ByTag k r m
  to_tag _ _ r m first d = absurd (none_at_first r m d)
  to_tag _ _ r m (gap k ws e l) d =
      let t = to_tag k ws r m l d in (t.0, t.1, skip k r t.0 t.1 (idle k r e) t.2, t.3)
  to_tag _ _ r m (next k w ws e s l) d =
      at (after_one (started k w) ws r m d) (λ q. to_tag k ws q m l)
    where
      at : After (started k w) ws r m
          → ((q : Register) → DependsOn ws q m → ByTag k q m) → ByTag (suc k) r m
      at (inl a) go = let t = go r a.1 in (t.0, t.1, skip k r t.0 t.1 (sets_there k w r e s ∙ a.0) t.2, t.3)
      at (inr a) go = elim a.1 [
        | inl b ↦ (k, r, here k r (sets_there k w r e s ∙ a.0), b)
        | inr b ↦
            let t = go b.0 b.2 in
            (t.0, t.1, through k r b.0 t.0 t.1 (sets_there k w r e s ∙ a.0) (carries_there k w b.0 r e ∙ b.1) t.2, t.3)
      ]

  pub from_tag : (k : ℕ) (ws : List Started) (r : Register) (m : Mark) (i : ℕ) (s : Register)
      → Lists insns h starts k ws → Reach code k r i s → starts i ≡ Some m → DependsOn ws r m
  from_tag _ _ r m i s first d e = absurd (let l = below code 0 r i s d in omega arith)
  from_tag _ _ r m i s (gap k ws e l) d f = at (back_of code k r i s d) (λ h. from_tag k ws r m i s l h f)
    where
      at : Back code k r i s → (Reach code k r i s → DependsOn ws r m) → DependsOn ws r m
      at (inl b) go = go b.1
      at (inr (inl b)) go = absurd (both_ways _ (idle k r e) b.0)
      at (inr (inr b)) go = absurd (both_ways _ (idle k r e) b.1)
  from_tag _ _ r m i s (next k w ws e g l) d f =
      at (back_of code k r i s d) (λ q h. from_tag k ws q m i s l h f)
    where
      at : Back code k r i s → ((q : Register) → Reach code k q i s → DependsOn ws q m)
          → DependsOn (started k w ∷ ws) r m
      at (inl b) go = one_more (started k w) ws r m (inl (sym (sets_there k w r e g) ∙ b.0, go r b.1))
      at (inr (inl b)) go = one_more (started k w) ws r m
          (inr (sym (sets_there k w r e g) ∙ b.0, inl (subst (λ (n : ℕ). starts n ≡ Some m) b.1 f)))
      at (inr (inr b)) go = one_more (started k w) ws r m
          (inr (
            sym (sets_there k w r e g) ∙ b.1,
            inr (b.0, sym (carries_there k w b.0 r e) ∙ b.2, go b.0 b.3),
          ))

  pub use_to : (test : Insn → Register → Bool) (k : ℕ) (w : Retired) (ws : List Started) (m : Mark)
      → Lists insns h starts k ws → insn_at insns h k ≡ Some w → UsedBy test w.insn ws m
      → DependsFrom test insns h starts k m
  use_to test k w ws m l e u =
      let t = to_tag k ws u.0 m l u.2 in
      (t.0, (u.0, ap (is_one (λ v. test v u.0)) e ∙ u.1, (t.1, dep_from_reach code k u.0 t.0 t.1 t.2)), t.3)

  pub use_from : (test : Insn → Register → Bool) (k : ℕ) (w : Retired) (ws : List Started) (m : Mark)
      → Lists insns h starts k ws → insn_at insns h k ≡ Some w → DependsFrom test insns h starts k m
      → UsedBy test w.insn ws m
  use_from test k w ws m l e d =
      let by = d.1 in (
        by.0,
        sym (ap (is_one (λ v. test v by.0)) e) ∙ by.1,
        from_tag k ws by.0 m d.0 by.2.0 l (reach_from_dep code k by.0 d.0 by.2.0 by.2.1) d.2,
      )

  abbrev Past : (Insn → Register → Bool) → ℕ → Mark → Type 0
  Past test k m = (n : ℕ) × (n < k) × DependsFrom test insns h starts n m

  older : (test : Insn → Register → Bool) (k : ℕ) (m : Mark) → Past test k m → Past test (suc k) m
  older test k m p = (p.0, (let l = p.1 in omega arith), p.2)

  pub past_to : (test : Insn → Register → Bool) (k : ℕ) (ws : List Started) (m : Mark) → Lists insns h starts k ws
      → UsedIn test ws m → Past test k m
  past_to test _ _ m first u = absurd (used_none test m u)
  past_to test _ _ m (gap k ws e l) u = older test k m (past_to test k ws m l u)
  past_to test _ _ m (next k w ws e s l) u =
      at (used_in test (started k w) ws m u) (λ v. past_to test k ws m l v)
    where
      at : UsedBy test w.insn ws m ⊎ UsedIn test ws m → (UsedIn test ws m → Past test k m) → Past test (suc k) m
      at (inl a) go = (k, omega arith, use_to test k w ws m l e a)
      at (inr a) go = older test k m (go a)

  none_there : (test : Insn → Register → Bool) (k : ℕ) (m : Mark) → insn_at insns h k ≡ None
      → DependsFrom test insns h starts k m → ⊥
  none_there test k m e d = false≢true (sym (ap (is_one (λ v. test v d.1.0)) e) ∙ d.1.1)

  pub past_from : (test : Insn → Register → Bool) (k : ℕ) (ws : List Started) (m : Mark) → Lists insns h starts k ws
      → Past test k m → UsedIn test ws m
  past_from test _ _ m first p = absurd (let l = p.1 in omega arith)
  past_from test _ _ m (gap k ws e l) p = at (cases_order p.0 k) (λ q. past_from test k ws m l q)
    where
      at : (p.0 ≡ k) ⊎ ((p.0 < k) ⊎ (k < p.0)) → (Past test k m → UsedIn test ws m) → UsedIn test ws m
      at (inl q) go = absurd (none_there test k m e (subst (λ (n : ℕ). DependsFrom test insns h starts n m) q p.2))
      at (inr (inl q)) go = go (p.0, q, p.2)
      at (inr (inr q)) go = absurd (let l = p.1 in omega arith)
  past_from test _ _ m (next k w ws e s l) p = at (cases_order p.0 k) (λ q. past_from test k ws m l q)
    where
      at : (p.0 ≡ k) ⊎ ((p.0 < k) ⊎ (k < p.0)) → (Past test k m → UsedIn test ws m) → UsedIn test (started k w ∷ ws) m
      at (inl q) go = used_now test (started k w) ws m
          (use_from test k w ws m l e (subst (λ (n : ℕ). DependsFrom test insns h starts n m) q p.2))
      at (inr (inl q)) go = used_before test (started k w) ws m (go (p.0, q, p.2))
      at (inr (inr q)) go = absurd (let l = p.1 in omega arith)

pub uses_agree : UsesAgree
uses_agree test insns h starts k w ws m l e =
    (use_to insns h starts test k w ws m l e, use_from insns h starts test k w ws m l e)

pub past_uses_agree : PastUsesAgree
past_uses_agree test insns h starts k ws m l =
    (past_to insns h starts test k ws m l, past_from insns h starts test k ws m l)

pub lists_stay : ListsStay
lists_stay insns after h starts later_starts _ _ same_insn same_start first = first
lists_stay insns after h starts later_starts _ _ same_insn same_start (gap k ws e l) =
    gap k ws (same_insn k (omega arith) ∙ e)
    (lists_stay insns after h starts later_starts k ws (λ n b. same_insn n (omega arith))
    (λ n b. same_start n (omega arith)) l)
lists_stay insns after h starts later_starts _ _ same_insn same_start (next k w ws e s l) =
    subst (λ (o : Option Mark). Lists after h later_starts (suc k) (record { insn = w.insn; start = o } ∷ ws))
    (same_start k (omega arith))
    (next k w ws (same_insn k (omega arith) ∙ e) (subst (HasStart w) (sym (same_start k (omega arith))) s)
    (lists_stay insns after h starts later_starts k ws (λ n b. same_insn n (omega arith))
    (λ n b. same_start n (omega arith)) l))
