-- Dependencies and pairs read no instruction past the last that they speak of.
use Rattle.std.proofs.Common.{ℕ, ◌<◌, ◌≡◌, ◌⊎◌, inl, inr, Bool, ◌||◌, refl, sym, ap, subst, ◌∙◌, arith}
use Rattle.rv_decode.specs.declared.instruction.Insn.{Insn}
use Rattle.rv_decode.specs.declared.registers.Register.{Register}
use Rattle.rvwmo_model.specs.declared.operations.Op.{Op}
use Rattle.rvwmo_model.specs.declared.traces.Trace.{Trace}
use Rattle.rvwmo_model.specs.ProgramOrder.{insn_at, is_one}
use Rattle.rvwmo_model.specs.Dependencies.{Flow, Dep, direct, along}
use Rattle.rvwmo_model.specs.Flows.{flow_of, flows, DependsBy, AddressDep, DataDep, BranchDep}
use Rattle.rvwmo_model.specs.Rules.{Paired}
use Rattle.rv_decode.specs.Registers.{is_control}
use Rattle.rv_decode.specs.Kinds.{is_lr, is_sc}

-- a dependency reads no later instruction
dep_local : (c d : ℕ → Flow) (j : ℕ) (r : Register) (i : ℕ) (s : Register) → ((k : ℕ) → k < j → d k ≡ c k)
    → Dep c j r i s → Dep d j r i s
dep_local c d _ _ _ _ same (direct j i s lt w none) = direct j i s lt (ap (λ (f : Flow). f.sets s) (same i lt) ∙ w)
    (λ k a b. ap (λ (f : Flow). f.sets s) (same k b) ∙ none k a b)
dep_local c d _ _ _ _ same (along j r k p q i s lt e w f) =
    along j r k p q i s lt (dep_local c d k p i s (λ n l. same n (omega arith)) e)
    (ap (λ (g : Flow). g.carries p q) (same k lt) ∙ w) (dep_local c d j r k q same f)

module _ (t t' : Trace) (h n : ℕ)
    (same : (k : ℕ) → (k < n) ⊎ (k ≡ n) → insn_at t'.insns h k ≡ insn_at t.insns h k) where
  depends_on : (test : Insn → Register → Bool) (j i : ℕ) → (j < n) ⊎ (j ≡ n) → DependsBy test t.insns h j i
      → DependsBy test t'.insns h j i
  depends_on test j i le d = (
    d.0,
    ap (is_one (λ w. test w d.0)) (same j le) ∙ d.1,
    (
      d.2.0,
      dep_local (flows t.insns h) (flows t'.insns h) j d.0 i d.2.0
          (λ k l. ap flow_of (same k (elim le [ inl a ↦ inl (omega arith) | inr a ↦ inl (omega arith) ]))) d.2.1,
    ),
  )

  pub address_on : (j i : ℕ) → (j < n) ⊎ (j ≡ n) → AddressDep t.insns h j i → AddressDep t'.insns h j i
  address_on j i le d = depends_on _ j i le d

  pub data_on : (j i : ℕ) → (j < n) ⊎ (j ≡ n) → DataDep t.insns h j i → DataDep t'.insns h j i
  data_on j i le d = depends_on _ j i le d

  pub branch_on : (j i : ℕ) → (j < n) ⊎ (j ≡ n) → BranchDep t.insns h j i → BranchDep t'.insns h j i
  branch_on j i le d = depends_on is_control j i le d

pub paired_on : (t t' : Trace) (a b : Op) → b.name.hart ≡ a.name.hart → a.name.tag < b.name.tag
    → ((k : ℕ) → (k < b.name.tag) ⊎ (k ≡ b.name.tag) → insn_at t'.insns a.name.hart k ≡ insn_at t.insns a.name.hart k)
    → Paired t a b → Paired t' a b
paired_on t t' a b one lt same p = (
  ap (is_one is_lr) (same a.name.tag (inl lt)) ∙ p.0,
  ap (is_one is_sc) (subst (λ (h : ℕ). insn_at t'.insns h b.name.tag ≡ insn_at t.insns h b.name.tag) (sym one)
      (same b.name.tag (inr refl))) ∙ p.1,
  λ s. p.2 (s.0, s.1, s.2, ap (is_one (λ w. is_lr w || is_sc w)) (sym (same s.0 (inl s.2))) ∙ s.3),
)
