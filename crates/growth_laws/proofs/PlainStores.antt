-- What a plain store can be first in.
use Rattle.std.proofs.Common.{ℕ, ◌≡◌, ◌⊎◌, inl, inr, Bool, true, false, ◌||◌, Option, refl, ap, ◌∙◌}
use Rattle.std.proofs.lemmas.Bool.{false≢true, both_ways, and_parts}
use Rattle.std.specs.List.{Contains}
use Rattle.rv_decode.specs.declared.instruction.Insn.{Insn}
use Rattle.rv_decode.specs.declared.instruction.Insn.TheVariants.{Store}
use Rattle.rv_decode.specs.declared.registers.Register.{Register}
use Rattle.rvwmo_model.specs.declared.instructions.Retired.{Retired}
use Rattle.rvwmo_model.specs.declared.operations.Op.{Op}
use Rattle.rvwmo_model.specs.declared.operations.Ann.TheVariants as ann
use Rattle.rvwmo_model.specs.declared.preserved.Rule.{Rule}
use Rattle.rvwmo_model.specs.declared.preserved.Rule.TheVariants.{R1, R2, R3, R4, R5, R6, R7, R8, R9, R10, R11, R12}
use Rattle.rvwmo_model.specs.declared.preserved.Rule.TheVariants.{R13}
use Rattle.rvwmo_model.specs.declared.traces.Trace.{Trace}
use Rattle.rvwmo_model.specs.Order.{reads, has_byte, op_loads, kind_loads}
use Rattle.rvwmo_model.specs.ProgramOrder.{insn_of, is_one}
use Rattle.rvwmo_model.specs.Dependencies.{Flow, Dep, direct, along}
use Rattle.rvwmo_model.specs.Flows.{flow_of, Depends}
use Rattle.rvwmo_model.specs.Rules.{Orders}
use Rattle.rv_decode.specs.Kinds.{is_store, is_amo_or_sc, is_lr, is_sc}
use Rattle.growth_laws.specs.Kinds.{IsPlainStore, WellKinded}
use Rattle.growth_laws.proofs.Facts.{plain_kind}
use Rattle.rvwmo_model.proofs.Tested.{one_some}
use Rattle.rv_decode.specs.Registers.{sets}
use Rattle.rvwmo_model.specs.Annotations.{is_annotated, is_rcsc}

-- it starts at a destination
dep_start : (c : ℕ → Flow) (j : ℕ) (r : Register) (i : ℕ) (s : Register) → Dep c j r i s → (c i).sets s ≡ true
dep_start c _ _ _ _ (direct j i s lt w none) = w
dep_start c _ _ _ _ (along j r k p q i s lt e w f) = dep_start c k p i s e

store_sets : (i : Insn) (stored : Bool) (q : Register) → is_store i ≡ true → sets i stored q ≡ false
store_sets (Store op rs1 rs2 imm) stored q e = refl
store_sets _ stored q e = absurd (false≢true e)

store_amo_or_sc : (i : Insn) → is_store i ≡ true → is_amo_or_sc i ≡ false
store_amo_or_sc (Store op rs1 rs2 imm) e = refl
store_amo_or_sc _ e = absurd (false≢true e)

pub store_lr : (i : Insn) → is_store i ≡ true → is_lr i ≡ false
store_lr (Store op rs1 rs2 imm) e = refl
store_lr _ e = absurd (false≢true e)

pub store_sc : (i : Insn) → is_store i ≡ true → is_sc i ≡ false
store_sc (Store op rs1 rs2 imm) e = refl
store_sc _ e = absurd (false≢true e)

-- a plain store passes no test that no plain store passes
pub plain_not : (test : Insn → Bool) (t : Trace) (a : Op) → ((i : Insn) → is_store i ≡ true → test i ≡ false)
    → IsPlainStore t a → is_one test (insn_of t a) ≡ true → ⊥
plain_not test t a never p e =
    let w = one_some is_store (insn_of t a) p in
    both_ways _ (ap (is_one test) w.1 ∙ never w.0.insn w.2) e

-- a plain store starts no dependency
no_start : (t : Trace) (a : Op) (j : ℕ) (r : Register) → IsPlainStore t a → Depends t.insns a.name.hart j r a.name.tag
    → ⊥
no_start t a j r p d =
    let w = one_some is_store (insn_of t a) p in
    let q : (flow_of (insn_of t a)).sets d.0 ≡ true = dep_start _ _ _ _ _ d.1 in
    both_ways _ (ap (λ (o : Option Retired). (flow_of o).sets d.0) w.1 ∙ store_sets w.0.insn w.0.stored d.0 w.2) q

-- where a is of a plain store, the rule is 1, 4 or 6
pub plain_first : (t : Trace) (k : Rule) (a b : Op) → WellKinded t → Contains t.ops a → IsPlainStore t a
    → Orders k t a b → (k ≡ R1) ⊎ (k ≡ R4) ⊎ (k ≡ R6)
plain_first t k a b w ha p = at k
  where
    not_loads : (x : ℕ) → reads x a ≡ true → ⊥
    not_loads x h = both_ways _ (ap kind_loads (plain_kind t a w ha p)) (and_parts (op_loads a) (has_byte x a) h).0

    at : (k : Rule) → Orders k t a b → (k ≡ R1) ⊎ (k ≡ R4) ⊎ (k ≡ R6)
    at R1 h = inl refl
    at R2 h = absurd (not_loads h.0 h.1)
    at R3 h = absurd (plain_not is_amo_or_sc t a store_amo_or_sc p h.0)
    at R4 h = inr (inl refl)
    at R5 h = absurd (both_ways _ (ap is_annotated (w.plain a ha p).0) h)
    at R6 h = inr (inr refl)
    at R7 h = absurd (
        let q : (is_rcsc a.acquire || is_rcsc a.release) ≡ true =
        (and_parts (is_rcsc a.acquire || is_rcsc a.release) (is_rcsc b.acquire || is_rcsc b.release) h).0 in
        let z : (is_rcsc ann.None || false) ≡ true = rw ((w.plain a ha p).0, (w.plain a ha p).1) at q in
        false≢true z)
    at R8 h = absurd (plain_not is_lr t a store_lr p h.0)
    at R9 h = absurd (no_start t a b.name.tag h.0 p h.2)
    at R10 h = absurd (no_start t a b.name.tag h.0 p h.2)
    at R11 h = absurd (no_start t a h.1.0 h.1.3.0 p h.1.3.2)
    at R12 h = absurd (elim h.3.0 [ inl d ↦ no_start t a h.0 d.0 p d.2 | inr d ↦ no_start t a h.0 d.0 p d.2 ])
    at R13 h = absurd (no_start t a h.1.0 h.1.3.0 p h.1.3.2)
