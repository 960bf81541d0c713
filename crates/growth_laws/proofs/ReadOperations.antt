-- What a load reads from an instruction that retired it reads from one of the operations.
use Rattle.std.proofs.Common.{ℕ, ◌<◌, ◌≡◌, ◌⊎◌, inl, inr, Bool, true, Option, Some, None, refl, sym, ap, ◌∙◌, arith}
use Rattle.std.specs.List.{Contains}
use Rattle.tandem_base.specs.declared.names.Origin.{Origin}
use Rattle.rv_decode.specs.declared.instruction.Insn.{Insn}
use Rattle.rvwmo_model.specs.declared.instructions.Retired.{Retired}
use Rattle.rvwmo_model.specs.declared.operations.Op.{Op}
use Rattle.rvwmo_model.specs.declared.traces.Trace.{Trace}
use Rattle.rvwmo_model.specs.ProgramOrder.{insn_at, is_one}
use Rattle.rvwmo_model.specs.Sources.{source, origin_of, origin}
use Rattle.rvwmo_model.specs.Rules.{ReadsFrom, AddressOn, DataOn}
use Rattle.rvwmo_model.proofs.Latest.{source_is}
use Rattle.rvwmo_model.proofs.LookUp.{found_in}
use Rattle.growth_laws.specs.Kinds.{WellKinded}
use Rattle.rvwmo_model.proofs.Tested.{one_some}

-- the source is an operation of the instruction of hart h under the tag k
abbrev FromOps : Trace → Op → ℕ → ℕ → ℕ → Type 0
FromOps t b x h k = (s : Op) × (source t b x ≡ Some s) × Contains t.ops s × (s.name.hart ≡ h) × (s.name.tag ≡ k)

-- an early store is of no instruction that retired
from_ops : (t : Trace) (b : Op) (x h k : ℕ) (w : Retired) → WellKinded t → insn_at t.insns h k ≡ Some w
    → origin t b x ≡ Some (record { hart = h; tag = k }) → FromOps t b x h k
from_ops t b x h k w wk found e = at (source t b x) refl e
  where
    at : (o : Option Op) → source t b x ≡ o → origin_of o ≡ Some (record { hart = h; tag = k }) → FromOps t b x h k
    at None f g = absurd (cc)
    at (Some s) f g =
        let same : record { hart = s.name.hart; tag = s.name.tag } ≡ record { hart = h; tag = k } = cc in
        let hart : s.name.hart ≡ h = ap (λ (z : Origin). z.hart) same in
        let tag : s.name.tag ≡ k = ap (λ (z : Origin). z.tag) same in
        let w' = found_in t.insns h k w found in (
          s,
          f,
          elim (source_is t b x s f).0 [
            | inl i ↦ i.0
            | inr i ↦ absurd (let l : w.tag < s.name.tag = wk.early_younger s w i.0 w'.0 (w'.1 ∙ sym hart) in
                omega (arith, tag, w'.2))
          ],
          hart,
          tag,
        )

origin_from : (t : Trace) (b : Op) (h k : ℕ) (g : ReadsFrom t b h k)
    → origin t b g.0 ≡ Some (record { hart = h; tag = k })
origin_from t b h k g =
    let p = g.5 in
    let q = g.6 in
    ap origin_of g.3 ∙ ap (λ (z : Origin). Some z) (λ i. record { hart = p i; tag = q i })

-- what is read from an instruction that retired is so where the source is the same
pub reads_still : (t t' : Trace) (b : Op) (h k : ℕ) (test : Insn → Bool) → WellKinded t'
    → is_one test (insn_at t'.insns h k) ≡ true → (g : ReadsFrom t b h k) → origin t' b g.0 ≡ origin t b g.0
    → ReadsFrom t' b h k
reads_still t t' b h k test wk one g e =
    let w = one_some test (insn_at t'.insns h k) one in
    let s = from_ops t' b g.0 h k w.0 wk w.1 (e ∙ origin_from t b h k g) in
    (g.0, s.0, g.2, s.1, s.2, s.3, s.4)

pub reads_dependent_still : (t t' : Trace) (a b : Op) (m : ℕ) → WellKinded t' → AddressOn t' a m ⊎ DataOn t' a m
    → (g : ReadsFrom t b a.name.hart m) → origin t' b g.0 ≡ origin t b g.0 → ReadsFrom t' b a.name.hart m
reads_dependent_still t t' a b m wk (inl d) g e = reads_still t t' b a.name.hart m _ wk d.1 g e
reads_dependent_still t t' a b m wk (inr d) g e = reads_still t t' b a.name.hart m _ wk d.1 g e
