-- What each step does to the operations.
use Rattle.std.proofs.Common.{ℕ, ◌<◌, ◌≡◌, ◌⊎◌, inl, inr, Bool, true, false, List, eqb, ◌&&◌, cond, Option, Some}
use Rattle.std.proofs.Common.{refl, sym, ap, subst, ◌∙◌, arith}
use Rattle.std.proofs.lemmas.Bool.{eqb-true}
use Rattle.std.proofs.lemmas.Bool.Decides.{nat_tests}
use Rattle.std.specs.List.{Contains}
use Rattle.rvwmo_model.specs.declared.instructions.Retired.{Retired}
use Rattle.rvwmo_model.specs.declared.operations.Op.{Op}
use Rattle.rvwmo_model.specs.declared.traces.Trace.{Trace}
use Rattle.rvwmo_model.specs.Order.{has_byte}
use Rattle.rvwmo_model.specs.ProgramOrder.{insn_at}
use Rattle.growth_laws.specs.Kinds.{WellKinded}
use Rattle.growth_laws.specs.Growth.{Same, AddEarly, AddInsn, IsPartOf, PerformsPart}
use Rattle.growth_laws.specs.Writers.{Becomes}
use Rattle.growth_laws.proofs.Places.{not_both}
use Rattle.growth_laws.proofs.Facts.{op_insn}
use Rattle.growth_laws.proofs.Links.{IsLike, OpsGo}
use Rattle.growth_laws.proofs.Steps.{itself, part_lift}

like_self : (o : Op) → IsLike o o
like_self o = record { kind = refl; acquire = refl; release = refl }

like_part : (n o : Op) → IsPartOf n o → IsLike n o
like_part n o p = record { kind = p.kind; acquire = p.acquire; release = p.release }

pub same_ops : (t t' : Trace) → Same t t' → OpsGo t t'
same_ops t t' s = record {
  stays = λ v h p. s.ops.on v h;
  lift = λ v x h q. (v, s.ops.on v h, q, itself t v, like_self v);
  insns = λ v n h le. s.keeps.insns v.name.hart n;
  granule = s.keeps.granule;
}

pub early_ops : (t t' : Trace) (e : Op) → AddEarly t t' e → OpsGo t t'
early_ops t t' e s = record {
  stays = λ v h p. s.ops.on v h;
  lift = λ v x h q. (v, s.ops.on v h, q, itself t v, like_self v);
  insns = λ v n h le. s.keeps.insns v.name.hart n;
  granule = s.keeps.granule;
}

-- an old operation of the hart is older than the new instruction
pub op_older : (t t' : Trace) (r : Retired) (new : List Op) (v : Op) → WellKinded t → AddInsn t t' r new
    → Contains t.ops v → v.name.hart ≡ r.hart → v.name.tag < r.tag
op_older t t' r new v k s h e =
    let w = op_insn t v k h in
    let l : w.0.tag < r.tag = s.younger w.0 w.1 (w.2 ∙ e) in
    omega (arith, w.3)

pub insn_still : (t t' : Trace) (r : Retired) (new : List Op) (v : Op) (n : ℕ) → WellKinded t → AddInsn t t' r new
    → Contains t.ops v → (n < v.name.tag) ⊎ (n ≡ v.name.tag) → insn_at t'.insns v.name.hart n ≡ insn_at t.insns
    v.name.hart n
insn_still t t' r new v n k s h le = s.keeps.insns v.name.hart n ∙ other (eqb r.hart v.name.hart) refl
  where
    other : (b : Bool) → eqb r.hart v.name.hart ≡ b → cond (eqb r.hart v.name.hart && eqb r.tag n) (Some r)
        (insn_at t.insns v.name.hart n) ≡ insn_at t.insns v.name.hart n
    other false e = rw e refl
    other true e =
        let y : v.name.tag < r.tag = op_older t t' r new v k s h (sym (eqb-true _ _ e)) in
        let d : eqb r.tag n ≡ false = elim le [ inl a ↦ grind (arith, nat_tests) | inr a ↦ grind (arith, nat_tests) ] in
        rw (e, d) refl

pub insn_ops : (t t' : Trace) (r : Retired) (new : List Op) → WellKinded t → AddInsn t t' r new → OpsGo t t'
insn_ops t t' r new k s = record {
  stays = λ v h p. s.ops_on v h;
  lift = λ v x h q. (v, s.ops_on v h, q, itself t v, like_self v);
  insns = λ v n h le. insn_still t t' r new v n k s h le;
  granule = s.keeps.granule;
}

pub part_ops : (t t' : Trace) (o n : Op) (rest : Option Op) → PerformsPart t t' o n rest → OpsGo t t'
part_ops t t' o n rest s = record {
  stays = λ v h p.
      elim (s.ops_on v h) [
        | inl same ↦ absurd (not_both v p (ap (λ (z : Op). z.place) same ∙ s.unperformed))
        | inr j ↦ j
      ];
  lift = λ v x h q. elim (s.ops_on v h) [
    | inl same ↦
        let l = part_lift t t' o n rest s x (subst (λ (z : Op). has_byte x z ≡ true) same q) in (
          l.0,
          l.1,
          l.2,
          subst (λ (z : Op). Becomes t z l.0) (sym same) l.3,
          subst (λ (z : Op). IsLike l.0 z)
              (sym same) (like_part l.0 o l.4),
        )
    | inr j ↦ (v, j, q, itself t v, like_self v)
  ];
  insns = λ v m h le. s.keeps.insns v.name.hart m;
  granule = s.keeps.granule;
}
