-- Instructions, looked up by hart and tag.
use Rattle.std.proofs.Common.{ℕ, ◌<◌, ◌≡◌, ◌⊎◌, inl, inr, Bool, true, false, List, [], ◌∷◌}
use Rattle.std.proofs.Common.{eqb, cond, ◌&&◌, Option, Some, None, refl, sym, ap, ◌∙◌, arith}
use Rattle.std.specs.List.{Contains}
use Rattle.std.proofs.lemmas.Bool.{cases_Bool, eqb-true, eq-eqb, ne_eqb}
use Rattle.std.proofs.lemmas.Bool.{and_parts}
use Rattle.rvwmo_model.specs.declared.instructions.Retired.{Retired}
use Rattle.rvwmo_model.specs.InForm.{AreRising}
use Rattle.rvwmo_model.specs.ProgramOrder.{insn_at}
use Rattle.rvwmo_model.proofs.Membership.{nothing_in, tail_in, first_in, in_cases}
use Rattle.rvwmo_model.proofs.Membership.{pairs_head, pairs_tail}

-- what is found under a tag is in the list, and has that hart and tag
pub found_in : (insns : List Retired) (h k : ℕ) (w : Retired) → insn_at insns h k ≡ Some w → Contains insns w
    × (w.hart ≡ h) × (w.tag ≡ k)
found_in [] h k w e = absurd (cc)
found_in (r ∷ rs) h k w e = at ((eqb r.hart h) && (eqb r.tag k)) refl e (found_in rs h k w)
  where
    at : (b : Bool) → (eqb r.hart h && eqb r.tag k) ≡ b → cond b (Some r) (insn_at rs h k) ≡ Some w
        → (insn_at rs h k ≡ Some w → Contains rs w × (w.hart ≡ h) × (w.tag ≡ k)) → Contains (r ∷ rs) w × (w.hart ≡ h)
        × (w.tag ≡ k)
    at false q f rec = let t = rec f in (tail_in r rs w t.0, t.1, t.2)
    at true q f rec =
        let same : r ≡ w = cc in
        let p = and_parts (eqb r.hart h) (eqb r.tag k) q in (
          first_in r rs w (sym same),
          sym (ap (λ (z : Retired). z.hart) same) ∙ eqb-true r.hart h p.0,
          sym (ap (λ (z : Retired). z.tag) same) ∙ eqb-true r.tag k p.1,
        )

-- an instruction that stands there
pub look_here : (w : Retired) (ws : List Retired) (h k : ℕ) → w.hart ≡ h → w.tag ≡ k → insn_at (w ∷ ws) h k ≡ Some w
look_here w ws h k a b = rw (eq-eqb w.hart h a, eq-eqb w.tag k b) refl

-- one of another hart
pub look_hart : (w : Retired) (ws : List Retired) (h k : ℕ) → eqb w.hart h ≡ false
    → insn_at (w ∷ ws) h k ≡ insn_at ws h k
look_hart w ws h k e = rw e refl

-- one under another tag
pub look_tag : (w : Retired) (ws : List Retired) (h k : ℕ) → (w.tag ≡ k → ⊥) → insn_at (w ∷ ws) h k ≡ insn_at ws h k
look_tag w ws h k ne = at (eqb w.hart h) refl
  where
    at : (b : Bool) → eqb w.hart h ≡ b → cond (eqb w.hart h && eqb w.tag k) (Some w) (insn_at ws h k) ≡ insn_at ws h k
    at true e = rw (e, ne_eqb w.tag k ne) refl
    at false e = rw e refl

-- no instruction of a hart stands under a tag, where all have other tags
pub look_none : (ws : List Retired) (h k : ℕ) → ((v : Retired) → Contains ws v → v.hart ≡ h → v.tag ≡ k → ⊥)
    → insn_at ws h k ≡ None
look_none ws h k none = at (insn_at ws h k) refl
  where
    at : (o : Option Retired) → insn_at ws h k ≡ o → insn_at ws h k ≡ None
    at None e = e
    at (Some w) e = let f = found_in ws h k w e in absurd (none w f.0 f.1 f.2)

-- the first of rising instructions is below those of its hart that follow
pub rising_head : (w : Retired) (ws : List Retired) → AreRising (w ∷ ws) → (v : Retired) → Contains ws v
    → v.hart ≡ w.hart → w.tag < v.tag
rising_head w ws r v i = pairs_head (λ (w v : Retired). v.hart ≡ w.hart → w.tag < v.tag) w ws r v i

pub rising_tail : (w : Retired) (ws : List Retired) → AreRising (w ∷ ws) → AreRising ws
rising_tail w ws r = pairs_tail (λ (w v : Retired). v.hart ≡ w.hart → w.tag < v.tag) w ws r

-- each instruction is found under its own tag
pub named_self : (insns : List Retired) (w : Retired) → AreRising insns → Contains insns w
    → insn_at insns w.hart w.tag ≡ Some w
named_self [] w r h = absurd (nothing_in w h)
named_self (v ∷ vs) w r h = at (in_cases v vs w h) (λ i. named_self vs w (rising_tail v vs r) i)
  where
    at : (w ≡ v) ⊎ Contains vs w → (Contains vs w → insn_at vs w.hart w.tag ≡ Some w)
        → insn_at (v ∷ vs) w.hart w.tag ≡ Some w
    at (inl e) rec = look_here v vs w.hart w.tag (ap (λ (z : Retired). z.hart) (sym e))
        (ap (λ (z : Retired). z.tag) (sym e)) ∙ ap (λ (z : Retired). Some z) (sym e)
    at (inr i) rec = elim (cases_Bool (eqb v.hart w.hart)) [
      | inl e ↦
          let l : v.tag < w.tag = rising_head v vs r w i (sym (eqb-true _ _ e)) in
          look_tag v vs w.hart w.tag (λ q. omega arith) ∙ rec i
      | inr e ↦ look_hart v vs w.hart w.tag e ∙ rec i
    ]
