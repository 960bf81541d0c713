-- The instructions of a trace that grows.
use Rattle.std.proofs.Common.{ℕ, ◌<◌, ◌≡◌, ◌⊎◌, inl, inr, Bool, true, false, eqb, ◌&&◌, cond, Some, None, refl, sym}
use Rattle.std.proofs.Common.{◌∙◌, arith}
use Rattle.std.proofs.lemmas.Bool.{eqb-true, eq-eqb}
use Rattle.std.proofs.lemmas.Bool.Decides.{nat_tests}
use Rattle.std.specs.List.{Contains}
use Rattle.rvwmo_model.specs.declared.instructions.Retired.{Retired}
use Rattle.rvwmo_model.specs.declared.operations.Op.{Op}
use Rattle.rvwmo_model.specs.declared.traces.Trace.{Trace}
use Rattle.rvwmo_model.specs.Order.{precedes}
use Rattle.rvwmo_model.specs.ProgramOrder.{insn_at, insn_of}
use Rattle.rvwmo_model.specs.InForm.{AreRising, IsOf}
use Rattle.rvwmo_model.proofs.Orders.{before_self}
use Rattle.rvwmo_model.proofs.LookUp.{found_in, named_self}
use Rattle.tandem_base.specs.declared.names.Place.{Place}
use Rattle.growth_laws.specs.Kinds.{SameInsn}
use Rattle.growth_laws.specs.Growth.{with_insn, Keeps}

pub insns_back : (t t' : Trace) → Keeps t t' None → (w : Retired) → Contains t'.insns w → Contains t.insns w
insns_back t t' s w h =
    (found_in t.insns w.hart w.tag w (sym (s.insns w.hart w.tag) ∙ named_self t'.insns w s.rising h)).0

pub insns_on : (t t' : Trace) → AreRising t.insns → Keeps t t' None → (w : Retired) → Contains t.insns w
    → Contains t'.insns w
insns_on t t' r s w h = (found_in t'.insns w.hart w.tag w (s.insns w.hart w.tag ∙ named_self t.insns w r h)).0

-- what is found of an instruction, and of another
pub with_same : (t : Trace) (r : Retired) → with_insn t (Some r) r.hart r.tag ≡ Some r
with_same t r = rw (eq-eqb r.hart r.hart refl, eq-eqb r.tag r.tag refl) refl

pub with_other : (t : Trace) (r : Retired) (h k : ℕ) → (h ≡ r.hart → k < r.tag)
    → with_insn t (Some r) h k ≡ insn_at t.insns h k
with_other t r h k less = at (eqb r.hart h) refl
  where
    at : (b : Bool) → eqb r.hart h ≡ b → cond (eqb r.hart h && eqb r.tag k) (Some r) (insn_at t.insns h k) ≡ insn_at
        t.insns h k
    at false e = rw e refl
    at true e =
        let l : k < r.tag = less (sym (eqb-true _ _ e)) in
        let d : eqb r.tag k ≡ false = grind (arith, nat_tests) in
        rw (e, d) refl

pub more_back : (t t' : Trace) (r : Retired) → Keeps t t' (Some r) → (w : Retired) → Contains t'.insns w → (w ≡ r)
    ⊎ Contains t.insns w
more_back t t' r s w h = at (eqb r.hart w.hart && eqb r.tag w.tag)
    (sym (s.insns w.hart w.tag) ∙ named_self t'.insns w s.rising h)
  where
    at : (b : Bool) → cond b (Some r) (insn_at t.insns w.hart w.tag) ≡ Some w → (w ≡ r) ⊎ Contains t.insns w
    at true e = inl (let c : r ≡ w = cc in sym c)
    at false e = inr (found_in t.insns w.hart w.tag w e).0

pub more_on : (t t' : Trace) (r : Retired) → AreRising t.insns → Keeps t t' (Some r) → (w : Retired)
    → Contains t.insns w → (w.hart ≡ r.hart → w.tag < r.tag) → Contains t'.insns w
more_on t t' r rising s w h less =
    (found_in t'.insns w.hart w.tag w (s.insns w.hart w.tag ∙ with_other t r w.hart w.tag less
    ∙ named_self t.insns w rising h)).0

pub more_new : (t t' : Trace) (r : Retired) → Keeps t t' (Some r) → insn_at t'.insns r.hart r.tag ≡ Some r
more_new t t' r s = s.insns r.hart r.tag ∙ with_same t r

-- the instruction of an operation of r
pub insn_is : (t : Trace) (r : Retired) (o : Op) → insn_at t.insns r.hart r.tag ≡ Some r → IsOf r o
    → insn_of t o ≡ Some r
insn_is t r o e f = rw (f.0, f.1) e

-- operations of one instruction have that instruction
pub insn_same : (t : Trace) (a b : Op) → SameInsn a b → insn_of t a ≡ insn_of t b
insn_same t a b s = rw (s.0, s.1) refl

-- two of one place stand alike
pub one_place : (a b : Op) (p : Place) → a.place ≡ Some p → b.place ≡ Some p → precedes a b ≡ false
one_place a b p e f = rw (e, f) (before_self _)
