-- What a well-kinded trace gives.
use Rattle.std.proofs.Common.{ℕ, ◌+◌, ◌<◌, ◌≡◌, ◌≢◌, inl, inr, List, Bool, true, false, eqb, ltb, Some, None}
use Rattle.std.proofs.Common.{refl, sym, ap, ◌∙◌, arith}
use Rattle.std.proofs.lemmas.Bool.{false≢true, both_ways, and_parts, eqb-true, ltb-true}
use Rattle.std.specs.List.{Contains, AllPairs}
use Rattle.std.proofs.lemmas.List.Elements.{Contains-append_cases, Contains-get_or}
use Rattle.rv_decode.specs.declared.instruction.Insn.{Insn}
use Rattle.rv_decode.specs.declared.instruction.Insn.TheVariants.{Store, Sc, Amo}
use Rattle.rvwmo_model.specs.declared.instructions.Retired.{Retired}
use Rattle.rvwmo_model.specs.declared.operations.Op.{Op}
use Rattle.rvwmo_model.specs.declared.operations.OpKind.{OpKind}
use Rattle.rvwmo_model.specs.declared.operations.OpKind.TheVariants as kind
use Rattle.rvwmo_model.specs.declared.traces.Trace.{Trace}
use Rattle.rvwmo_model.specs.Order.{kind_loads, kind_stores, op_loads, has_byte, precedes, everything}
use Rattle.rvwmo_model.specs.ProgramOrder.{insn_of, is_older}
use Rattle.rvwmo_model.specs.InForm.{IsPlaced}
use Rattle.rvwmo_model.proofs.LookUp.{found_in}
use Rattle.rvwmo_model.proofs.Tested.{one_some}
use Rattle.rvwmo_model.proofs.Totality.{stand_alike}
use Rattle.rv_decode.specs.Kinds.{is_store, is_amo_or_sc}
use Rattle.growth_laws.specs.Kinds.{kind_of_insn, IsPlainStore, WellKinded}
use Rattle.growth_laws.proofs.Places.{place_cases, not_both}

store_kind : (i : Insn) (stored : Bool) → is_store i ≡ true → kind_of_insn i stored ≡ Some kind.Store
store_kind (Store op rs1 rs2 imm) stored e = refl
store_kind _ stored e = absurd (false≢true e)

-- the operations of an AMO or SC store
pub atomic_stores : (i : Insn) (stored : Bool) (k : OpKind) → is_amo_or_sc i ≡ true → kind_of_insn i stored ≡ Some k
    → kind_stores k ≡ true
atomic_stores (Sc wide aq rl rd rs1 rs2) true k a e = let c : kind.Store ≡ k = cc in ap kind_stores (sym c)
atomic_stores (Sc wide aq rl rd rs1 rs2) false k a e = absurd (cc)
atomic_stores (Amo op wide aq rl rd rs1 rs2) stored k a e = let c : kind.Both ≡ k = cc in ap kind_stores (sym c)
atomic_stores _ stored k a e = absurd (false≢true a)

-- the operations of a plain store are stores
pub plain_kind : (t : Trace) (o : Op) → WellKinded t → Contains t.ops o → IsPlainStore t o → o.kind ≡ kind.Store
plain_kind t o k h p =
    let w = one_some is_store (insn_of t o) p in
    let e : Some kind.Store ≡ Some o.kind = sym (store_kind w.0.insn w.0.stored w.2) ∙ k.kinds o w.0 h w.1 in
    cc

-- loads are performed
pub load_placed : (t : Trace) (o : Op) → WellKinded t → Contains t.ops o → op_loads o ≡ true → IsPlaced o
load_placed t o k h l = elim (place_cases o) [
  | inl p ↦ p
  | inr e ↦ absurd (both_ways _ (ap kind_loads (plain_kind t o k h (k.unperformed o h e))) l)
]

-- the instruction of an operation is one of the list
pub op_insn : (t : Trace) (o : Op) → WellKinded t → Contains t.ops o → (w : Retired) × Contains t.insns w
    × (w.hart ≡ o.name.hart) × (w.tag ≡ o.name.tag)
op_insn t o k h = let w = k.form.named o h in let f = found_in t.insns o.name.hart o.name.tag w.0 w.1 in
    (w.0, f.0, f.1, f.2)

-- an early store is younger than all operations of its hart
pub early_younger_op : (t : Trace) (a v : Op) → WellKinded t → Contains t.early a → Contains t.ops v
    → v.name.hart ≡ a.name.hart → v.name.tag < a.name.tag
early_younger_op t a v k h i e =
    let w = op_insn t v k i in
    let l : w.0.tag < a.name.tag = k.early_younger a w.0 h w.1 (w.2 ∙ e) in
    omega (arith, w.3)

-- what is not performed is of an instruction that retired
pub unplaced_retired : (t : Trace) (o : Op) → WellKinded t → Contains (everything t) o → o.place ≡ None
    → Contains t.ops o
unplaced_retired t o k h e =
    elim (Contains-append_cases t.ops t.early o h) [ inl a ↦ a | inr b ↦ absurd (not_both o (k.form.early o b) e) ]

-- operations that stand alike are the same
pub alike : (t : Trace) (a b : Op) → WellKinded t → Contains (everything t) a → Contains (everything t) b
    → precedes a b ≡ false → precedes b a ≡ false → a ≡ b
alike t a b k = stand_alike t a b k.form

-- each operation has a byte
pub some_byte_of : (t : Trace) (o : Op) → WellKinded t → Contains t.ops o → (x : ℕ) × (has_byte x o ≡ true)
some_byte_of t o k h = (o.extent.addr + o.name.part, (k.parts o h).here)

pub older_parts : (a b : Op) → is_older a b ≡ true → (a.name.hart ≡ b.name.hart) × (a.name.tag < b.name.tag)
older_parts a b e =
    let p = and_parts (eqb a.name.hart b.name.hart) (ltb a.name.tag b.name.tag) e in
    (eqb-true _ _ p.0, ltb-true _ _ p.1)

-- where no operation stands twice, and those of one name are the same, no two have one name
pub names_apart : (ops : List Op) → AllPairs (λ a b. a ≢ b) ops
    → ((a b : Op) → Contains ops a → Contains ops b → a.name ≡ b.name → a ≡ b) → AllPairs (λ a b. a.name ≢ b.name) ops
names_apart ops once same i j d l m e =
    once i j d l m (same _ _ (Contains-get_or ops i d (omega arith)) (Contains-get_or ops j d m) e)
