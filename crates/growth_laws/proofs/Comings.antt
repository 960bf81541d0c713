-- Where the operations of a trace that has grown come from.
use Rattle.std.proofs.Common.{ℕ, ◌<◌, ◌≡◌, ◌⊎◌, inl, inr, refl, ◌∙◌, arith}
use Rattle.std.specs.List.{Contains}
use Rattle.rvwmo_model.specs.declared.operations.Op.{Op}
use Rattle.rvwmo_model.specs.declared.traces.Trace.{Trace}
use Rattle.rvwmo_model.specs.ProgramOrder.{insn_at}
use Rattle.rvwmo_model.specs.InForm.{IsPlaced}
use Rattle.growth_laws.specs.Kinds.{WellKinded}
use Rattle.growth_laws.specs.Growth.{Growth, grow_same, grow_early, grow_insn, grow_stores, Grows, no_growth}
use Rattle.growth_laws.specs.Growth.{more_growth}
use Rattle.growth_laws.proofs.Links.{Chain, none, then}
use Rattle.growth_laws.proofs.Growths.{chain_kinded, grows_chain}
use Rattle.growth_laws.proofs.Chains.{chain_stays}
use Rattle.growth_laws.proofs.Operations.{op_older}
use Rattle.growth_laws.proofs.Parts.{IsOfWaiting, Stems, stems_old, stems_part, stems_left, performs_back}

-- v is of an instruction that is younger than those of all performed operations of its hart
abbrev pub IsYoungerOp : Trace → Op → Type 0
IsYoungerOp t v = (a : Op) → Contains t.ops a → IsPlaced a → a.name.hart ≡ v.name.hart → a.name.tag < v.name.tag

-- it was there, or has bytes of a store that wasn't performed, or is of a new instruction
pub data Comes (t : Trace) (v : Op) : Type 0 where
  comes_old : Contains t.ops v → Comes t v
  comes_part : (o : Op) → IsOfWaiting t v o → Comes t v
  comes_new : IsYoungerOp t v → Comes t v

growth_back : (t t' : Trace) → WellKinded t → Growth t t' → (v : Op) → Contains t'.ops v → Comes t v
growth_back t t' k (grow_same s) v i = comes_old (s.ops.back v i)
growth_back t t' k (grow_early e s) v i = comes_old (s.ops.back v i)
growth_back t t' k (grow_insn r new s) v i =
    elim (s.ops_back v i) [
      | inr j ↦ comes_old j
      | inl m ↦ comes_new (λ a ha pa e. let mine = s.are_of.own v m in
          let l : a.name.tag < r.tag = op_older t t' r new a k s ha (e ∙ mine.0) in omega (arith, mine.1))
    ]
growth_back t t' k (grow_stores h parts s) v i = at (performs_back h t t' parts s v i)
  where
    at : Stems t parts v → Comes t v
    at (stems_old j p) = comes_old j
    at (stems_part m p above o w) = comes_part o w
    at (stems_left e o w) = comes_part o w

-- what comes from an unperformed store comes from what that comes from
part_comes : (t u : Trace) (v o : Op) → IsOfWaiting u v o → Comes t o → Comes t v
part_comes t u v o w (comes_old i) =
    comes_part o (record { was = i; unperformed = w.unperformed; same = w.same; like = w.like; bytes = w.bytes })
part_comes t u v o w (comes_part m y) = comes_part m (record {
  was = y.was;
  unperformed = y.unperformed;
  same = (w.same.0 ∙ y.same.0, w.same.1 ∙ y.same.1);
  like = record {
    kind = w.like.kind ∙ y.like.kind;
    acquire = w.like.acquire ∙ y.like.acquire;
    release = w.like.release ∙ y.like.release;
  };
  bytes = λ x q. y.bytes x (w.bytes x q);
})
part_comes t u v o w (comes_new y) =
    comes_new (λ a ha pa e. let l : a.name.tag < o.name.tag = y a ha pa (e ∙ w.same.0) in omega (arith, w.same.1))

pub grows_back : (t v : Trace) → WellKinded t → Grows t v → (w : Op) → Contains v.ops w → Comes t w
grows_back _ _ k (no_growth t) w i = comes_old i
grows_back _ _ k (more_growth t u v g s) w i = at (growth_back u v (chain_kinded t u k c) s w i) (grows_back t u k g)
  where
    c : Chain t u
    c = grows_chain t u k g

    at : Comes u w → ((z : Op) → Contains u.ops z → Comes t z) → Comes t w
    at (comes_old j) back = back w j
    at (comes_part o y) back = part_comes t u w o y (back o y.was)
    at (comes_new y) back = comes_new (λ a ha pa e. y a (chain_stays t u a c ha pa) pa e)

-- the instructions up to a performed operation stay
pub chain_insns : (t v : Trace) → Chain t v → (a : Op) → Contains t.ops a → IsPlaced a → (n : ℕ) → (n < a.name.tag)
    ⊎ (n ≡ a.name.tag) → insn_at v.insns a.name.hart n ≡ insn_at t.insns a.name.hart n
chain_insns _ _ (none t) a ha pa n le = refl
chain_insns _ _ (then t u v c g) a ha pa n le = g.operations.insns a n (chain_stays t u a c ha pa) le
    ∙ chain_insns t u c a ha pa n le
