-- What a message that performs stores leaves of a trace.
use Rattle.std.proofs.Common.{ℕ, ◌≡◌, ◌⊎◌, inl, inr, true, List, ◌∷◌, Option, None, refl, sym, ap, subst, ◌∙◌}
use Rattle.std.specs.List.{Contains}
use Rattle.std.proofs.lemmas.List.Elements.{Contains-append_cases, Contains-append_left, Contains-append_right}
use Rattle.rvwmo_model.specs.declared.operations.Op.{Op}
use Rattle.rvwmo_model.specs.declared.traces.Trace.{Trace}
use Rattle.rvwmo_model.specs.Order.{has_byte, everything}
use Rattle.rvwmo_model.specs.ProgramOrder.{insn_at}
use Rattle.rvwmo_model.specs.InForm.{IsPlaced}
use Rattle.rvwmo_model.proofs.Membership.{nothing_in, head_in, tail_in, in_cases}
use Rattle.growth_laws.specs.Kinds.{SameInsn}
use Rattle.growth_laws.specs.Growth.{IsAbove, IsPartOf, PerformsPart, Performs, no_parts, more_parts}
use Rattle.growth_laws.proofs.Places.{place_cases, not_both}
use Rattle.growth_laws.proofs.Links.{IsLike}

-- v has bytes of the store o of t, which is not performed there
pub record IsOfWaiting (t : Trace) (v o : Op) : Type 0 where
  pub was : Contains t.ops o
  pub unperformed : o.place ≡ None
  pub same : SameInsn v o
  pub like : IsLike v o
  pub bytes : (x : ℕ) → has_byte x v ≡ true → has_byte x o ≡ true

-- where an operation comes from: it was there and performed, or is performed now, or is still to be performed
pub data Stems (t : Trace) (parts : List Op) (v : Op) : Type 0 where
  stems_old : Contains t.ops v → IsPlaced v → Stems t parts v
  stems_part : Contains parts v → IsPlaced v → IsAbove t v → (o : Op) → IsOfWaiting t v o → Stems t parts v
  stems_left : v.place ≡ None → (o : Op) → IsOfWaiting t v o → Stems t parts v

-- instructions stay
pub performs_insns : (h : ℕ) (t v : Trace) (parts : List Op) → Performs h t parts v → (g n : ℕ)
    → insn_at v.insns g n ≡ insn_at t.insns g n
performs_insns h t _ _ no_parts g n = refl
performs_insns h t _ _ (more_parts parts u v o m rest s e p) g n = p.keeps.insns g n ∙ performs_insns h t u parts s g n

part_on : (u v : Trace) (o n : Op) (rest : Option Op) → PerformsPart u v o n rest → (w : Op)
    → Contains (everything u) w → IsPlaced w → Contains (everything v) w
part_on u v o n rest p w i q = elim (Contains-append_cases u.ops u.early w i) [
  | inl a ↦ elim (p.ops_on w a) [
    | inl same ↦ absurd (not_both w q (ap (λ (z : Op). z.place) same ∙ p.unperformed))
    | inr b ↦ Contains-append_left v.ops v.early w b
  ]
  | inr a ↦ Contains-append_right v.ops v.early w (p.early.on w a)
]

-- what is performed stays
pub performs_on : (h : ℕ) (t v : Trace) (parts : List Op) → Performs h t parts v → (w : Op)
    → Contains (everything t) w → IsPlaced w → Contains (everything v) w
performs_on h t _ _ no_parts w i q = i
performs_on h t _ _ (more_parts parts u v o n rest s e p) w i q =
    part_on u v o n rest p w (performs_on h t u parts s w i q) q

of_self : (t : Trace) (v : Op) → Contains t.ops v → v.place ≡ None → IsOfWaiting t v v
of_self t v i e =
    record {
      was = i;
      unperformed = e;
      same = (refl, refl);
      like = record { kind = refl; acquire = refl; release = refl };
      bytes = λ x q. q;
    }

-- a part of a part
part_of : (t : Trace) (parts : List Op) (n o : Op) → IsPartOf n o → o.place ≡ None → Stems t parts o → (m : Op)
    × IsOfWaiting t n m
part_of t parts n o p e (stems_old i q) = absurd (not_both o q e)
part_of t parts n o p e (stems_part i q above m w) = absurd (not_both o q e)
part_of t parts n o p e (stems_left f m w) = (
  m,
  record {
    was = w.was;
    unperformed = w.unperformed;
    same = (p.same.0 ∙ w.same.0, p.same.1 ∙ w.same.1);
    like = record {
      kind = p.kind ∙ w.like.kind;
      acquire = p.acquire ∙ w.like.acquire;
      release = p.release
          ∙ w.like.release;
    };
    bytes = λ x q. w.bytes x (p.bytes x q).0;
  },
)

one_more : (t : Trace) (parts : List Op) (n v : Op) → Stems t parts v → Stems t (n ∷ parts) v
one_more t parts n v (stems_old i q) = stems_old i q
one_more t parts n v (stems_part i q above m w) = stems_part (tail_in n parts v i) q above m w
one_more t parts n v (stems_left e m w) = stems_left e m w

-- each operation comes from one that was there
pub performs_back : (h : ℕ) (t v : Trace) (parts : List Op) → Performs h t parts v → (w : Op) → Contains v.ops w
    → Stems t parts w
performs_back h t _ _ no_parts w i =
    elim (place_cases w) [ inl p ↦ stems_old i p | inr e ↦ stems_left e w (of_self t w i e) ]
performs_back h t _ _ (more_parts parts u v o n rest s e p) w i =
    let from = performs_back h t u parts s o p.was in
    elim (p.ops_back w i) [
      | inl same ↦
          let m = part_of t parts n o p.part p.unperformed from in
          subst (λ (z : Op). Stems t (n ∷ parts) z) (sym same)
          (stems_part (head_in n parts) p.placed (λ z j q. p.above z (performs_on h t u parts s z j q) q) m.0 m.1)
      | inr r ↦ elim r [
        | inl q ↦
            let l = p.left w q in
            let m = part_of t parts w o l.2 p.unperformed from in
            stems_left l.1 m.0 m.1
        | inr j ↦ one_more t parts n w (performs_back h t u parts s w j)
      ]
    ]

-- all that it performs is of its hart
pub performs_hart : (h : ℕ) (t v : Trace) (parts : List Op) → Performs h t parts v → (w : Op) → Contains parts w
    → w.name.hart ≡ h
performs_hart h t _ _ no_parts w i = absurd (nothing_in w i)
performs_hart h t _ _ (more_parts parts u v o n rest s e p) w i = at (in_cases n parts w i)
    (performs_hart h t u parts s w)
  where
    at : (w ≡ n) ⊎ Contains parts w → (Contains parts w → w.name.hart ≡ h) → w.name.hart ≡ h
    at (inl same) rec = ap (λ (z : Op). z.name.hart) same ∙ e
    at (inr j) rec = rec j
