-- The registers that are marked after one instruction.
use Rattle.std.proofs.Common.{ℕ, ◌≡◌, ◌⊎◌, inl, inr, Bool, true, false, not, List, [], ◌++◌}
use Rattle.std.proofs.Common.{eqb, ltb, cond, ◌&&◌, ◌||◌, Option, Some, None, refl, sym, ap, subst}
use Rattle.std.specs.List.{Contains, filter, list_any}
use Rattle.std.proofs.lemmas.Bool.{false≢true, eqb-true, or_cases}
use Rattle.std.proofs.lemmas.Bool.{and_parts, and_from}
use Rattle.std.proofs.lemmas.List.Elements.{Contains-append_cases, Contains-append_left, Contains-append_right}
use Rattle.rv_decode.specs.declared.instruction.Insn.{Insn}
use Rattle.rv_decode.specs.declared.instruction.Insn.TheVariants.{Lui, Auipc, Jal, Jalr, Branch, Load, Store, AluImm}
use Rattle.rv_decode.specs.declared.instruction.Insn.TheVariants.{Alu, Fence, Ecall, Ebreak, Mret, Wfi, Csr, Lr, Sc}
use Rattle.rv_decode.specs.declared.instruction.Insn.TheVariants.{Amo}
use Rattle.rvwmo_model.specs.declared.instructions.Retired.{Retired}
use Rattle.rv_decode.specs.declared.registers.Register.{Register}
use Rattle.rv_decode.specs.declared.registers.Register.TheVariants as register
use Rattle.rvwmo_model.specs.Walk.{fresh, list_of, mark}
use Rattle.rvwmo_model.proofs.Searches.{not_false}
use Rattle.rvwmo_model.proofs.Membership.{nothing_in, head_in, in_cases, in_filter, from_filter}
use Rattle.rv_decode.specs.Registers.{is_x, is_csr, sets, carries, writes_csr, named_rd, named_csr}

-- a register that an instruction sets is its rd or its CSR
x_is : (n : ℕ) (q : Register) → is_x n q ≡ true → q ≡ register.X n
x_is n (register.X m) e = let p = and_parts (ltb 0 n) (eqb m n) e in ap (λ (k : ℕ). register.X k) (eqb-true m n p.1)
x_is n (register.Csr m) e = absurd (false≢true e)

csr_is : (n : ℕ) (q : Register) → is_csr n q ≡ true → q ≡ register.Csr n
csr_is n (register.X m) e = absurd (false≢true e)
csr_is n (register.Csr m) e = ap (λ (k : ℕ). register.Csr k) (eqb-true m n e)

abbrev IsTarget : Insn → Register → Type 0
IsTarget w q = (named_rd w ≡ Some q) ⊎ (named_csr w ≡ Some q)

rd_target : (n : ℕ) (q : Register) → is_x n q ≡ true → Some (register.X n) ≡ Some q
rd_target n q e = ap (λ (r : Register). Some r) (sym (x_is n q e))

set_target : (w : Insn) (stored : Bool) (q : Register) → sets w stored q ≡ true → IsTarget w q
set_target (Lui rd imm) stored q e = inl (rd_target rd q e)
set_target (Auipc rd imm) stored q e = inl (rd_target rd q e)
set_target (Jal rd imm) stored q e = inl (rd_target rd q e)
set_target (Jalr rd rs1 imm) stored q e = inl (rd_target rd q e)
set_target (Branch op rs1 rs2 imm) stored q e = absurd (false≢true e)
set_target (Load op rd rs1 imm) stored q e = inl (rd_target rd q e)
set_target (Store op rs1 rs2 imm) stored q e = absurd (false≢true e)
set_target (AluImm op rd rs1 imm) stored q e = inl (rd_target rd q e)
set_target (Alu op rd rs1 rs2) stored q e = inl (rd_target rd q e)
set_target (Fence fm before after rd rs1) stored q e = absurd (false≢true e)
set_target Ecall stored q e = absurd (false≢true e)
set_target Ebreak stored q e = absurd (false≢true e)
set_target Mret stored q e = absurd (false≢true e)
set_target Wfi stored q e = absurd (false≢true e)
set_target (Csr op rd source number) stored q e =
    elim (or_cases (is_x rd q) (writes_csr op source && is_csr number q) e) [
      | inl a ↦ inl (rd_target rd q a)
      | inr b ↦ inr (ap (λ (r : Register). Some r)
          (sym (csr_is number q (and_parts (writes_csr op source) (is_csr number q) b).1)))
    ]
set_target (Lr wide aq rl rd rs1) stored q e = inl (rd_target rd q e)
set_target (Sc wide aq rl rd rs1 rs2) stored q e = inl (rd_target rd q (and_parts stored (is_x rd q) e).1)
set_target (Amo op wide aq rl rd rs1 rs2) stored q e = inl (rd_target rd q e)

-- w starts, or carries something marked to q
abbrev Gives : Retired → Bool → List Register → Register → Bool
Gives w starts marks q = starts || list_any (λ p. carries w.insn p q) marks

fresh_in : (w : Retired) (starts : Bool) (marks : List Register) (o : Option Register) (q : Register)
    → Contains (list_of (fresh w starts marks o)) q → (sets w.insn w.stored q ≡ true) × (Gives w starts marks q ≡ true)
fresh_in w starts marks None q h = absurd (nothing_in q h)
fresh_in w starts marks (Some r) q h = at (sets w.insn w.stored r && Gives w starts marks r) refl h
  where
    at : (b : Bool) → (sets w.insn w.stored r && Gives w starts marks r) ≡ b
        → Contains (list_of (cond b (Some r) None)) q → (sets w.insn w.stored q ≡ true)
        × (Gives w starts marks q ≡ true)
    at true e s = elim (in_cases r [] q s) [
      | inl same ↦ let p = and_parts (sets w.insn w.stored r) (Gives w starts marks r) e in
          subst (λ (z : Register). (sets w.insn w.stored z ≡ true) × (Gives w starts marks z ≡ true)) (sym same) p
      | inr i ↦ absurd (nothing_in q i)
    ]
    at false e s = absurd (nothing_in q s)

fresh_of : (w : Retired) (starts : Bool) (marks : List Register) (q : Register) → sets w.insn w.stored q ≡ true
    → Gives w starts marks q ≡ true → Contains (list_of (fresh w starts marks (Some q))) q
fresh_of w starts marks q s g = subst (λ (b : Bool). Contains (list_of (cond b (Some q) None)) q)
    (sym (and_from (sets w.insn w.stored q) (Gives w starts marks q) s g)) (head_in q [])

-- a register is marked after w: it was, and w doesn't set it; or w sets it, and starts, or carries a marked one to it
abbrev pub MarkedBy : Retired → Bool → List Register → Register → Type 0
MarkedBy w starts marks q = (Contains marks q × (sets w.insn w.stored q ≡ false))
    ⊎ ((sets w.insn w.stored q ≡ true) × (Gives w starts marks q ≡ true))

fresh_nothing : (w : Retired) (o : Option Register) → fresh w false [] o ≡ None
fresh_nothing w None = refl
fresh_nothing w (Some r) = at (sets w.insn w.stored r)
  where
    at : (b : Bool) → cond (b && (false || false)) (Some r) None ≡ None
    at true = refl
    at false = refl

-- where nothing is marked, an instruction at which the walk doesn't start marks nothing
pub mark_nothing : (w : Retired) (starts : Bool) (marks : List Register) → marks ≡ [] → starts ≡ false
    → mark w starts marks ≡ []
mark_nothing w starts marks e f = rw (e, f, fresh_nothing w (named_rd w.insn), fresh_nothing w (named_csr w.insn)) refl

pub mark_in : (w : Retired) (starts : Bool) (marks : List Register) (q : Register) → Contains (mark w starts marks) q
    → MarkedBy w starts marks q
mark_in w starts marks q h =
    elim (Contains-append_cases
    (filter (λ r. not (sets w.insn w.stored r)) marks ++ list_of (fresh w starts marks (named_rd w.insn)))
    (list_of (fresh w starts marks (named_csr w.insn))) q h) [
      | inl a ↦ elim (Contains-append_cases (filter (λ r. not (sets w.insn w.stored r)) marks)
          (list_of (fresh w starts marks (named_rd w.insn))) q a) [
            | inl b ↦ let f = from_filter (λ r. not (sets w.insn w.stored r)) marks q b in
                inl (f.0, not_false (sets w.insn w.stored q) f.1)
            | inr b ↦ inr (fresh_in w starts marks (named_rd w.insn) q b)
          ]
      | inr a ↦ inr (fresh_in w starts marks (named_csr w.insn) q a)
    ]

pub in_mark : (w : Retired) (starts : Bool) (marks : List Register) (q : Register) → MarkedBy w starts marks q
    → Contains (mark w starts marks) q
in_mark w starts marks q m = at m
  where
    kept : List Register
    kept = filter (λ r. not (sets w.insn w.stored r)) marks

    rd : List Register
    rd = list_of (fresh w starts marks (named_rd w.insn))

    csr : List Register
    csr = list_of (fresh w starts marks (named_csr w.insn))

    at : MarkedBy w starts marks q → Contains ((kept ++ rd) ++ csr) q
    at (inl h) =
        Contains-append_left (kept ++ rd) csr q
        (Contains-append_left kept rd q (in_filter (λ r. not (sets w.insn w.stored r)) marks q h.0 (ap not h.1)))
    at (inr h) = elim (set_target w.insn w.stored q h.0) [
      | inl e ↦ Contains-append_left (kept ++ rd) csr q
          (Contains-append_right kept rd q
          (subst (λ (o : Option Register). Contains (list_of (fresh w starts marks o)) q) (sym e)
          (fresh_of w starts marks q h.0 h.1)))
      | inr e ↦ Contains-append_right (kept ++ rd) csr q
          (subst (λ (o : Option Register). Contains (list_of (fresh w starts marks o)) q) (sym e)
          (fresh_of w starts marks q h.0 h.1))
    ]
