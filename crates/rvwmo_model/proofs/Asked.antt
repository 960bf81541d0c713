-- What the walk finds is asked about.
use Rattle.std.proofs.Common.{◌+◌, ◌<◌, length, drop, get_or, ℕ, Option, Some, None, is_some, sym, subst, ◌∙◌}
use Rattle.std.proofs.Common.{◌≡◌, inl, inr, Bool, true, false, List, [], ◌∷◌, eqb, leb, ◌&&◌, ◌||◌, cond, refl}
use Rattle.std.specs.Bool.{Decides}
use Rattle.std.specs.List.{list_any}
use Rattle.std.proofs.lemmas.Bool.{and_parts, or_cases, both_ways, false≢true, eqb-true, eq-eqb, leb-true, or_left}
use Rattle.std.proofs.lemmas.List.{drop_more}
use Rattle.rv_decode.specs.declared.instruction.Insn.{Insn}
use Rattle.rv_decode.specs.declared.instruction.Insn.TheVariants.{Load, Store, Lr, Sc, Amo, Branch, Jalr}
use Rattle.rv_decode.specs.declared.registers.Register.{Register}
use Rattle.rv_decode.specs.declared.registers.Register.TheVariants as register
use Rattle.rv_decode.specs.Registers.{is_number}
use Rattle.rvwmo_model.specs.declared.instructions.Retired.{Retired}
use Rattle.rvwmo_model.specs.declared.judge.walk.Search.{Search}
use Rattle.rvwmo_model.specs.declared.judge.walk.Use.{Use}
use Rattle.rvwmo_model.specs.declared.judge.walk.Use.TheVariants.{Address, Data, Control}
use Rattle.rvwmo_model.specs.Walk.{use_of, is_found, finds_from, finds, mark, Asks, AsksSome}
use Rattle.rvwmo_model.proofs.Membership.{head_in, tail_in, in_cases}
use Rattle.rvwmo_model.proofs.Searches.{some_is, not_true}

-- an instruction that is found is asked about
found_asks : (search : Search) (marks : List Register) (w : Retired) → is_found search marks w ≡ true → Asks search w
found_asks search marks w e =
    let p = and_parts (leb search.from w.tag && leb w.tag search.to) (list_any (λ r. use_of search.by w.insn r) marks)
    e in
    let q = and_parts (leb search.from w.tag) (leb w.tag search.to) p.0 in
    let r = (some_is (λ r. use_of search.by w.insn r) marks).0 p.1 in
    (leb-true _ _ q.0, leb-true _ _ q.1, (r.0, r.2))

asks_later : (search : Search) (w : Retired) (ws : List Retired) → AsksSome search ws → AsksSome search (w ∷ ws)
asks_later search w ws a = (a.0, tail_in w ws a.0 a.1, a.2, a.3)

-- where the walk finds something, some instruction is asked about
finds_asks : (search : Search) (marks : List Register) (insns : List Retired)
    → finds_from search marks insns ≡ true → AsksSome search insns
finds_asks search marks [] e = absurd (false≢true e)
finds_asks search marks (w ∷ ws) e =
    at (eqb w.hart search.hart) refl e (λ m q. asks_later search w ws (finds_asks search m ws q))
  where
    at : (b : Bool) → eqb w.hart search.hart ≡ b
        → cond b (is_found search marks w || finds_from search (mark w (eqb w.tag search.start) marks) ws)
        (finds_from search marks ws) ≡ true
        → ((m : List Register) → finds_from search m ws ≡ true → AsksSome search (w ∷ ws)) → AsksSome search (w ∷ ws)
    at false own h later = later marks h
    at true own h later =
        elim (or_cases (is_found search marks w) (finds_from search (mark w (eqb w.tag search.start) marks) ws) h) [
          | inl a ↦ (w, head_in w ws, eqb-true _ _ own, found_asks search marks w a)
          | inr a ↦ later (mark w (eqb w.tag search.start) marks) a
        ]

-- where no instruction is asked about, the walk finds nothing
pub none_found : (search : Search) (insns : List Retired) (asked : Bool) → Decides asked (AsksSome search insns)
    → asked ≡ false → finds search insns ≡ false
none_found search insns asked d e =
    not_true (finds search insns) (λ q. both_ways asked e (d.1 (finds_asks search [] insns q)))

-- what is asked about is not the first, and so it stands after it
pub asked_after : (search : Search) (w : Retired) (ws : List Retired)
    → ((w.hart ≡ search.hart) × Asks search w → ⊥) → AsksSome search (w ∷ ws) → AsksSome search ws
asked_after search w ws none a = elim (in_cases w ws a.0 a.1) [
  | inl e ↦ absurd (none (subst (λ (v : Retired). (v.hart ≡ search.hart) × Asks search v) e (a.2, a.3)))
  | inr i ↦ (a.0, i, a.2, a.3)
]

-- no CSR gives an address, data or a target
no_csr : (by : Use) (i : Insn) (n : ℕ) → use_of by i (register.Csr n) ≡ false
no_csr Address (Load op rd rs1 imm) n = refl
no_csr Address (Store op rs1 rs2 imm) n = refl
no_csr Address (Lr wide aq rl rd rs1) n = refl
no_csr Address (Sc wide aq rl rd rs1 rs2) n = refl
no_csr Address (Amo op wide aq rl rd rs1 rs2) n = refl
no_csr Address _ n = refl
no_csr Data (Store op rs1 rs2 imm) n = refl
no_csr Data (Sc wide aq rl rd rs1 rs2) n = refl
no_csr Data (Amo op wide aq rl rd rs1 rs2) n = refl
no_csr Data _ n = refl
no_csr Control (Branch op rs1 rs2 imm) n = refl
no_csr Control (Jalr rd rs1 imm) n = refl
no_csr Control _ n = refl

-- the uses of a register that one number names
named : (by : Use) (i : Insn) (o : Option ℕ)
    → ((r : ℕ) → use_of by i (register.X r) ≡ is_number o r) → Decides (is_some o)
    ((r : Register) × (use_of by i r ≡ true))
named by i None u = ((λ e. absurd (false≢true e)), λ h. at h.0 h.1)
  where
    at : (r : Register) → use_of by i r ≡ true → false ≡ true
    at (register.X n) e = sym (u n) ∙ e
    at (register.Csr n) e = sym (no_csr by i n) ∙ e
named by i (Some n) u = ((λ e. (register.X n, u n ∙ eq-eqb n n refl)), λ h. refl)

-- a use of one number is had exactly where there is the number
pub one_use : (by : Use) (i : Insn) (o : Option ℕ) (has : Bool)
    → ((r : ℕ) → use_of by i (register.X r) ≡ is_number o r) → has ≡ is_some o → Decides has
    ((r : Register) × (use_of by i r ≡ true))
one_use by i o has u e =
    subst (λ (b : Bool). Decides b ((r : Register) × (use_of by i r ≡ true))) (sym e) (named by i o u)

-- and one of two numbers where there is the first
pub first_use : (by : Use) (i : Insn) (o p : Option ℕ) (has : Bool)
    → ((r : ℕ) → use_of by i (register.X r) ≡ is_number o r || is_number p r) → has ≡ is_some o → has ≡ true
    → Decides has ((r : Register) × (use_of by i r ≡ true))
first_use by i (Some n) p has u e q =
    ((λ e. (register.X n, u n ∙ or_left (eqb n n) (is_number p n) (eq-eqb n n refl))), λ h. q)
first_use by i None p has u e q = absurd (both_ways has e q)

-- or where there is none, the second
pub second_use : (by : Use) (i : Insn) (o p : Option ℕ) (has : Bool)
    → ((r : ℕ) → use_of by i (register.X r) ≡ is_number o r || is_number p r) → is_some o ≡ false → has ≡ is_some p
    → Decides has ((r : Register) × (use_of by i r ≡ true))
second_use by i None p has u e q = one_use by i p has u q
second_use by i (Some n) p has u e q = absurd (false≢true (sym e))

-- the element at an index isn't asked about, and so one after it is
pub asked_in_rest : (search : Search) (insns : List Retired) (i : ℕ) (d : Retired) → i < length insns
    → (((get_or insns i d).hart ≡ search.hart) × Asks search (get_or insns i d) → ⊥)
    → AsksSome search (drop i insns) → AsksSome search (drop (i + 1) insns)
asked_in_rest search insns i d l none a =
    asked_after search (get_or insns i d) (drop (i + 1) insns) none (subst (AsksSome search) (drop_more insns i d l) a)
