-- The walk through the instructions finds what the definition of dependencies names.
use Rattle.std.proofs.Common.{ℕ, zero, suc, ◌<◌, ◌≤◌, ◌≡◌, ◌⊎◌, inl, inr, Bool, true, false, List, [], ◌∷◌}
use Rattle.std.proofs.Common.{eqb, leb, cond, ◌&&◌, ◌||◌, Option, Some, None, refl, sym, ap, subst, ◌∙◌, arith}
use Rattle.std.specs.Bool.{Decides}
use Rattle.std.specs.List.{Contains, list_any}
use Rattle.std.proofs.lemmas.Bool.{cases_order, both_ways, false≢true, eqb-true, eq-eqb, or_cases}
use Rattle.std.proofs.lemmas.Bool.{or_left, or_right, and_parts, and_from, leb-true, le-leb}
use Rattle.rv_decode.specs.declared.instruction.Insn.{Insn}
use Rattle.rvwmo_model.specs.declared.instructions.Retired.{Retired}
use Rattle.rv_decode.specs.declared.registers.Register.{Register}
use Rattle.rvwmo_model.specs.declared.judge.walk.Search.{Search}
use Rattle.rvwmo_model.specs.Dependencies.{Flow, Reach, skip, here, through}
use Rattle.rvwmo_model.specs.Flows.{flow_of, flows, DependsBy}
use Rattle.rvwmo_model.specs.InForm.{AreRising}
use Rattle.rvwmo_model.specs.ProgramOrder.{insn_at, is_one}
use Rattle.rvwmo_model.specs.Walk.{use_of, mark, is_found, finds_from, finds}
use Rattle.rvwmo_model.proofs.Membership.{nothing_in, head_in, tail_in, in_cases}
use Rattle.rvwmo_model.proofs.Reaching.{reach_from_dep, dep_from_reach}
use Rattle.rvwmo_model.proofs.Searches.{some_is}
use Rattle.rv_decode.specs.Registers.{sets, carries}
use Rattle.rvwmo_model.proofs.LookUp.{look_here, look_hart, look_tag, look_none, rising_head, rising_tail}
use Rattle.rvwmo_model.proofs.Marks.{MarkedBy, mark_in, in_mark}

-- ---- what depends, and what is marked

-- what one instruction does
abbrev After : (ℕ → Flow) → ℕ → Register → ℕ → Type 0
After c j r i = (((c j).sets r ≡ false) × ((s : Register) × Reach c j r i s)) ⊎ (((c j).sets r ≡ true) × (i ≡ j))
    ⊎ ((q : Register) × (s : Register) × ((c j).sets r ≡ true) × ((c j).carries q r ≡ true) × Reach c j q i s)

after_of : (c : ℕ → Flow) (j : ℕ) (r : Register) (i : ℕ) (s : Register) → Reach c (suc j) r i s → After c j r i
after_of c _ _ _ _ (skip j r i s e h) = inl (e, (s, h))
after_of c _ _ _ _ (here j r e) = inr (inl (e, refl))
after_of c _ _ _ _ (through j r q i s e w h) = inr (inr (q, s, e, w, h))

of_after : (c : ℕ → Flow) (j : ℕ) (r : Register) (i : ℕ) → After c j r i → (s : Register) × Reach c (suc j) r i s
of_after c j r i (inl h) = (h.1.0, skip j r i h.1.0 h.0 h.1.1)
of_after c j r i (inr (inl h)) = (r, subst (λ (n : ℕ). Reach c (suc j) r n r) (sym h.1) (here j r h.0))
of_after c j r i (inr (inr h)) = (h.1, through j r h.0 i h.1 h.2 h.3 h.4)

gap_up : (c : ℕ → Flow) (m n : ℕ) (r : Register) (i : ℕ) (s : Register) → n ≤ m
    → ((k : ℕ) → n ≤ k → k < m → (c k).sets r ≡ false) → Reach c n r i s → Reach c m r i s
gap_up c zero n r i s le idle h = subst (λ (z : ℕ). Reach c z r i s) (let e : n ≡ zero = omega arith in e) h
gap_up c (suc m) n r i s le idle h = at (λ l. gap_up c m n r i s l (λ k a b. idle k a (omega arith)) h)
    (cases_order n (suc m))
  where
    at : (n ≤ m → Reach c m r i s) → (n ≡ suc m) ⊎ ((n < suc m) ⊎ (suc m < n)) → Reach c (suc m) r i s
    at rec (inl e) = subst (λ (z : ℕ). Reach c z r i s) e h
    at rec (inr (inl l)) = skip m r i s (idle m (omega arith) (omega arith)) (rec (omega arith))
    at rec (inr (inr l)) = absurd (omega arith)

gap_down : (c : ℕ → Flow) (m n : ℕ) (r : Register) (i : ℕ) → n ≤ m → ((k : ℕ) → n ≤ k → k < m → (c k).sets r ≡ false)
    → (s : Register) × Reach c m r i s → (s : Register) × Reach c n r i s
gap_down c zero n r i le idle h =
    subst (λ (z : ℕ). (s : Register) × Reach c z r i s) (let e : zero ≡ n = omega arith in e) h
gap_down c (suc m) n r i le idle h = at (λ l. gap_down c m n r i l (λ k a b. idle k a (omega arith)))
    (cases_order n (suc m))
  where
    at : (n ≤ m → (s : Register) × Reach c m r i s → (s : Register) × Reach c n r i s) → (n ≡ suc m)
        ⊎ ((n < suc m) ⊎ (suc m < n)) → (s : Register) × Reach c n r i s
    at rec (inl e) = subst (λ (z : ℕ). (s : Register) × Reach c z r i s) (sym e) h
    at rec (inr (inr l)) = absurd (omega arith)
    at rec (inr (inl l)) =
        let f = idle m (omega arith) (omega arith) in
        elim (after_of c m r i h.0 h.1) [
          | inl a ↦ rec (omega arith) a.1
          | inr o ↦ elim o [ inl a ↦ absurd (both_ways _ f a.0) | inr a ↦ absurd (both_ways _ f a.2) ]
        ]

-- the marks are the registers by which an instruction under tag n would depend on i
abbrev Stands : (ℕ → Flow) → ℕ → ℕ → List Register → Type 0
Stands c n i marks = (r : Register) → (Contains marks r → (s : Register) × Reach c n r i s)
    × ((s : Register) × Reach c n r i s → Contains marks r)

-- one instruction on
stands_mark : (c : ℕ → Flow) (i : ℕ) (w : Retired) (marks : List Register) → c w.tag ≡ flow_of (Some w)
    → Stands c w.tag i marks → Stands c (suc w.tag) i (mark w (eqb w.tag i) marks)
stands_mark c i w marks e st r = (
  (λ h. of_after c w.tag r i (to_after (mark_in w (eqb w.tag i) marks r h))),
  λ h. in_mark w (eqb w.tag i) marks r
      (from_after (after_of c w.tag r i h.0 h.1)),
)
  where
    set_is : (c w.tag).sets r ≡ sets w.insn w.stored r
    set_is = ap (λ (f : Flow). f.sets r) e

    carry_is : (p : Register) → (c w.tag).carries p r ≡ carries w.insn p r
    carry_is p = ap (λ (f : Flow). f.carries p r) e

    to_after : MarkedBy w (eqb w.tag i) marks r → After c w.tag r i
    to_after (inl h) = inl (set_is ∙ h.1, (st r).0 h.0)
    to_after (inr h) = elim (or_cases (eqb w.tag i) (list_any (λ p. carries w.insn p r) marks) h.1) [
      | inl q ↦ inr (inl (set_is ∙ h.0, sym (eqb-true w.tag i q)))
      | inr q ↦
          let x = (some_is (λ p. carries w.insn p r) marks).0 q in
          let d = (st x.0).0 x.1 in
          inr (inr (x.0, d.0, set_is ∙ h.0, carry_is x.0 ∙ x.2, d.1))
    ]

    from_after : After c w.tag r i → MarkedBy w (eqb w.tag i) marks r
    from_after (inl h) = inl ((st r).1 h.1, sym set_is ∙ h.0)
    from_after (inr (inl h)) = inr (sym set_is ∙ h.0, or_left (eqb w.tag i) _ (eq-eqb w.tag i (sym h.1)))
    from_after (inr (inr h)) =
        inr (
          sym set_is ∙ h.2,
          or_right (eqb w.tag i) _
              ((some_is (λ p. carries w.insn p r) marks).1 (h.0, (st h.0).1 (h.1, h.4), sym (carry_is h.0) ∙ h.3)),
        )

-- over tags without an instruction
stands_gap : (insns : List Retired) (h n m i : ℕ) (marks : List Register) → n ≤ m
    → ((k : ℕ) → n ≤ k → k < m → insn_at insns h k ≡ None) → Stands (flows insns h) n i marks
    → Stands (flows insns h) m i marks
stands_gap insns h n m i marks le none st r = (
  (λ q. let d = (st r).0 q in (d.0, gap_up (flows insns h) m n r i d.0 le idle d.1)),
  λ d. (st r).1 (gap_down (flows insns h) m n r i le idle d),
)
  where
    idle : (k : ℕ) → n ≤ k → k < m → (flows insns h k).sets r ≡ false
    idle k a b = ap (λ (o : Option Retired). (flow_of o).sets r) (none k a b)

-- ---- what the walk finds

abbrev Found : Search → List Retired → ℕ → Type 0
Found search insns n = (k : ℕ) × (n ≤ k) × (search.from ≤ k) × (k ≤ search.to)
    × DependsBy (use_of search.by) insns search.hart k search.start

not_there : (test : Insn → Bool) (o : Option Retired) → o ≡ None → is_one test o ≡ true → ⊥
not_there test o e q = false≢true (sym (ap (is_one test) e) ∙ q)

-- the instruction w is found
is_found_is : (search : Search) (insns : List Retired) (marks : List Register) (w : Retired)
    → insn_at insns search.hart w.tag ≡ Some w → Stands (flows insns search.hart) w.tag search.start marks
    → Decides (is_found search marks w)
    ((search.from ≤ w.tag) × (w.tag ≤ search.to) × DependsBy (use_of search.by) insns search.hart w.tag
    search.start)
is_found_is search insns marks w at_tag st = (
  (λ e.
      let p = and_parts (leb search.from w.tag && leb w.tag search.to)
      (list_any (λ r. use_of search.by w.insn r) marks) e in
      let q = and_parts (leb search.from w.tag) (leb w.tag search.to) p.0 in
      let x = (some_is (λ r. use_of search.by w.insn r) marks).0 p.1 in
      let d = (st x.0).0 x.1 in (
        leb-true _ _ q.0,
        leb-true _ _ q.1,
        (x.0, ap (is_one (λ v. use_of search.by v x.0)) at_tag ∙ x.2, (d.0, dep_from_reach _ _ _ _ _ d.1)),
      )),
  λ h.
      let r = h.2.0 in
      let used : use_of search.by w.insn r ≡ true = sym (ap (is_one (λ v. use_of search.by v r)) at_tag) ∙ h.2.1 in
      let marked = (st r).1 (h.2.2.0, reach_from_dep _ _ _ _ _ h.2.2.1) in
      and_from _ _ (and_from _ _ (le-leb _ _ h.0) (le-leb _ _ h.1))
      ((some_is (λ r. use_of search.by w.insn r) marks).1 (r, marked, used)),
)

finds_from_is : (search : Search) (insns : List Retired) (n : ℕ) (marks : List Register) (rest : List Retired)
    → AreRising rest → ((v : Retired) → Contains rest v → v.hart ≡ search.hart → n ≤ v.tag)
    → ((k : ℕ) → n ≤ k → insn_at insns search.hart k ≡ insn_at rest search.hart k)
    → Stands (flows insns search.hart) n search.start marks → Decides (finds_from search marks rest)
    (Found search insns n)
finds_from_is search insns n marks [] rising later same st = (
  (λ e. absurd (false≢true e)),
  λ h. absurd (not_there (λ w. use_of search.by w h.4.0) (insn_at insns search.hart h.0) (same h.0 h.1) h.4.1),
)
finds_from_is search insns n marks (w ∷ ws) rising later same st =
    at (eqb w.hart search.hart) refl (λ m a b c. finds_from_is search insns n m ws (rising_tail w ws rising) a b c)
    (λ m a b c. finds_from_is search insns (suc w.tag) m ws (rising_tail w ws rising) a b c)
  where
    at : (b : Bool) → eqb w.hart search.hart ≡ b
        → ((m : List Register) → ((v : Retired) → Contains ws v → v.hart ≡ search.hart → n ≤ v.tag)
        → ((k : ℕ) → n ≤ k → insn_at insns search.hart k ≡ insn_at ws search.hart k)
        → Stands (flows insns search.hart) n search.start m → Decides (finds_from search m ws)
        (Found search insns n))
        → ((m : List Register) → ((v : Retired) → Contains ws v → v.hart ≡ search.hart → suc w.tag ≤ v.tag)
        → ((k : ℕ) → suc w.tag ≤ k → insn_at insns search.hart k ≡ insn_at ws search.hart k)
        → Stands (flows insns search.hart) (suc w.tag) search.start m → Decides (finds_from search m ws)
        (Found search insns (suc w.tag)))
        → Decides (cond b (is_found search marks w || finds_from search (mark w (eqb w.tag search.start) marks) ws)
        (finds_from search marks ws)) (Found search insns n)
    at false e other mine =
        other marks (λ v i q. later v (tail_in w ws v i) q) (λ k l. same k l ∙ look_hart w ws search.hart k e) st
    at true e other mine = (forth, back)
      where
        own : w.hart ≡ search.hart
        own = eqb-true _ _ e

        low : n ≤ w.tag
        low = later w (head_in w ws) own

        there : insn_at insns search.hart w.tag ≡ Some w
        there = same w.tag low ∙ look_here w ws search.hart w.tag own refl

        tags : (v : Retired) → Contains (w ∷ ws) v → v.hart ≡ search.hart → w.tag ≤ v.tag
        tags v i h = elim (in_cases w ws v i) [
          | inl q ↦ let s = ap (λ (z : Retired). z.tag) q in omega arith
          | inr j ↦ let l = rising_head w ws rising v j (h ∙ sym own) in omega arith
        ]

        none : (k : ℕ) → n ≤ k → k < w.tag → insn_at insns search.hart k ≡ None
        none k a b = same k a ∙ look_none (w ∷ ws) search.hart k (λ v i h q. let l = tags v i h in omega arith)

        stands : Stands (flows insns search.hart) w.tag search.start marks
        stands = stands_gap insns search.hart n w.tag search.start marks low none st

        rest : Decides (finds_from search (mark w (eqb w.tag search.start) marks) ws) (Found search insns (suc w.tag))
        rest = mine (mark w (eqb w.tag search.start) marks)
            (λ v i h. let l = rising_head w ws rising v i (h ∙ sym own) in omega arith)
            (λ k l. same k (let lo : n ≤ w.tag = low in omega arith) ∙ look_tag w ws search.hart k (λ q. omega arith))
            (stands_mark (flows insns search.hart) search.start w marks (ap flow_of there) stands)

        now : Decides (is_found search marks w)
            ((search.from ≤ w.tag) × (w.tag ≤ search.to) × DependsBy (use_of search.by) insns search.hart w.tag
            search.start)
        now = is_found_is search insns marks w there stands

        forth : (is_found search marks w || finds_from search (mark w (eqb w.tag search.start) marks) ws) ≡ true
            → Found search insns n
        forth q =
            elim (or_cases (is_found search marks w) (finds_from search (mark w (eqb w.tag search.start) marks) ws) q) [
              | inl a ↦ let f = now.0 a in (w.tag, low, f.0, f.1, f.2)
              | inr a ↦
                  let f = rest.0 a in
                  (f.0, (let l = f.1 in let lo : n ≤ w.tag = low in omega arith), f.2, f.3, f.4)
            ]

        back : Found search insns n
            → (is_found search marks w || finds_from search (mark w (eqb w.tag search.start) marks) ws) ≡ true
        back f = elim (cases_order f.0 w.tag) [
          | inl q ↦ or_left (is_found search marks w) _
              (now.1 (subst
              (λ (k : ℕ). (search.from ≤ k) × (k ≤ search.to) × DependsBy (use_of search.by) insns search.hart k
              search.start) q (f.2, f.3, f.4)))
          | inr o ↦ elim o [
            | inl l ↦
                absurd (not_there (λ v. use_of search.by v f.4.0) (insn_at insns search.hart f.0)
                (none f.0 f.1 l) f.4.1)
            | inr l ↦ or_right (is_found search marks w) _ (rest.1 (f.0, l, f.2, f.3, f.4))
          ]
        ]

empty : (c : ℕ → Flow) (n : ℕ) (r : Register) (i : ℕ) (s : Register) → n ≡ zero → Reach c n r i s → ⊥
empty c _ _ _ _ e (skip j r i s f h) = (let z : suc j ≡ zero = e in omega arith)
empty c _ _ _ _ e (here j r f) = (let z : suc j ≡ zero = e in omega arith)
empty c _ _ _ _ e (through j r q i s f g h) = (let z : suc j ≡ zero = e in omega arith)

-- the walk finds an instruction of the hart, from a tag to a tag, that depends on the one at which it starts
pub finds_is : (search : Search) (insns : List Retired) → AreRising insns
    → Decides (finds search insns)
    ((k : ℕ) × (search.from ≤ k) × (k ≤ search.to) × DependsBy (use_of search.by) insns search.hart k search.start)
finds_is search insns rising =
    let d = finds_from_is search insns zero [] insns rising (λ v i h. omega arith) (λ k l. refl)
    (λ r. (
      (λ h. absurd (nothing_in r h)),
      λ h. absurd (empty (flows insns search.hart) zero r search.start h.0 refl h.1),
    )) in
    ((λ e. let f = d.0 e in (f.0, f.2, f.3, f.4)), λ h. d.1 (h.0, omega arith, h.1, h.2, h.3))
