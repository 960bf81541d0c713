-- What one instruction more changes in what the next one depends on.
use Rattle.std.proofs.Common.{ℕ, suc, ◌<◌, ◌≡◌, ◌⊎◌, inl, inr, Bool, true, false, List, [], ◌∷◌, ◌++◌, length}
use Rattle.std.proofs.Common.{cond, Some, refl, sym, ap, subst, ◌∙◌, arith, is_some}
use Rattle.std.proofs.lemmas.Bool.{both_ways, eq-eqb, ne_eqb}
use Rattle.rv_decode.specs.declared.instruction.Insn.{Insn}
use Rattle.rv_decode.specs.declared.registers.Register.{Register}
use Rattle.rv_decode.specs.declared.registers.Register.TheVariants.{X}
use Rattle.rv_decode.specs.Registers.{sets, carries}
use Rattle.rvwmo_model.specs.Dependencies.{Flow, Reach, skip, here, through}
use Rattle.rvwmo_model.proofs.Reaching.{reach_from_dep, dep_from_reach}
use Rattle.tandem_base.specs.declared.mark.Mark.{Mark}
use Rattle.dep_tracker.proofs.Insns.{sets_zero}
use Rattle.dep_tracker.specs.Marks.{Started, numbered, started_flow, flow_by_number, start_of, DependsOn, CarriedTo}
use Rattle.dep_tracker.specs.Marks.{UsedBy, UsedIn}

-- the same found by going back
abbrev Found : List Started → Register → Mark → Type 0
Found ws r m = (i : ℕ) × (s : Register) × Reach (flow_by_number ws) (length ws) r i s × (start_of
    (numbered ws i) ≡ Some m)

found_of : (ws : List Started) (r : Register) (m : Mark) → DependsOn ws r m → Found ws r m
found_of ws r m d = (d.0, d.1, reach_from_dep (flow_by_number ws) (length ws) r d.0 d.1 d.2, d.3)

of_found : (ws : List Started) (r : Register) (m : Mark) → Found ws r m → DependsOn ws r m
of_found ws r m d = (d.0, d.1, dep_from_reach (flow_by_number ws) (length ws) r d.0 d.1 d.2, d.3)

-- going back meets older instructions alone
pub below : (c : ℕ → Flow) (j : ℕ) (r : Register) (i : ℕ) (s : Register) → Reach c j r i s → i < j
below c _ _ _ _ (skip j r i s e h) = (let l = below c j r i s h in omega arith)
below c _ _ _ _ (here j r e) = omega arith
below c _ _ _ _ (through j r q i s e w h) = (let l = below c j q i s h in omega arith)

-- and only they matter
same_below : (c d : ℕ → Flow) (j : ℕ) (r : Register) (i : ℕ) (s : Register) → ((k : ℕ) → k < j → c k ≡ d k)
    → Reach c j r i s → Reach d j r i s
same_below c d _ _ _ _ same (skip j r i s e h) =
    skip j r i s (ap (λ (f : Flow). f.sets r) (sym (same j (omega arith))) ∙ e)
    (same_below c d j r i s (λ k l. same k (omega arith)) h)
same_below c d _ _ _ _ same (here j r e) =
    here j r (ap (λ (f : Flow). f.sets r) (sym (same j (omega arith))) ∙ e)
same_below c d _ _ _ _ same (through j r q i s e w h) =
    through j r q i s (ap (λ (f : Flow). f.sets r) (sym (same j (omega arith))) ∙ e)
    (ap (λ (f : Flow). f.carries q r) (sym (same j (omega arith))) ∙ w)
    (same_below c d j q i s (λ k l. same k (omega arith)) h)

older_number : (w : Started) (ws : List Started) (k : ℕ) → k < length ws → numbered (w ∷ ws) k ≡ numbered ws k
older_number w ws k l =
    ap (λ (b : Bool). cond b (Some w) (numbered ws k)) (ne_eqb k (length ws) (λ e. omega arith))

newest_number : (w : Started) (ws : List Started) → numbered (w ∷ ws) (length ws) ≡ Some w
newest_number w ws =
    ap (λ (b : Bool). cond b (Some w) (numbered ws (length ws))) (eq-eqb (length ws) (length ws) refl)

-- by one step back
abbrev pub Back : (ℕ → Flow) → ℕ → Register → ℕ → Register → Type 0
Back c j r i s = (((c j).sets r ≡ false) × Reach c j r i s) ⊎ (((c j).sets r ≡ true) × (i ≡ j))
    ⊎ ((q : Register) × ((c j).sets r ≡ true) × ((c j).carries q r ≡ true) × Reach c j q i s)

pub back_of : (c : ℕ → Flow) (j : ℕ) (r : Register) (i : ℕ) (s : Register) → Reach c (suc j) r i s → Back c j r i s
back_of c _ _ _ _ (skip j r i s e h) = inl (e, h)
back_of c _ _ _ _ (here j r e) = inr (inl (e, refl))
back_of c _ _ _ _ (through j r q i s e w h) = inr (inr (q, e, w, h))

-- a register's marks after one more instruction: those of before where it isn't set, and else the instruction's own
-- and those of what is carried to it
abbrev pub After : Started → List Started → Register → Mark → Type 0
After w ws r m = ((sets w.insn (is_some w.start) r ≡ false) × DependsOn ws r m)
    ⊎ ((sets w.insn (is_some w.start) r ≡ true) × ((w.start ≡ Some m) ⊎ CarriedTo w.insn ws r m))

module _ (w : Started) (ws : List Started) (r : Register) (m : Mark) where
  abbrev whole : ℕ → Flow
  whole = flow_by_number (w ∷ ws)

  last : whole (length ws) ≡ started_flow (Some w)
  last = ap started_flow (newest_number w ws)

  same_flow : (k : ℕ) → k < length ws → whole k ≡ flow_by_number ws k
  same_flow k l = ap started_flow (older_number w ws k l)

  older : (q : Register) (i : ℕ) (s : Register) → Reach whole (length ws) q i s
      → start_of (numbered (w ∷ ws) i) ≡ Some m → DependsOn ws q m
  older q i s h e = of_found ws q m (
    i,
    s,
    same_below whole (flow_by_number ws) (length ws) q i s same_flow h,
    ap start_of (sym (older_number w ws i (below whole (length ws) q i s h))) ∙ e,
  )

  younger : (q : Register) → DependsOn ws q m
      → (i : ℕ) × (s : Register) × Reach whole (length ws) q i s × (start_of (numbered (w ∷ ws) i) ≡ Some m)
  younger q d = at (found_of ws q m d)
    where
      at : Found ws q m
          → (i : ℕ) × (s : Register) × Reach whole (length ws) q i s × (start_of (numbered (w ∷ ws) i) ≡ Some m)
      at f = (
        f.0,
        f.1,
        same_below (flow_by_number ws) whole (length ws) q f.0 f.1 (λ k l. sym (same_flow k l)) f.2,
        ap start_of (older_number w ws f.0 (below (flow_by_number ws) (length ws) q f.0 f.1 f.2)) ∙ f.3,
      )

  sets_is : (whole (length ws)).sets r ≡ sets w.insn (is_some w.start) r
  sets_is = ap (λ (f : Flow). f.sets r) last

  carries_is : (q : Register) → (whole (length ws)).carries q r ≡ carries w.insn q r
  carries_is q = ap (λ (f : Flow). f.carries q r) last

  pub after_one : DependsOn (w ∷ ws) r m → After w ws r m
  after_one d = at (found_of (w ∷ ws) r m d)
    where
      at : Found (w ∷ ws) r m → After w ws r m
      at f = elim (back_of whole (length ws) r f.0 f.1 f.2) [
        | inl b ↦ inl (sym sets_is ∙ b.0, older r f.0 f.1 b.1 f.3)
        | inr o ↦ elim o [
          | inl b ↦ inr (
            sym sets_is ∙ b.0,
            inl (ap start_of (sym (newest_number w ws))
                ∙ subst (λ (n : ℕ). start_of (numbered (w ∷ ws) n) ≡ Some m) b.1 f.3),
          )
          | inr b ↦ inr (
            sym sets_is ∙ b.1,
            inr (b.0, sym (carries_is b.0) ∙ b.2, older b.0 f.0 f.1 b.3 f.3),
          )
        ]
      ]

  pub one_more : After w ws r m → DependsOn (w ∷ ws) r m
  one_more (inl a) =
      let y = younger r a.1 in
      of_found (w ∷ ws) r m (y.0, y.1, skip (length ws) r y.0 y.1 (sets_is ∙ a.0) y.2, y.3)
  one_more (inr a) = elim a.1 [
    | inl e ↦ of_found (w ∷ ws) r m (
      length ws,
      r,
      here (length ws) r (sets_is ∙ a.0),
      ap start_of (newest_number w ws) ∙ e,
    )
    | inr c ↦
        let y = younger c.0 c.2 in
        of_found (w ∷ ws) r m (
          y.0,
          y.1,
          through (length ws) r c.0 y.0 y.1 (sets_is ∙ a.0) (carries_is c.0 ∙ c.1) y.2,
          y.3,
        )
  ]

-- nothing depends before the first
pub none_at_first : (r : Register) (m : Mark) → DependsOn [] r m → ⊥
none_at_first r m d = at (found_of [] r m d)
  where
    at : Found [] r m → ⊥
    at f = (let l = below (flow_by_number []) 0 r f.0 f.1 f.2 in omega arith)

-- some instruction used it: the newest or one before
pub used_in : (test : Insn → Register → Bool) (w : Started) (ws : List Started) (m : Mark)
    → UsedIn test (w ∷ ws) m → UsedBy test w.insn ws m ⊎ UsedIn test ws m
used_in test w ws m u = at u.0 u.1 u.2 u.3 u.4
  where
    at : (younger : List Started) (v : Started) (older : List Started) → (w ∷ ws ≡ younger ++ v ∷ older)
        → UsedBy test v.insn older m → UsedBy test w.insn ws m ⊎ UsedIn test ws m
    at [] v older e h = (let f : w ≡ v = cc in let g : ws ≡ older = cc in
        inl (subst (λ (z : Started). UsedBy test z.insn ws m) (sym f)
        (subst (λ (z : List Started). UsedBy test v.insn z m) (sym g) h)))
    at (y ∷ ys) v older e h = inr (ys, v, older, (let g : ws ≡ ys ++ v ∷ older = cc in g), h)

pub used_now : (test : Insn → Register → Bool) (w : Started) (ws : List Started) (m : Mark)
    → UsedBy test w.insn ws m → UsedIn test (w ∷ ws) m
used_now test w ws m h = ([], w, ws, refl, h)

pub used_before : (test : Insn → Register → Bool) (w : Started) (ws : List Started) (m : Mark)
    → UsedIn test ws m → UsedIn test (w ∷ ws) m
used_before test w ws m u = (w ∷ u.0, u.1, u.2, ap (λ (z : List Started). w ∷ z) u.3, u.4)

pub used_none : (test : Insn → Register → Bool) (m : Mark) → UsedIn test [] m → ⊥
used_none test m u = at u.0 u.1 u.2 u.3
  where
    at : (younger : List Started) (v : Started) (older : List Started) → ([] ≡ younger ++ v ∷ older) → ⊥
    at [] v older e = cc
    at (y ∷ ys) v older e = cc

-- nothing depends by x0
pub none_by_zero : (ws : List Started) (m : Mark) → DependsOn ws (X 0) m → ⊥
none_by_zero [] m d = none_at_first (X 0) m d
none_by_zero (w ∷ ws) m d = elim (after_one w ws (X 0) m d) [
  | inl a ↦ none_by_zero ws m a.1
  | inr a ↦ both_ways _ (sets_zero w.insn (is_some w.start)) a.0
]
