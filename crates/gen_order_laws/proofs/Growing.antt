-- How the log, the entries and the stores of a made stream grow at a step of a hart.
use Rattle.std.proofs.Common.{ℕ, suc, ◌≡◌, ◌+◌, ◌*◌, ◌<◌, ◌≤◌, List, ◌∷◌, true, refl, ap, sym}
use Rattle.std.proofs.Common.{subst, ◌∙◌, arith, inl, inr, Some}
use Rattle.std.specs.List.{cons_option}
use Rattle.std.specs.declared.option.Option.{Option}
use Rattle.std.proofs.lemmas.Bool.{cases_eq}
use Rattle.msg_frames.specs.declared.message.Message.{Message}
use Rattle.matching.specs.declared.stores.Fate.TheVariants.{Done}
use Rattle.matching.specs.Fates.{fate}
use Rattle.trace_model.specs.Entries.{Entry}
use Rattle.trace_model.proofs.Lists.{In}
use Rattle.trace_gen.specs.declared.rounds.Progress.{Progress}
use Rattle.trace_gen.specs.Program.{own_addr}
use Rattle.trace_gen.specs.Rounds.{tag_of}
use Rattle.gen_order_laws.proofs.Logs.{Perf, IsLog, counter, forward, written, add, again, turn_of, turns_of, takes}
use Rattle.gen_order_laws.proofs.Logs.{order_of}
use Rattle.gen_order_laws.proofs.Logs.{insn_of_access, same_log, log_more, order_bound}
use Rattle.gen_order_laws.proofs.Logs as logs
use Rattle.gen_order_laws.proofs.Entered.{AreEntered, IsOfLog, HasEntry, IsEntryOf, entered_more}
use Rattle.gen_order_laws.proofs.MadeOps.{IsMadeInsn}
use Rattle.gen_order_laws.proofs.Kept.{AreWritten}

-- ---- the log

module _ (log : List Perf) (harts h n n2 : ℕ) (old new : ℕ → Progress) (p2 : Progress) (is : IsLog log harts n old)
    (mine : h < harts) (le : n ≤ n2) (own : new h ≡ p2) (others : (g : ℕ) → (h ≡ g → ⊥) → new g ≡ old g)
    (rounds : (old h).round ≤ p2.round) where
  number_same : turns_of p2 ≡ turns_of (old h) → (g : ℕ) → turns_of (new g) ≡ turns_of (old g)
  number_same same g = elim (cases_eq h g) [
    | inl e ↦ subst (λ (i : ℕ). turns_of (new i) ≡ turns_of (old i)) e (ap turns_of own ∙ same)
    | inr apart ↦ ap turns_of (others g apart)
  ]

  -- what the hart took is as it was
  taken_own : p2.taken ≡ (old h).taken → (f : Perf) → In f log → f.hart ≡ h → takes f.access ≡ true
      → 5 * p2.round ≤ turn_of f → f.value ≡ p2.taken
  taken_own same f i e t low =
      is.taken f i t
      (subst (λ (x : ℕ). 5 * (old x).round ≤ turn_of f) (sym e) (omega (arith, low, rounds)))
      ∙ ap (λ (x : ℕ). (old x).taken) e ∙ sym same

  taken_all : p2.taken ≡ (old h).taken → (f : Perf) → In f log → takes f.access ≡ true
      → 5 * (new f.hart).round ≤ turn_of f → f.value ≡ (new f.hart).taken
  taken_all same f i t low = elim (cases_eq h f.hart) [
    | inl e ↦
        let low2 : 5 * p2.round ≤ turn_of f =
        subst (λ (p : Progress). 5 * p.round ≤ turn_of f) own
        (subst (λ (x : ℕ). 5 * (new x).round ≤ turn_of f) (sym e) low) in
        taken_own same f i (sym e) t low2 ∙ ap (λ (p : Progress). p.taken) (sym own)
        ∙ ap (λ (x : ℕ). (new x).taken) e
    | inr apart ↦
        let low2 : 5 * (old f.hart).round ≤ turn_of f =
        subst (λ (p : Progress). 5 * p.round ≤ turn_of f) (others f.hart apart) low in
        is.taken f i t low2 ∙ ap (λ (p : Progress). p.taken) (sym (others f.hart apart))
  ]

  -- nothing is performed
  pub quiet_log : p2.taken ≡ (old h).taken → turns_of p2 ≡ turns_of (old h) → IsLog log harts n2 new
  quiet_log same turns = same_log log harts n n2 old new le (number_same turns) (taken_all same) is

  -- an access is performed that takes nothing from the counter, but maybe the amoadd
  module _ (g : Perf) (hart : g.hart ≡ h) (timed : g.place.time + 1 ≡ g.place.message) (after : n < g.place.message)
      (within : g.place.message ≤ n2) (next : turn_of g ≡ turns_of (old h))
      (more : turns_of p2 ≡ suc (turns_of (old h))) where
    turns_more : turns_of (new g.hart) ≡ suc (turns_of (old g.hart))
    turns_more =
        subst (λ (x : ℕ). turns_of (new x) ≡ suc (turns_of (old x))) (sym hart) (ap turns_of own ∙ more)

    abbrev Still : Type 0
    Still = (f : Perf) → In f log → f.hart ≡ h → takes f.access ≡ true → 5 * p2.round ≤ turn_of f → f.value ≡ p2.taken

    abbrev Equal : Type 0
    Equal = (f : Perf) → In f log → f.hart ≡ h → f.round ≡ g.round → takes f.access ≡ true → takes g.access ≡ true
        → f.value ≡ g.value

    new_is : new g.hart ≡ p2
    new_is = ap new hart ∙ own

    general : (takes g.access ≡ true → g.value ≡ p2.taken) → Still → Equal → IsLog (g ∷ log) harts n2 new
    general value still equal =
        log_more log harts n n2 old new g is (omega (arith, hart, mine)) timed after within
        (next ∙ ap (λ (x : ℕ). turns_of (old x)) (sym hart)) turns_more
        (λ k apart. others k (λ e. apart (hart ∙ e)))
        (λ t. value t ∙ ap (λ (p : Progress). p.taken) (sym new_is))
        (λ f i e t low.
        still f i (e ∙ hart) t (subst (λ (p : Progress). 5 * p.round ≤ turn_of f) new_is low)
        ∙ ap (λ (p : Progress). p.taken) (sym new_is))
        (λ f i e r t u. equal f i (e ∙ hart) r t u)

    pub later_log : p2.taken ≡ (old h).taken → g.round ≡ (old h).round → p2.round ≡ (old h).round
        → (takes g.access ≡ true → g.value ≡ p2.taken) → IsLog (g ∷ log) harts n2 new
    later_log same round round2 value =
        general value (taken_own same)
        (λ f i e r t u. taken_own same f i e t (omega (arith, r, round, round2)) ∙ sym (value u))

    -- the first load of a round takes what the counter is
    pub first_log : turns_of (old h) ≡ 5 * (old h).round → g.round ≡ (old h).round → p2.round ≡ (old h).round
        → g.value ≡ p2.taken → IsLog (g ∷ log) harts n2 new
    first_log start round round2 value =
        general (λ t. value)
        (λ f i e t low. absurd (none f i e (omega (arith, low, round2))))
        (λ f i e r t u. absurd (none f i e (omega (arith, r, round))))
      where
        none : (f : Perf) → In f log → f.hart ≡ h → 5 * (old h).round ≤ turn_of f → ⊥
        none f i e low =
            let d : turn_of f < turns_of (old h) =
            subst (λ (x : ℕ). turn_of f < turns_of (old x)) e (is.done f i) in
            omega (arith, d, low, start)

-- ---- the stores

-- an access that isn't a store
pub written_more : (log : List Perf) (after : List Message) (g : Perf) → (g.access ≡ written → ⊥) → AreWritten log after
    → AreWritten (g ∷ log) after
written_more log after g quiet are f (inl e) w k lt = absurd (quiet (sym (ap (λ (x : Perf). x.access) e) ∙ w))
written_more log after g quiet are f (inr i) w k lt = are f i w k lt

-- the store
pub written_new : (log : List Perf) (after : List Message) (g : Perf)
    → ((k : ℕ) → k < 8 → fate after g.hart (tag_of g.round 1) (own_addr g.hart + k) ≡ Done g.place)
    → AreWritten log after → AreWritten (g ∷ log) after
written_new log after g here are f (inl e) w k lt =
    subst (λ (x : Perf). fate after x.hart (tag_of x.round 1) (own_addr x.hart + k) ≡ Done x.place) (sym e) (here k lt)
written_new log after g here are f (inr i) w k lt = are f i w k lt

-- ---- the entries

pub insn_bound : (a : logs.Access) → insn_of_access a ≤ 5
insn_bound counter = omega arith
insn_bound forward = omega arith
insn_bound written = omega arith
insn_bound add = omega arith
insn_bound again = omega arith

insn_same : (a b : logs.Access) → insn_of_access a ≡ insn_of_access b → a ≡ b
insn_same counter counter e = refl
insn_same counter forward e = absurd (omega (arith, e))
insn_same counter written e = absurd (omega (arith, e))
insn_same counter add e = absurd (omega (arith, e))
insn_same counter again e = absurd (omega (arith, e))
insn_same forward counter e = absurd (omega (arith, e))
insn_same forward forward e = refl
insn_same forward written e = absurd (omega (arith, e))
insn_same forward add e = absurd (omega (arith, e))
insn_same forward again e = absurd (omega (arith, e))
insn_same written counter e = absurd (omega (arith, e))
insn_same written forward e = absurd (omega (arith, e))
insn_same written written e = refl
insn_same written add e = absurd (omega (arith, e))
insn_same written again e = absurd (omega (arith, e))
insn_same add counter e = absurd (omega (arith, e))
insn_same add forward e = absurd (omega (arith, e))
insn_same add written e = absurd (omega (arith, e))
insn_same add add e = refl
insn_same add again e = absurd (omega (arith, e))
insn_same again counter e = absurd (omega (arith, e))
insn_same again forward e = absurd (omega (arith, e))
insn_same again written e = absurd (omega (arith, e))
insn_same again add e = absurd (omega (arith, e))
insn_same again again e = refl

pub no_fourth : (a : logs.Access) → insn_of_access a ≡ 4 → ⊥
no_fourth counter e = omega (arith, e)
no_fourth forward e = omega (arith, e)
no_fourth written e = omega (arith, e)
no_fourth add e = omega (arith, e)
no_fourth again e = omega (arith, e)

pub no_sixth : (a : logs.Access) → insn_of_access a ≡ 6 → ⊥
no_sixth counter e = omega (arith, e)
no_sixth forward e = omega (arith, e)
no_sixth written e = omega (arith, e)
no_sixth add e = omega (arith, e)
no_sixth again e = omega (arith, e)

which : (a : logs.Access) (j r k : ℕ) → k < 7 → 7 * j + insn_of_access a ≡ 7 * r + k → (j ≡ r) × (insn_of_access a ≡ k)
which a j r k small e = (omega (arith, e, small, insn_bound a), omega (arith, e, small, insn_bound a))

module _ (log : List Perf) (es : List Entry) (harts h : ℕ) (reach reach2 : ℕ → ℕ) (o : Option Entry) (e : Entry)
    (is : o ≡ Some e) (are : AreEntered log es harts reach) (insn : IsMadeInsn e.insn) (of : IsOfLog log e)
    (round k : ℕ) (small : k < 7) (was : reach h ≡ 7 * round + k) (now : reach2 h ≡ suc (reach h))
    (others : (g : ℕ) → (h ≡ g → ⊥) → reach2 g ≡ reach g) where
  entered_by : ((j : ℕ) (a : logs.Access) → 7 * j + insn_of_access a ≡ reach h → HasEntry log (e ∷ es) h j a)
      → AreEntered log (cons_option o es) harts reach2
  entered_by new =
      subst (λ (x : Option Entry). AreEntered log (cons_option x es) harts reach2) (sym is)
      (entered_more log es harts h reach reach2 e are insn of now others new)

  -- an instruction without an access
  pub entered_quiet : ((a : logs.Access) → insn_of_access a ≡ k → ⊥) → AreEntered log (cons_option o es) harts reach2
  entered_quiet none = entered_by (λ j a q. absurd (none a (which a j round k small (q ∙ was)).1))

  -- that of an access
  pub entered_access : (b : logs.Access) → insn_of_access b ≡ k → (f : Perf) → In f log → f.hart ≡ h → f.round ≡ round
      → IsEntryOf b f e → AreEntered log (cons_option o es) harts reach2
  entered_access b same f i hart r entry = entered_by new
    where
      new : (j : ℕ) (a : logs.Access) → 7 * j + insn_of_access a ≡ reach h → HasEntry log (e ∷ es) h j a
      new j a q =
          let w = which a j round k small (q ∙ was) in
          let ab : a ≡ b = insn_same a b (w.1 ∙ sym same) in
          (f, e, i, inl refl, hart, r ∙ sym w.0, subst (λ (x : logs.Access). IsEntryOf x f e) (sym ab) entry)
