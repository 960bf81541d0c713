-- What was performed, and by whom: a log, the newest first.
use Rattle.std.proofs.Common.{ℕ, suc, ◌≡◌, ◌+◌, ◌*◌, ◌<◌, ◌≤◌, inl, inr, List, [], ◌∷◌, Bool, true, false}
use Rattle.std.proofs.Common.{refl, ap, sym, subst, ◌∙◌, arith}
use Rattle.std.proofs.lemmas.Bool.{cases_eq, cases_order, both_ways}
use Rattle.tandem_base.specs.declared.names.Place.{Place}
use Rattle.trace_model.proofs.Lists.{In}
use Rattle.trace_gen.specs.declared.rounds.Step.{Step}
use Rattle.trace_gen.specs.declared.rounds.Step.TheVariants as step
use Rattle.trace_gen.specs.declared.rounds.Progress.{Progress}

-- the accesses of a round, in the order in which they are performed: the first load reads the counter, the second the
-- number that waits, the store is written, the amoadd is performed, and the last load reads again
pub data Access : Type 0 where
  counter : Access
  forward : Access
  written : Access
  add : Access
  again : Access

-- its place in the order
abbrev pub order_of : Access → ℕ
order_of counter = 0
order_of forward = 1
order_of written = 2
order_of add = 3
order_of again = 4

-- the number of its instruction in the program
abbrev pub insn_of_access : Access → ℕ
insn_of_access counter = 0
insn_of_access forward = 2
insn_of_access written = 1
insn_of_access add = 3
insn_of_access again = 5

-- it has the number that the round took from the counter
abbrev pub takes : Access → Bool
takes counter = true
takes forward = true
takes written = true
takes add = false
takes again = true

-- it reads the counter
abbrev pub asks : Access → Bool
asks counter = true
asks forward = false
asks written = false
asks add = true
asks again = false

pub order_bound : (a : Access) → order_of a ≤ 4
order_bound counter = omega arith
order_bound forward = omega arith
order_bound written = omega arith
order_bound add = omega arith
order_bound again = omega arith

-- an access of a round of a hart, with its number, and where it was performed
pub record Perf : Type 0 where
  pub hart : ℕ
  pub round : ℕ
  pub access : Access
  pub value : ℕ
  pub place : Place

-- which of the hart's it is, from 0
abbrev pub turn_of : Perf → ℕ
turn_of f = 5 * f.round + order_of f.access

-- how many accesses of the round are behind a step
abbrev pub performed_before : Step → ℕ
performed_before step.ReadAhead = 0
performed_before step.ReadCounter = 0
performed_before step.RetireRead = 1
performed_before step.RetireStore = 1
performed_before step.ForwardStore = 1
performed_before step.InsertStore = 2
performed_before step.WriteStore = 2
performed_before step.AddOne = 3
performed_before step.RetireAdd = 4
performed_before step.RetireFence = 4
performed_before step.ReadAgain = 4
performed_before step.RetireReadAgain = 5
performed_before step.RetireJump = 5

-- how many of a hart's are
abbrev pub turns_of : Progress → ℕ
turns_of p = 5 * p.round + performed_before p.step

-- the log of harts that are so far, after n messages
pub record IsLog (log : List Perf) (harts n : ℕ) (progress : ℕ → Progress) : Type 0 where
  pub timed : (f : Perf) → In f log → f.place.time + 1 ≡ f.place.message
  pub known : (f : Perf) → In f log → f.place.message ≤ n
  pub hart : (f : Perf) → In f log → f.hart < harts
  pub done : (f : Perf) → In f log → turn_of f < turns_of (progress f.hart)
  pub there : (h j : ℕ) (a : Access) → h < harts → 5 * j + order_of a < turns_of (progress h)
      → (f : Perf) × In f log × (f.hart ≡ h) × (f.round ≡ j) × (f.access ≡ a)
  pub one : (f g : Perf) → In f log → In g log → f.place.message ≡ g.place.message → f ≡ g
  pub rising : (f g : Perf) → In f log → In g log → f.hart ≡ g.hart → turn_of f < turn_of g
      → f.place.message < g.place.message
  pub keyed : (f g : Perf) → In f log → In g log → f.hart ≡ g.hart → turn_of f ≡ turn_of g → f ≡ g
  pub alike : (f g : Perf) → In f log → In g log → f.hart ≡ g.hart → f.round ≡ g.round → takes f.access ≡ true
      → takes g.access ≡ true → f.value ≡ g.value
  pub taken : (f : Perf) → In f log → takes f.access ≡ true → 5 * (progress f.hart).round ≤ turn_of f
      → f.value ≡ (progress f.hart).taken

-- nothing is performed
pub nothing_logged : (harts n : ℕ) (progress : ℕ → Progress) → ((h : ℕ) → turns_of (progress h) ≡ 0)
    → IsLog [] harts n progress
nothing_logged harts n progress none = record {
  timed = λ f i. absurd i;
  known = λ f i. absurd i;
  hart = λ f i. absurd i;
  done = λ f i. absurd i;
  there = λ h j a small lt. absurd (omega (arith, lt, none h));
  one = λ f g i. absurd i;
  rising = λ f g i. absurd i;
  keyed = λ f g i. absurd i;
  alike = λ f g i. absurd i;
  taken = λ f i. absurd i;
}

-- messages that perform nothing
pub same_log : (log : List Perf) (harts n n2 : ℕ) (old new : ℕ → Progress) → n ≤ n2
    → ((h : ℕ) → turns_of (new h) ≡ turns_of (old h))
    → ((f : Perf) → In f log → takes f.access ≡ true → 5 * (new f.hart).round ≤ turn_of f
    → f.value ≡ (new f.hart).taken)
    → IsLog log harts n old → IsLog log harts n2 new
same_log log harts n n2 old new le same taken is = record {
  timed = is.timed;
  known = λ f i. omega (arith, is.known f i, le);
  hart = is.hart;
  done = λ f i. omega (arith, is.done f i, same f.hart);
  there = λ h j a small lt. is.there h j a small (omega (arith, lt, same h));
  one = is.one;
  rising = is.rising;
  keyed = is.keyed;
  alike = is.alike;
  taken = taken;
}

-- one more access is performed
module _ (log : List Perf) (harts n n2 : ℕ) (old new : ℕ → Progress) (g : Perf) (is : IsLog log harts n old)
    (mine : g.hart < harts) (timed : g.place.time + 1 ≡ g.place.message) (after : n < g.place.message)
    (within : g.place.message ≤ n2) (next : turn_of g ≡ turns_of (old g.hart))
    (more : turns_of (new g.hart) ≡ suc (turns_of (old g.hart)))
    (others : (h : ℕ) → (g.hart ≡ h → ⊥) → new h ≡ old h)
    (value : takes g.access ≡ true → g.value ≡ (new g.hart).taken)
    (still : (f : Perf) → In f log → f.hart ≡ g.hart → takes f.access ≡ true → 5 * (new g.hart).round ≤ turn_of f
    → f.value ≡ (new g.hart).taken)
    (equal : (f : Perf) → In f log → f.hart ≡ g.hart → f.round ≡ g.round → takes f.access ≡ true
    → takes g.access ≡ true → f.value ≡ g.value) where
  not_less : (h : ℕ) → turns_of (old h) ≤ turns_of (new h)
  not_less h = elim (cases_eq g.hart h) [
    | inl e ↦ subst (λ (i : ℕ). turns_of (old i) ≤ turns_of (new i)) e (omega (arith, more))
    | inr apart ↦ subst (λ (p : Progress). turns_of (old h) ≤ turns_of p) (sym (others h apart)) (omega arith)
  ]

  known_more : (f : Perf) → In f (g ∷ log) → f.place.message ≤ n2
  known_more f (inl e) = subst (λ (x : Perf). x.place.message ≤ n2) (sym e) within
  known_more f (inr i) = omega (arith, is.known f i, after, within)

  done_more : (f : Perf) → In f (g ∷ log) → turn_of f < turns_of (new f.hart)
  done_more f (inl e) =
      subst (λ (x : Perf). turn_of x < turns_of (new x.hart)) (sym e) (omega (arith, next, more))
  done_more f (inr i) = omega (arith, is.done f i, not_less f.hart)

  same_access : (j : ℕ) (a : Access) → 5 * j + order_of a ≡ turn_of g → (g.round ≡ j) × (g.access ≡ a)
  same_access j a e = (
    omega (arith, e, order_bound a, order_bound g.access),
    by_order g.access a (omega (arith, e, order_bound a, order_bound g.access)),
  )
    where
      by_order : (b d : Access) → order_of b ≡ order_of d → b ≡ d
      by_order counter counter q = refl
      by_order counter forward q = absurd (omega (arith, q))
      by_order counter written q = absurd (omega (arith, q))
      by_order counter add q = absurd (omega (arith, q))
      by_order counter again q = absurd (omega (arith, q))
      by_order forward counter q = absurd (omega (arith, q))
      by_order forward forward q = refl
      by_order forward written q = absurd (omega (arith, q))
      by_order forward add q = absurd (omega (arith, q))
      by_order forward again q = absurd (omega (arith, q))
      by_order written counter q = absurd (omega (arith, q))
      by_order written forward q = absurd (omega (arith, q))
      by_order written written q = refl
      by_order written add q = absurd (omega (arith, q))
      by_order written again q = absurd (omega (arith, q))
      by_order add counter q = absurd (omega (arith, q))
      by_order add forward q = absurd (omega (arith, q))
      by_order add written q = absurd (omega (arith, q))
      by_order add add q = refl
      by_order add again q = absurd (omega (arith, q))
      by_order again counter q = absurd (omega (arith, q))
      by_order again forward q = absurd (omega (arith, q))
      by_order again written q = absurd (omega (arith, q))
      by_order again add q = absurd (omega (arith, q))
      by_order again again q = refl

  abbrev Found : ℕ → ℕ → Access → Type 0
  Found h j a = (f : Perf) × In f (g ∷ log) × (f.hart ≡ h) × (f.round ≡ j) × (f.access ≡ a)

  old_there : (h j : ℕ) (a : Access) → h < harts → 5 * j + order_of a < turns_of (old h) → Found h j a
  old_there h j a small lt = let f = is.there h j a small lt in (f.0, inr f.1, f.2, f.3, f.4)

  there_more : (h j : ℕ) (a : Access) → h < harts → 5 * j + order_of a < turns_of (new h) → Found h j a
  there_more h j a small lt = elim (cases_eq g.hart h) [
    | inl e ↦ elim (cases_eq (5 * j + order_of a) (turn_of g)) [
      | inl q ↦ let s = same_access j a q in (g, inl refl, e, s.0, s.1)
      | inr unlike ↦
          let lt2 : 5 * j + order_of a < turns_of (new g.hart) =
          subst (λ (i : ℕ). 5 * j + order_of a < turns_of (new i)) (sym e) lt in
          old_there h j a small
          (subst (λ (i : ℕ). 5 * j + order_of a < turns_of (old i)) e (below unlike lt2))
    ]
    | inr apart ↦
        old_there h j a small (subst (λ (p : Progress). 5 * j + order_of a < turns_of p) (others h apart) lt)
  ]
    where
      below : (5 * j + order_of a ≡ turn_of g → ⊥) → 5 * j + order_of a < turns_of (new g.hart)
          → 5 * j + order_of a < turns_of (old g.hart)
      below unlike lt2 = elim (cases_order (5 * j + order_of a) (turns_of (old g.hart))) [
        | inl e ↦ absurd (unlike (omega (arith, e, next)))
        | inr (inl less) ↦ less
        | inr (inr more2) ↦ absurd (omega (arith, more2, lt2, more))
      ]

  one_more : (f k : Perf) → In f (g ∷ log) → In k (g ∷ log) → f.place.message ≡ k.place.message → f ≡ k
  one_more f k (inl e) (inl q) same = e ∙ sym q
  one_more f k (inl e) (inr i) same =
      absurd (omega (arith, ap (λ (x : Perf). x.place.message) e, same, is.known k i, after))
  one_more f k (inr i) (inl q) same =
      absurd (omega (arith, ap (λ (x : Perf). x.place.message) q, same, is.known f i, after))
  one_more f k (inr i) (inr j) same = is.one f k i j same

  -- the turn of an old one of the hart is below that of the new one
  old_turn : (f : Perf) → In f log → f.hart ≡ g.hart → turn_of f < turn_of g
  old_turn f i e =
      let d = is.done f i in
      omega (arith, next, d, ap (λ (h : ℕ). turns_of (old h)) e)

  rising_more : (f k : Perf) → In f (g ∷ log) → In k (g ∷ log) → f.hart ≡ k.hart → turn_of f < turn_of k
      → f.place.message < k.place.message
  rising_more f k (inl e) (inl q) same lt = absurd (omega (arith, ap turn_of e, ap turn_of q, lt))
  rising_more f k (inl e) (inr i) same lt =
      absurd (omega (arith, ap turn_of e, lt, old_turn k i (sym same ∙ ap (λ (x : Perf). x.hart) e)))
  rising_more f k (inr i) (inl q) same lt =
      omega (arith, ap (λ (x : Perf). x.place.message) q, is.known f i, after)
  rising_more f k (inr i) (inr j) same lt = is.rising f k i j same lt

  keyed_more : (f k : Perf) → In f (g ∷ log) → In k (g ∷ log) → f.hart ≡ k.hart → turn_of f ≡ turn_of k → f ≡ k
  keyed_more f k (inl e) (inl q) same turn = e ∙ sym q
  keyed_more f k (inl e) (inr i) same turn =
      absurd (omega (arith, ap turn_of e, turn, old_turn k i (sym same ∙ ap (λ (x : Perf). x.hart) e)))
  keyed_more f k (inr i) (inl q) same turn =
      absurd (omega (arith, ap turn_of q, turn, old_turn f i (same ∙ ap (λ (x : Perf). x.hart) q)))
  keyed_more f k (inr i) (inr j) same turn = is.keyed f k i j same turn

  abbrev Alike : Perf → Perf → Type 0
  Alike f k = f.hart ≡ k.hart → f.round ≡ k.round → takes f.access ≡ true → takes k.access ≡ true → f.value ≡ k.value

  alike_more : (f k : Perf) → In f (g ∷ log) → In k (g ∷ log) → Alike f k
  alike_more f k (inl e) (inl q) = λ hart round tf tk. ap (λ (x : Perf). x.value) (e ∙ sym q)
  alike_more f k (inl e) (inr i) =
      subst (λ (x : Perf). Alike x k) (sym e) (λ hart round tg tk. sym (equal k i (sym hart) (sym round) tk tg))
  alike_more f k (inr i) (inl q) = subst (λ (x : Perf). Alike f x) (sym q)
      (λ hart round tf tg. equal f i hart round tf tg)
  alike_more f k (inr i) (inr j) = is.alike f k i j

  abbrev Taken : Perf → Type 0
  Taken f = takes f.access ≡ true → 5 * (new f.hart).round ≤ turn_of f → f.value ≡ (new f.hart).taken

  old_taken : (f : Perf) → In f log → Taken f
  old_taken f i t le = elim (cases_eq g.hart f.hart) [
    | inl e ↦
        let le2 : 5 * (new g.hart).round ≤ turn_of f =
        subst (λ (h : ℕ). 5 * (new h).round ≤ turn_of f) (sym e) le in
        subst (λ (h : ℕ). f.value ≡ (new h).taken) e (still f i (sym e) t le2)
    | inr apart ↦
        let le2 : 5 * (old f.hart).round ≤ turn_of f =
        subst (λ (p : Progress). 5 * p.round ≤ turn_of f) (others f.hart apart) le in
        subst (λ (p : Progress). f.value ≡ p.taken) (sym (others f.hart apart)) (is.taken f i t le2)
  ]

  taken_more : (f : Perf) → In f (g ∷ log) → Taken f
  taken_more f (inl e) = subst Taken (sym e) (λ t le. value t)
  taken_more f (inr i) = old_taken f i

  pub log_more : IsLog (g ∷ log) harts n2 new
  log_more = record {
    timed = λ f i. timed_more f i;
    known = known_more;
    hart = λ f i. hart_more f i;
    done = done_more;
    there = there_more;
    one = one_more;
    rising = rising_more;
    keyed = keyed_more;
    alike = alike_more;
    taken = taken_more;
  }
    where
      timed_more : (f : Perf) → In f (g ∷ log) → f.place.time + 1 ≡ f.place.message
      timed_more f (inl e) = subst (λ (x : Perf). x.place.time + 1 ≡ x.place.message) (sym e) timed
      timed_more f (inr i) = is.timed f i

      hart_more : (f : Perf) → In f (g ∷ log) → f.hart < harts
      hart_more f (inl e) = subst (λ (x : Perf). x.hart < harts) (sym e) mine
      hart_more f (inr i) = is.hart f i
