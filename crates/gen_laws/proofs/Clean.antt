-- Each made stream is clean.
use Rattle.std.proofs.Common.{ℕ, zero, suc, ◌≡◌, ◌+◌, ◌*◌, ◌^◌, ◌<◌, ◌≤◌, List, [], ◌∷◌, length, set, get_or, reverse}
use Rattle.std.proofs.Common.{replicate, Bool, cond, refl, ap, sym, subst, ◌∙◌, arith, None, inl, inr}
use Rattle.std.proofs.Common.{get_or-set_other, get_or-set_same}
use Rattle.std.proofs.lemmas.Bool.{cases_eq, cases_lt, eq-eqb}
use Rattle.std.proofs.lemmas.List.{reverse-reverse, get_or_past}
use Rattle.std.proofs.Math.Nat.{mul_assoc, mul_comm, suc-mul}
use Rattle.msg_frames.specs.declared.message.Message.{Message}
use Rattle.matching.specs.declared.reports.OpenReport.{OpenReport}
use Rattle.matching.specs.Reports.{early}
use Rattle.matching.specs.EndFaults.{unwritten_below, unwritten_fault_of, first_bypass, unretired_fault_of}
use Rattle.matching.specs.Matching.{IsClean}
use Rattle.matching.specs.Tables.{table_at, left_fault_in}
use Rattle.matching.proofs.Same.{left_fault_same, below_more, below_none}
use Rattle.trace_gen.specs.declared.rounds.Step.{Step}
use Rattle.trace_gen.specs.declared.rounds.Step.TheVariants as step
use Rattle.trace_gen.specs.declared.rounds.Progress.{Progress}
use Rattle.trace_gen.specs.Program.{made_image}
use Rattle.trace_gen.specs.Rounds.{first_progress, sayings_at, moved_by, tag_of}
use Rattle.trace_gen.specs.Schedule.{Moment, said, stepped}
use Rattle.trace_gen.specs.Making.{CanMake, before_turns, moment_of, made_messages, opened, ends}
use Rattle.trace_gen.proofs.Fitting.{are_said, end_said}
use Rattle.trace_gen.proofs.Turns.{IsAt, IsDone, all_within, each_turn, done_at}
use Rattle.gen_laws.proofs.Own.{early_at}
use Rattle.gen_laws.proofs.Says.{Seen, seen, Runs, say_all, stream_fine, no_fault}
use Rattle.gen_laws.proofs.States.{IsBefore}
use Rattle.gen_laws.proofs.Stores.{none_left}
use Rattle.gen_laws.proofs.Opening.{opened_fresh}
use Rattle.gen_laws.proofs.FirstSteps.{Goes, read_ahead, read_counter, retire_read, retire_store, forward_store}
use Rattle.gen_laws.proofs.LaterSteps.{insert_store, write_store, add_one, retire_add, retire_fence, read_again}
use Rattle.gen_laws.proofs.LaterSteps.{retire_read_again, retire_jump}

-- no message so far has a fault, and each hart is before its next step
pub record AreAtWork (harts : ℕ) (m : Moment) : Type 0 where
  pub runs : Runs harts m.messages
  pub each : (h : ℕ) → IsBefore harts h (get_or m.harts h first_progress).step (get_or m.harts h first_progress)
      (seen m.messages h)

pub get_or-replicate : {X : Type 0} (n h : ℕ) (x : X) → get_or (replicate n x) h x ≡ x
get_or-replicate zero h x = refl
get_or-replicate (suc n) zero x = refl
get_or-replicate (suc n) (suc h) x = get_or-replicate n h x

pub at_first : (seed harts : ℕ) → 1 ≤ harts → harts ≤ 16 → AreAtWork harts (before_turns seed harts)
at_first seed harts low high =
    let fresh = opened_fresh harts harts low high (omega arith) in
    record {
      runs = fresh.runs;
      each = λ h. subst (λ (p : Progress). IsBefore harts h p.step p (seen (opened harts harts) h))
          (sym (get_or-replicate harts h first_progress)) (fresh.each h).before;
    }

module _ (harts h c : ℕ) (p : Progress) (mine : h < harts) (h16 : h < 16) (c64 : c + 1 < 2 ^ 64) where
  pub goes : (s : Step) (n : ℕ) (v : Seen) → Goes harts h c p mine h16 c64 s n v
  goes step.ReadAhead n v = read_ahead harts h c p mine h16 c64 n v
  goes step.ReadCounter n v = read_counter harts h c p mine h16 c64 n v
  goes step.RetireRead n v = retire_read harts h c p mine h16 c64 n v
  goes step.RetireStore n v = retire_store harts h c p mine h16 c64 n v
  goes step.ForwardStore n v = forward_store harts h c p mine h16 c64 n v
  goes step.InsertStore n v = insert_store harts h c p mine h16 c64 n v
  goes step.WriteStore n v = write_store harts h c p mine h16 c64 n v
  goes step.AddOne n v = add_one harts h c p mine h16 c64 n v
  goes step.RetireAdd n v = retire_add harts h c p mine h16 c64 n v
  goes step.RetireFence n v = retire_fence harts h c p mine h16 c64 n v
  goes step.ReadAgain n v = read_again harts h c p mine h16 c64 n v
  goes step.RetireReadAgain n v = retire_read_again harts h c p mine h16 c64 n v
  goes step.RetireJump n v = retire_jump harts h c p mine h16 c64 n v

-- the step of a hart
pub step_on : (harts h : ℕ) (m : Moment) → h < harts → harts ≤ 16 → h < length m.harts → m.counter + 1 < 2 ^ 64
    → (get_or m.harts h first_progress).round < 2 ^ 32 → AreAtWork harts m → AreAtWork harts (stepped h m)
step_on harts h m mine high small c64 r32 work =
    let p = get_or m.harts h first_progress in
    let before = work.each h in
    let ss = sayings_at p.step h m.counter p in
    let moved = moved_by p.step m.counter p in
    let h16 : h < 16 = omega (arith, mine, high) in
    let are = are_said h m.counter p (omega (arith, h16)) r32 c64 before.taken (omega (arith, before.added)) p.step in
    let left = say_all harts h ss m.messages (IsBefore harts h moved.step moved) mine work.runs are
    (goes harts h m.counter p mine h16 c64 p.step (length m.messages) (seen m.messages h) before) in
    let after = (stepped h m).messages in
    let P : ℕ → Progress → Seen → Type 0 = λ g q v. IsBefore harts g q.step q v in
    record {
      runs = left.runs;
      each = λ g. elim (cases_eq h g) [
        | inl e ↦
            subst (λ (i : ℕ). P i (get_or (set m.harts h moved) i first_progress) (seen after i)) e
            (subst (λ (q : Progress). P h q (seen after h)) (sym (get_or-set_same m.harts h moved first_progress small))
            left.own)
        | inr apart ↦
            subst (λ (q : Progress). P g q (seen after g))
            (sym (get_or-set_other m.harts h g moved first_progress (λ e. apart (sym e))))
            (subst (P g (get_or m.harts g first_progress)) (sym (left.others g apart)) (work.each g))
      ];
    }

-- how many turns there are at most
pub few_turns : (harts rounds n : ℕ) (m : Moment) → IsAt harts rounds n m → n ≤ 13 * (harts * rounds)
few_turns harts rounds n m at' =
    let all = all_within rounds m.harts at'.within in
    omega (arith, at'.sum, all, ap (λ k. 13 * rounds * k) at'.len, mul_assoc 13 rounds harts, mul_comm rounds harts)

pub few_rounds : (harts rounds : ℕ) → 1 ≤ harts → harts * rounds ≤ 100000 → rounds ≤ 100000
few_rounds zero rounds low room = absurd (omega (arith, low))
few_rounds (suc h) rounds low room = omega (arith, room, suc-mul h rounds)

-- after each turn
pub work_at : (seed harts rounds n : ℕ) → 1 ≤ harts → harts ≤ 16 → harts * rounds ≤ 100000 → n ≤ 13 * harts * rounds
    → AreAtWork harts (moment_of seed harts rounds n)
work_at seed harts rounds n low high room le =
    each_turn seed harts rounds (AreAtWork harts) (at_first seed harts low high)
    (λ m random w. record { runs = w.runs; each = w.each })
    (λ k h m at' chosen w.
    step_on harts h m (omega (arith, chosen.hart, at'.len)) high chosen.hart
    (omega (arith, at'.counter, few_turns harts rounds k m at', room))
    (omega (arith, chosen.left, few_rounds harts rounds low room)) w)
    n le

-- ---- the End

pub no_early : (es : List OpenReport) → ((h : ℕ) → early_at h es ≡ []) → es ≡ []
no_early [] none = refl
no_early (r ∷ es) none =
    let e : early_at r.hart (r ∷ es) ≡ r ∷ early_at r.hart es =
    ap (λ (b : Bool). cond b (r ∷ early_at r.hart es) (early_at r.hart es)) (eq-eqb r.hart r.hart refl) in
    let f : r ∷ early_at r.hart es ≡ [] = sym e ∙ none r.hart in
    absurd (cc)

none_below : (before : List Message) (n : ℕ) → ((h : ℕ) → unwritten_fault_of made_image before h ≡ None)
    → unwritten_below made_image before n ≡ None
none_below before zero none = below_none made_image before
none_below before (suc n) none =
    let e : suc n ≡ n + 1 = omega arith in
    ap (unwritten_below made_image before) e ∙ below_more made_image before n
    ∙ no_fault _ _ (none_below before n none) (none n)

-- each hart is at the start of a round
pub start_at : (rounds h : ℕ) (ps : List Progress)
    → ((k : ℕ) (d : Progress) → k < length ps → IsDone rounds (get_or ps k d))
    → (get_or ps h first_progress).step ≡ step.ReadAhead
start_at rounds h ps done = elim (cases_lt h (length ps)) [
  | inl lt ↦ (done h first_progress lt).step
  | inr le ↦ ap (λ (p : Progress). p.step) (get_or_past ps h first_progress le)
]

pub end_clean : (seed harts rounds : ℕ) → CanMake harts rounds
    → IsClean made_image (said 0 (moment_of seed harts rounds (13 * harts * rounds)).messages ends)
end_clean seed harts rounds can =
    let n = 13 * harts * rounds in
    let m = moment_of seed harts rounds n in
    let work = work_at seed harts rounds n can.0 can.1 can.3 (omega arith) in
    let done = done_at seed harts rounds in
    let at_start : (h : ℕ) → IsBefore harts h step.ReadAhead (get_or m.harts h first_progress) (seen m.messages h) =
    λ h. subst (λ (s : Step). IsBefore harts h s (get_or m.harts h first_progress) (seen m.messages h))
    (start_at rounds h m.harts done) (work.each h) in
    let quiet : early m.messages ≡ [] = no_early (early m.messages) (λ h. (at_start h).early) in
    let written : (h : ℕ) → unwritten_fault_of made_image m.messages h ≡ None =
    λ h. sym (left_fault_same made_image m.messages h)
    ∙ ap (left_fault_in h) (none_left (tag_of (get_or m.harts h first_progress).round 1)
    (table_at made_image m.messages h).stores (at_start h).stores) in (
      work.runs.clean,
      end_said.fits (length m.messages),
      no_fault _ _
          (stream_fine m.messages (record {
            head = record { hart = 0; time = length m.messages; tag = 0 };
            body =
                ends.body;
          })
          work.runs.some refl (rw work.runs.known (omega (arith, can.0))) work.runs.time)
          (no_fault _ _ (none_below m.messages 16 written) (ap (λ es. unretired_fault_of (first_bypass es)) quiet)),
    )

-- so each made stream is clean
pub made_clean : (seed harts rounds : ℕ) → CanMake harts rounds
    → IsClean made_image (reverse (made_messages seed harts rounds))
made_clean seed harts rounds can =
    subst (IsClean made_image)
    (sym (reverse-reverse (said 0 (moment_of seed harts rounds (13 * harts * rounds)).messages ends)))
    (end_clean seed harts rounds can)
