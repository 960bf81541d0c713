-- Each made stream is lawful.
use Rattle.std.proofs.Common.{ℕ, zero, suc, ◌≡◌, ◌+◌, ◌*◌, ◌^◌, ◌<◌, ◌≤◌, List, [], length, get_or, set, reverse}
use Rattle.std.proofs.Common.{refl, ap, sym, subst, ◌∙◌, arith, get_or-set_other, get_or-set_same}
use Rattle.std.proofs.lemmas.List.{reverse-reverse}
use Rattle.msg_frames.specs.declared.message.Message.{Message}
use Rattle.elf_image.specs.Images.{initial_byte}
use Rattle.matching.specs.Reports.{early}
use Rattle.rvwmo_model.specs.Legal.{Legal}
use Rattle.trace_model.specs.Entries.{Entry}
use Rattle.trace_model.specs.Traces.{entries, trace_of}
use Rattle.order_laws.specs.Lawful.{Lawful, EndsOnce}
use Rattle.order_laws.proofs.InWords.{matched_in_words}
use Rattle.trace_gen.specs.declared.rounds.Step.{Step}
use Rattle.trace_gen.specs.declared.rounds.Step.TheVariants as step
use Rattle.trace_gen.specs.declared.rounds.Progress.{Progress}
use Rattle.trace_gen.specs.Program.{made_image}
use Rattle.trace_gen.specs.Rounds.{first_progress, sayings_at, moved_by}
use Rattle.trace_gen.specs.Schedule.{Moment, said, stepped}
use Rattle.trace_gen.specs.Making.{CanMake, before_turns, moment_of, made_messages, opened, ends}
use Rattle.trace_gen.proofs.Fitting.{AreSaid, are_said}
use Rattle.trace_gen.proofs.Turns.{at_turn, each_turn, done_at}
use Rattle.gen_laws.proofs.Says.{seen, Runs, say_all}
use Rattle.gen_laws.proofs.States.{IsBefore}
use Rattle.gen_laws.proofs.Clean.{AreAtWork, at_first, goes, step_on, few_turns, few_rounds, no_early, start_at}
use Rattle.gen_laws.proofs.Clean.{end_clean, get_or-replicate}
use Rattle.gen_order_laws.proofs.Counting.{nothing_counted}
use Rattle.gen_order_laws.proofs.Logs.{nothing_logged, turns_of, performed_before}
use Rattle.gen_order_laws.proofs.Entered.{AreEntered, nothing_entered, retired_by}
use Rattle.gen_order_laws.proofs.Kept.{IsKept, Pending, fates_of}
use Rattle.gen_order_laws.proofs.KeptSteps.{Grown, kept_read_ahead, kept_insert_store, kept_read_counter}
use Rattle.gen_order_laws.proofs.KeptSteps.{kept_read_again}
use Rattle.gen_order_laws.proofs.KeptSteps.{kept_write_store, kept_add_one}
use Rattle.gen_order_laws.proofs.KeptRetires.{kept_retire_read, kept_retire_store, kept_forward_store, kept_retire_add}
use Rattle.gen_order_laws.proofs.KeptRetires.{kept_retire_fence, kept_retire_read_again, kept_retire_jump}
use Rattle.gen_order_laws.proofs.Ends.{none_ends}
use Rattle.gen_order_laws.proofs.MadeTraces.{made_trace}
use Rattle.gen_order_laws.proofs.Legal.{made_legal}

-- how far each hart is
abbrev pub progress_at : Moment → ℕ → Progress
progress_at m h = get_or m.harts h first_progress

-- no message so far has a fault, and what is kept is kept
pub record IsWell (harts : ℕ) (m : Moment) : Type 0 where
  pub work : AreAtWork harts m
  pub kept : IsKept harts m.counter (progress_at m) m.messages

no_entries : (harts h : ℕ) → entries made_image (opened harts h) ≡ []
no_entries harts zero = refl
no_entries harts (suc h) = no_entries harts h

kept_first : (seed harts : ℕ) → IsKept harts 0 (progress_at (before_turns seed harts)) (opened harts harts)
kept_first seed harts =
    let same : (h : ℕ) → progress_at (before_turns seed harts) h ≡ first_progress =
    λ h. get_or-replicate harts h first_progress in
    record {
      log = [];
      logged =
          nothing_logged harts (length (opened harts harts)) (progress_at (before_turns seed harts))
          (λ h. ap turns_of (same h));
      counted = nothing_counted;
      entered =
          subst (λ (es : List Entry). AreEntered [] es harts (λ h. retired_by (progress_at
          (before_turns seed harts) h)))
          (sym (no_entries harts harts))
          (nothing_entered harts (λ h. retired_by (progress_at (before_turns seed harts) h))
          (λ h. ap retired_by (same h)));
      written = λ f i. absurd i;
      pending = λ h small.
          subst (λ (p : Progress). Pending p.step [] (seen (opened harts harts) h) (fates_of
          (opened harts harts) h) h p)
          (sym (same h)) tt;
    }

well_first : (seed harts : ℕ) → 1 ≤ harts → harts ≤ 16 → IsWell harts (before_turns seed harts)
well_first seed harts low high = record { work = at_first seed harts low high; kept = kept_first seed harts }

module _ (harts h c : ℕ) (old new : ℕ → Progress) (before : List Message) (kept : IsKept harts c old before)
    (runs : Runs harts before) (mine : h < harts) (h16 : h < 16)
    (others : (g : ℕ) → (h ≡ g → ⊥) → new g ≡ old g) where
  grown : (s : Step) → AreSaid h (sayings_at s h c (old h)) → Grown harts h c old new before kept runs mine h16 others s
  grown step.ReadAhead are = kept_read_ahead harts h c old new before kept runs mine h16 others
  grown step.ReadCounter are = kept_read_counter harts h c old new before kept runs mine h16 others
  grown step.RetireRead are = kept_retire_read harts h c old new before kept runs mine h16 others
  grown step.RetireStore are = kept_retire_store harts h c old new before kept runs mine h16 others
  grown step.ForwardStore are = kept_forward_store harts h c old new before kept runs mine h16 others are
  grown step.InsertStore are = kept_insert_store harts h c old new before kept runs mine h16 others
  grown step.WriteStore are = kept_write_store harts h c old new before kept runs mine h16 others
  grown step.AddOne are = kept_add_one harts h c old new before kept runs mine h16 others
  grown step.RetireAdd are = kept_retire_add harts h c old new before kept runs mine h16 others
  grown step.RetireFence are = kept_retire_fence harts h c old new before kept runs mine h16 others
  grown step.ReadAgain are = kept_read_again harts h c old new before kept runs mine h16 others
  grown step.RetireReadAgain are = kept_retire_read_again harts h c old new before kept runs mine h16 others
  grown step.RetireJump are = kept_retire_jump harts h c old new before kept runs mine h16 others

well_step : (harts h : ℕ) (m : Moment) → h < harts → harts ≤ 16 → h < length m.harts → m.counter + 1 < 2 ^ 64
    → (progress_at m h).round < 2 ^ 32 → IsWell harts m → IsWell harts (stepped h m)
well_step harts h m mine high small c64 r32 well =
    let p = progress_at m h in
    let work = well.work in
    let b = work.each h in
    let ss = sayings_at p.step h m.counter p in
    let moved = moved_by p.step m.counter p in
    let h16 : h < 16 = omega (arith, mine, high) in
    let are = are_said h m.counter p (omega (arith, h16)) r32 c64 b.taken (omega (arith, b.added)) p.step in
    let left = say_all harts h ss m.messages (IsBefore harts h moved.step moved) mine work.runs are
    (goes harts h m.counter p mine h16 c64 p.step (length m.messages) (seen m.messages h) b) in
    let new : ℕ → Progress = λ g. get_or (set m.harts h moved) g first_progress in
    let others : (g : ℕ) → (h ≡ g → ⊥) → new g ≡ progress_at m g =
    λ g apart. get_or-set_other m.harts h g moved first_progress (λ e. apart (sym e)) in
    record {
      work = step_on harts h m mine high small c64 r32 work;
      kept =
          grown harts h m.counter (progress_at m) new m.messages well.kept work.runs mine h16 others p.step are refl b
          (get_or-set_same m.harts h moved first_progress small) left.others;
    }

-- after each turn
well_at : (seed harts rounds n : ℕ) → 1 ≤ harts → harts ≤ 16 → harts * rounds ≤ 100000 → n ≤ 13 * harts * rounds
    → IsWell harts (moment_of seed harts rounds n)
well_at seed harts rounds n low high room le =
    each_turn seed harts rounds (IsWell harts) (well_first seed harts low high)
    (λ m random w. record {
      work = record { runs = w.work.runs; each = w.work.each };
      kept = w.kept;
    })
    (λ k h m at' chosen w.
    well_step harts h m (omega (arith, chosen.hart, at'.len)) high chosen.hart
    (omega (arith, at'.counter, few_turns harts rounds k m at', room))
    (omega (arith, chosen.left, few_rounds harts rounds low room)) w)
    n le

end_legal : (seed harts rounds : ℕ) → CanMake harts rounds
    → Legal (initial_byte made_image) (trace_of made_image (moment_of seed harts rounds (13 * harts * rounds)).messages)
end_legal seed harts rounds can =
    let n = 13 * harts * rounds in
    let m = moment_of seed harts rounds n in
    let well = well_at seed harts rounds n can.0 can.1 can.3 (omega arith) in
    let done = done_at seed harts rounds in
    let at' = at_turn seed harts rounds n (omega arith) in
    let step : (h : ℕ) → (progress_at m h).step ≡ step.ReadAhead = λ h. start_at rounds h m.harts done in
    let round : (h : ℕ) → h < harts → (progress_at m h).round ≡ rounds =
    λ h small. (done h first_progress (omega (arith, small, at'.len))).round in
    let quiet : early m.messages ≡ [] =
    no_early (early m.messages)
    (λ h. (subst (λ (s : Step). IsBefore harts h s (progress_at m h) (seen m.messages h)) (step h)
    (well.work.each h)).early) in
    let turns : (h : ℕ) → h < harts → turns_of (progress_at m h) ≡ 5 * rounds =
    λ h small. ap (λ (s : Step). 5 * (progress_at m h).round + performed_before s) (step h)
    ∙ omega (arith, round h small) in
    let reached : (h : ℕ) → h < harts → retired_by (progress_at m h) ≡ 7 * rounds =
    λ h small. ap (λ (s : Step). retired_by (record (progress_at m h) { step = s })) (step h)
    ∙ omega (arith, round h small) in
    made_legal well.kept.log harts (length m.messages) m.counter rounds (progress_at m) (trace_of made_image m.messages)
    well.kept.logged well.kept.counted
    (made_trace harts m.counter rounds (progress_at m) m.messages well.kept turns reached quiet) turns

end_lawful : (seed harts rounds : ℕ) → CanMake harts rounds
    → Lawful made_image (said 0 (moment_of seed harts rounds (13 * harts * rounds)).messages ends)
end_lawful seed harts rounds can =
    let n = 13 * harts * rounds in
    let all = said 0 (moment_of seed harts rounds n).messages ends in
    let once : EndsOnce all = (refl, none_ends seed harts rounds n (omega arith)) in
    let words = (matched_in_words made_image all once).0 (end_clean seed harts rounds can) in
    record {
      ended = once;
      formed = words.0;
      stepped = words.1;
      written = words.2;
      paired = words.3;
      legal = end_legal seed harts rounds can;
    }

-- so each made stream is lawful
pub made_lawful : (seed harts rounds : ℕ) → CanMake harts rounds
    → Lawful made_image (reverse (made_messages seed harts rounds))
made_lawful seed harts rounds can =
    subst (Lawful made_image)
    (sym (reverse-reverse (said 0 (moment_of seed harts rounds (13 * harts * rounds)).messages ends)))
    (end_lawful seed harts rounds can)
