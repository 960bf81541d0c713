-- What each turn of a made stream keeps, where what gen_order_laws keeps is known before it.
use Rattle.std.proofs.Common.{ℕ, zero, suc, ◌≡◌, ◌+◌, ◌*◌, ◌^◌, ◌<◌, ◌≤◌, List, [], length, get_or, set}
use Rattle.std.proofs.Common.{refl, ap, sym, subst, arith, get_or-set_other, get_or-set_same}
use Rattle.msg_frames.specs.declared.message.Message.{Message}
use Rattle.trace_model.specs.Entries.{Entry}
use Rattle.trace_model.specs.Traces.{entries}
use Rattle.trace_gen.specs.declared.rounds.Step.{Step}
use Rattle.trace_gen.specs.declared.rounds.Step.TheVariants as step
use Rattle.trace_gen.specs.declared.rounds.Progress.{Progress}
use Rattle.trace_gen.specs.Program.{made_image}
use Rattle.trace_gen.specs.Rounds.{first_progress, sayings_at, moved_by}
use Rattle.trace_gen.specs.Schedule.{Moment, stepped}
use Rattle.trace_gen.specs.Making.{CanMake, before_turns, moment_of, opened}
use Rattle.trace_gen.proofs.Fitting.{AreSaid, are_said}
use Rattle.trace_gen.proofs.Turns.{each_turn}
use Rattle.gen_laws.proofs.Says.{seen, Runs, Left, say_all}
use Rattle.gen_laws.proofs.States.{IsBefore}
use Rattle.gen_laws.proofs.Clean.{at_first, goes, step_on, few_turns, few_rounds, get_or-replicate}
use Rattle.gen_order_laws.proofs.Counting.{nothing_counted}
use Rattle.gen_order_laws.proofs.Logs.{nothing_logged, turns_of}
use Rattle.gen_order_laws.proofs.Entered.{AreEntered, nothing_entered, retired_by}
use Rattle.gen_order_laws.proofs.Kept.{IsKept, Pending, fates_of}
use Rattle.gen_order_laws.proofs.KeptSteps.{Grown, kept_read_ahead, kept_insert_store, kept_read_counter}
use Rattle.gen_order_laws.proofs.KeptSteps.{kept_read_again, kept_write_store, kept_add_one}
use Rattle.gen_order_laws.proofs.KeptRetires.{kept_retire_read, kept_retire_store, kept_forward_store, kept_retire_add}
use Rattle.gen_order_laws.proofs.KeptRetires.{kept_retire_fence, kept_retire_read_again, kept_retire_jump}
use Rattle.gen_order_laws.proofs.Lawful.{IsWell, progress_at}

no_entries : (harts h : ℕ) → entries made_image (opened harts h) ≡ []
no_entries harts zero = refl
no_entries harts (suc h) = no_entries harts h

pub kept_first : (seed harts : ℕ) → IsKept harts 0 (progress_at (before_turns seed harts)) (opened harts harts)
kept_first seed harts =
    let same : (h : ℕ) → progress_at (before_turns seed harts) h ≡ first_progress =
    λ h. get_or-replicate harts h first_progress in
    record {
      log = [];
      logged =
          nothing_logged harts (length (opened harts harts)) (progress_at (before_turns seed harts))
          (λ h. ap turns_of (same h));
      counted = nothing_counted;
      entered =
          subst (λ (es : List Entry). AreEntered [] es harts (λ h. retired_by (progress_at
          (before_turns seed harts) h)))
          (sym (no_entries harts harts))
          (nothing_entered harts (λ h. retired_by (progress_at (before_turns seed harts) h))
          (λ h. ap retired_by (same h)));
      written = λ f i. absurd i;
      pending = λ h small.
          subst (λ (p : Progress). Pending p.step [] (seen (opened harts harts) h) (fates_of
          (opened harts harts) h) h p)
          (sym (same h)) tt;
    }

module _ (harts h c : ℕ) (old new : ℕ → Progress) (before : List Message) (kept : IsKept harts c old before)
    (runs : Runs harts before) (mine : h < harts) (h16 : h < 16)
    (others : (g : ℕ) → (h ≡ g → ⊥) → new g ≡ old g) where
  grown : (s : Step) → AreSaid h (sayings_at s h c (old h)) → Grown harts h c old new before kept runs mine h16 others s
  grown step.ReadAhead are = kept_read_ahead harts h c old new before kept runs mine h16 others
  grown step.ReadCounter are = kept_read_counter harts h c old new before kept runs mine h16 others
  grown step.RetireRead are = kept_retire_read harts h c old new before kept runs mine h16 others
  grown step.RetireStore are = kept_retire_store harts h c old new before kept runs mine h16 others
  grown step.ForwardStore are = kept_forward_store harts h c old new before kept runs mine h16 others are
  grown step.InsertStore are = kept_insert_store harts h c old new before kept runs mine h16 others
  grown step.WriteStore are = kept_write_store harts h c old new before kept runs mine h16 others
  grown step.AddOne are = kept_add_one harts h c old new before kept runs mine h16 others
  grown step.RetireAdd are = kept_retire_add harts h c old new before kept runs mine h16 others
  grown step.RetireFence are = kept_retire_fence harts h c old new before kept runs mine h16 others
  grown step.ReadAgain are = kept_read_again harts h c old new before kept runs mine h16 others
  grown step.RetireReadAgain are = kept_retire_read_again harts h c old new before kept runs mine h16 others
  grown step.RetireJump are = kept_retire_jump harts h c old new before kept runs mine h16 others

-- a hart of those that there are is chosen
pub record IsTurn (harts h : ℕ) (m : Moment) : Type 0 where
  pub mine : h < harts
  pub high : harts ≤ 16
  pub small : h < length m.harts
  pub c64 : m.counter + 1 < 2 ^ 64
  pub r32 : (progress_at m h).round < 2 ^ 32

module _ (harts h : ℕ) (m : Moment) (turn : IsTurn harts h m) (well : IsWell harts m) where
  -- what it says can be said
  pub said_at : AreSaid h (sayings_at (progress_at m h).step h m.counter (progress_at m h))
  said_at =
      let p = progress_at m h in
      let b = well.work.each h in
      are_said h m.counter p (omega (arith, turn.mine, turn.high)) turn.r32 turn.c64 b.taken (omega (arith, b.added))
      p.step

  pub left_at : Left harts h m.messages (stepped h m).messages
      (IsBefore harts h (moved_by (progress_at m h).step m.counter (progress_at m h)).step
      (moved_by (progress_at m h).step m.counter (progress_at m h)))
  left_at =
      let p = progress_at m h in
      let moved = moved_by p.step m.counter p in
      say_all harts h (sayings_at p.step h m.counter p) m.messages (IsBefore harts h moved.step moved) turn.mine
      well.work.runs said_at
      (goes harts h m.counter p turn.mine (omega (arith, turn.mine, turn.high)) turn.c64 p.step (length m.messages)
      (seen m.messages h) (well.work.each h))

  pub well_step : IsWell harts (stepped h m)
  well_step =
      let p = progress_at m h in
      let moved = moved_by p.step m.counter p in
      let h16 : h < 16 = omega (arith, turn.mine, turn.high) in
      let new : ℕ → Progress = λ g. get_or (set m.harts h moved) g first_progress in
      let others : (g : ℕ) → (h ≡ g → ⊥) → new g ≡ progress_at m g =
      λ g apart. get_or-set_other m.harts h g moved first_progress (λ e. apart (sym e)) in
      record {
        work = step_on harts h m turn.mine turn.high turn.small turn.c64 turn.r32 well.work;
        kept =
            grown harts h m.counter (progress_at m) new m.messages well.kept well.work.runs turn.mine h16 others p.step
            said_at refl (well.work.each h)
            (get_or-set_same m.harts h moved first_progress turn.small) left_at.others;
      }

-- what holds before the first turn, and what no random number changes and each turn keeps, holds after so many
module _ (seed harts rounds : ℕ) (can : CanMake harts rounds) (P : Moment → Type 0)
    (first : P (before_turns seed harts))
    (any : (m : Moment) (random : ℕ) → P m → P (record m { random = random }))
    (keeps : (h : ℕ) (m : Moment) → IsTurn harts h m → IsWell harts m → P m → P (stepped h m)) where
  abbrev Both : Moment → Type 0
  Both m = IsWell harts m × P m

  pub each_well : (n : ℕ) → n ≤ 13 * harts * rounds
      → IsWell harts (moment_of seed harts rounds n) × P (moment_of seed harts rounds n)
  each_well n le =
      each_turn seed harts rounds Both
      (record { work = at_first seed harts can.0 can.1; kept = kept_first seed harts }, first)
      (λ m random b. (
        record {
          work = record { runs = b.0.work.runs; each = b.0.work.each };
          kept = b.0.kept;
        },
        any m random b.1,
      ))
      (λ k h m at' chosen b.
      let turn : IsTurn harts h m = record {
        mine = omega (arith, chosen.hart, at'.len);
        high = can.1;
        small = chosen.hart;
        c64 = omega (arith, at'.counter, few_turns harts rounds k m at', can.3);
        r32 = omega (arith, chosen.left, few_rounds harts rounds can.0 can.3);
      } in
      (well_step harts h m turn b.0, keeps h m turn b.0 b.1))
      n le
