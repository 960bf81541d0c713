-- No message of a made stream but the last is an End.
use Rattle.std.proofs.Common.{ℕ, zero, suc, ◌≡◌, ◌*◌, ◌≤◌, List, [], ◌∷◌, get_or, false, refl}
use Rattle.std.proofs.Common.{arith}
use Rattle.std.specs.List.{All}
use Rattle.std.proofs.lemmas.List.Elements.{All-cons}
use Rattle.msg_frames.specs.declared.message.Message.{Message}
use Rattle.msg_frames.specs.Cut.{is_end}
use Rattle.trace_gen.specs.declared.rounds.Step.{Step}
use Rattle.trace_gen.specs.declared.rounds.Step.TheVariants as step
use Rattle.trace_gen.specs.declared.rounds.Progress.{Progress}
use Rattle.trace_gen.specs.declared.saying.Saying.{Saying}
use Rattle.trace_gen.specs.Rounds.{sayings_at, first_progress}
use Rattle.trace_gen.specs.Schedule.{said, all_said}
use Rattle.trace_gen.specs.Making.{moment_of, opened, registers_of}
use Rattle.trace_gen.proofs.Turns.{each_turn}

-- not an End
abbrev pub IsNoEnd : Message → Type 0
IsNoEnd m = is_end m.body ≡ false

abbrev AreNoEnds : List Saying → Type 0
AreNoEnds [] = Unit {0}
AreNoEnds (s ∷ later) = (is_end s.body ≡ false) × AreNoEnds later

no_ends : (s : Step) (h c : ℕ) (p : Progress) → AreNoEnds (sayings_at s h c p)
no_ends step.ReadAhead h c p = (refl, tt)
no_ends step.ReadCounter h c p = (refl, tt)
no_ends step.RetireRead h c p = (refl, tt)
no_ends step.RetireStore h c p = (refl, tt)
no_ends step.ForwardStore h c p = (refl, (refl, tt))
no_ends step.InsertStore h c p = (refl, tt)
no_ends step.WriteStore h c p = (refl, tt)
no_ends step.AddOne h c p = (refl, (refl, tt))
no_ends step.RetireAdd h c p = (refl, tt)
no_ends step.RetireFence h c p = (refl, tt)
no_ends step.ReadAgain h c p = (refl, tt)
no_ends step.RetireReadAgain h c p = (refl, tt)
no_ends step.RetireJump h c p = (refl, tt)

said_no_ends : (h : ℕ) (before : List Message) (ss : List Saying) → AreNoEnds ss → All IsNoEnd before
    → All IsNoEnd (all_said h before ss)
said_no_ends h before [] are all = all
said_no_ends h before (s ∷ later) are all =
    said_no_ends h (said h before s) later are.1 (All-cons IsNoEnd _ before are.0 all)

opened_no_ends : (harts h : ℕ) → All IsNoEnd (opened harts h)
opened_no_ends harts zero = All-cons IsNoEnd _ [] refl (λ k d lt. absurd (omega (arith, lt)))
opened_no_ends harts (suc h) =
    said_no_ends h (opened harts h) (registers_of h) (refl, (refl, (refl, tt))) (opened_no_ends harts h)

-- at each turn
pub none_ends : (seed harts rounds n : ℕ) → n ≤ 13 * harts * rounds
    → All IsNoEnd (moment_of seed harts rounds n).messages
none_ends seed harts rounds n le =
    each_turn seed harts rounds (λ m. All IsNoEnd m.messages) (opened_no_ends harts harts) (λ m random all. all)
    (λ k h m at' chosen all.
    let p = get_or m.harts h first_progress in
    said_no_ends h m.messages (sayings_at p.step h m.counter p) (no_ends p.step h m.counter p) all)
    n le
