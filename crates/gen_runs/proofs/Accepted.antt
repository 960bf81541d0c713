-- A made stream that is as it was made is accepted.
use Rattle.std.proofs.Common.{◌≡◌, ℕ, ◌+◌, ◌*◌, ◌≤◌, List, [], ◌∷◌, length, reverse}
use Rattle.std.proofs.Common.{Option, None, Some, option_map, refl, sym, ap, subst, ◌∙◌, arith}
use Rattle.std.proofs.Common.{Bool, true, false, cond}
use Rattle.std.specs.Prelude.{Result, Ok, Err, IfOk}
use Rattle.std.specs.List.{filter}
use mathlib.Core.List.{reverse_aux}
use Rattle.std.proofs.lemmas.List.{length-reverse, nil_from_length}
use Rattle.tandem_base.specs.FirstFault.{◌or_else◌}
use Rattle.msg_frames.specs.declared.message.Body.{Body}
use Rattle.msg_frames.specs.declared.message.Body.TheVariants as body
use Rattle.msg_frames.specs.declared.message.Message.{Message}
use Rattle.msg_frames.specs.Cut.{Cut, Ending, End}
use Rattle.elf_image.specs.Images.{Loaded}
use Rattle.verdict_report.specs.declared.verdict.Verdict.{Verdict}
use Rattle.verdict_report.specs.declared.verdict.Verdict.TheVariants as verdict
use Rattle.matching.specs.Settings.{number_after}
use Rattle.matching.proofs.Reversed.{filter-reverse}
use Rattle.order_laws.specs.Decisions.{Decision, Offends, Passes, Accepts, decision_at, Decided, first_decision}
use Rattle.order_laws.specs.Decisions.{operations_of}
use Rattle.trace_gen.specs.Program.{made_image}
use Rattle.trace_gen.specs.Making.{CanMake, made_messages}
use Rattle.trace_gen.proofs.Numbers.{made_number}
use Rattle.gen_laws.specs.Laws.{does_retire}
use Rattle.gen_laws.proofs.RetireCounts.{retired_number}
use Rattle.gen_order_laws.proofs.Accepted.{made_accepted}
use Rattle.tandem_core.specs.declared.limits.Limits.{Limits}
use Rattle.tandem_core.specs.Limits.{ceilings}
use Rattle.tandem_core.specs.Judgements.{accept_of, bounds_of, verdict_of, judge_from, judgement, first_given}
use Rattle.tandem_core.specs.Runs.{is_retire, offset_of, retired_of}
use Rattle.gen_runs.specs.Accepting.{UnflippedStreamsAreAccepted, made_accept}
use Rattle.gen_runs.specs.Verdicts.{flipped, made_bytes, made_verdict}
use Rattle.gen_runs.proofs.FramesCut.{made_cut}

-- a decision accepts
abbrev Accepting : Decision → Type 0
Accepting (Offends f) = ⊥
Accepting (Passes o) = ⊥
Accepting Accepts = Unit {0}

abbrev IsAccepting : Option Decided → Type 0
IsAccepting None = ⊥
IsAccepting (Some d) = Accepting d.decision

-- its number
abbrev number_of : Option Decided → ℕ
number_of None = 0
number_of (Some d) = d.number

module _ (image : Loaded) (limits : Limits) (bytes : List ℕ) (e : Ending) where
  -- where the last message is the first at which something is decided, and accepts, the verdict accepts all
  last_accepts : (before later : List Message) (n : ℕ) → n ≡ length before + length later
      → first_decision image (bounds_of limits) before later ≡ Some (record { number = n; decision = Accepts })
      → (judge_from image limits bytes before later e).verdict ≡ accept_of image (reverse_aux later before)
  unfolding judge_from
  last_accepts before [] n is q = absurd (cc)
  last_accepts before (m ∷ later) n is q =
      at (decision_at image (bounds_of limits) before m) q (λ r. last_accepts (m ∷ before) later n (omega
      (arith, is)) r)
    where
      at : (d : Option Decision) → (option_map (λ x. let z : Decided = record {
        number = number_after before;
        decision = x;
      } in z) d or_else first_decision image (bounds_of limits) (m ∷ before) later)
          ≡ Some (record { number = n; decision = Accepts })
          → (first_decision image (bounds_of limits) (m ∷ before) later
          ≡ Some (record { number = n; decision = Accepts })
          → (judge_from image limits bytes (m ∷ before) later e).verdict
          ≡ accept_of image (reverse_aux later (m ∷ before)))
          → (first_given (option_map (verdict_of image before m) d) (offset_of (m ∷ before))
          (length (m ∷ before)) (judge_from image limits bytes (m ∷ before) later e)).verdict
          ≡ accept_of image (reverse_aux later (m ∷ before))
      at None q rec = rec q
      at (Some Accepts) q rec =
          let number : number_after before ≡ n = ap number_of q in
          let none : later ≡ [] = nil_from_length later (omega (arith, is, number)) in
          ap (λ (l : List Message). accept_of image (reverse_aux l (m ∷ before))) (sym none)
      at (Some (Offends f)) q rec = absurd (subst IsAccepting (sym q) tt)
      at (Some (Passes o)) q rec = absurd (subst IsAccepting (sym q) tt)

made_accepted_as : (seed harts rounds : ℕ) → CanMake harts rounds
    → made_verdict seed harts rounds None ≡ accept_of made_image (reverse (made_messages seed harts rounds))
made_accepted_as seed harts rounds can =
    let ms = made_messages seed harts rounds in
    let bytes = made_bytes seed harts rounds in
    let few : length ms ≤ 4000000000 = omega (arith, made_number seed harts rounds, can.1, can.3) in
    ap (λ (c : Cut). (judge_from made_image ceilings bytes [] c.messages c.ending).verdict)
    (made_cut seed harts rounds can)
    ∙ last_accepts made_image ceilings bytes End [] ms (length ms) (omega arith)
    (made_accepted seed harts rounds 4000000000 can few)

same_retires : (b : Body) → is_retire b ≡ does_retire b
same_retires (body.Open info) = refl
same_retires (body.Poke poke) = refl
same_retires (body.Read piece) = refl
same_retires (body.Insert piece) = refl
same_retires (body.Write write) = refl
same_retires (body.Bypass piece) = refl
same_retires (body.Retire retire) = refl
same_retires body.Squash = refl
same_retires body.End = refl

-- how many are Retires, told message by message
retires_are : (ms : List Message) → retired_of ms ≡ length (filter (λ (m : Message). does_retire m.body) ms)
retires_are [] = refl
retires_are (m ∷ before) =
    let rest : retired_of before ≡ length (filter (λ (m : Message). does_retire m.body) before) = retires_are before in
    ap (λ (b : Bool). cond b (retired_of before + 1) (retired_of before)) (same_retires m.body)
    ∙ at (does_retire m.body) rest
  where
    at : (b : Bool) → retired_of before ≡ length (filter (λ (m : Message). does_retire m.body) before)
        → cond b (retired_of before + 1) (retired_of before)
        ≡ length (cond b (m ∷ filter (λ (m : Message). does_retire m.body) before)
        (filter (λ (m : Message). does_retire m.body) before))
    at true rest = omega (arith, rest)
    at false rest = rest

-- as many as in the order of the stream
made_retires : (seed harts rounds : ℕ) → retired_of (reverse (made_messages seed harts rounds)) ≡ 7 * (harts * rounds)
made_retires seed harts rounds =
    let ms = made_messages seed harts rounds in
    retires_are (reverse ms) ∙ ap length (sym (filter-reverse (λ (m : Message). does_retire m.body) ms))
    ∙ length-reverse (filter (λ (m : Message). does_retire m.body) ms) ∙ retired_number seed harts rounds

pub unflipped_accepted : UnflippedStreamsAreAccepted
unflipped_accepted seed harts rounds can =
    let ms = made_messages seed harts rounds in
    let operations = operations_of made_image (reverse ms) in
    made_accepted_as seed harts rounds can
    ∙ ap (λ (n : ℕ). verdict.Accept n (retired_of (reverse ms)) operations)
    (length-reverse ms ∙ made_number seed harts rounds)
    ∙ ap (λ (n : ℕ). verdict.Accept (2 + 3 * harts + 15 * (harts * rounds)) n operations)
    (made_retires seed harts rounds)

-- so is what is judged of the image and the bytes of one
pub also_accepted : {E : Type 0} (seed harts rounds : ℕ) (flip : Option ℕ) (image : Loaded) (bytes : List ℕ)
    (r : Result Verdict E) → CanMake harts rounds → image ≡ made_image
    → bytes ≡ flipped flip (made_bytes seed harts rounds)
    → IfOk r (λ v. v ≡ (judgement image ceilings bytes).verdict)
    → IfOk r (λ v. flip ≡ None → v ≡ made_accept seed harts rounds)
also_accepted seed harts rounds flip image bytes (Ok v) can loaded are is = λ none.
    is ∙ ap (λ (x : Loaded). (judgement x ceilings bytes).verdict) loaded
    ∙ ap (λ (x : List ℕ). (judgement made_image ceilings x).verdict)
    (are ∙ ap (λ (f : Option ℕ). flipped f (made_bytes seed harts rounds)) none)
    ∙ unflipped_accepted seed harts rounds can
also_accepted seed harts rounds flip image bytes (Err e) can loaded are is = tt
