-- A stream is accepted exactly where it is lawful and its messages are not more than the limit.
use Rattle.std.proofs.Common.{◌≡◌, ℕ, ◌+◌, ◌≤◌, ◌↔◌, Bool, true, false, cond, List, [], ◌∷◌}
use Rattle.std.proofs.Common.{length, reverse}
use Rattle.std.proofs.Common.{Option, None, Some, option_map, inl, inr, ◌⊎◌, refl, sym, ap, subst, ◌∙◌, arith}
use Rattle.std.proofs.lemmas.Bool.{false≢true}
use Rattle.std.proofs.lemmas.List.{length-reverse}
use Rattle.tandem_base.specs.FirstFault.{◌or_else◌}
use Rattle.msg_frames.specs.declared.message.Message.{Message}
use Rattle.msg_frames.specs.Cut.{Ending, End, Bad, Short, is_end, cut}
use Rattle.elf_image.specs.Images.{Loaded}
use Rattle.verdict_report.specs.declared.fault.Fault.{Fault}
use Rattle.order_laws.specs.Decisions.{Decision, Offends, Passes, Accepts, decision_at, Decided, first_decision}
use Rattle.order_laws.specs.Faults.{message_fault}
use Rattle.order_laws.specs.Lawful.{Lawful}
use Rattle.order_laws.specs.Limits.{Bounds, Overrun, overrun_of, StaysInBounds}
use Rattle.order_laws.proofs.FirstDecisions.{accepts_exactly_lawful}
use Rattle.matching.specs.Settings.{number_after}
use Rattle.tandem_core.specs.declared.limits.Limits.{Limits}
use Rattle.tandem_core.specs.Headline.{IsAccept, AcceptsLawfulStreams}
use Rattle.tandem_core.specs.Judgements.{bounds_of, verdict_of, judge_from, first_given}
use Rattle.tandem_core.specs.Runs.{offset_of}
use Rattle.tandem_core.proofs.CutShape.{IsShaped, cut_shaped, shaped_fit}

-- a decision accepts
abbrev IsAccepts : Option Decision → Type 0
IsAccepts None = ⊥
IsAccepts (Some (Offends f)) = ⊥
IsAccepts (Some (Passes o)) = ⊥
IsAccepts (Some Accepts) = Unit {0}

abbrev IsAccepting : Option Decided → Type 0
IsAccepting None = ⊥
IsAccepting (Some d) = IsAccepts (Some d.decision)

-- only an End accepts, and at an End something is decided
accepts_end : (f : Option Fault) (o : Option Overrun) (b : Bool)
    → IsAccepts (option_map Offends f or_else option_map Passes o or_else cond b (Some Accepts) None) → b ≡ true
accepts_end (Some f) o b a = absurd a
accepts_end None (Some o) b a = absurd a
accepts_end None None true a = refl
accepts_end None None false a = absurd a

none_end : (f : Option Fault) (o : Option Overrun) (b : Bool)
    → (option_map Offends f or_else option_map Passes o or_else cond b (Some Accepts) None) ≡ None → b ≡ false
none_end (Some f) o b e = absurd (cc)
none_end None (Some o) b e = absurd (cc)
none_end None None true e = absurd (cc)
none_end None None false e = refl

module _ (image : Loaded) (limits : Limits) where
  abbrev bounds : Bounds
  bounds = bounds_of limits

  -- the last of the messages accepts, and it has this number
  abbrev AtLast : List Message → List Message → Type 0
  AtLast before later = first_decision image bounds before later
      ≡ Some (record { number = length before + length later; decision = Accepts })

  -- the verdict on shaped messages accepts exactly where the last of them does, and then the cut ended with the End
  on : (bytes : List ℕ) (before later : List Message) (e : Ending) → IsShaped later e
      → IsAccept (judge_from image limits bytes before later e).verdict → AtLast before later × (e ≡ End)
  unfolding judge_from
  on bytes before [] End s a = absurd s
  on bytes before [] (Bad f) s a = absurd a
  on bytes before [] (Short n) s a = absurd a
  on bytes before (m ∷ later) e s a = at (decision_at image bounds before m) refl a s.1
      (λ t b. on bytes (m ∷ before) later e t b)
    where
      ends : IsAccepts (decision_at image bounds before m) → is_end m.body ≡ true
      ends = accepts_end (message_fault image before m) (overrun_of image bounds (m ∷ before) m.head.hart)
          (is_end m.body)

      at : (d : Option Decision) → decision_at image bounds before m ≡ d
          → IsAccept (first_given (option_map (verdict_of image before m) d) (offset_of (m ∷ before))
          (length (m ∷ before)) (judge_from image limits bytes (m ∷ before) later e)).verdict
          → ((is_end m.body ≡ true) × (later ≡ []) × (e ≡ End)) ⊎ ((is_end m.body ≡ false) × IsShaped later e)
          → (IsShaped later e → IsAccept (judge_from image limits bytes (m ∷ before) later e).verdict
          → AtLast (m ∷ before) later × (e ≡ End)) → AtLast before (m ∷ later) × (e ≡ End)
      at (Some (Offends f)) q a t rec = absurd a
      at (Some (Passes o)) q a t rec = absurd a
      at (Some Accepts) q a (inl t) rec = (
        ap (λ (d : Option Decision). option_map (λ x. let z : Decided = record {
          number = number_after before;
          decision = x;
        } in z) d or_else first_decision image bounds (m ∷ before) later) q
            ∙ ap (λ (n : ℕ). Some (let z : Decided = record { number = n; decision = Accepts } in z))
            (let n : length later ≡ 0 = ap length t.1 in omega (arith, n)),
        t.2,
      )
      at (Some Accepts) q a (inr t) rec =
          absurd (false≢true (sym t.0 ∙ ends (subst IsAccepts (sym q) tt)))
      at None q a (inl t) rec =
          absurd (false≢true (sym (none_end (message_fault image before m)
          (overrun_of image bounds (m ∷ before) m.head.hart) (is_end m.body) q) ∙ t.0))
      at None q a (inr t) rec =
          let r = rec t.1 a in (
            ap (λ (d : Option Decision). option_map (λ x. let z : Decided = record {
              number = number_after before;
              decision = x;
            } in z) d or_else first_decision image bounds (m ∷ before) later) q
                ∙ r.0
                ∙ ap (λ (n : ℕ). Some (let z : Decided = record { number = n; decision = Accepts } in z))
                (omega arith),
            r.1,
          )

  back : (bytes : List ℕ) (before later : List Message) (e : Ending) (n : ℕ)
      → first_decision image bounds before later ≡ Some (record { number = n; decision = Accepts })
      → IsAccept (judge_from image limits bytes before later e).verdict
  unfolding judge_from
  back bytes before [] e n q = absurd (cc)
  back bytes before (m ∷ later) e n q =
      at (decision_at image bounds before m) q (λ r. back bytes (m ∷ before) later e n r)
    where
      at : (d : Option Decision) → (option_map (λ x. let z : Decided = record {
        number = number_after before;
        decision = x;
      } in z) d or_else first_decision image bounds (m ∷ before) later)
          ≡ Some (record { number = n; decision = Accepts })
          → (first_decision image bounds (m ∷ before) later ≡ Some (record { number = n; decision = Accepts })
          → IsAccept (judge_from image limits bytes (m ∷ before) later e).verdict)
          → IsAccept (first_given (option_map (verdict_of image before m) d) (offset_of (m ∷ before))
          (length (m ∷ before)) (judge_from image limits bytes (m ∷ before) later e)).verdict
      at None q rec = rec q
      at (Some Accepts) q rec = tt
      at (Some (Offends f)) q rec = absurd (subst IsAccepting (sym q) tt)
      at (Some (Passes o)) q rec = absurd (subst IsAccepting (sym q) tt)

  -- only the number of messages has a bound
  within : (messages : List Message) → StaysInBounds image bounds messages → length messages ≤ limits.messages
  within [] s = omega arith
  within (m ∷ before) s = s.1.number

  stays : (messages : List Message) → length messages ≤ limits.messages → StaysInBounds image bounds messages
  stays [] l = tt
  stays (m ∷ before) l = (
    stays before (omega (arith, l)),
    record { reads = λ h. tt; stores = λ h. tt; kept = λ h. tt; number = l },
  )

pub accepts_lawful_streams : AcceptsLawfulStreams
accepts_lawful_streams image limits bytes h = (
  (λ a.
      let r = on image limits bytes [] (cut bytes).messages (cut bytes).ending shape a in
      let l = law.0 (r.0 ∙ ap (λ (n : ℕ). Some (let z : Decided = record { number = n; decision = Accepts } in z))
      (omega arith)) in (
        record { ended = r.1; lawful = l.0 },
        subst (λ (n : ℕ). n ≤ limits.messages) (length-reverse (cut bytes).messages)
            (within image limits (reverse (cut bytes).messages) l.1),
      )),
  λ s. back image limits bytes [] (cut bytes).messages (cut bytes).ending (length (cut bytes).messages)
      (law.1 (
        s.0.lawful,
        stays image limits (reverse (cut bytes).messages)
            (subst (λ (n : ℕ). n ≤ limits.messages) (sym (length-reverse (cut bytes).messages)) s.1),
      )),
)
  where
    shape : IsShaped (cut bytes).messages (cut bytes).ending
    shape = cut_shaped bytes h

    law : (first_decision image (bounds_of limits) [] (cut bytes).messages
        ≡ Some (record { number = length (cut bytes).messages; decision = Accepts }))
        ↔ (Lawful image (reverse (cut bytes).messages)
        × StaysInBounds image (bounds_of limits) (reverse (cut bytes).messages))
    law = accepts_exactly_lawful image (bounds_of limits) (cut bytes).messages
        (shaped_fit (cut bytes).messages (cut bytes).ending shape)
