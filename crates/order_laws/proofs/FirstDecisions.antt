-- The decision on a list of messages is that at the first of them at which anything is decided.
use Rattle.std.proofs.Common.{ℕ, ◌+◌, ◌≡◌, List, [], ◌∷◌, ◌++◌, length, reverse, All, option_map, Option, Some}
use Rattle.std.proofs.Common.{None}
use Rattle.std.proofs.Common.{refl, sym, ap, subst, ◌∙◌, arith}
use Rattle.std.proofs.lemmas.List.{append_assoc, reverse-append, reverse-reverse, length-append}
use Rattle.std.proofs.lemmas.List.{length-reverse}
use Rattle.std.proofs.lemmas.List.Elements.{All-nil, All-cons, All-head, All-tail, All-append}
use Rattle.tandem_base.specs.FirstFault.{◌or_else◌}
use Rattle.msg_frames.specs.declared.message.Message.{Message}
use Rattle.msg_frames.specs.Frames.{Fits}
use Rattle.elf_image.specs.Images.{Loaded}
use Rattle.matching.specs.Settings.{number_after}
use Rattle.order_laws.specs.Decisions.{Decision, Accepts, decision_at, IsUndecided, Decided, first_decision}
use Rattle.order_laws.specs.Decisions.{IsFirstDecision}
use Rattle.order_laws.specs.Lawful.{Lawful, DecisionIsFirst, AcceptsExactlyLawful}
use Rattle.order_laws.specs.Limits.{Bounds, StaysInBounds}
use Rattle.order_laws.proofs.Accepting.{accepted_is_lawful}

-- one more message before the later ones
moved : (m : Message) (before later : List Message) → reverse (m ∷ before) ++ later ≡ reverse before ++ m ∷ later
moved m before later = ap (λ (l : List Message). l ++ later) (reverse-append (m ∷ []) before)
    ∙ append_assoc (reverse before) (m ∷ []) later

abbrev numbered : List Message → Decision → Decided
numbered before d = record { number = number_after before; decision = d }

module _ (image : Loaded) (bounds : Bounds) where
  found : (before later : List Message) (d : Decided) → IsUndecided image bounds before
      → first_decision image bounds before later ≡ Some d → IsFirstDecision image bounds (reverse before ++ later) d
  found before [] d u e = absurd (cc)
  found before (m ∷ later) d u e =
      at (decision_at image bounds before m) refl (λ q. found (m ∷ before) later d (u, q)) e
    where
      at : (o : Option Decision) → decision_at image bounds before m ≡ o
          → (decision_at image bounds before m ≡ None → first_decision image bounds (m ∷ before) later ≡ Some d
          → IsFirstDecision image bounds (reverse (m ∷ before) ++ later) d)
          → (option_map (numbered before) o or_else first_decision image bounds (m ∷ before) later) ≡ Some d
          → IsFirstDecision image bounds (reverse before ++ m ∷ later) d
      at (Some x) q rec e =
          let s : numbered before x ≡ d = cc in
          record {
            before = before;
            message = m;
            later = later;
            whole = refl;
            undecided = u;
            number = ap (λ (z : Decided). z.number) (sym s);
            here = q ∙ ap (λ (z : Decided). Some z.decision) s;
          }
      at None q rec e = subst (λ (l : List Message). IsFirstDecision image bounds l d) (moved m before later)
          (rec q e)

  -- what came before decides nothing
  passed_over : (older later : List Message) → IsUndecided image bounds older
      → first_decision image bounds [] (reverse older ++ later) ≡ first_decision image bounds older later
  passed_over [] later u = refl
  passed_over (n ∷ older) later u =
      ap (first_decision image bounds []) (moved n older later) ∙ passed_over older (n ∷ later) u.0
      ∙ ap (λ (o : Option Decision). option_map (numbered older) o
      or_else first_decision image bounds (n ∷ older) later) u.1

  pub is_first : (messages : List Message) (d : Decided) → IsFirstDecision image bounds messages d
      → first_decision image bounds [] messages ≡ Some d
  is_first messages d f =
      ap (first_decision image bounds []) f.whole ∙ passed_over f.before (f.message ∷ f.later) f.undecided
      ∙ ap (λ (o : Option Decision). option_map (numbered f.before) o
      or_else first_decision image bounds (f.message ∷ f.before) f.later) f.here
      ∙ ap (λ (n : ℕ). Some (let z : Decided = record { number = n; decision = d.decision } in z)) (sym f.number)

pub decision_is_first : DecisionIsFirst
decision_is_first image bounds messages d = (found image bounds [] messages d tt, is_first image bounds messages d)

-- ---- acceptance

all_reverse : (P : Message → Type 0) (xs : List Message) → All P xs → All P (reverse xs)
all_reverse P [] h = All-nil P
all_reverse P (x ∷ xs) h = subst (All P) (sym (reverse-append (x ∷ []) xs))
    (All-append P (reverse xs) (x ∷ []) (all_reverse P xs (All-tail P x xs h))
    (All-cons P x [] (All-head P x xs h) (All-nil P)))

module _ (image : Loaded) (bounds : Bounds) (messages : List Message) (fits : All Fits messages) where
  abbrev last : Decided
  last = record { number = length messages; decision = Accepts }

  accepts : IsFirstDecision image bounds messages last
      → Lawful image (reverse messages) × StaysInBounds image bounds (reverse messages)
  accepts f = at f.later f.whole
    where
      at : (later : List Message) → messages ≡ reverse f.before ++ f.message ∷ later
          → Lawful image (reverse messages) × StaysInBounds image bounds (reverse messages)
      at (n ∷ later) w = absurd (
          let e : length messages ≡ length (reverse f.before) + length (f.message ∷ n ∷ later) =
          ap length w ∙ length-append (reverse f.before) (f.message ∷ n ∷ later) in
          let r = length-reverse f.before in
          let k = f.number in
          omega arith)
      at [] w =
          let newest : reverse messages ≡ f.message ∷ f.before =
          ap reverse w ∙ reverse-append (reverse f.before) (f.message ∷ [])
          ∙ ap (λ (l : List Message). f.message ∷ l) (reverse-reverse f.before) in
          subst (λ (l : List Message). Lawful image l × StaysInBounds image bounds l) (sym newest)
          ((accepted_is_lawful image bounds (f.message ∷ f.before)
          (subst (All Fits) newest (all_reverse Fits messages fits))).0 (f.undecided, f.here))

  lawful : (l : List Message) → reverse messages ≡ l → Lawful image l → StaysInBounds image bounds l
      → IsFirstDecision image bounds messages last
  lawful [] e h s = absurd h.ended
  lawful (m ∷ before) e h s =
      let a = (accepted_is_lawful image bounds (m ∷ before) (subst (All Fits) e (all_reverse Fits messages fits))).1
      (h, s) in
      record {
        before = before;
        message = m;
        later = [];
        whole = sym (reverse-reverse messages) ∙ ap reverse e ∙ reverse-append (m ∷ []) before;
        undecided = a.0;
        number = sym (length-reverse messages) ∙ ap length e ∙ omega arith;
        here = a.1;
      }

pub accepts_exactly_lawful : AcceptsExactlyLawful
accepts_exactly_lawful image bounds messages fits = (
  (λ e. accepts image bounds messages fits (found image bounds [] messages _ tt e)),
  λ h. is_first image bounds messages _ (lawful image bounds messages fits (reverse messages) refl h.0 h.1),
)
