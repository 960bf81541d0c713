-- Messages are accepted exactly where they are lawful and no count was over its bound.
use Rattle.std.proofs.Common.{◌≡◌, Bool, true, false, cond, List, [], ◌∷◌, All, option_map, Option}
use Rattle.std.proofs.Common.{Some}
use Rattle.std.proofs.Common.{None, refl}
use Rattle.std.proofs.lemmas.List.Elements.{All-nil, All-cons, All-head, All-tail}
use Rattle.tandem_base.specs.FirstFault.{◌or_else◌}
use Rattle.msg_frames.specs.declared.message.Message.{Message}
use Rattle.msg_frames.specs.Cut.{is_end}
use Rattle.msg_frames.specs.Frames.{Fits}
use Rattle.elf_image.specs.Images.{Loaded}
use Rattle.verdict_report.specs.declared.fault.Fault.{Fault}
use Rattle.order_laws.specs.Decisions.{Decision, Offends, Passes, Accepts, IsUndecided}
use Rattle.order_laws.specs.Faults.{message_fault, IsFaultless}
use Rattle.order_laws.specs.Lawful.{EndsOnce, Lawful, IsAcceptedList, AcceptedIsLawful}
use Rattle.order_laws.specs.Limits.{Bounds, Overrun, overrun_of, StaysInBounds}
use Rattle.order_laws.proofs.Counting.{newest_in_bounds, none_over, over_none}
use Rattle.order_laws.specs.Prefixes.{IsLegal}
use Rattle.order_laws.proofs.Faultless.{faultless_legal, legal_faultless}
use Rattle.order_laws.proofs.InWords.{matched_in_words}
use Rattle.matching.specs.Matching.{IsClean}

-- ---- what is decided at a message

-- by its first fault, its first count over a bound, and whether it is the End
abbrev decided_by : Option Fault → Option Overrun → Bool → Option Decision
decided_by f o b = option_map Offends f or_else option_map Passes o or_else cond b (Some Accepts) None

record Nothing (f : Option Fault) (o : Option Overrun) (b : Bool) : Type 0 where
  fault : f ≡ None
  over : o ≡ None
  more : b ≡ false

nothing_decided : (f : Option Fault) (o : Option Overrun) (b : Bool) → decided_by f o b ≡ None → Nothing f o b
nothing_decided (Some f) o b e = absurd (cc)
nothing_decided None (Some o) b e = absurd (cc)
nothing_decided None None true e = absurd (cc)
nothing_decided None None false e = record { fault = refl; over = refl; more = refl }

record Accepting (f : Option Fault) (o : Option Overrun) (b : Bool) : Type 0 where
  fault : f ≡ None
  over : o ≡ None
  last : b ≡ true

accepting : (f : Option Fault) (o : Option Overrun) (b : Bool) → decided_by f o b ≡ Some Accepts → Accepting f o b
accepting (Some f) o b e = absurd (cc)
accepting None (Some o) b e = absurd (cc)
accepting None None true e = record { fault = refl; over = refl; last = refl }
accepting None None false e = absurd (cc)

-- ---- a list

-- all that is known where nothing was decided
record Quiet (image : Loaded) (bounds : Bounds) (messages : List Message) : Type 0 where
  faultless : IsFaultless image messages
  bounded : StaysInBounds image bounds messages
  going : All (λ n. is_end n.body ≡ false) messages

quiet : (image : Loaded) (bounds : Bounds) (messages : List Message) → All Fits messages
    → IsUndecided image bounds messages → Quiet image bounds messages
quiet image bounds [] fits u = record { faultless = tt; bounded = tt; going = All-nil (λ n. is_end n.body ≡ false) }
quiet image bounds (m ∷ before) fits u =
    let old = quiet image bounds before (All-tail Fits m before fits) u.0 in
    let new = nothing_decided (message_fault image before m) (overrun_of image bounds (m ∷ before) m.head.hart)
    (is_end m.body) u.1 in
    record {
      faultless = (old.faultless, All-head Fits m before fits, new.fault);
      bounded = (
        old.bounded,
        none_over image bounds before m (newest_in_bounds image bounds before old.bounded) new.over,
      );
      going = All-cons (λ n. is_end n.body ≡ false) m before new.more old.going;
    }

undecided : (image : Loaded) (bounds : Bounds) (messages : List Message) → IsFaultless image messages
    → StaysInBounds image bounds messages → All (λ n. is_end n.body ≡ false) messages
    → IsUndecided image bounds messages
undecided image bounds [] f s g = tt
undecided image bounds (m ∷ before) f s g = (
  undecided image bounds before f.0 s.0 (All-tail (λ n. is_end n.body ≡ false) m before g),
  rw (f.2, over_none image bounds before m s.1, All-head (λ n. is_end n.body ≡ false) m before g) refl,
)

-- a list that ends once is lawful where all messages match and the order is legal
lawful_of : (image : Loaded) (messages : List Message) → EndsOnce messages → IsClean image messages
    → IsLegal image messages → Lawful image messages
lawful_of image messages ends c l =
    let w = (matched_in_words image messages ends).0 c in
    record { ended = ends; formed = w.0; stepped = w.1; written = w.2; paired = w.3; legal = l }

matched_of : (image : Loaded) (messages : List Message) → Lawful image messages → IsClean image messages
matched_of image messages h =
    (matched_in_words image messages h.ended).1 (h.formed, h.stepped, h.written, h.paired)

pub accepted_is_lawful : AcceptedIsLawful
accepted_is_lawful image bounds [] fits = ((λ a. absurd a), λ h. absurd h.0.ended)
accepted_is_lawful image bounds (m ∷ before) fits = (on, back)
  where
    on : IsAcceptedList image bounds (m ∷ before) → Lawful image (m ∷ before) × StaysInBounds image bounds (m ∷ before)
    on a =
        let old = quiet image bounds before (All-tail Fits m before fits) a.0 in
        let new = accepting (message_fault image before m) (overrun_of image bounds (m ∷ before) m.head.hart)
        (is_end m.body) a.1 in
        let l = faultless_legal image (m ∷ before) (old.faultless, All-head Fits m before fits, new.fault) in (
          lawful_of image (m ∷ before) (new.last, old.going) l.0 l.1,
          (
            old.bounded,
            none_over image bounds before m (newest_in_bounds image bounds before old.bounded) new.over,
          ),
        )

    back : Lawful image (m ∷ before) × StaysInBounds image bounds (m ∷ before)
        → IsAcceptedList image bounds (m ∷ before)
    back h =
        let f = legal_faultless image (m ∷ before) (matched_of image (m ∷ before) h.0) h.0.legal in (
          undecided image bounds before f.0 h.1.0 h.0.ended.1,
          rw (f.2, over_none image bounds before m h.1.1, h.0.ended.0) refl,
        )
