-- The answers to an SC, whatever trace the tables stand for.
use Rattle.std.proofs.Common.{ℕ, Option, Some, None, sym, subst}
use Rattle.tandem_base.specs.declared.extent.Extent.{Extent}
use Rattle.byte_memory.specs.declared.capture.StoreCapture.{StoreCapture}
use Rattle.amo_pairing.specs.Breaches.{IsScJudged, IsAnswered}
use Rattle.amo_pairing.specs.declared.reservation.Reservation.{Reservation}
use Rattle.amo_pairing.specs.declared.sc.Sc.{Sc}
use Rattle.amo_pairing.specs.declared.sc.Sc.TheVariants as sc
use Rattle.amo_pairing.specs.Reservations.{IsOpenLr, IsOfOpenLr}
use Rattle.amo_pairing.specs.ScAnswers.{TellsPair, TellsAtomicity}
use Rattle.amo_pairing.proofs.Atomic.{says_atomicity}
use Rattle.amo_pairing.proofs.Blamed.{added, opened}
use Rattle.amo_pairing.proofs.Pairs.{pair_open, says_pair}

pub none_pair : (h : ℕ) (extent : Extent) → TellsPair None h extent sc.NoPair
none_pair h extent initial t t' r w none m hart same l p =
    none l.name.tag (subst (λ (g : ℕ). IsOpenLr t g l.name.tag) hart (pair_open t t' r w m l p))

pub none_atomic : (h : ℕ) (extent : Extent) (seen : StoreCapture) → TellsAtomicity None h extent seen sc.NoPair
none_atomic h extent seen initial t t' w a =
    let p = (added initial t t' w None h extent seen a).1.pair a.conditional in
    a.keeps p.0.name.tag (opened initial t t' w None h extent seen a p.0 p.1)

pub judged_pair : (kept : Reservation) (h : ℕ) (extent : Extent) (seen : StoreCapture) (answer : Sc)
    → IsScJudged kept h extent seen answer → TellsPair (Some kept) h extent answer
judged_pair kept h extent seen answer j initial t t' r w p m hart same =
    says_pair t t' r w m p.0 (subst (λ (g : ℕ). IsOfOpenLr t g p.0) (sym hart) p.1) kept p.2.extent h seen answer
    (subst (λ (e : Extent). IsScJudged kept h e seen answer) (sym same) j)

pub judged_atomic : (kept : Reservation) (h : ℕ) (extent : Extent) (seen : StoreCapture) (answer : Sc)
    → IsScJudged kept h extent seen answer → TellsAtomicity (Some kept) h extent seen answer
judged_atomic kept h extent seen answer j initial t t' w a =
    says_atomicity initial t t' w (Some kept) h extent seen a a.keeps.0 a.keeps.1 kept a.keeps.2 answer j

pub tells_pair : (kept : Option Reservation) (h : ℕ) (extent : Extent) (seen : StoreCapture) (answer : Sc)
    → IsAnswered kept h extent seen answer → TellsPair kept h extent answer
tells_pair None h extent seen answer e = subst (λ (z : Sc). TellsPair None h extent z) (sym e) (none_pair h extent)
tells_pair (Some r) h extent seen answer j = judged_pair r h extent seen answer j

pub tells_atomicity : (kept : Option Reservation) (h : ℕ) (extent : Extent) (seen : StoreCapture) (answer : Sc)
    → IsAnswered kept h extent seen answer → TellsAtomicity kept h extent seen answer
tells_atomicity None h extent seen answer e =
    subst (λ (z : Sc). TellsAtomicity None h extent seen z) (sym e) (none_atomic h extent seen)
tells_atomicity (Some r) h extent seen answer j = judged_atomic r h extent seen answer j
