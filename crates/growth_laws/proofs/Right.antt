-- A growth of a legal trace is legal exactly where what it adds is right.
use Rattle.std.proofs.Common.{ℕ, zero, suc, ◌<◌, inl, inr, List, arith}
use Rattle.rvwmo_model.specs.declared.instructions.Retired.{Retired}
use Rattle.rvwmo_model.specs.declared.operations.Op.{Op}
use Rattle.rvwmo_model.specs.declared.preserved.Rule.{Rule}
use Rattle.rvwmo_model.specs.declared.traces.Trace.{Trace}
use Rattle.rvwmo_model.specs.Rules.{Broken}
use Rattle.rvwmo_model.specs.Legal.{Legal}
use Rattle.rvwmo_model.specs.Report.{number}
use Rattle.growth_laws.specs.Kinds.{WellKinded}
use Rattle.growth_laws.specs.Growth.{grow_same, grow_early, grow_insn, grow_stores}
use Rattle.growth_laws.specs.Laws.{WrongOnlyBy, WrongByStores}
use Rattle.growth_laws.specs.Corollaries.{IsRight, AreInOrder, LegalWhereRight}
use Rattle.growth_laws.proofs.FaultSteps.{early_breaks_nothing, insn_breaks_its_own}
use Rattle.growth_laws.proofs.FaultStores.{stores_break_pairs}
use Rattle.growth_laws.proofs.Growths.{keeps_kinded}

-- the instruction r alone can be wrong, and isn't
insn_right : (initial : ℕ → ℕ) (t : Trace) (r : Retired) → WellKinded t → WrongOnlyBy initial t r → IsRight initial t r
    → Legal initial t
insn_right initial t r k only right = record {
  ordered = λ j a b p. right.ordered j a b (only.pairs j a b p) p;
  valued = λ i x v. right.valued i x (only.values i x v) v;
  paired = λ w u. let l = k.paired w u.sc_in u.stored in u.alone l.0 l.1 l.2;
  atomic = λ l w p. right.atomic l w (only.atomicity l w p) p;
}

-- where the least broken rule can't be, none is broken
none_broken : (initial : ℕ → ℕ) (t : Trace) (parts : List Op) → WrongByStores initial t parts → AreInOrder t parts
    → (n : ℕ) (j : Rule) → number j < n → (a b : Op) → Broken j t a b → ⊥
none_broken initial t parts wrong right zero j l a b p = absurd (omega arith)
none_broken initial t parts wrong right (suc n) j l a b p =
    right j a b (wrong.rule j a b (λ i m. none_broken initial t parts wrong right n i (omega arith)) p)
    (wrong.pair j a b (λ i m. none_broken initial t parts wrong right n i (omega arith)) p) p

stores_right : (initial : ℕ → ℕ) (t : Trace) (parts : List Op) → WrongByStores initial t parts → AreInOrder t parts
    → Legal initial t
stores_right initial t parts wrong right =
    wrong.only_pairs (λ h. none_broken initial t parts wrong right (suc (number h.0)) h.0 (omega arith) h.1 h.2 h.3)

pub legal_where_right : LegalWhereRight
legal_where_right initial t t' (grow_same s) k legal =
    ((λ h. early_breaks_nothing initial t t' k legal (inl s)), λ l. tt)
legal_where_right initial t t' (grow_early e s) k legal =
    ((λ h. early_breaks_nothing initial t t' k legal (inr (e, s))), λ l. tt)
legal_where_right initial t t' (grow_insn r new s) k legal = (
  insn_right initial t' r (keeps_kinded t t' k (grow_insn r new s)) (insn_breaks_its_own initial t t' r new k legal s),
  λ l. record {
    ordered = λ j a b mine p. l.ordered j a b p;
    valued = λ i x mine v. l.valued i x v;
    atomic = λ l' w mine p. l.atomic l' w p;
  },
)
legal_where_right initial t t' (grow_stores h parts s) k legal = (
  stores_right initial t' parts (stores_break_pairs initial t t' h parts k legal s),
  λ l j a b r m p. l.ordered j a b p,
)
