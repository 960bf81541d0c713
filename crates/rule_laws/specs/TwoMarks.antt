-- The two marks of a byte: of the loads that may be first by rule 2, the latest, and the latest with another source.
use Rattle.std.specs.Prelude.{ℕ, ◌<◌, ◌≡◌, ◌≢◌, Option, None, Some, true, false, if◌then◌else◌}
use Rattle.tandem_base.specs.declared.names.Origin.{Origin}
use Rattle.rvwmo_model.specs.declared.operations.Op.{Op}
use Rattle.rvwmo_model.specs.declared.traces.Trace.{Trace}
use Rattle.rvwmo_model.specs.Order.{Standing, precedes, reads, writes}
use Rattle.rvwmo_model.specs.Sources.{later, origin}
use Rattle.rvwmo_model.specs.Tests.{same_origin}
use Rattle.window_laws.specs.Latest.{IsLatestIfAny}
use Rattle.rule_laws.specs.Above.{Over, if_over}
use Rattle.rule_laws.specs.Own.{IsOwn}

-- v is a load of byte x by hart h, and no store of the hart to x is after it in program order
abbrev pub LoadsLast : Trace → ℕ → ℕ → Op → Type 0
LoadsLast t h x v = IsOwn t h v × (reads x v ≡ true)
    × ((o : Op) → IsOwn t h o → v.name.tag < o.name.tag → writes x o ≡ false)

-- and its source isn't s
abbrev pub LoadsOther : Trace → ℕ → ℕ → Option Origin → Op → Type 0
LoadsOther t h x s v = LoadsLast t h x v × (origin t v x ≢ s)

-- of the operations that have a property one is the latest, and two the latest whose source differs from that of one;
-- where there is no one there is no two
pub record TwoMarks (P : Op → Type 0) (key : Op → Option Origin) (one two : Option Op) : Type 0 where
  pub first : IsLatestIfAny P one
  pub second : (a : Op) → one ≡ Some a → IsLatestIfAny (λ v. P v × (key v ≢ key a)) two
  pub neither : one ≡ None → two ≡ None

-- the latest of them whose source isn't s
abbrev pub other_mark : (Op → Option Origin) → Option Origin → Option Op → Option Op → Option Op
other_mark key s None two = None
other_mark key s (Some a) two = if same_origin (key a) s then two else Some a

-- the second mark, where c is one more
abbrev pub second_mark : (Op → Option Origin) → Option Op → Option Op → Op → Option Op
second_mark key None two c = None
second_mark key (Some a) two c =
    if same_origin (key a) (key c) then two else (if precedes a c then Some a else later two c)

-- one and two are the two marks of byte x of hart h, as far as they stand after q; one that doesn't may be anything
abbrev pub AreTwoMarks : Trace → ℕ → ℕ → Standing → Option Op → Option Op → Type 0
AreTwoMarks t h x q one two =
    TwoMarks (Over (LoadsLast t h x) q) (λ v. origin t v x) (if_over q one) (if_over q two)
