-- Reports that came before a message came before the next one.
use Rattle.std.proofs.Common.{ℕ, ◌≡◌, ◌+◌, ◌∷◌, List, [], true, subst, sym}
use Rattle.std.proofs.lemmas.Bool.Decides.{nat_tests}
use Rattle.std.proofs.Common.{arith}
use Rattle.tandem_base.specs.declared.names.Position.{Position}
use Rattle.tandem_base.specs.declared.room.Took.{Took}
use Rattle.tandem_base.specs.declared.room.Took.TheVariants.{Yes, Full}
use Rattle.tandem_base.specs.Places.{comes_before}
use Rattle.tag_window.specs.declared.reports.Read.{Read}
use Rattle.tag_window.specs.declared.reports.Early.{Early}
use Rattle.tag_window.specs.Windows.{Tagged, after_one, places_of_reads, places_of_bypasses, AllEarlier}

-- the place of a message
abbrev pub at : ℕ → Position
at message = record { message = message; insert = message }

next : (p : Position) (n : ℕ) → comes_before p (at n) ≡ true → comes_before p (at (n + 1)) ≡ true
next p n e = grind (arith, nat_tests)

pub its_next : (n : ℕ) → comes_before (at n) (at (n + 1)) ≡ true
its_next n = grind (arith, nat_tests)

pub all_next : (n : ℕ) (ps : List Position) → AllEarlier (at n) ps → AllEarlier (at (n + 1)) ps
all_next n [] h = tt
all_next n (p ∷ ps) h = (next p n h.0, all_next n ps h.1)

pub reads_next : (took : Took) (n tag : ℕ) (r : Read) (rs : List (Tagged Read)) → r.seen.place ≡ at n
    → AllEarlier (at n) (places_of_reads rs)
    → AllEarlier (at (n + 1)) (places_of_reads (after_one took (record { tag = tag; item = r }) rs))
reads_next Yes n tag r rs e h = (
  subst (λ (p : Position). comes_before p (at (n + 1)) ≡ true) (sym e) (its_next n),
  all_next n (places_of_reads rs) h,
)
reads_next (Full m) n tag r rs e h = all_next n (places_of_reads rs) h

pub bypasses_next : (took : Took) (n tag : ℕ) (b : Early) (bs : List (Tagged Early)) → b.seen.seen.place ≡ at n
    → AllEarlier (at n) (places_of_bypasses bs)
    → AllEarlier (at (n + 1)) (places_of_bypasses (after_one took (record { tag = tag; item = b }) bs))
bypasses_next Yes n tag b bs e h = (
  subst (λ (p : Position). comes_before p (at (n + 1)) ≡ true) (sym e) (its_next n),
  all_next n (places_of_bypasses bs) h,
)
bypasses_next (Full m) n tag b bs e h = all_next n (places_of_bypasses bs) h
