-- Ranges in the order of their bases, each all_reaching to reach as far as those before it.
use Rattle.std.proofs.Common.{◌≡◌, ◌∙◌, ℕ, zero, suc, ◌≤◌, Bool, true, false, cond, ◌||◌, List, [], ◌∷◌, map, refl, sym}
use Rattle.std.proofs.Common.{ap, arith, Option, None, Some}
use Rattle.std.specs.List.{All, AllPairs, find, list_any}
use Rattle.std.specs.List.Sorted.{IsNonDecreasingBy, IsPermutation}
use Rattle.std.specs.Option.{option_map}
use Rattle.std.proofs.lemmas.Bool.Decides.{nat_tests}
use Rattle.std.proofs.lemmas.List.Elements.{All-nil, All-cons, All-weaker}
use Rattle.std.proofs.lemmas.List.Kept.{AllPairs-cons}
use Rattle.std.proofs.lemmas.List.Sorted.{list_any-IsPermutation}
use Rattle.elf_image.specs.declared.ram.Ram.{Ram}
use Rattle.elf_image.specs.declared.range.Range.{Range}
use Rattle.elf_image.specs.Images.{Span, ram_byte}
use Rattle.tandem_base.specs.Extents.{is_among}
use Rattle.elf_image.specs.Rams.{span_of}
use Rattle.elf_image.specs.Tables.{Climbs, nowhere, ram_range, range_holds, reaching, span_in, all_reaching}
use Rattle.elf_image.proofs.Located.{ends_below}

-- bases that rise, one range on
first_lowest : (r : Range) (rest : List Range) → IsNonDecreasingBy (λ r. r.base) (r ∷ rest)
    → All (λ b. r.base ≤ b.base) rest
first_lowest r rest rise k d below = rise zero (suc k) d (omega arith) (omega arith)

rise_tail : (r : Range) (rest : List Range) → IsNonDecreasingBy (λ r. r.base) (r ∷ rest)
    → IsNonDecreasingBy (λ r. r.base) rest
rise_tail r rest rise i j d le below = rise (suc i) (suc j) d (omega arith) (omega arith)

reaching_climbs : (before range : Range) → before.base ≤ range.base → Climbs before (reaching before range)
reaching_climbs before range le = (le, omega arith)

climbs_on : (a b : Range) → Climbs a b → (c : Range) → Climbs b c → Climbs a c
climbs_on a b ab c bc = (omega arith, omega arith)

widened_above : (before : Range) (ranges : List Range) → All (λ r. before.base ≤ r.base) ranges
    → IsNonDecreasingBy (λ r. r.base) ranges → All (Climbs before) (all_reaching before ranges)
widened_above before [] above rise = All-nil (Climbs before)
widened_above before (r ∷ rest) above rise =
    let wide = reaching before r in
    let here = reaching_climbs before r (above zero r (omega arith)) in
    All-cons (Climbs before) wide (all_reaching wide rest) here
    (All-weaker (Climbs wide) (Climbs before) (climbs_on before wide here) (all_reaching wide rest)
    (widened_above wide rest (first_lowest r rest rise) (rise_tail r rest rise)))

pub widened_climb : (before : Range) (ranges : List Range) → IsNonDecreasingBy (λ r. r.base) ranges
    → AllPairs Climbs (all_reaching before ranges)
widened_climb before [] rise = λ i j d lt below. absurd (omega arith)
widened_climb before (r ∷ rest) rise =
    let wide = reaching before r in
    AllPairs-cons Climbs wide (all_reaching wide rest)
    (widened_above wide rest (first_lowest r rest rise) (rise_tail r rest rise))
    (widened_climb wide rest (rise_tail r rest rise))

-- what a range gains is held by the one before it
reaching_same : (x : ℕ) (before range : Range) → before.base ≤ range.base
    → (range_holds x before || range_holds x (reaching before range)) ≡ (range_holds x before || range_holds x range)
reaching_same x before range le = grind (arith, nat_tests)

or_next : (b w r a : Bool) → (b || w) ≡ (b || r) → (b || (w || a)) ≡ (b || (r || a))
or_next true w r a e = refl
or_next false w r a e = ap (λ v. v || a) e

widened_same : (x : ℕ) (before : Range) (ranges : List Range) → All (λ r. before.base ≤ r.base) ranges
    → IsNonDecreasingBy (λ r. r.base) ranges
    → (range_holds x before || list_any (range_holds x) (all_reaching before ranges))
    ≡ (range_holds x before || list_any (range_holds x) ranges)
widened_same x before [] above rise = refl
widened_same x before (r ∷ rest) above rise =
    let wide = reaching before r in
    let b = range_holds x before in
    ap (λ v. b || v) (widened_same x wide rest (first_lowest r rest rise) (rise_tail r rest rise))
    ∙ or_next b (range_holds x wide) (range_holds x r) (list_any (range_holds x) rest)
    (reaching_same x before r (above zero r (omega arith)))

any_next : (b : Bool) (s : Span) (o : Option Span) (a : Bool)
    → option_map {U = ℕ} (λ _. 0) o ≡ cond a (Some 0) None
    → option_map {U = ℕ} (λ _. 0) (cond b (Some s) o) ≡ cond (b || a) (Some 0) None
any_next true s o a e = refl
any_next false s o a e = e

-- RAM gives a byte where any of its ranges holds the address
ram_byte-any : (ranges : List Range) (x : ℕ)
    → ram_byte (map span_in ranges) x ≡ cond (list_any (range_holds x) ranges) (Some 0) None
ram_byte-any [] x = refl
ram_byte-any (r ∷ rest) x =
    any_next (range_holds x r) (span_in r) (find (λ s. is_among s.base s.size x) (map span_in rest))
    (list_any (range_holds x) rest) (ram_byte-any rest x)

spans_of_ram : (rams : List Ram) → map span_in (map ram_range rams) ≡ map span_of rams
spans_of_ram [] = refl
spans_of_ram (r ∷ rest) = ap (λ l. span_of r ∷ l) (spans_of_ram rest)

pub ram_table_same : (rams : List Ram) (sorted : List Range) → IsPermutation (map ram_range rams) sorted
    → IsNonDecreasingBy (λ r. r.base) sorted
    → (x : ℕ) → ram_byte (map span_in (all_reaching nowhere sorted)) x ≡ ram_byte (map span_of rams) x
ram_table_same rams sorted moved rise x =
    let none : range_holds x nowhere ≡ false = ends_below nowhere x (omega arith) in
    let wide = rw none at (widened_same x nowhere sorted (λ k d below. omega arith) rise) in
    ram_byte-any (all_reaching nowhere sorted) x
    ∙ ap (λ (b : Bool). cond b (Some 0) None) wide
    ∙ ap (λ (b : Bool). cond b (Some 0) None)
    (sym (list_any-IsPermutation (range_holds x) (map ram_range rams) sorted moved))
    ∙ sym (ram_byte-any (map ram_range rams) x)
    ∙ ap (λ l. ram_byte l x) (spans_of_ram rams)
