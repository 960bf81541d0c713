-- A number is read from its spelling, and from nothing else.
use Rattle.std.proofs.Common.{◌≡◌, ◌≢◌, ℕ, ◌^◌, ◌<◌, ◌≤◌, Bool, true, false, ◌&&◌, nat_eq, nat_le}
use Rattle.std.proofs.Common.{List, ◌++◌, drop, codes, Option, Some, None, IfSome, IfNone}
use Rattle.std.proofs.Common.{if◌then◌else◌, refl, sym, ap, ◌∙◌, subst, arith}
use Rattle.std.proofs.lemmas.Bool.Decides.{nat_tests}
use Rattle.std.proofs.lemmas.Fmt.{digits_is_IsNumeral}
use Rattle.std.proofs.lemmas.Option.{none-some}
use Rattle.std.specs.Cmp.Lexicographic.{pointwise, same_text}
use Rattle.std.specs.Fmt.{decimal, digits}
use Rattle.std.specs.List.{starts_with}
use Rattle.std.specs.Str.Parse.{digits_value}
use Rattle.numerals.specs.Numerals.{spelled_in, decimal_in, hexadecimal, hexadecimal_in}
use Rattle.numerals.proofs.Value.{spelled}
use Rattle.numerals.proofs.TextLaws.{starts}

within : (n most : ℕ) → nat_le n most ≡ true → n ≤ most
within n most h = grind (arith, nat_tests)

-- what is read is what the digits spell
spelled_found : (base most : ℕ) (text : List ℕ)
    → IfSome (spelled_in base most text) (λ n. (text ≡ digits base false n) × (n ≤ most))
unfolding spelled_in
spelled_found base most text = told _ _ refl refl
  where
    told : (t u : Bool) → nat_le (digits_value base text) most ≡ t
        → pointwise nat_eq text (digits base false (digits_value base text)) ≡ u
        → IfSome (if t && u then Some (digits_value base text) else None)
        (λ n. (text ≡ digits base false n) × (n ≤ most))
    told true true p q = (same_text _ _ (sym q), within _ most p)
    told true false p q = tt
    told false u p q = tt

-- digits are read as their number
spelled_back : (base most n : ℕ) → 2 ≤ base → base ≤ 16 → n < base ^ 64 → n ≤ most
    → spelled_in base most (digits base false n) ≡ Some n
spelled_back base most n low high small few =
    spelled base most n (digits base false n) (sym (digits_is_IsNumeral base false low high n small).1) few refl

-- a number that is read from a text in one way only
none_by : (text : List ℕ) (most : ℕ) (spelling : ℕ → List ℕ) (read : List ℕ → Option ℕ)
    → ((n : ℕ) → n ≤ most → read (spelling n) ≡ Some n)
    → (r : Option ℕ) → r ≡ read text → IfNone r ((n : ℕ) → n ≤ most → text ≢ spelling n)
none_by text most spelling read back (Some n) e = tt
none_by text most spelling read back None e =
    λ n low same. none-some n (e ∙ ap read same ∙ back n low)

-- in decimal
pub decimal_back : (most n : ℕ) → most < 2 ^ 64 → n ≤ most → decimal_in most (decimal n) ≡ Some n
decimal_back most n fits low = spelled_back 10 most n (omega arith) (omega arith) (omega arith) low

pub decimal_found : (most : ℕ) (text : List ℕ) (r : Option ℕ) → r ≡ decimal_in most text
    → IfSome r (λ n. (text ≡ decimal n) × (n ≤ most))
decimal_found most text r e =
    subst (λ (o : Option ℕ). IfSome o (λ n. (text ≡ decimal n) × (n ≤ most))) (sym e) (spelled_found 10 most text)

pub decimal_none : (most : ℕ) (text : List ℕ) (r : Option ℕ) → most < 2 ^ 64 → r ≡ decimal_in most text
    → IfNone r ((n : ℕ) → n ≤ most → text ≢ decimal n)
decimal_none most text r fits e = none_by text most decimal (decimal_in most) (λ n. decimal_back most n fits) r e

-- in hexadecimal
pub hexadecimal_back : (most n : ℕ) → most < 2 ^ 64 → n ≤ most → hexadecimal_in most (hexadecimal n) ≡ Some n
hexadecimal_back most n fits low = spelled_back 16 most n (omega arith) (omega arith) (omega arith) low

hexadecimal_met : (most : ℕ) (text : List ℕ)
    → IfSome (hexadecimal_in most text) (λ n. (text ≡ hexadecimal n) × (n ≤ most))
hexadecimal_met most text = told _ refl (spelled_in 16 most (drop 2 text)) (spelled_found 16 most (drop 2 text))
  where
    told : (t : Bool) → starts_with nat_eq text (codes "0x") ≡ t → (o : Option ℕ)
        → IfSome o (λ n. (drop 2 text ≡ digits 16 false n) × (n ≤ most))
        → IfSome (if t then o else None) (λ n. (text ≡ hexadecimal n) × (n ≤ most))
    told true p (Some n) h = (starts (codes "0x") text p ∙ ap (λ l. codes "0x" ++ l) h.0, h.1)
    told true p None h = tt
    told false p o h = tt

pub hexadecimal_found : (most : ℕ) (text : List ℕ) (r : Option ℕ) → r ≡ hexadecimal_in most text
    → IfSome r (λ n. (text ≡ hexadecimal n) × (n ≤ most))
hexadecimal_found most text r e =
    subst (λ (o : Option ℕ). IfSome o (λ n. (text ≡ hexadecimal n) × (n ≤ most))) (sym e) (hexadecimal_met most text)

pub hexadecimal_none : (most : ℕ) (text : List ℕ) (r : Option ℕ) → most < 2 ^ 64 → r ≡ hexadecimal_in most text
    → IfNone r ((n : ℕ) → n ≤ most → text ≢ hexadecimal n)
hexadecimal_none most text r fits e =
    none_by text most hexadecimal (hexadecimal_in most) (λ n. hexadecimal_back most n fits) r e
