-- The options that words spell are fit for a run.
use Rattle.std.proofs.Common.{◌≡◌, ℕ, zero, suc, ◌+◌, ◌%◌, ◌^◌, ◌≤◌, Bool, true, false, ◌&&◌, List, [], ◌∷◌}
use Rattle.std.proofs.Common.{nat_le, codes, Option, None, Some, Result, Ok, Err, IfOk, IfSome, All}
use Rattle.std.proofs.Common.{if◌then◌else◌, refl, sym, subst, arith}
use Rattle.std.proofs.lemmas.Bool.Decides.{nat_tests}
use Rattle.std.specs.Bool.{◌==◌}
use Rattle.std.specs.List.{AllByRecursion, after_first, before_first}
use Rattle.std.specs.Option.{option_and_then, option_map}
use Rattle.std.specs.Str.{bytes_eq}
use Rattle.elf_image.specs.Rams.{IsRam}
use Rattle.elf_image.specs.declared.ram.Ram.{Ram}
use Rattle.tandem_cli.specs.Fits.{IsFit}
use Rattle.tandem_core.specs.Limits.{HasCeilings}
use Rattle.tandem_cli.specs.Numbers.{number_spelled}
use Rattle.tandem_cli.specs.Options.{Chosen, after_comma, all_limits_of, at_most_one, before_comma, chosen_by}
use Rattle.tandem_cli.specs.Options.{chosen_from, chosen_of, flat_at, flats_of, limits_from, limits_of}
use Rattle.tandem_cli.specs.Options.{option_before, option_of, options_of, ram_at, ram_of, rams_of, within}
use Rattle.tandem_cli.specs.Seen.{chosen_seen}
use Rattle.tandem_cli.specs.declared.chosen.CheckOptions.{CheckOptions}
use Rattle.tandem_cli.specs.declared.options.CheckOption.{CheckOption}
use Rattle.tandem_cli.specs.declared.options.CheckOption.TheVariants.{FlatAt, RamAt, LimitsAre}
use Rattle.tandem_core.specs.declared.limits.Limits.{Limits}

-- an option is fit
OptionFits : CheckOption → Type 0
OptionFits (FlatAt base) = base % 4 ≡ 0
OptionFits (RamAt ram) = IsRam ram
OptionFits (LimitsAre limits) = HasCeilings limits

-- a value under a test
guarded : {T : Type 0} (P : T → Type 0) (test : Bool) (x : T) → (test ≡ true → P x)
    → IfSome (if test then Some x else None) P
guarded P true x h = h refl
guarded P false x h = tt

-- one of two
either : {T : Type 0} (P : T → Type 0) (test : Bool) (x y : Option T) → IfSome x P → IfSome y P
    → IfSome (if test then x else y) P
either P true x y p q = p
either P false x y p q = q

aligned : (base : ℕ) → (base % 4 == 0) ≡ true → base % 4 ≡ 0
aligned base h = grind (arith, nat_tests)

flat_fits : (base : Option ℕ) → IfSome (flat_at base) OptionFits
unfolding OptionFits
flat_fits None = tt
flat_fits (Some base) = guarded OptionFits (base % 4 == 0) (FlatAt base) (aligned base)

both_le : (a b c d : ℕ) → nat_le a b && nat_le c d ≡ true → (a ≤ b) × (c ≤ d)
both_le a b c d h = grind (arith, nat_tests)

ram_fits : (base size : Option ℕ) → IfSome (ram_at base size) IsRam
ram_fits None size = tt
ram_fits (Some base) None = tt
ram_fits (Some base) (Some size) = guarded IsRam _ _ (both_le 1 size (base + size) (2 ^ 64))

within_fits : (ceiling : ℕ) (n : Option ℕ) → IfSome (within ceiling n) (λ m. (1 ≤ m) × (m ≤ ceiling))
within_fits ceiling None = tt
within_fits ceiling (Some n) = guarded (λ m. (1 ≤ m) × (m ≤ ceiling)) _ n (both_le 1 n n ceiling)

limits_fit : (reads stores kept messages : Option ℕ)
    → IfSome reads (λ n. (1 ≤ n) × (n ≤ 4096)) → IfSome stores (λ n. (1 ≤ n) × (n ≤ 4096))
    → IfSome kept (λ n. (1 ≤ n) × (n ≤ 16384)) → IfSome messages (λ n. (1 ≤ n) × (n ≤ 4000000000))
    → IfSome (limits_from reads stores kept messages) HasCeilings
limits_fit None _ _ _ r s k m = tt
limits_fit (Some _) None _ _ r s k m = tt
limits_fit (Some _) (Some _) None _ r s k m = tt
limits_fit (Some _) (Some _) (Some _) None r s k m = tt
limits_fit (Some _) (Some _) (Some _) (Some _) r s k m = record { reads = r; stores = s; kept = k; messages = m }

mapped_ram : (ram : Option Ram) → IfSome ram IsRam → IfSome (option_map RamAt ram) OptionFits
unfolding OptionFits
mapped_ram None h = tt
mapped_ram (Some ram) h = h

mapped_limits : (limits : Option Limits) → IfSome limits HasCeilings → IfSome (option_map LimitsAre limits) OptionFits
unfolding OptionFits
mapped_limits None h = tt
mapped_limits (Some limits) h = h

ram_word_fits : (word : List ℕ) → IfSome (ram_of word) IsRam
ram_word_fits word = ram_fits (number_spelled (before_first (λ c. c == 58) word))
    (number_spelled (after_first (λ c. c == 58) word))

limits_word_fits : (word : List ℕ) → IfSome (limits_of word) HasCeilings
limits_word_fits word =
    let reads = number_spelled (before_comma word) in
    let stores = number_spelled (before_comma (after_comma word)) in
    let kept = number_spelled (before_comma (after_comma (after_comma word))) in
    let messages = number_spelled (after_comma (after_comma (after_comma word))) in
    limits_fit (within 4096 reads) (within 4096 stores) (within 16384 kept) (within 4000000000 messages)
    (within_fits 4096 reads)
    (within_fits 4096 stores) (within_fits 16384 kept) (within_fits 4000000000 messages)

option_fits : (name value : List ℕ) → IfSome (option_of name value) OptionFits
unfolding option_of
option_fits name value =
    either OptionFits (bytes_eq name (codes "--flat")) _ _ (flat_fits (number_spelled value))
    (either OptionFits (bytes_eq name (codes "--ram")) _ _ (mapped_ram (ram_of value) (ram_word_fits value))
    (either OptionFits (bytes_eq name (codes "--limits")) _ _ (mapped_limits (limits_of value)
    (limits_word_fits value)) tt))

-- all options are fit
put_before : (first : Option CheckOption) (more : Option (List CheckOption)) → IfSome first OptionFits
    → IfSome more (AllByRecursion OptionFits) → IfSome (option_before first more) (AllByRecursion OptionFits)
put_before None more p q = tt
put_before (Some first) None p q = tt
put_before (Some first) (Some more) p q = (p, q)

options_fit : (words : List (List ℕ)) → IfSome (options_of words) (AllByRecursion OptionFits)
options_fit [] = tt
options_fit (_ ∷ []) = tt
options_fit (name ∷ value ∷ words) = put_before (option_of name value) (options_of words) (option_fits name value)
    (options_fit words)

flats_fit : (options : List CheckOption) → AllByRecursion OptionFits options
    → AllByRecursion (λ base. base % 4 ≡ 0) (flats_of options)
unfolding OptionFits
flats_fit [] h = tt
flats_fit (FlatAt base ∷ options) h = (h.0, flats_fit options h.1)
flats_fit (RamAt _ ∷ options) h = flats_fit options h.1
flats_fit (LimitsAre _ ∷ options) h = flats_fit options h.1

all_limits_fit : (options : List CheckOption) → AllByRecursion OptionFits options
    → AllByRecursion HasCeilings (all_limits_of options)
unfolding OptionFits
all_limits_fit [] h = tt
all_limits_fit (FlatAt _ ∷ options) h = all_limits_fit options h.1
all_limits_fit (RamAt _ ∷ options) h = all_limits_fit options h.1
all_limits_fit (LimitsAre limits ∷ options) h = (h.0, all_limits_fit options h.1)

all_front : {T : Type 0} (P : T → Type 0) (x : T) (xs : List T) → P x → All P xs → All P (x ∷ xs)
all_front P x xs p h zero d room = p
all_front P x xs p h (suc k) d room = h k d (omega arith)

rams_fit : (options : List CheckOption) → AllByRecursion OptionFits options → All IsRam (rams_of options)
unfolding OptionFits
rams_fit [] h = λ k d room. absurd (omega arith)
rams_fit (FlatAt _ ∷ options) h = rams_fit options h.1
rams_fit (RamAt ram ∷ options) h = all_front IsRam ram (rams_of options) h.0 (rams_fit options h.1)
rams_fit (LimitsAre _ ∷ options) h = rams_fit options h.1

one_fits : {T : Type 0} (P : T → Type 0) (xs : List T) → AllByRecursion P xs
    → IfSome (at_most_one xs) (λ one. IfSome one P)
one_fits P [] h = tt
one_fits P (x ∷ []) h = h.0
one_fits P (_ ∷ _ ∷ _) h = tt

chosen_fit : (flat : Option (Option ℕ)) (rams : List Ram) (limits : Option (Option Limits))
    → IfSome flat (λ one. IfSome one (λ base. base % 4 ≡ 0)) → All IsRam rams
    → IfSome limits (λ one. IfSome one HasCeilings)
    → IfSome (chosen_from flat rams limits) IsFit
chosen_fit None rams limits f r l = tt
chosen_fit (Some flat) rams None f r l = tt
chosen_fit (Some flat) rams (Some None) f r l =
    record {
      flat = f;
      rams = r;
      limits = record {
        reads = (omega arith, omega arith);
        stores = (omega arith, omega arith);
        kept = (omega arith, omega arith);
        messages = (omega arith, omega arith);
      };
    }
chosen_fit (Some flat) rams (Some (Some limits)) f r l = record { flat = f; rams = r; limits = l }

by_fit : (options : Option (List CheckOption)) → IfSome options (AllByRecursion OptionFits)
    → IfSome (option_and_then chosen_by options) IsFit
by_fit None h = tt
by_fit (Some options) h =
    chosen_fit _ _ _ (one_fits (λ base. base % 4 ≡ 0) (flats_of options) (flats_fit options h)) (rams_fit options h)
    (one_fits HasCeilings (all_limits_of options) (all_limits_fit options h))

-- what words ask for is fit for a run
pub chosen_fits : (words : List (List ℕ)) → IfSome (chosen_of words) IsFit
chosen_fits words = by_fit (options_of words) (options_fit words)

-- what stands for it is fit too
pub seen_fits : {E : Type 0} (found : Result (Option CheckOptions) E) (chosen : Option Chosen) → IfSome chosen IsFit
    → IfOk found (λ options. option_map chosen_seen options ≡ chosen)
    → IfOk found (λ options. IfSome options (λ some. IsFit (chosen_seen some)))
seen_fits (Err e) chosen fit is = tt
seen_fits (Ok None) chosen fit is = tt
seen_fits (Ok (Some options)) chosen fit is = subst (λ (x : Option Chosen). IfSome x IsFit) (sym is) fit
