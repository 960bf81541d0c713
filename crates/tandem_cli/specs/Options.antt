-- The options of the command line: a word that names one, and a word with its value.
use Rattle.std.specs.Prelude.{ℕ, ◌+◌, ◌%◌, ◌^◌, ◌==◌, ◌&&◌, List, [], ◌∷◌, nat_le, codes, Option, None, Some}
use Rattle.std.specs.Prelude.{unwrap_or, if◌then◌else◌}
use Rattle.std.specs.List.{before_first, after_first}
use Rattle.std.specs.Option.{option_and_then, option_map}
use Rattle.std.specs.Str.{bytes_eq}
use Rattle.elf_image.specs.declared.ram.Ram.{Ram}
use Rattle.tandem_cli.specs.Numbers.{number_spelled}
use Rattle.tandem_cli.specs.declared.options.CheckOption.{CheckOption}
use Rattle.tandem_cli.specs.declared.options.CheckOption.TheVariants.{FlatAt, RamAt, LimitsAre}
use Rattle.tandem_core.specs.declared.limits.Limits.{Limits}
use Rattle.tandem_core.specs.Limits.{ceilings}

-- the image is flat at this address, a multiple of 4
abbrev pub flat_at : Option ℕ → Option CheckOption
flat_at None = None
flat_at (Some base) = if base % 4 == 0 then Some (FlatAt base) else None

-- there is RAM at this address, of a size of at least 1, that doesn't pass 2 ^ 64
abbrev pub ram_at : Option ℕ → Option ℕ → Option Ram
ram_at None _ = None
ram_at (Some _) None = None
ram_at (Some base) (Some size) = if nat_le 1 size && nat_le (base + size) (2 ^ 64) then Some (record {
  base =
      base;
  size = size;
}) else None

-- what `BASE:SIZE` asks for
abbrev pub ram_of : List ℕ → Option Ram
ram_of word = ram_at (number_spelled (before_first (λ c. c == 58) word))
    (number_spelled (after_first (λ c. c == 58) word))

-- a number from 1 to its ceiling
abbrev pub within : ℕ → Option ℕ → Option ℕ
within ceiling None = None
within ceiling (Some n) = if nat_le 1 n && nat_le n ceiling then Some n else None

-- the four limits, where each is one
abbrev pub limits_from : Option ℕ → Option ℕ → Option ℕ → Option ℕ → Option Limits
limits_from None _ _ _ = None
limits_from (Some _) None _ _ = None
limits_from (Some _) (Some _) None _ = None
limits_from (Some _) (Some _) (Some _) None = None
limits_from (Some reads) (Some stores) (Some kept) (Some messages) =
    Some (record { reads = reads; stores = stores; kept = kept; messages = messages })

-- what stands before the first comma
abbrev pub before_comma : List ℕ → List ℕ
before_comma word = before_first (λ c. c == 44) word

-- what stands behind it
abbrev pub after_comma : List ℕ → List ℕ
after_comma word = after_first (λ c. c == 44) word

-- what `R,S,K,M` asks for
abbrev pub limits_of : List ℕ → Option Limits
limits_of word =
    let reads = number_spelled (before_comma word) in
    let stores = number_spelled (before_comma (after_comma word)) in
    let kept = number_spelled (before_comma (after_comma (after_comma word))) in
    let messages = number_spelled (after_comma (after_comma (after_comma word))) in
    limits_from (within ceilings.reads reads) (within ceilings.stores stores) (within ceilings.kept kept)
    (within ceilings.messages messages)

-- the option of this name and value
unfoldable pub option_of : List ℕ → List ℕ → Option CheckOption
option_of name value =
    if bytes_eq name (codes "--flat") then flat_at (number_spelled value)
    else (if bytes_eq name (codes "--ram") then option_map RamAt (ram_of value)
    else (if bytes_eq name (codes "--limits") then option_map LimitsAre (limits_of value) else None))

-- an option in front of others
abbrev pub option_before : Option CheckOption → Option (List CheckOption) → Option (List CheckOption)
option_before None _ = None
option_before (Some _) None = None
option_before (Some first) (Some more) = Some (first ∷ more)

-- the options that the words spell, two words each
abbrev pub options_of : List (List ℕ) → Option (List CheckOption)
options_of [] = Some []
options_of (_ ∷ []) = None
options_of (name ∷ value ∷ words) = option_before (option_of name value) (options_of words)

-- the bases of flat images among them
abbrev pub flats_of : List CheckOption → List ℕ
flats_of [] = []
flats_of (FlatAt base ∷ more) = base ∷ flats_of more
flats_of (RamAt _ ∷ more) = flats_of more
flats_of (LimitsAre _ ∷ more) = flats_of more

-- the ranges of RAM, in their order
abbrev pub rams_of : List CheckOption → List Ram
rams_of [] = []
rams_of (FlatAt _ ∷ more) = rams_of more
rams_of (RamAt ram ∷ more) = ram ∷ rams_of more
rams_of (LimitsAre _ ∷ more) = rams_of more

-- the limits
abbrev pub all_limits_of : List CheckOption → List Limits
all_limits_of [] = []
all_limits_of (FlatAt _ ∷ more) = all_limits_of more
all_limits_of (RamAt _ ∷ more) = all_limits_of more
all_limits_of (LimitsAre limits ∷ more) = limits ∷ all_limits_of more

-- the one element or none, where there aren't more
abbrev pub at_most_one : {T : Type 0} → List T → Option (Option T)
at_most_one [] = Some None
at_most_one (x ∷ []) = Some (Some x)
at_most_one (_ ∷ _ ∷ _) = None

-- what the options come to
pub record Chosen : Type 0 where
  pub flat : Option ℕ
  pub rams : List Ram
  pub limits : Limits

-- what the options come to, where each was asked for at most once; the ceilings, where no limits were
abbrev pub chosen_from : Option (Option ℕ) → List Ram → Option (Option Limits) → Option Chosen
chosen_from None _ _ = None
chosen_from (Some _) _ None = None
chosen_from (Some flat) rams (Some limits) = Some (record {
  flat = flat;
  rams = rams;
  limits =
      unwrap_or limits ceilings;
})

-- at most one flat image and one choice of limits, and any ranges of RAM
abbrev pub chosen_by : List CheckOption → Option Chosen
chosen_by options = chosen_from (at_most_one (flats_of options)) (rams_of options) (at_most_one (all_limits_of options))

-- what words that spell options come to
abbrev pub chosen_of : List (List ℕ) → Option Chosen
chosen_of words = option_and_then chosen_by (options_of words)
