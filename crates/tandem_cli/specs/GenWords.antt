-- The words of `gen`.
use Rattle.std.specs.Prelude.{ℕ, ◌*◌, Bool, ◌&&◌, nat_le, List, [], ◌∷◌, codes, Option, None, Some, if◌then◌else◌}
use Rattle.std.specs.Option.{option_map}
use Rattle.std.specs.Str.{bytes_eq}
use Rattle.tandem_cli.specs.Numbers.{number_spelled}
use Rattle.tandem_cli.specs.declared.gen_words.GenWords.{GenWords}

-- there is a stream of so many harts, each with so many rounds
abbrev pub can_make : ℕ → ℕ → Bool
can_make harts count = nat_le 1 harts && nat_le harts 16 && nat_le 1 count && nat_le (harts * count) 100000

-- the flip that the words behind COUNT ask for: none, or that of the byte with a number; nothing where they are others
abbrev pub flip_asked : List (List ℕ) → Option (Option ℕ)
flip_asked [] = Some None
flip_asked (_ ∷ []) = None
flip_asked (option ∷ offset ∷ []) =
    if bytes_eq option (codes "--flip") then option_map Some (number_spelled offset) else None
flip_asked (_ ∷ _ ∷ _ ∷ _) = None

-- the numbers, where all are there and there is such a stream
abbrev pub gen_from : Option ℕ → Option ℕ → Option ℕ → Option (Option ℕ) → Option GenWords
gen_from (Some seed) (Some harts) (Some count) (Some flip) =
    if can_make harts count
    then Some (record { seed = seed; harts = harts; count = count; flip = flip }) else None
gen_from _ _ _ _ = None

-- `gen SEED HARTS COUNT`, and then nothing or `--flip OFFSET`; nothing where the words are of another form
abbrev pub gen_asked : List (List ℕ) → Option GenWords
gen_asked [] = None
gen_asked (_ ∷ []) = None
gen_asked (_ ∷ _ ∷ []) = None
gen_asked (_ ∷ _ ∷ _ ∷ []) = None
gen_asked (command ∷ seed ∷ harts ∷ count ∷ options) =
    if bytes_eq command (codes "gen")
    then gen_from (number_spelled seed) (number_spelled harts) (number_spelled count) (flip_asked options) else None
