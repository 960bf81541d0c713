-- The values that the texts of fields spell, each by its one spelling.
use Rattle.std.specs.Prelude.{ℕ, ◌/◌, ◌%◌, ◌^◌, ◌-◌, ◌==◌, nat_eq, nat_le, ◌&&◌, zero, suc, if◌then◌else◌}
use Rattle.std.specs.Prelude.{Bool, true, false, List, [], ◌∷◌, length, drop, codes}
use Rattle.std.specs.Prelude.{Option, Some, None, Result, Ok, Err}
use Rattle.std.specs.Cmp.Lexicographic.{pointwise}
use Rattle.std.specs.List.{starts_with}
use Rattle.std.specs.Option.{option_map}
use Rattle.hex.specs.Hex.{encode_lower, decode_sized}
use Rattle.hex.specs.declared.error.FromHexError.{FromHexError}
use Rattle.msg_frames.specs.declared.csrs.CsrValue.{CsrValue}
use Rattle.msg_frames.specs.declared.message.FrameFault.{FrameFault}
use Rattle.msg_frames.specs.declared.message.RdValue.{RdValue}
use Rattle.msg_frames.specs.declared.message.Target.{Target}
use Rattle.msg_frames.specs.declared.message.Target.TheVariants.{Pc, X, Csr}
use Rattle.msg_frames.specs.Frames.{is_poked_csr}
use Rattle.msg_frames.specs.Reading.{unmasked_zeros}
use Rattle.numerals.specs.Numerals.{decimal_in, hexadecimal_in}
use Rattle.trace_text.specs.Words.{until, behind}

-- the largest number of 16 bits
abbrev pub most16 : ℕ
most16 = 2 ^ 16 - 1

-- that of 32 bits
abbrev pub most32 : ℕ
most32 = 2 ^ 32 - 1

-- that of 64 bits
abbrev pub most64 : ℕ
most64 = 2 ^ 64 - 1

-- the text is this one
abbrev pub is_text : List ℕ → List ℕ → Bool
is_text text wanted = pointwise nat_eq text wanted

-- the number, if it is at least `least`
abbrev pub at_least : ℕ → Option ℕ → Option ℕ
at_least least None = None
at_least least (Some n) = if nat_le least n then Some n else None

-- the number from `least` to `most` that the text spells in decimal
abbrev pub between : ℕ → ℕ → List ℕ → Option ℕ
between least most text = at_least least (decimal_in most text)

-- the number, if it is a multiple of `unit`
abbrev pub if_multiple : ℕ → Option ℕ → Option ℕ
if_multiple unit None = None
if_multiple unit (Some n) = if n % unit == 0 then Some n else None

-- the multiple of `unit` below 2 ^ 64 that the text spells in hexadecimal
abbrev pub multiple : ℕ → List ℕ → Option ℕ
multiple unit text = if_multiple unit (hexadecimal_in most64 text)

-- ---- what a Poke sets

-- the CSR of this number, if a Poke may set it
abbrev pub poked : Option ℕ → Option Target
poked None = None
poked (Some number) = if is_poked_csr number then Some (Csr number) else None

-- `pc`, or `xN` for the registers x1 to x31, or the number of a CSR
abbrev pub target_word : List ℕ → Option Target
target_word text =
    if is_text text (codes "pc") then Some Pc
    else if starts_with nat_eq text (codes "x") then option_map (λ number. X number) (between 1 31 (drop 1 text))
    else poked (hexadecimal_in most16 text)

-- the value of what is set: a pc is a multiple of 4
abbrev pub poked_value_in : Target → List ℕ → Option ℕ
poked_value_in Pc text = multiple 4 text
poked_value_in (X _) text = hexadecimal_in most64 text
poked_value_in (Csr _) text = hexadecimal_in most64 text

-- ---- bytes

-- the bytes, if the text is how they are written
abbrev pub if_written : List ℕ → Result (List ℕ) FromHexError → Option (List ℕ)
if_written text (Err _) = None
if_written text (Ok bytes) = if is_text text (encode_lower bytes) then Some bytes else None

-- the so many bytes that the text spells, two digits each
unfoldable pub bytes_in : ℕ → List ℕ → Option (List ℕ)
bytes_in count text = if_written text (decode_sized text count)

-- one to eight bytes
abbrev pub piece_bytes_in : List ℕ → Option (List ℕ)
piece_bytes_in text =
    if nat_le 1 (length text / 2) && nat_le (length text / 2) 8 then bytes_in (length text / 2) text else None

-- nothing is found
abbrev pub nothing : Option FrameFault → Bool
nothing None = true
nothing (Some _) = false

-- the bytes of a line are 0 outside the mask
abbrev pub is_masked : ℕ → List ℕ → Bool
is_masked mask bytes = nothing (unmasked_zeros mask 0 bytes)

-- the bytes, if they are 0 outside the mask
abbrev pub if_masked : ℕ → Option (List ℕ) → Option (List ℕ)
if_masked mask None = None
if_masked mask (Some bytes) = if is_masked mask bytes then Some bytes else None

-- the 64 bytes of a line, 0 outside the mask
abbrev pub line_bytes_in : ℕ → List ℕ → Option (List ℕ)
line_bytes_in mask text = if_masked mask (bytes_in 64 text)

-- ---- the outcome of an instruction

-- `-`, or the cause of a trap
abbrev pub trap_word : List ℕ → Option (Option ℕ)
trap_word text = if is_text text (codes "-") then Some None else option_map (λ cause. Some cause) (between 0 255 text)

-- a register and its value
abbrev pub rd_of : Option ℕ → Option ℕ → Option RdValue
rd_of (Some number) (Some value) = Some (record { number = number; value = value })
rd_of (Some _) None = None
rd_of None value = None

-- a register x1 to x31, a colon and its value, behind the `x`
abbrev pub register_in : List ℕ → Option RdValue
register_in text = rd_of (between 1 31 (until 58 text)) (hexadecimal_in most64 (behind 58 text))

-- `-`, or the register that was written, with its value
abbrev pub rd_word : List ℕ → Option (Option RdValue)
rd_word text =
    if is_text text (codes "-") then Some None
    else if starts_with nat_eq text (codes "x") then option_map (λ rd. Some rd) (register_in (drop 1 text))
    else None

-- a CSR and its value
abbrev pub csr_of : Option ℕ → Option ℕ → Option CsrValue
csr_of (Some number) (Some value) = Some (record { number = number; value = value })
csr_of (Some _) None = None
csr_of None value = None

-- the number of a CSR, a colon and its value
abbrev pub csr_in : List ℕ → Option CsrValue
csr_in text = csr_of (hexadecimal_in most16 (until 58 text)) (hexadecimal_in most64 (behind 58 text))

-- a CSR in front of others
abbrev pub csr_before : Option CsrValue → Option (List CsrValue) → Option (List CsrValue)
csr_before (Some csr) (Some csrs) = Some (csr ∷ csrs)
csr_before (Some _) None = None
csr_before None csrs = None

-- one to `room` CSRs with commas between them
unfoldable pub some_csrs_in : ℕ → List ℕ → Option (List CsrValue)
some_csrs_in zero text = None
some_csrs_in (suc room) text =
    csr_before (csr_in (until 44 text))
    (if length (until 44 text) == length text then Some [] else some_csrs_in room (behind 44 text))

-- `-`, or one to four CSRs
abbrev pub csrs_word : List ℕ → Option (List CsrValue)
csrs_word text = if is_text text (codes "-") then Some [] else some_csrs_in 4 text
