-- Division (Unprivileged ISA 20191213, section 7.2). Quotients are rounded toward zero, and a
-- remainder has the dividend's sign. Division by 0 gives the quotient of all ones and the dividend
-- as remainder. Where the least number is divided by -1 the quotient is the dividend, since no
-- positive number has its magnitude, and the remainder is 0.
use Rattle.std.specs.Prelude.{ℕ, ◌-◌, ◌/◌, ◌%◌, ◌^◌, Bool, true, false, nat_eq, if◌then◌else◌}
use Rattle.tandem_base.specs.Signs.{is_negative, magnitude, with_sign}

-- one of the two has a sign and the other has none
abbrev pub signs_differ : ℕ → ℕ → ℕ → Bool
signs_differ width a b =
    if is_negative width a
    then (if is_negative width b then false else true)
    else is_negative width b

-- DIV, and DIVW on 32 bits
abbrev pub div_of : ℕ → ℕ → ℕ → ℕ
div_of width a b =
    if nat_eq b 0
    then 2 ^ width - 1
    else with_sign width (signs_differ width a b) (magnitude width a / magnitude width b)

-- REM, and REMW on 32 bits
abbrev pub rem_of : ℕ → ℕ → ℕ → ℕ
rem_of width a b =
    if nat_eq b 0
    then a
    else with_sign width (is_negative width a) (magnitude width a % magnitude width b)

-- DIVU, and DIVUW on 32 bits
abbrev pub divu_of : ℕ → ℕ → ℕ → ℕ
divu_of width a b = if nat_eq b 0 then 2 ^ width - 1 else a / b

-- REMU, and REMUW on 32 bits
abbrev pub remu_of : ℕ → ℕ → ℕ
remu_of a b = if nat_eq b 0 then a else a % b
