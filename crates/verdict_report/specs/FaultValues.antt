-- The values that a fault tells.
use Rattle.std.specs.Prelude.{ℕ, List}
use Rattle.verdict_report.specs.declared.fault_values.FaultValue.{FaultValue}
use Rattle.verdict_report.specs.declared.fault_values.FaultValue.TheVariants as value
use Rattle.numerals.specs.Numerals.{decimal_or_dash, hexadecimal}
use Rattle.verdict_report.specs.Lines.{rd_want_text, rd_value_text, csr_value_text, byte_text}

-- the text of a value that a fault tells
abbrev pub fault_value_text : FaultValue → List ℕ
fault_value_text (value.Number number) = hexadecimal number
fault_value_text (value.Cause cause) = decimal_or_dash cause
fault_value_text (value.RdWant want) = rd_want_text want
fault_value_text (value.Rd rd) = rd_value_text rd
fault_value_text (value.Csr csr) = csr_value_text csr
fault_value_text (value.Byte byte) = byte_text byte
