-- What the table of a hart's marks holds.
use Rattle.std.specs.Prelude.{ℕ, ◌≡◌, ◌==◌, suc, List, [], ◌∷◌, Option, None, Some, if◌then◌else◌, true, get_or}
use Rattle.std.specs.Prelude.{slice_set}
use Rattle.rv_decode.specs.declared.instruction.Insn.{Insn}
use Rattle.rv_decode.specs.declared.registers.Register.{Register}
use Rattle.rv_decode.specs.declared.registers.Register.TheVariants.{X, Csr}
use Rattle.rv_decode.specs.Registers.{is_address, is_control, named_csr}
use Rattle.csr_file.specs.CsrFile.{is_implemented}
use Rattle.tandem_base.specs.CsrNumbers.{numbers}
use Rattle.tandem_base.specs.Places.{comes_before}
use Rattle.tandem_base.specs.declared.mark.Mark.{Mark}
use Rattle.dep_tracker.specs.Marks.{Started, DependsOn, UsedIn, IsLatestMark}

-- the marks of x0 to x31, those of the CSRs, that of rule 11, and that of rule 13
pub record MarkTable : Type 0 where
  pub registers : List (Option Mark)
  pub csrs : List (Option Mark)
  pub control : Option Mark
  pub past_address : Option Mark

-- where a number stands in a list; behind it where it doesn't stand in it
abbrev pub index_in : List ℕ → ℕ → ℕ
index_in [] n = 0
index_in (k ∷ ks) n = if n == k then 0 else suc (index_in ks n)

-- the mark of a register; none where there is no such register
abbrev pub mark_at : MarkTable → Register → Option Mark
mark_at table (X n) = get_or table.registers n None
mark_at table (Csr n) = get_or table.csrs (index_in numbers n) None

-- the mark of a register, where one is named
abbrev pub mark_of : MarkTable → Option Register → Option Mark
mark_of table None = None
mark_of table (Some r) = mark_at table r

-- the mark of the register with that number, where there is one
abbrev pub x_mark : MarkTable → Option ℕ → Option Mark
x_mark table None = None
x_mark table (Some n) = mark_at table (X n)

-- the marks of registers where one of them, where there is one, is set
abbrev pub put_mark : Option ℕ → Option Mark → List (Option Mark) → List (Option Mark)
put_mark None mark marks = marks
put_mark (Some n) mark marks = slice_set marks n mark

-- where the CSR with that number has its mark, where there is one
abbrev pub csr_place : Option ℕ → Option ℕ
csr_place None = None
csr_place (Some n) = Some (index_in numbers n)

-- the later of two marks
abbrev pub later_mark : Option Mark → Option Mark → Option Mark
later_mark None b = b
later_mark (Some m) None = Some m
later_mark (Some m) (Some n) = if comes_before m.place n.place then Some n else Some m

-- a CSR that the instruction names is one of the twelve
abbrev pub IsKnown : Insn → Type 0
IsKnown i = (n : ℕ) → named_csr i ≡ Some (Csr n) → is_implemented n ≡ true

-- the table after these instructions, the newest first: each register's mark is the latest operation on which the next
-- instruction would depend by it; control is that of branches and JALR; past_address is that of addresses
pub record StandsFor (table : MarkTable) (ws : List Started) : Type 0 where
  pub registers : (r : Register) → IsLatestMark (DependsOn ws r) (mark_at table r)
  pub control : IsLatestMark (UsedIn is_control ws) table.control
  pub past_address : IsLatestMark (UsedIn is_address ws) table.past_address
