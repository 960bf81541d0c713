-- The number and the name of each fault.
use Rattle.std.specs.Prelude.{ℕ, List, codes}
use Rattle.verdict_report.specs.declared.fault.Fault.{Fault}
use Rattle.verdict_report.specs.declared.fault.Fault.TheVariants.{BadFrame, Truncated, BadOpen, BadHart, TimeBack}
use Rattle.verdict_report.specs.declared.fault.Fault.TheVariants.{LateTag}
use Rattle.verdict_report.specs.declared.fault.Fault.TheVariants.{BadRange, UnknownStore, StoreData, TornStore}
use Rattle.verdict_report.specs.declared.fault.Fault.TheVariants.{MergeMismatch, LatePoke}
use Rattle.verdict_report.specs.declared.fault.Fault.TheVariants.{TagOrder, StrayBypass, Pc, Word, Trap, MissingRead}
use Rattle.verdict_report.specs.declared.fault.Fault.TheVariants.{TornRead, MissingBypass, NextPc, Rd, Csr, AmoData}
use Rattle.verdict_report.specs.declared.fault.Fault.TheVariants.{ScPair, LoadValue, Order, Atomicity, Unwritten}
use Rattle.verdict_report.specs.declared.fault.Fault.TheVariants.{Unretired}

-- the number by which a line tells the fault
abbrev pub fault_number : Fault → ℕ
fault_number (BadFrame _) = 1
fault_number (Truncated _) = 2
fault_number BadOpen = 3
fault_number BadHart = 4
fault_number (TimeBack _) = 5
fault_number (LateTag _) = 10
fault_number BadRange = 11
fault_number UnknownStore = 12
fault_number (StoreData _ _ _) = 13
fault_number TornStore = 14
fault_number (MergeMismatch _ _ _) = 15
fault_number LatePoke = 16
fault_number (TagOrder _) = 17
fault_number (StrayBypass _) = 18
fault_number (Pc _ _) = 20
fault_number (Word _ _) = 21
fault_number (Trap _ _) = 22
fault_number (MissingRead _) = 30
fault_number (TornRead _) = 31
fault_number MissingBypass = 32
fault_number (NextPc _ _) = 23
fault_number (Rd _ _) = 24
fault_number (Csr _ _ _) = 25
fault_number (AmoData _ _ _) = 34
fault_number ScPair = 35
fault_number (LoadValue _ _ _) = 33
fault_number (Order _ _ _) = 36
fault_number (Atomicity _ _) = 37
fault_number (Unwritten _ _) = 40
fault_number (Unretired _) = 41

-- the name that follows it
abbrev pub fault_name : Fault → List ℕ
fault_name (BadFrame _) = codes "BadFrame"
fault_name (Truncated _) = codes "Truncated"
fault_name BadOpen = codes "BadOpen"
fault_name BadHart = codes "BadHart"
fault_name (TimeBack _) = codes "TimeBack"
fault_name (LateTag _) = codes "LateTag"
fault_name BadRange = codes "BadRange"
fault_name UnknownStore = codes "UnknownStore"
fault_name (StoreData _ _ _) = codes "StoreData"
fault_name TornStore = codes "TornStore"
fault_name (MergeMismatch _ _ _) = codes "MergeMismatch"
fault_name LatePoke = codes "LatePoke"
fault_name (TagOrder _) = codes "TagOrder"
fault_name (StrayBypass _) = codes "StrayBypass"
fault_name (Pc _ _) = codes "Pc"
fault_name (Word _ _) = codes "Word"
fault_name (Trap _ _) = codes "Trap"
fault_name (MissingRead _) = codes "MissingRead"
fault_name (TornRead _) = codes "TornRead"
fault_name MissingBypass = codes "MissingBypass"
fault_name (NextPc _ _) = codes "NextPc"
fault_name (Rd _ _) = codes "Rd"
fault_name (Csr _ _ _) = codes "Csr"
fault_name (AmoData _ _ _) = codes "AmoData"
fault_name ScPair = codes "ScPair"
fault_name (LoadValue _ _ _) = codes "LoadValue"
fault_name (Order _ _ _) = codes "Order"
fault_name (Atomicity _ _) = codes "Atomicity"
fault_name (Unwritten _ _) = codes "Unwritten"
fault_name (Unretired _) = codes "Unretired"
