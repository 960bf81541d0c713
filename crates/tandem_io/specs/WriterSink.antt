-- A writer as a sink, as its callers see it.
use Rattle.std.specs.Prelude.{ℕ, nat_lt, Bool, false, if◌then◌else◌, List, Option, Result, Ok, Err}
use Rattle.tandem_io.specs.Causes.{next_count}

-- a write took at least one byte
abbrev pub took_some : {E : Type 0} → Result ℕ E → Bool
took_some (Ok n) = nat_lt 0 n
took_some (Err _) = false

-- a writer: the bytes that it holds where it tells them, whether its last write was an error, and how
-- many of its writes were; a write that took no byte is an error too
pub record WriterView : Type 0 where
  pub written : Option (List ℕ)
  pub failed : Bool
  pub errors : ℕ

-- how many errors a writer had after one more write
abbrev pub errors_after : {E : Type 0} → ℕ → Result ℕ E → ℕ
errors_after errors r = if took_some r then errors else next_count errors

-- a sink over a writer: the same of the writer, whose errors are its faults
pub record WriterSinkView : Type 0 where
  pub written : Option (List ℕ)
  pub failed : Bool
  pub faults : ℕ

-- a sink without a write yet
abbrev pub new_sink : Option (List ℕ) → WriterSinkView
new_sink written = record { written = written; failed = false; faults = 0 }
