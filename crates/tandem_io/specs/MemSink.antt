-- A sink in memory, as its callers see it.
use Rattle.std.specs.Prelude.{ℕ, ◌+◌, min, Bool, ◌||◌, List, [], ◌++◌, length, take, nat_lt, if◌then◌else◌}
use Rattle.tandem_io.specs.Calls.{CallRecord, no_calls, next_fails, after_call}

-- the bytes that it took, how many it has room for, how many a write takes at most, and its writes
pub record MemSinkView : Type 0 where
  pub written : List ℕ
  pub room : ℕ
  pub step : ℕ
  pub calls : CallRecord

-- a sink that took nothing yet
abbrev pub empty_sink : ℕ → ℕ → MemSinkView
empty_sink room step = record { written = []; room = room; step = step; calls = no_calls }

-- how many bytes a write of this piece takes where it doesn't fail
abbrev pub write_step : MemSinkView → List ℕ → ℕ
write_step sink piece = min sink.step (length piece)

-- the next write fails: it is one of those that are to, or would pass the room
abbrev pub write_fails : MemSinkView → List ℕ → Bool
write_fails sink piece = next_fails sink.calls || nat_lt sink.room (length sink.written + write_step sink piece)

-- after a write of this piece
abbrev pub after_write : MemSinkView → List ℕ → MemSinkView
after_write sink piece = record sink {
  written = if write_fails sink piece then sink.written else sink.written ++ take (write_step sink piece) piece;
  calls = after_call sink.calls (write_fails sink piece);
}
