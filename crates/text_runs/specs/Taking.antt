-- A text that is taken whole from a source.
use Rattle.std.specs.Prelude.{ℕ, ◌≡◌, ◌+◌, ◌^◌, ◌≤◌, Bool, true, false, List, length, Option}
use Rattle.std.specs.Io.KnownBytes.{IsAtEnd}
use Rattle.text_runs.specs.declared.taking.TakenText.{TakenText}
use Rattle.text_runs.specs.declared.taking.TakenText.TheVariants as taken

-- the most bytes that a text may have: 64 MiB
abbrev pub most_text_bytes : ℕ
most_text_bytes = 2 ^ 26

-- What an answer says of the bytes that were taken, of what is left, and of the last read: they are all, as it
-- answered, or one more than a text may have; it failed; memory was refused for bytes that a text may have.
abbrev pub TextIs : TakenText → List ℕ → Option (List ℕ) → Bool → Type 0
TextIs (taken.Text bytes) got left ended =
    (got ≡ bytes.items) × (length got ≤ most_text_bytes) × IsAtEnd left × (ended ≡ true)
TextIs taken.TooLarge got left ended = length got ≡ most_text_bytes + 1
TextIs taken.Failed got left ended = (length got ≤ most_text_bytes) × (ended ≡ false)
TextIs taken.Memory got left ended = length got ≤ most_text_bytes
