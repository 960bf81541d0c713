-- What the answer of a call says of a count of faults.
use Rattle.std.specs.Prelude.{◌≡◌, ℕ, ◌+◌, ◌-◌, ◌^◌, ◌<◌, min, ◌⊎◌, Bool, false, nat_eq, Result, Ok, Err, OnErr}

-- one more, up to the last value of a counter
abbrev pub next_count : ℕ → ℕ
next_count n = min (n + 1) (2 ^ 64 - 1)

-- a count of faults after one more call: one more where the call failed
abbrev pub faults_after : {T E : Type 0} → ℕ → Result T E → ℕ
faults_after count (Ok _) = count
faults_after count (Err _) = next_count count

-- the count rose, or it stands at 2 ^ 64 - 1, the last value of a counter
abbrev pub Rose : ℕ → ℕ → Type 0
Rose old new = (old < new) ⊎ (old ≡ 2 ^ 64 - 1)

-- a call failed only where the count rose
abbrev pub HasCause : {T E : Type 0} → ℕ → ℕ → Result T E → Type 0
HasCause old new r = OnErr r (Rose old new)

-- a read answered 0, the end of the input
abbrev pub answered_end : {E : Type 0} → Result ℕ E → Bool
answered_end (Ok n) = nat_eq n 0
answered_end (Err _) = false
