-- What a hart reports while it goes round the program once, in thirteen steps.
use Rattle.std.specs.Prelude.{ℕ, ◌+◌, ◌*◌, ◌%◌, List, [], ◌∷◌, ◌++◌, take, replicate, Option, None, Some}
use Rattle.std.specs.Int.{w64, to_le_bytes}
use Rattle.tandem_base.specs.Signs.{sign_extended}
use Rattle.msg_frames.specs.declared.message.RdValue.{RdValue}
use Rattle.msg_frames.specs.declared.message.Body.TheVariants as body
use Rattle.trace_gen.specs.declared.rounds.Step.{Step}
use Rattle.trace_gen.specs.declared.rounds.Step.TheVariants as step
use Rattle.trace_gen.specs.declared.rounds.Progress.{Progress}
use Rattle.trace_gen.specs.declared.saying.Saying.{Saying}
use Rattle.trace_gen.specs.Program.{counter_addr, own_addr, pc_of, word_of}

-- the tag of instruction k of the program in a round, both from 0: there are seven
abbrev pub tag_of : ℕ → ℕ → ℕ
tag_of round k = 7 * round + k + 1

-- an instruction of the program retires: it goes on to the next one, and after the last to the first
abbrev pub says_retire : ℕ → ℕ → Option RdValue → Saying
says_retire round k rd = record {
  tag = tag_of round k;
  body = body.Retire (record {
    pc = pc_of k;
    word = word_of k;
    next = pc_of ((k + 1) % 7);
    trap = None;
    rd = rd;
    csrs = [];
  });
}

-- a register is written
abbrev pub rd_with : ℕ → ℕ → Option RdValue
rd_with number value = Some (record { number = number; value = value })

-- an instruction of the program reads these bytes
abbrev pub says_read : ℕ → ℕ → ℕ → List ℕ → Saying
says_read round k addr bytes =
    record { tag = tag_of round k; body = body.Read (record { addr = addr; bytes = bytes }) }

-- it puts these bytes into the merge buffer
abbrev pub says_insert : ℕ → ℕ → ℕ → List ℕ → Saying
says_insert round k addr bytes =
    record { tag = tag_of round k; body = body.Insert (record { addr = addr; bytes = bytes }) }

-- it makes these bytes visible to all
abbrev pub says_bypass : ℕ → ℕ → ℕ → List ℕ → Saying
says_bypass round k addr bytes =
    record { tag = tag_of round k; body = body.Bypass (record { addr = addr; bytes = bytes }) }

-- the eight bytes of a number
abbrev pub bytes_of_number : ℕ → List ℕ
bytes_of_number value = to_le_bytes w64 value

-- a number becomes visible to all at the front of a line
abbrev pub says_write : ℕ → ℕ → Saying
says_write line value = record {
  tag = 0;
  body = body.Write (record { line = line; mask = 0xff; bytes = bytes_of_number value ++ replicate 56 0 });
}

-- the low half of the bytes of a number
abbrev pub low_half_of : ℕ → List ℕ
low_half_of value = take 4 (to_le_bytes w64 value)

-- The table: what hart h says at each step, where the shared counter is c. In a round, `taken` is what its first load
-- read, `added` is what its amoadd read, and `written` is the hart's own number as the last Write left it.
abbrev pub sayings_at : Step → ℕ → ℕ → Progress → List Saying
sayings_at step.ReadAhead h c p = says_read p.round 5 (own_addr h) (bytes_of_number p.written) ∷ []
sayings_at step.ReadCounter h c p = says_read p.round 0 counter_addr (bytes_of_number c) ∷ []
sayings_at step.RetireRead h c p = says_retire p.round 0 (rd_with 5 p.taken) ∷ []
sayings_at step.RetireStore h c p = says_retire p.round 1 None ∷ []
sayings_at step.ForwardStore h c p =
    says_read p.round 2 (own_addr h) (low_half_of p.taken)
    ∷ says_retire p.round 2 (rd_with 9 (sign_extended 32 p.taken)) ∷ []
sayings_at step.InsertStore h c p = says_insert p.round 1 (own_addr h) (bytes_of_number p.taken) ∷ []
sayings_at step.WriteStore h c p = says_write (own_addr h) p.taken ∷ []
sayings_at step.AddOne h c p =
    says_read p.round 3 counter_addr (bytes_of_number c)
    ∷ says_bypass p.round 3 counter_addr (bytes_of_number (c + 1)) ∷ []
sayings_at step.RetireAdd h c p = says_retire p.round 3 (rd_with 6 p.added) ∷ []
sayings_at step.RetireFence h c p = says_retire p.round 4 None ∷ []
sayings_at step.ReadAgain h c p = says_read p.round 5 (own_addr h) (bytes_of_number p.taken) ∷ []
sayings_at step.RetireReadAgain h c p = says_retire p.round 5 (rd_with 8 p.taken) ∷ []
sayings_at step.RetireJump h c p = says_retire p.round 6 None ∷ []

-- a hart after each step
abbrev pub moved_by : Step → ℕ → Progress → Progress
moved_by step.ReadAhead c p = record p { step = step.ReadCounter }
moved_by step.ReadCounter c p = record p { step = step.RetireRead; taken = c }
moved_by step.RetireRead c p = record p { step = step.RetireStore }
moved_by step.RetireStore c p = record p { step = step.ForwardStore }
moved_by step.ForwardStore c p = record p { step = step.InsertStore }
moved_by step.InsertStore c p = record p { step = step.WriteStore }
moved_by step.WriteStore c p = record p { step = step.AddOne; written = p.taken }
moved_by step.AddOne c p = record p { step = step.RetireAdd; added = c }
moved_by step.RetireAdd c p = record p { step = step.RetireFence }
moved_by step.RetireFence c p = record p { step = step.ReadAgain }
moved_by step.ReadAgain c p = record p { step = step.RetireReadAgain }
moved_by step.RetireReadAgain c p = record p { step = step.RetireJump }
moved_by step.RetireJump c p = record p { step = step.ReadAhead; round = p.round + 1 }

-- the shared counter after each step
abbrev pub counted_by : Step → ℕ → ℕ
counted_by step.ReadAhead c = c
counted_by step.ReadCounter c = c
counted_by step.RetireRead c = c
counted_by step.RetireStore c = c
counted_by step.ForwardStore c = c
counted_by step.InsertStore c = c
counted_by step.WriteStore c = c
counted_by step.AddOne c = c + 1
counted_by step.RetireAdd c = c
counted_by step.RetireFence c = c
counted_by step.ReadAgain c = c
counted_by step.RetireReadAgain c = c
counted_by step.RetireJump c = c

-- a hart before its first step
abbrev pub first_progress : Progress
first_progress = record { round = 0; step = step.ReadAhead; taken = 0; added = 0; written = 0 }
