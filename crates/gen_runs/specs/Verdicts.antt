-- The bytes of a made stream, of which one bit may be flipped, and the verdict on them.
use Rattle.std.specs.Prelude.{ℕ, List, Option, Some, None, slice_index, slice_set, bit_xor}
use Rattle.std.specs.List.{flat_map}
use Rattle.msg_frames.specs.Frames.{frame}
use Rattle.verdict_report.specs.declared.verdict.Verdict.{Verdict}
use Rattle.trace_gen.specs.Making.{made_messages}
use Rattle.trace_gen.specs.Program.{made_image}
use Rattle.tandem_core.specs.Judgements.{judgement}
use Rattle.tandem_core.specs.Limits.{ceilings}

-- the frames of the messages that are made
abbrev pub made_bytes : ℕ → ℕ → ℕ → List ℕ
made_bytes seed harts rounds = flat_map frame (made_messages seed harts rounds)

-- the lowest bit of byte n, from 0, is the other one, where there is such a byte
abbrev pub flipped_at : ℕ → List ℕ → List ℕ
flipped_at n bytes = slice_set bytes n (bit_xor (slice_index bytes n) 1)

-- the same, where a byte is named
abbrev pub flipped : Option ℕ → List ℕ → List ℕ
flipped None bytes = bytes
flipped (Some n) bytes = flipped_at n bytes

-- the verdict on the made stream, after the flip, against the image that was made with it; all limits are at their
-- ceilings
abbrev pub made_verdict : ℕ → ℕ → ℕ → Option ℕ → Verdict
made_verdict seed harts rounds flip =
    (judgement made_image ceilings (flipped flip (made_bytes seed harts rounds))).verdict
