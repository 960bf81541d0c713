-- That made streams are accepted where no bit is flipped.
use Rattle.std.specs.Prelude.{ℕ, ◌≡◌, ◌+◌, ◌*◌, None, reverse}
use Rattle.verdict_report.specs.declared.verdict.Verdict.{Verdict}
use Rattle.verdict_report.specs.declared.verdict.Verdict.TheVariants as verdict
use Rattle.order_laws.specs.Decisions.{operations_of}
use Rattle.trace_gen.specs.Program.{made_image}
use Rattle.trace_gen.specs.Making.{CanMake, made_messages}
use Rattle.gen_runs.specs.Verdicts.{made_verdict}

-- the verdict that accepts the stream of so many harts and rounds, with its messages, Retires and operations
abbrev pub made_accept : ℕ → ℕ → ℕ → Verdict
made_accept seed harts rounds =
    verdict.Accept (2 + 3 * harts + 15 * (harts * rounds)) (7 * (harts * rounds))
    (operations_of made_image (reverse (made_messages seed harts rounds)))

-- each made stream is accepted as it was made
abbrev pub UnflippedStreamsAreAccepted : Type 0
UnflippedStreamsAreAccepted = (seed harts rounds : ℕ) → CanMake harts rounds
    → made_verdict seed harts rounds None ≡ made_accept seed harts rounds
