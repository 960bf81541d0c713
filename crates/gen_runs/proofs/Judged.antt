-- What is judged of a source that holds these bytes.
use Rattle.std.proofs.Common.{◌≡◌, ℕ, ◌⊎◌, inl, inr, List, ◌++◌, length, Some, sym, ◌∙◌, ap, append-nil}
use Rattle.std.specs.Io.KnownBytes.{Consumes, IsAtEnd}
use Rattle.elf_image.specs.Images.{Loaded}
use Rattle.verdict_report.specs.declared.verdict.Verdict.{Verdict}
use Rattle.tandem_core.specs.declared.limits.Limits.{Limits}
use Rattle.tandem_core.specs.Judgements.{Judgement, judgement}
use Rattle.tandem_core.specs.Judging.{Decides}

-- the verdict on the bytes that were taken is that on all bytes
pub verdict_is : (image : Loaded) (limits : Limits) (bytes got rest : List ℕ) (v : Verdict)
    → Consumes (Some bytes) (Some rest) got → Decides image limits got (Some rest) v
    → v ≡ (judgement image limits bytes).verdict
verdict_is image limits bytes got rest v taken decides = by decides.verdict
  where
    by : ((more : List ℕ) → judgement image limits (got ++ more)
        ≡ record { verdict = v; taken = length got; frames = decides.frames })
        ⊎ (IsAtEnd (Some rest)
        × (judgement image limits got ≡ record { verdict = v; taken = length got; frames = decides.frames }))
        → v ≡ (judgement image limits bytes).verdict
    by (inl more) = sym (ap (λ (j : Judgement). j.verdict) (ap (judgement image limits) taken ∙ more rest))
    by (inr (at_end, is)) =
        let all : bytes ≡ got = taken ∙ ap (λ (r : List ℕ). got ++ r) at_end ∙ append-nil got in
        sym (ap (λ (j : Judgement). j.verdict) (ap (judgement image limits) all ∙ is))
