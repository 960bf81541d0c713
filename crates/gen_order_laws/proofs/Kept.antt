-- What is kept of a made stream as it grows: the log, the entries, and what a hart has pending.
use Rattle.std.proofs.Common.{ℕ, ◌≡◌, ◌+◌, ◌<◌, List, length, ap, sym}
use Rattle.std.proofs.Common.{subst, ◌∙◌, inl, inr, get_or}
use Rattle.std.proofs.lemmas.Bool.{cases_eq}
use Rattle.msg_frames.specs.declared.message.Message.{Message}
use Rattle.matching.specs.declared.reports.OpenReport.{OpenReport}
use Rattle.matching.specs.declared.stores.Fate.{Fate}
use Rattle.matching.specs.declared.stores.Fate.TheVariants.{Waiting, Done}
use Rattle.matching.specs.Fates.{fate}
use Rattle.trace_model.specs.Traces.{entries}
use Rattle.trace_model.proofs.Lists.{In}
use Rattle.trace_gen.specs.declared.rounds.Step.{Step}
use Rattle.trace_gen.specs.declared.rounds.Step.TheVariants as step
use Rattle.trace_gen.specs.declared.rounds.Progress.{Progress}
use Rattle.trace_gen.specs.Program.{made_image, own_addr}
use Rattle.trace_gen.specs.Rounds.{tag_of}
use Rattle.gen_laws.proofs.Says.{Seen, seen}
use Rattle.gen_order_laws.proofs.Counting.{IsCounted}
use Rattle.gen_order_laws.proofs.Logs.{Perf, IsLog, counter, forward, written, add, again}
use Rattle.gen_order_laws.proofs.Logs as logs
use Rattle.gen_order_laws.proofs.Entered.{AreEntered, retired_by}
use Rattle.gen_order_laws.proofs.Retirings.{IsReadAt}

-- an access of a hart's round is performed where its newest report is
pub record IsReported (log : List Perf) (h round : ℕ) (a : logs.Access) (value : ℕ)
    (rs : List OpenReport) : Type 0 where
  pub perf : Perf
  pub in_log : In perf log
  pub hart : perf.hart ≡ h
  pub round_is : perf.round ≡ round
  pub access : perf.access ≡ a
  pub value_is : perf.value ≡ value
  pub at' : IsReadAt perf rs

-- the bytes of the store of a round wait
pub record Waits (fates : ℕ → ℕ → Fate) (h round : ℕ) : Type 0 where
  pub insert : ℕ
  pub bytes : (k : ℕ) → k < 8 → fates (tag_of round 1) (own_addr h + k) ≡ Waiting insert

-- what a hart has pending at each step
abbrev pub Pending : Step → List Perf → Seen → (ℕ → ℕ → Fate) → ℕ → Progress → Type 0
Pending step.ReadAhead log v fates h p = Unit {0}
Pending step.ReadCounter log v fates h p = Unit {0}
Pending step.RetireRead log v fates h p = IsReported log h p.round counter p.taken v.table.live
Pending step.RetireStore log v fates h p = Unit {0}
Pending step.ForwardStore log v fates h p = Unit {0}
Pending step.InsertStore log v fates h p = Unit {0}
Pending step.WriteStore log v fates h p = Waits fates h p.round
Pending step.AddOne log v fates h p = Unit {0}
Pending step.RetireAdd log v fates h p = IsReported log h p.round add p.added v.early
Pending step.RetireFence log v fates h p = Unit {0}
Pending step.ReadAgain log v fates h p = Unit {0}
Pending step.RetireReadAgain log v fates h p = IsReported log h p.round again p.taken v.table.live
Pending step.RetireJump log v fates h p = Unit {0}

-- the fates of a hart's bytes
abbrev pub fates_of : List Message → ℕ → ℕ → ℕ → Fate
fates_of before h t x = fate before h t x

-- the store of each access of the log is performed where it says
abbrev pub AreWritten : List Perf → List Message → Type 0
AreWritten log before = (f : Perf) → In f log → f.access ≡ written → (k : ℕ) → k < 8
    → fate before f.hart (tag_of f.round 1) (own_addr f.hart + k) ≡ Done f.place

pub record IsKept (harts c : ℕ) (progress : ℕ → Progress) (before : List Message) : Type 0 where
  pub log : List Perf
  pub logged : IsLog log harts (length before) progress
  pub counted : IsCounted log c
  pub entered : AreEntered log (entries made_image before) harts (λ h. retired_by (progress h))
  pub written : AreWritten log before
  pub pending : (h : ℕ) → h < harts
      → Pending (progress h).step log (seen before h) (fates_of before h) h (progress h)

-- ---- what another hart has pending

reported_more : (log log2 : List Perf) (h round : ℕ) (a : logs.Access) (value : ℕ) (rs : List OpenReport)
    → ((f : Perf) → In f log → In f log2) → IsReported log h round a value rs → IsReported log2 h round a value rs
reported_more log log2 h round a value rs grows is = record {
  perf = is.perf;
  in_log = grows is.perf is.in_log;
  hart = is.hart;
  round_is = is.round_is;
  access = is.access;
  value_is = is.value_is;
  at' = is.at';
}

pending_more : (s : Step) (log log2 : List Perf) (v : Seen) (old new : ℕ → ℕ → Fate) (h : ℕ) (p : Progress)
    → ((f : Perf) → In f log → In f log2) → ((t x : ℕ) → new t x ≡ old t x) → Pending s log v old h p
    → Pending s log2 v new h p
pending_more step.ReadAhead log log2 v old new h p grows same is = tt
pending_more step.ReadCounter log log2 v old new h p grows same is = tt
pending_more step.RetireRead log log2 v old new h p grows same is = reported_more log log2 _ _ _ _ _ grows is
pending_more step.RetireStore log log2 v old new h p grows same is = tt
pending_more step.ForwardStore log log2 v old new h p grows same is = tt
pending_more step.InsertStore log log2 v old new h p grows same is = tt
pending_more step.WriteStore log log2 v old new h p grows same is =
    record { insert = is.insert; bytes = λ k lt. same (tag_of p.round 1) (own_addr h + k) ∙ is.bytes k lt }
pending_more step.AddOne log log2 v old new h p grows same is = tt
pending_more step.RetireAdd log log2 v old new h p grows same is = reported_more log log2 _ _ _ _ _ grows is
pending_more step.RetireFence log log2 v old new h p grows same is = tt
pending_more step.ReadAgain log log2 v old new h p grows same is = tt
pending_more step.RetireReadAgain log log2 v old new h p grows same is = reported_more log log2 _ _ _ _ _ grows is
pending_more step.RetireJump log log2 v old new h p grows same is = tt

-- ---- a step

-- the progress of the harts after one has moved
abbrev pub progress_of : List Progress → Progress → ℕ → Progress
progress_of ps other h = get_or ps h other

module _ (harts h : ℕ) (old new : ℕ → Progress) (p2 : Progress) (before after : List Message) (log log2 : List Perf)
    (own : new h ≡ p2) (others : (g : ℕ) → (h ≡ g → ⊥) → new g ≡ old g)
    (still : (g : ℕ) → (h ≡ g → ⊥) → seen after g ≡ seen before g)
    (fates : (g t x : ℕ) → (h ≡ g → ⊥) → fate after g t x ≡ fate before g t x)
    (grows : (f : Perf) → In f log → In f log2)
    (was : (g : ℕ) → g < harts → Pending (old g).step log (seen before g) (fates_of before g) g (old g))
    (now : Pending p2.step log2 (seen after h) (fates_of after h) h p2) where
  pub pending_after : (g : ℕ) → g < harts → Pending (new g).step log2 (seen after g) (fates_of after g) g (new g)
  pending_after g small = elim (cases_eq h g) [
    | inl e ↦
        subst (λ (i : ℕ). Pending (new i).step log2 (seen after i) (fates_of after i) i (new i)) e
        (subst (λ (p : Progress). Pending p.step log2 (seen after h) (fates_of after h) h p) (sym own) now)
    | inr apart ↦
        subst (λ (p : Progress). Pending p.step log2 (seen after g) (fates_of after g) g p) (sym (others g apart))
        (subst (λ (v : Seen). Pending (old g).step log2 v (fates_of after g) g (old g)) (sym (still g apart))
        (pending_more (old g).step log log2 (seen before g) (fates_of before g) (fates_of after g) g (old g) grows
        (λ t x. fates g t x apart) (was g small)))
  ]

  -- a number of each hart that the step leaves alone, or makes one more
  pub same_number : (number : Progress → ℕ) → number p2 ≡ number (old h) → (g : ℕ) → number (new g) ≡ number (old g)
  same_number number same g = elim (cases_eq h g) [
    | inl e ↦ subst (λ (i : ℕ). number (new i) ≡ number (old i)) e (ap number own ∙ same)
    | inr apart ↦ ap number (others g apart)
  ]
