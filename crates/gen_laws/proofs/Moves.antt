-- What a message leaves of a hart's registers, its live Reads and its early Bypasses.
use Rattle.std.proofs.Common.{ℕ, ◌≡◌, ◌≢◌, ◌+◌, ◌*◌, ◌<◌, ◌≤◌, ◌==◌, not, nat_lt, List, [], ◌∷◌, length, set}
use Rattle.std.proofs.Common.{get_or, Bool, true, false, cond, refl, ap, ◌∙◌, arith, Some, None}
use Rattle.std.proofs.Common.{length-set, get_or-set_other}
use Rattle.std.specs.List.{filter}
use Rattle.std.proofs.lemmas.Bool.{eq-eqb, lt-ltb, le-ltb, and_from}
use Rattle.rv_decode.specs.declared.instruction.Insn.{Insn}
use Rattle.rv_step.specs.Steps.{Doing, amo}
use Rattle.matching.specs.declared.reports.OpenReport.{OpenReport}
use Rattle.matching.specs.Reports.{early_of, is_report}
use Rattle.matching.specs.RetireFaults.{lowest_stray, is_over}
use Rattle.matching.specs.Tables.{Table}
use Rattle.trace_gen.specs.Program.{pc_of, counter_addr}
use Rattle.trace_gen.specs.Rounds.{tag_of}
use Rattle.gen_laws.proofs.States.{IsNext, IsUpTo, IsAhead, HasRead, HasBypass}

-- ---- registers

-- no register changes
pub kept_next : (poked h round k round2 k2 : ℕ) (t u : Table) → IsNext poked h round k t
    → IsUpTo u.last (7 * round2 + k2) → u.run.hart.pc ≡ pc_of k2 → u.run.hart.registers ≡ t.run.hart.registers
    → IsNext poked h round2 k2 u
kept_next poked h round k round2 k2 t u next last pc same = record {
  last = last;
  pc = pc;
  registers = ap length same ∙ next.registers;
  counter = λ s. ap (λ (rs : List ℕ). get_or rs 10 0) same ∙ next.counter s;
  own = λ s. ap (λ (rs : List ℕ). get_or rs 11 0) same ∙ next.own s;
  one = λ s. ap (λ (rs : List ℕ). get_or rs 12 0) same ∙ next.one s;
}

-- a register changes that isn't among those that were set
pub set_next : (poked h round k round2 k2 number value : ℕ) (t u : Table) → number < 10 → IsNext poked h round k t
    → IsUpTo u.last (7 * round2 + k2) → u.run.hart.pc ≡ pc_of k2
    → u.run.hart.registers ≡ set t.run.hart.registers number value
    → IsNext poked h round2 k2 u
set_next poked h round k round2 k2 number value t u low next last pc same =
    let rs = t.run.hart.registers in
    let apart : (j : ℕ) → 10 ≤ j → j ≢ number = λ j le e. absurd (omega (arith, le, e, low)) in
    record {
      last = last;
      pc = pc;
      registers = ap length same ∙ length-set rs number value ∙ next.registers;
      counter = λ s. ap (λ (xs : List ℕ). get_or xs 10 0) same
          ∙ get_or-set_other rs number 10 value 0 (apart 10 (omega arith)) ∙ next.counter s;
      own = λ s. ap (λ (xs : List ℕ). get_or xs 11 0) same
          ∙ get_or-set_other rs number 11 value 0 (apart 11 (omega arith)) ∙ next.own s;
      one = λ s. ap (λ (xs : List ℕ). get_or xs 12 0) same
          ∙ get_or-set_other rs number 12 value 0 (apart 12 (omega arith)) ∙ next.one s;
    }

-- ---- Reads

-- what is live behind a Retire
abbrev pub live_behind : ℕ → List OpenReport → List OpenReport
live_behind tag live = filter (λ (r : OpenReport). nat_lt tag r.tag) live

stays : (tag : ℕ) (r : OpenReport) (rs : List OpenReport) → tag < r.tag
    → live_behind tag (r ∷ rs) ≡ r ∷ live_behind tag rs
stays tag r rs lt =
    ap (λ (b : Bool). cond b (r ∷ live_behind tag rs) (live_behind tag rs)) (lt-ltb tag r.tag lt)

goes : (tag : ℕ) (r : OpenReport) (rs : List OpenReport) → r.tag ≤ tag → live_behind tag (r ∷ rs) ≡ live_behind tag rs
goes tag r rs le = ap (λ (b : Bool). cond b (r ∷ live_behind tag rs) (live_behind tag rs)) (le-ltb tag r.tag le)

-- an earlier instruction retires
pub ahead_stays : (round k : ℕ) (live : List OpenReport) → k < 5 → IsAhead round live
    → IsAhead round (live_behind (tag_of round k) live)
ahead_stays round k live small is = record {
  ahead = is.ahead;
  is =
      ap (live_behind (tag_of round k)) is.is
      ∙ stays (tag_of round k) is.ahead [] (omega (arith, is.later, small));
  later = is.later;
}

-- the one that has read does
pub read_goes : (round k addr : ℕ) (bytes : List ℕ) (live : List OpenReport) → k < 5 → HasRead round k addr bytes live
    → IsAhead round (live_behind (tag_of round k) live)
read_goes round k addr bytes live small has = record {
  ahead = has.ahead;
  is =
      ap (live_behind (tag_of round k)) has.is
      ∙ goes (tag_of round k) has.own (has.ahead ∷ []) (omega (arith, has.tag))
      ∙ stays (tag_of round k) has.ahead [] (omega (arith, has.later, small));
  later = has.later;
}

-- the last load does
pub both_go : (round addr : ℕ) (bytes : List ℕ) (live : List OpenReport) → HasRead round 5 addr bytes live
    → live_behind (tag_of round 5) live ≡ []
both_go round addr bytes live has =
    ap (live_behind (tag_of round 5)) has.is
    ∙ goes (tag_of round 5) has.own (has.ahead ∷ []) (omega (arith, has.tag))
    ∙ goes (tag_of round 5) has.ahead [] (omega (arith, has.later))

-- ---- early Bypasses

pub none_early : (h tag : ℕ) (es : List OpenReport) → es ≡ [] → early_of es h tag ≡ None
none_early h tag es none = ap (λ (xs : List OpenReport). early_of xs h tag) none

pub none_stray : (doing : Doing) (h tag : ℕ) (es : List OpenReport) → es ≡ [] → lowest_stray doing h tag es ≡ None
none_stray doing h tag es none = ap (lowest_stray doing h tag) none

-- what is early behind a Retire
abbrev pub early_behind : ℕ → ℕ → List OpenReport → List OpenReport
early_behind h tag es = filter (λ (r : OpenReport). not (is_report h tag r)) es

pub none_behind : (h tag : ℕ) (es : List OpenReport) → es ≡ [] → early_behind h tag es ≡ []
none_behind h tag es none = ap (early_behind h tag) none

module _ (h round value : ℕ) (es : List OpenReport) (has : HasBypass h round value es) where
  here : is_report h (tag_of round 3) has.report ≡ true
  here =
      and_from (has.report.hart == h) (has.report.tag == tag_of round 3) (eq-eqb has.report.hart h has.hart)
      (eq-eqb has.report.tag (tag_of round 3) has.tag)

  -- it is found
  pub found_early : early_of es h (tag_of round 3) ≡ Some has.report
  found_early =
      ap (λ (xs : List OpenReport). early_of xs h (tag_of round 3)) has.is
      ∙ ap (λ (b : Bool). cond b (Some has.report) None) here

  no_lower : (nat_lt has.report.tag (tag_of round 3)) ≡ false
  no_lower = le-ltb has.report.tag (tag_of round 3) (omega (arith, has.tag))

  over : is_over counter_addr 8 has.report.piece ≡ true
  over =
      ap (is_over counter_addr 8) has.piece

  -- it is none that shouldn't be
  pub not_stray : (i : Insn) → lowest_stray (amo i counter_addr 8) h (tag_of round 3) es ≡ None
  not_stray i =
      ap (lowest_stray (amo i counter_addr 8) h (tag_of round 3)) has.is
      ∙ rw (no_lower, over, eq-eqb has.report.hart h has.hart, eq-eqb has.report.tag (tag_of round 3) has.tag) refl

  -- and goes with the Retire
  pub bypass_goes : early_behind h (tag_of round 3) es ≡ []
  bypass_goes =
      ap (early_behind h (tag_of round 3)) has.is
      ∙ ap (λ (b : Bool). cond (not b) (has.report ∷ []) []) here
