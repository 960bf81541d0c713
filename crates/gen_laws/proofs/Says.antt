-- What a hart says, one thing after another, and what is kept of it and of the others.
use Rattle.std.proofs.Common.{ℕ, suc, ◌≡◌, ◌+◌, ◌<◌, ◌≤◌, ◌==◌, List, [], ◌∷◌, length}
use Rattle.std.proofs.Common.{Bool, true, false, cond, refl, ap, sym, subst, ◌∙◌, None, arith}
use Rattle.std.specs.declared.option.Option.{Option}
use Rattle.std.proofs.lemmas.Bool.{eq-eqb, ne_eqb, lt-ltb, le-ltb}
use Rattle.msg_frames.specs.declared.message.Head.{Head}
use Rattle.msg_frames.specs.declared.message.Body.{Body}
use Rattle.msg_frames.specs.declared.message.Body.TheVariants as body
use Rattle.msg_frames.specs.declared.message.Message.{Message}
use Rattle.rv_step.specs.declared.plan.Config.{Config}
use Rattle.tandem_base.specs.FirstFault.{◌or_else◌}
use Rattle.verdict_report.specs.declared.fault.Fault.{Fault}
use Rattle.matching.specs.declared.reports.OpenReport.{OpenReport}
use Rattle.matching.specs.Settings.{number_after, last_time, open_of, is_open, harts_of, config_in, config_of}
use Rattle.matching.specs.Reports.{early}
use Rattle.matching.specs.Matching.{IsClean, match_fault, stream_fault_of, body_fault_of}
use Rattle.matching.specs.Tables.{Table, table_at, table_after, table_fault, early_put, early_dropped}
use Rattle.matching.proofs.Steps.{table_step}
use Rattle.matching.proofs.Same.{fault_same}
use Rattle.trace_gen.specs.declared.saying.Saying.{Saying}
use Rattle.trace_gen.specs.Program.{made_image}
use Rattle.trace_gen.specs.Schedule.{said, all_said}
use Rattle.trace_gen.proofs.Fitting.{IsSaid, AreSaid}
use Rattle.gen_laws.proofs.Own.{early_at, fault_own, after_own, early_own, early_other}

-- what is seen of a hart: what is kept of it, and its early Bypasses
pub record Seen : Type 0 where
  pub table : Table
  pub early : List OpenReport

-- hart h after these messages
abbrev pub seen : List Message → ℕ → Seen
seen before h = record { table = table_at made_image before h; early = early_at h (early before) }

-- it after message n, its own
abbrev pub seen_after : ℕ → Seen → Head → Body → Seen
seen_after n v head b = record {
  table = table_after made_image (config_in 0) v.early n v.table head b;
  early = early_dropped (early_put n v.table.last v.early head b) head b;
}

-- neither the Open nor the End
abbrev pub is_spoken : Body → Bool
is_spoken (body.Open info) = false
is_spoken (body.Poke poke) = true
is_spoken (body.Read piece) = true
is_spoken (body.Insert piece) = true
is_spoken (body.Write write) = true
is_spoken (body.Bypass piece) = true
is_spoken (body.Retire retire) = true
is_spoken body.Squash = true
is_spoken body.End = false

spoken_open : (b : Body) → is_spoken b ≡ true → open_of b ≡ None
spoken_open (body.Open info) e = absurd (cc)
spoken_open (body.Poke poke) e = refl
spoken_open (body.Read piece) e = refl
spoken_open (body.Insert piece) e = refl
spoken_open (body.Write write) e = refl
spoken_open (body.Bypass piece) e = refl
spoken_open (body.Retire retire) e = refl
spoken_open body.Squash e = refl
spoken_open body.End e = refl

end_spoken : is_spoken body.End ≡ true → ⊥
end_spoken e = absurd (cc)

-- the head of what is said after n messages
abbrev pub head_at : ℕ → ℕ → Saying → Head
head_at h n s = record { hart = h; time = n; tag = s.tag }

-- nothing is wrong with what is said, one thing after another, from message n + 1 on, and then the hart is so
abbrev pub Says : ℕ → ℕ → List Saying → Seen → (Seen → Type 0) → Type 0
Says h n [] v Q = Q v
Says h n (s ∷ later) v Q =
    (is_spoken s.body ≡ true)
    × (table_fault made_image (config_in 0) v.early v.table (head_at h n s) s.body ≡ None)
    × Says h (suc n) later (seen_after (n + 1) v (head_at h n s) s.body) Q

-- messages without a fault, the first of them an Open of so many harts
pub record Runs (harts : ℕ) (before : List Message) : Type 0 where
  pub clean : IsClean made_image before
  pub some : 1 ≤ length before
  pub known : harts_of before ≡ harts
  pub config : config_of before ≡ config_in 0
  pub time : last_time before ≤ length before

pub no_fault : (a b : Option Fault) → a ≡ None → b ≡ None → a or_else b ≡ None
no_fault a b e f = rw (e, f) refl

pub stream_fine : (before : List Message) (m : Message) → 1 ≤ length before → is_open m.body ≡ false
    → m.head.hart < harts_of before → last_time before ≤ m.head.time → stream_fault_of before m ≡ None
stream_fine [] m some o h t = absurd (omega (arith, some))
stream_fine (last ∷ before) m some o h t = rw (o, lt-ltb _ _ h, le-ltb _ _ t) refl

on_own : (b : Bool) (t u : Table) → b ≡ true → cond b t u ≡ t
on_own b t u e = rw e refl

on_other : (b : Bool) (t u : Table) → b ≡ false → cond b t u ≡ u
on_other b t u e = rw e refl

-- what is left after a message or some
pub record Left (harts h : ℕ) (before after : List Message) (Q : Seen → Type 0) : Type 0 where
  pub runs : Runs harts after
  pub own : Q (seen after h)
  pub others : (g : ℕ) → (h ≡ g → ⊥) → seen after g ≡ seen before g

-- one message of a hart
module _ (harts h : ℕ) (before : List Message) (s : Saying) (small : h < harts) (runs : Runs harts before)
    (is : IsSaid h s) (spoken : is_spoken s.body ≡ true)
    (fine : table_fault made_image (config_in 0) (early_at h (early before)) (table_at made_image before h)
    (head_at h (length before) s) s.body ≡ None) where
  abbrev message : Message
  message = record { head = head_at h (length before) s; body = s.body }

  body_fine : body_fault_of made_image before message.head message.body ≡ None
  body_fine =
      sym (fault_same made_image before message.head s.body
      (λ e. end_spoken (subst (λ (b : Body). is_spoken b ≡ true) e spoken)))
      ∙ ap (λ (c : Config). table_fault made_image c (early before) (table_at made_image before h) message.head s.body)
      runs.config
      ∙ fault_own made_image (config_in 0) (early before) (table_at made_image before h) message.head s.body
      ∙ fine

  opens_not : open_of s.body ≡ None
  opens_not = spoken_open s.body spoken

  all_fine : match_fault made_image before message ≡ None
  all_fine =
      no_fault _ _ (stream_fine before message runs.some (rw opens_not refl) (rw runs.known small) runs.time) body_fine

  runs_more : Runs harts (message ∷ before)
  runs_more = record {
    clean = (runs.clean, is.fits (length before), all_fine);
    some = omega arith;
    known = rw opens_not runs.known;
    config = rw opens_not runs.config;
    time = omega arith;
  }

  own_table : table_at made_image (message ∷ before) h
      ≡ table_after made_image (config_in 0) (early_at h (early before)) (number_after before)
      (table_at made_image before h) message.head message.body
  own_table =
      table_step made_image before message h runs.clean all_fine
      ∙ on_own (h == h) _ _ (eq-eqb h h refl)
      ∙ ap (λ (c : Config). table_after made_image c (early before) (number_after before) (table_at made_image before h)
      message.head message.body) runs.config
      ∙ after_own made_image (config_in 0) (early before) (number_after before) (table_at made_image before h)
      message.head message.body

  own_seen : seen (message ∷ before) h ≡ seen_after (length before + 1) (seen before h) message.head message.body
  own_seen =
      ap (λ (t : Table). record { table = t; early = early_at h (early (message ∷ before)) }) own_table
      ∙ ap (λ (es : List OpenReport). record {
        table =
            table_after made_image (config_in 0) (early_at h (early before)) (number_after before)
            (table_at made_image before h) message.head message.body;
        early = es;
      }) (early_own before (early before) message.head message.body)

  other_seen : (g : ℕ) → (h ≡ g → ⊥) → seen (message ∷ before) g ≡ seen before g
  other_seen g apart =
      ap (λ (t : Table). record { table = t; early = early_at g (early (message ∷ before)) })
      (table_step made_image before message g runs.clean all_fine ∙ on_other (h == g) _ _ (ne_eqb h g apart))
      ∙ ap (λ (es : List OpenReport). record { table = table_at made_image before g; early = es })
      (early_other before (early before) message.head message.body g apart)

-- several things that a hart says
pub say_all : (harts h : ℕ) (ss : List Saying) (before : List Message) (Q : Seen → Type 0) → h < harts
    → Runs harts before → AreSaid h ss → Says h (length before) ss (seen before h) Q
    → Left harts h before (all_said h before ss) Q
say_all harts h [] before Q small runs are says = record { runs = runs; own = says; others = λ g apart. refl }
say_all harts h (s ∷ later) before Q small runs are says =
    let after : List Message = said h before s in
    let more : Runs harts after = runs_more harts h before s small runs are.0 says.0 says.1 in
    let own = own_seen harts h before s small runs are.0 says.0 says.1 in
    let other = other_seen harts h before s small runs are.0 says.0 says.1 in
    let rest : Says h (length after) later (seen after h) Q =
    subst (λ (w : Seen). Says h (length after) later w Q) (sym own) says.2 in
    let left = say_all harts h later after Q small more are.1 rest in
    record { runs = left.runs; own = left.own; others = λ g apart. left.others g apart ∙ other g apart }
