-- What is kept of a made stream is kept at each step of a hart.
use Rattle.std.proofs.Common.{ℕ, zero, suc, ◌≡◌, ◌+◌, ◌*◌, ◌<◌, ◌==◌, ◌&&◌, List, ◌∷◌, length, take, Bool, true}
use Rattle.std.proofs.Common.{cond, refl, ap, sym, subst, ◌∙◌, arith, inl, inr, slice_index}
use Rattle.std.proofs.lemmas.Bool.{cases_eq, eq-eqb, and_from}
use Rattle.tandem_base.specs.declared.names.Place.{Place}
use Rattle.msg_frames.specs.declared.message.Head.{Head}
use Rattle.msg_frames.specs.declared.message.Piece.{Piece}
use Rattle.msg_frames.specs.declared.message.Body.TheVariants as body
use Rattle.msg_frames.specs.declared.message.Message.{Message}
use Rattle.matching.specs.declared.reports.OpenReport.{OpenReport}
use Rattle.matching.specs.declared.stores.Fate.{Fate}
use Rattle.matching.specs.declared.stores.Fate.TheVariants.{Waiting, Done}
use Rattle.matching.specs.Fates.{fate, drained}
use Rattle.matching.specs.Pieces.{line_start}
use Rattle.matching.specs.Reports.{live, early, open_report_of}
use Rattle.matching.specs.Tags.{is_early, last_tag}
use Rattle.trace_model.specs.Traces.{entries}
use Rattle.trace_model.proofs.Lists.{In}
use Rattle.trace_gen.specs.declared.rounds.Step.{Step}
use Rattle.trace_gen.specs.declared.rounds.Step.TheVariants as step
use Rattle.trace_gen.specs.declared.rounds.Progress.{Progress}
use Rattle.trace_gen.specs.Program.{made_image, counter_addr, own_addr}
use Rattle.trace_gen.specs.Rounds.{tag_of, bytes_of_number, low_half_of, sayings_at, moved_by, counted_by}
use Rattle.trace_gen.specs.Rounds.{says_write}
use Rattle.trace_gen.specs.Schedule.{all_said}
use Rattle.gen_laws.proofs.Own.{early_at}
use Rattle.gen_laws.proofs.Says.{seen, Runs}
use Rattle.gen_laws.proofs.ReadBytes.{has_at}
use Rattle.gen_laws.proofs.States.{IsBefore, next_at, number_at}
use Rattle.gen_laws.proofs.Stores.{own_start}
use Rattle.gen_laws.proofs.Parts.{is_later, part_head}
use Rattle.gen_order_laws.proofs.Counting.{IsCounted, counted_add, counted_read, counted_same}
use Rattle.gen_order_laws.proofs.Logs as logs
use Rattle.gen_order_laws.proofs.Logs.{Perf, IsLog, counter, forward, written, add, again, turns_of, turn_of}
use Rattle.gen_order_laws.proofs.Logs.{performed_before, insn_of_access, order_of}
use Rattle.gen_order_laws.proofs.Entered.{AreEntered, retired_by, entered_log}
use Rattle.gen_order_laws.proofs.Waiting.{fate_other, fate_inserted_other, fate_inserted, fate_early, either}
use Rattle.gen_order_laws.proofs.Retirings.{IsReadAt}
use Rattle.gen_order_laws.proofs.Kept.{IsKept, Pending, AreWritten, fates_of, pending_after}
use Rattle.gen_order_laws.proofs.Growing.{quiet_log, later_log, first_log, written_more, written_new}

pub half_byte : (value i : ℕ) → i < 4
    → slice_index (take 4 (low_half_of value)) i ≡ slice_index (bytes_of_number value) i
half_byte value zero lt = refl
half_byte value (suc zero) lt = refl
half_byte value (suc (suc zero)) lt = refl
half_byte value (suc (suc (suc zero))) lt = refl
half_byte value (suc (suc (suc (suc i)))) lt = absurd (omega (arith, lt))

-- the place of a report of message n + 1
abbrev pub place_behind : ℕ → Place
place_behind n = record { time = n; message = n + 1; insert = n + 1 }

-- a new Read is the newest
pub read_newest : (h round k : ℕ) (piece : Piece) (before : List Message) (f : Perf)
    → f.place ≡ place_behind (length before)
    → IsReadAt f (live (record { head = part_head h (length before) round k; body = body.Read piece } ∷ before) h)
read_newest h round k piece before f e =
    let r : OpenReport = open_report_of (length before + 1) (part_head h (length before) round k) piece in
    record {
      newest = r;
      older = live before h;
      is = ap (λ (b : Bool). cond b (r ∷ live before h) (live before h)) (eq-eqb h h refl);
      at' = sym e;
    }

module _ (harts h c : ℕ) (old new : ℕ → Progress) (before : List Message) (kept : IsKept harts c old before)
    (runs : Runs harts before) (mine : h < harts) (h16 : h < 16)
    (others : (g : ℕ) → (h ≡ g → ⊥) → new g ≡ old g) where
  abbrev pub p : Progress
  p = old h

  abbrev pub n : ℕ
  n = length before

  abbrev pub After : Step → List Message
  After s = all_said h before (sayings_at s h c p)

  abbrev pub Grown : Step → Type 0
  Grown s = (old h).step ≡ s → IsBefore harts h s p (seen before h) → new h ≡ moved_by s c p
      → ((g : ℕ) → (h ≡ g → ⊥) → seen (After s) g ≡ seen before g)
      → IsKept harts (counted_by s c) new (After s)

  pub turns_at : (s : Step) → (old h).step ≡ s → turns_of (old h) ≡ 5 * p.round + performed_before s
  turns_at s at' = ap (λ (x : Step). 5 * p.round + performed_before x) at'

  pub reach_at : (s : Step) → (old h).step ≡ s → retired_by (old h) ≡ 7 * p.round + next_at s
  reach_at s at' = ap (λ (x : Step). 7 * p.round + next_at x) at'

  pub reach_same : (p2 : Progress) → new h ≡ p2 → retired_by p2 ≡ retired_by (old h) → (g : ℕ)
      → retired_by (new g) ≡ retired_by (old g)
  reach_same p2 own same g = elim (cases_eq h g) [
    | inl e ↦ subst (λ (i : ℕ). retired_by (new i) ≡ retired_by (old i)) e (ap retired_by own ∙ same)
    | inr apart ↦ ap retired_by (others g apart)
  ]

  pub reach_others : (g : ℕ) → (h ≡ g → ⊥) → retired_by (new g) ≡ retired_by (old g)
  reach_others g apart = ap retired_by (others g apart)

  pub was_pending : (s : Step) → (old h).step ≡ s → Pending s kept.log (seen before h) (fates_of before h) h p
  was_pending s at' =
      subst (λ (x : Step). Pending x kept.log (seen before h) (fates_of before h) h p) at' (kept.pending h mine)

  -- no instruction more
  pub same_entered : (log2 : List Perf) → ((f : Perf) → In f kept.log → In f log2) → (p2 : Progress) → new h ≡ p2
      → retired_by p2 ≡ retired_by (old h) → AreEntered log2 (entries made_image before) harts (λ g. retired_by (new g))
  same_entered log2 grows p2 own same =
      entered_log kept.log log2 (entries made_image before) harts (λ g. retired_by (old g)) (λ g. retired_by (new g))
      grows (reach_same p2 own same) kept.entered

  abbrev pub SameFates : List Message → Type 0
  SameFates after = (g t x : ℕ) → (h ≡ g → ⊥) → fate after g t x ≡ fate before g t x

  abbrev pub Still : List Message → Type 0
  Still after = (g : ℕ) → (h ≡ g → ⊥) → seen after g ≡ seen before g

  -- what is pending
  pub now_pending : (p2 : Progress) (after : List Message) (log2 : List Perf) → new h ≡ p2 → Still after
      → SameFates after
      → ((f : Perf) → In f kept.log → In f log2)
      → Pending p2.step log2 (seen after h) (fates_of after h) h p2 → (g : ℕ) → g < harts
      → Pending (new g).step log2 (seen after g) (fates_of after g) g (new g)
  now_pending p2 after log2 own still fates grows now =
      pending_after harts h old new p2 before after kept.log log2 own others still fates grows kept.pending now

  -- ---- steps that perform nothing and retire nothing

  pub kept_read_ahead : Grown step.ReadAhead
  kept_read_ahead at' b own still =
      let p2 = moved_by step.ReadAhead c p in
      record {
        log = kept.log;
        logged =
            quiet_log kept.log harts h n (suc n) old new p2 kept.logged mine (omega arith) own others (omega arith) refl
            (sym (turns_at step.ReadAhead at'));
        counted = kept.counted;
        entered = same_entered kept.log (λ f i. i) p2 own (sym (reach_at step.ReadAhead at'));
        written = kept.written;
        pending = now_pending p2 (After step.ReadAhead) kept.log own still (λ g t x apart. refl) (λ f i. i) tt;
      }

  pub kept_insert_store : Grown step.InsertStore
  kept_insert_store at' b own still =
      let p2 = moved_by step.InsertStore c p in
      let head = part_head h n p.round 1 in
      let piece = number_at (own_addr h) p.taken in
      let fates : SameFates (After step.InsertStore) =
      λ g t x apart. fate_other before (fate before g t x) head (body.Insert piece) g t x apart in
      let all : AreWritten kept.log (After step.InsertStore) =
      λ f i w k lt. elim (cases_eq h f.hart) [
        | inl e ↦
            let done : turn_of f < turns_of (old h) =
            subst (λ (g : ℕ). turn_of f < turns_of (old g)) (sym e) (kept.logged.done f i) in
            let turns = turns_at step.InsertStore at' in
            let turn : turn_of f ≡ 5 * f.round + 2 = ap (λ (a : logs.Access). 5 * f.round + order_of a) w in
            fate_inserted_other before (fate before f.hart (tag_of f.round 1) (own_addr f.hart + k)) head piece f.hart
            (tag_of f.round 1) (own_addr f.hart + k) (λ q. absurd (omega (arith, q, done, turns, turn)))
            ∙ kept.written f i w k lt
        | inr apart ↦
            fates f.hart (tag_of f.round 1) (own_addr f.hart + k) apart ∙ kept.written f i w k lt
      ] in
      record {
        log = kept.log;
        logged =
            quiet_log kept.log harts h n (suc n) old new p2 kept.logged mine (omega arith) own others (omega arith) refl
            (sym (turns_at step.InsertStore at'));
        counted = kept.counted;
        entered = same_entered kept.log (λ f i. i) p2 own (sym (reach_at step.InsertStore at'));
        written = all;
        pending =
            now_pending p2 (After step.InsertStore) kept.log own still fates (λ f i. i)
            (record {
              insert = n + 1;
              bytes = λ k lt.
                  fate_inserted before (fate before h (tag_of p.round 1) (own_addr h + k)) head piece (own_addr h + k)
                  (has_at piece k lt);
            });
      }

  -- ---- steps that perform

  -- a Read that counts, of this access
  abbrev pub read_perf : logs.Access → ℕ → Perf
  read_perf a value =
      record { hart = h; round = p.round; access = a; value = value; place = place_behind n }

  pub kept_read_counter : Grown step.ReadCounter
  kept_read_counter at' b own still =
      let p2 = moved_by step.ReadCounter c p in
      let g = read_perf counter c in
      let turns = turns_at step.ReadCounter at' in
      let quiet : counter ≡ written → ⊥ = λ e. cc in
      record {
        log = g ∷ kept.log;
        logged =
            first_log kept.log harts h n (suc n) old new p2 kept.logged mine (omega arith) own others (omega arith) g
            refl refl (omega arith) (omega arith) (omega (arith, turns)) (omega (arith, turns)) (omega (arith, turns))
            refl refl refl;
        counted = counted_read kept.log c n g kept.counted kept.logged.known (omega arith) refl refl;
        entered = same_entered (g ∷ kept.log) (λ f i. inr i) p2 own (sym (reach_at step.ReadCounter at'));
        written = written_more kept.log (After step.ReadCounter) g quiet kept.written;
        pending =
            now_pending p2 (After step.ReadCounter) (g ∷ kept.log) own still (λ i t x apart. refl) (λ f i. inr i)
            (record {
              perf = g;
              in_log = inl refl;
              hart = refl;
              round_is = refl;
              access = refl;
              value_is = refl;
              at' = read_newest h p.round 0 (number_at counter_addr c) before g refl;
            });
      }

  pub kept_read_again : Grown step.ReadAgain
  kept_read_again at' b own still =
      let p2 = moved_by step.ReadAgain c p in
      let g = read_perf again p.taken in
      let turns = turns_at step.ReadAgain at' in
      let quiet : again ≡ written → ⊥ = λ e. cc in
      record {
        log = g ∷ kept.log;
        logged =
            later_log kept.log harts h n (suc n) old new p2 kept.logged mine (omega arith) own others (omega arith) g
            refl refl (omega arith) (omega arith) (omega (arith, turns)) (omega (arith, turns)) refl refl refl
            (λ t. refl);
        counted = counted_same kept.log c n g kept.counted refl;
        entered = same_entered (g ∷ kept.log) (λ f i. inr i) p2 own (sym (reach_at step.ReadAgain at'));
        written = written_more kept.log (After step.ReadAgain) g quiet kept.written;
        pending =
            now_pending p2 (After step.ReadAgain) (g ∷ kept.log) own still (λ i t x apart. refl) (λ f i. inr i)
            (record {
              perf = g;
              in_log = inl refl;
              hart = refl;
              round_is = refl;
              access = refl;
              value_is = refl;
              at' = read_newest h p.round 5 (number_at (own_addr h) p.taken) before g refl;
            });
      }

  pub kept_write_store : Grown step.WriteStore
  kept_write_store at' b own still =
      let p2 = moved_by step.WriteStore c p in
      let waits = was_pending step.WriteStore at' in
      let q : Place = record { time = n; message = n + 1; insert = waits.insert } in
      let g : Perf = record { hart = h; round = p.round; access = written; value = p.taken; place = q } in
      let turns = turns_at step.WriteStore at' in
      let head : Head = record { hart = h; time = n; tag = 0 } in
      let write = says_write (own_addr h) p.taken in
      let after = After step.WriteStore in
      let old_ones : AreWritten kept.log after =
      λ f i w k lt.
      ap (λ (o : Fate). cond ((h == f.hart) && (own_addr h == line_start (own_addr f.hart + k))) (drained n
      (n + 1) o) o)
      (kept.written f i w k lt)
      ∙ either ((h == f.hart) && (own_addr h == line_start (own_addr f.hart + k))) (Done f.place) in
      let here : (k : ℕ) → k < 8 → fate after h (tag_of p.round 1) (own_addr h + k) ≡ Done q =
      λ k lt.
      ap (λ (o : Fate). cond ((h == h) && (own_addr h == line_start (own_addr h + k))) (drained n (n + 1) o) o)
      (waits.bytes k lt)
      ∙ ap (λ (x : Bool). cond x (Done q) (Waiting waits.insert))
      (and_from (h == h) (own_addr h == line_start (own_addr h + k)) (eq-eqb h h refl)
      (eq-eqb (own_addr h) (line_start (own_addr h + k)) (own_start h k lt))) in
      record {
        log = g ∷ kept.log;
        logged =
            later_log kept.log harts h n (suc n) old new p2 kept.logged mine (omega arith) own others (omega arith) g
            refl refl (omega arith) (omega arith) (omega (arith, turns)) (omega (arith, turns)) refl refl refl
            (λ t. refl);
        counted = counted_same kept.log c n g kept.counted refl;
        entered = same_entered (g ∷ kept.log) (λ f i. inr i) p2 own (sym (reach_at step.WriteStore at'));
        written = written_new kept.log after g here old_ones;
        pending =
            now_pending p2 after (g ∷ kept.log) own still
            (λ i t x apart. fate_other before (fate before i t x) head write.body i t x apart) (λ f i. inr i) tt;
      }

  pub kept_add_one : Grown step.AddOne
  kept_add_one at' b own still =
      let p2 = moved_by step.AddOne c p in
      let q = place_behind (suc n) in
      let g : Perf = record { hart = h; round = p.round; access = add; value = c; place = q } in
      let turns = turns_at step.AddOne at' in
      let quiet : add ≡ written → ⊥ = λ e. cc in
      let first : List Message =
      record { head = part_head h n p.round 3; body = body.Read (number_at counter_addr c) } ∷ before in
      let head = part_head h (suc n) p.round 3 in
      let piece = number_at counter_addr (c + 1) in
      let after = After step.AddOne in
      let early' : is_early first head ≡ true =
      is_later (last_tag before h) (7 * p.round + 3) (tag_of p.round 3) b.next.last (omega arith) in
      let r : OpenReport = open_report_of (suc n + 1) head piece in
      let es = early before in
      record {
        log = g ∷ kept.log;
        logged =
            later_log kept.log harts h n (suc (suc n)) old new p2 kept.logged mine (omega arith) own others
            (omega arith)
            g refl refl (omega arith) (omega arith) (omega (arith, turns)) (omega (arith, turns)) refl refl refl
            (λ t. absurd (cc));
        counted = counted_add kept.log c n g kept.counted kept.logged.known (omega arith) refl refl;
        entered = same_entered (g ∷ kept.log) (λ f i. inr i) p2 own (sym (reach_at step.AddOne at'));
        written =
            written_more kept.log after g quiet
            (λ f i w k lt.
            fate_early first (fate before f.hart (tag_of f.round 1) (own_addr f.hart + k)) head piece f.hart
            (tag_of f.round 1) (own_addr f.hart + k) early'
            ∙ kept.written f i w k lt);
        pending =
            now_pending p2 after (g ∷ kept.log) own still
            (λ i t x apart. fate_early first (fate before i t x) head piece i t x early') (λ f i. inr i)
            (record {
              perf = g;
              in_log = inl refl;
              hart = refl;
              round_is = refl;
              access = refl;
              value_is = refl;
              at' =
                  record {
                    newest = r;
                    older = early_at h es;
                    is =
                        ap (λ (x : Bool). early_at h (cond x (r ∷ es) es)) early'
                        ∙ ap (λ (x : Bool). cond x (r ∷ early_at h es) (early_at h es)) (eq-eqb h h refl);
                    at' = refl;
                  };
            });
      }
