-- How many operations a made stream has.
use Rattle.std.proofs.Common.{ℕ, zero, suc, ◌≡◌, ◌+◌, ◌*◌, ◌<◌, List, [], ◌∷◌, length, refl, ap, sym, ◌∙◌}
use Rattle.std.proofs.Common.{arith, inl, inr, Some, reverse}
use Rattle.std.specs.List.{All, sum_by, flat_map}
use Rattle.std.proofs.lemmas.List.{reverse-reverse, length-append}
use Rattle.std.proofs.lemmas.List.Sums.{sum_by-set, sum_by-cons}
use Rattle.std.proofs.lemmas.List.Folds.{sum_by-replicate}
use Rattle.std.proofs.Math.Nat.{suc-mul}
use Rattle.msg_frames.specs.declared.message.Message.{Message}
use Rattle.matching.specs.Fates.{fate, place_of}
use Rattle.order_laws.specs.Decisions.{operations_of}
use Rattle.trace_model.specs.Entries.{Entry, MemoryUse, byte_places, memory_ops, entry_ops}
use Rattle.trace_model.specs.Traces.{entries, places}
use Rattle.trace_model.proofs.Lists.{In}
use Rattle.trace_gen.specs.declared.rounds.Step.{Step}
use Rattle.trace_gen.specs.declared.rounds.Progress.{Progress}
use Rattle.trace_gen.specs.Program.{made_image, own_addr}
use Rattle.trace_gen.specs.Rounds.{tag_of, moved_by, first_progress}
use Rattle.trace_gen.specs.Schedule.{Moment, said, stepped}
use Rattle.trace_gen.specs.Making.{CanMake, opened, made_messages, moment_of, ends}
use Rattle.trace_gen.proofs.Turns.{IsDone, at_turn, done_at}
use Rattle.gen_laws.proofs.Clean.{start_at}
use Rattle.gen_order_laws.proofs.Logs.{Perf, written, turns_of, performed_before}
use Rattle.gen_order_laws.proofs.Entered.{IsStoredBy, IsOfLog}
use Rattle.gen_order_laws.proofs.Kept.{IsKept}
use Rattle.gen_order_laws.proofs.Lawful.{IsWell, progress_at}
use Rattle.gen_count_laws.proofs.OneParts.{one_part}
use Rattle.gen_count_laws.proofs.Uses.{weight_of, weigh, used_of, used_before, weighs_more}
use Rattle.gen_count_laws.proofs.Passes.{IsTurn, said_at, each_well}

-- ---- once all is performed, each instruction has as many as it weighs

module _ (harts c rounds : ℕ) (progress : ℕ → Progress) (before : List Message) (kept : IsKept harts c progress before)
    (turns : (h : ℕ) → h < harts → turns_of (progress h) ≡ 5 * rounds) where
  store_one : (e : Entry) (f : Perf) → In f kept.log → IsStoredBy f e
      → length (entry_ops (places before) e) ≡ weight_of e.memory
  store_one e f i by =
      let h = kept.logged.hart f i in
      let d = kept.logged.done f i in
      let w = kept.logged.there f.hart f.round written h (omega (arith, d, turns f.hart h)) in
      let here : (k : ℕ) → k < by.access.extent.len → byte_places (places before) by.access k ≡ Some w.0.place =
      λ k lt.
      ap (λ (x : ℕ). place_of (fate before x by.access.tag (by.access.extent.addr + k))) (by.hart ∙ sym w.2)
      ∙ ap (λ (x : ℕ). place_of (fate before w.0.hart x (by.access.extent.addr + k)))
      (by.tag ∙ ap (λ (r : ℕ). tag_of r 1) (sym w.3))
      ∙ ap (λ (x : ℕ). place_of (fate before w.0.hart (tag_of w.0.round 1) (x + k))) (by.addr ∙ ap own_addr (sym w.2))
      ∙ ap place_of (kept.written w.0 w.1 w.4 k (omega (arith, lt, by.len))) in
      ap (λ (u : MemoryUse). length (memory_ops (places before) u)) by.is
      ∙ one_part by.access (byte_places (places before) by.access) (Some w.0.place) (omega (arith, by.len)) here
      ∙ ap weight_of (sym by.is)

  entry_one : (e : Entry) → IsOfLog kept.log e → length (entry_ops (places before) e) ≡ weight_of e.memory
  entry_one e (inl q) =
      ap (λ (u : MemoryUse). length (memory_ops (places before) u)) q ∙ ap weight_of (sym q)
  entry_one e (inr (inl q)) =
      ap (λ (u : MemoryUse). length (memory_ops (places before) u)) q.2.is ∙ ap weight_of (sym q.2.is)
  entry_one e (inr (inr q)) = store_one e q.0 q.1 q.2

  all_one : (es : List Entry) → ((e : Entry) → In e es → IsOfLog kept.log e)
      → length (flat_map (entry_ops (places before)) es) ≡ weigh es
  all_one [] are = refl
  all_one (e ∷ es) are =
      length-append (entry_ops (places before) e) (flat_map (entry_ops (places before)) es)
      ∙ ap (λ (k : ℕ). k + length (flat_map (entry_ops (places before)) es)) (entry_one e (are e (inl refl)))
      ∙ ap (λ (k : ℕ). weight_of e.memory + k) (all_one es (λ d i. are d (inr i)))

  ops_weigh : length (flat_map (entry_ops (places before)) (entries made_image before))
      ≡ weigh (entries made_image before)
  ops_weigh = all_one (entries made_image before) kept.entered.known

-- ---- what they weigh

-- as many as the harts have used
abbrev HasUsed : Moment → Type 0
HasUsed m = weigh (entries made_image m.messages) ≡ sum_by used_of m.harts

none_opened : (harts h : ℕ) → weigh (entries made_image (opened harts h)) ≡ 0
none_opened harts zero = refl
none_opened harts (suc h) = none_opened harts h

used_step : (harts h : ℕ) (m : Moment) → IsTurn harts h m → IsWell harts m → HasUsed m → HasUsed (stepped h m)
used_step harts h m turn well has =
    let p = progress_at m h in
    omega (
      arith,
      has,
      weighs_more harts h m.counter p m.messages well.work.runs turn.mine (omega (arith, turn.mine, turn.high)) p.step
          (said_at harts h m turn well) (well.work.each h),
      sum_by-set used_of m.harts h (moved_by p.step m.counter p) first_progress turn.small,
    )

-- each hart that is done has used five a round
all_used : (rounds : ℕ) (ps : List Progress) → All (IsDone rounds) ps
    → sum_by used_of ps ≡ 5 * (length ps * rounds)
all_used rounds [] done = omega arith
all_used rounds (p ∷ ps) done =
    let later = all_used rounds ps (λ k d lt. done (suc k) d (omega (arith, lt))) in
    let here = done 0 p (omega arith) in
    let own : used_of p ≡ 5 * rounds =
    ap (λ (s : Step). 5 * p.round + used_before s) here.step ∙ omega (arith, here.round) in
    sum_by-cons used_of p ps ∙ rw (suc-mul (length ps) rounds) (omega (arith, own, later))

pub operation_number : (seed harts rounds : ℕ) → CanMake harts rounds
    → operations_of made_image (reverse (made_messages seed harts rounds)) ≡ 5 * (harts * rounds)
operation_number seed harts rounds can =
    let n = 13 * harts * rounds in
    let m = moment_of seed harts rounds n in
    let both = each_well seed harts rounds can HasUsed
    (none_opened harts harts ∙ sym (sum_by-replicate used_of harts first_progress ∙ omega arith))
    (λ m random has. has) (used_step harts) n (omega arith) in
    let at' = at_turn seed harts rounds n (omega arith) in
    let done = done_at seed harts rounds in
    let turns : (h : ℕ) → h < harts → turns_of (progress_at m h) ≡ 5 * rounds =
    λ h small. ap (λ (s : Step). 5 * (progress_at m h).round + performed_before s) (start_at rounds h m.harts done)
    ∙ omega (arith, (done h first_progress (omega (arith, small, at'.len))).round) in
    let all = all_used rounds m.harts done ∙ ap (λ k. 5 * (k * rounds)) at'.len in
    ap (operations_of made_image) (reverse-reverse (said 0 m.messages ends))
    ∙ ops_weigh harts m.counter rounds (progress_at m) m.messages both.0.kept turns
    ∙ both.1 ∙ all
