-- Each made stream stays in bounds.
use Rattle.std.proofs.Common.{ℕ, ◌≡◌, ◌+◌, ◌*◌, ◌<◌, ◌≤◌, ◌==◌, List, [], ◌∷◌, length, reverse}
use Rattle.std.proofs.Common.{Bool, true, false, cond, refl, ap, sym, subst, ◌∙◌, ◌⊎◌, inl, inr, arith, Some, None}
use Rattle.std.proofs.Common.{get_or-set_other, get_or-set_same}
use Rattle.std.specs.declared.option.Option.{Option}
use Rattle.std.proofs.lemmas.Bool.{cases_eq}
use Rattle.std.proofs.lemmas.List.{reverse-reverse, length-reverse}
use Rattle.msg_frames.specs.declared.message.Piece.{Piece}
use Rattle.msg_frames.specs.declared.message.Body.TheVariants as body
use Rattle.msg_frames.specs.declared.message.Message.{Message}
use Rattle.matching.specs.Counts.{reads_of, stores_of}
use Rattle.matching.specs.PartFaults.{fate_at}
use Rattle.matching.specs.Reports.{live, early, open_report_of}
use Rattle.matching.specs.Stores.{retired_stores}
use Rattle.matching.specs.Tags.{last_tag}
use Rattle.order_laws.specs.Limits.{StaysInBounds}
use Rattle.trace_model.specs.Entries.{Entry}
use Rattle.trace_model.specs.Kept.{oldest_place}
use Rattle.trace_model.specs.Traces.{entries}
use Rattle.trace_model.proofs.Cleaned.{suited}
use Rattle.trace_model.proofs.Lists.{In}
use Rattle.trace_gen.specs.declared.saying.Saying.{Saying}
use Rattle.trace_gen.specs.declared.rounds.Step.{Step}
use Rattle.trace_gen.specs.declared.rounds.Step.TheVariants as step
use Rattle.trace_gen.specs.declared.rounds.Progress.{Progress}
use Rattle.trace_gen.specs.Program.{made_image}
use Rattle.trace_gen.specs.Rounds.{first_progress, sayings_at, moved_by}
use Rattle.trace_gen.specs.Schedule.{Moment, said, all_said, stepped}
use Rattle.trace_gen.specs.Making.{CanMake, before_turns, moment_of, made_messages, ends}
use Rattle.trace_gen.proofs.Numbers.{made_number}
use Rattle.gen_laws.proofs.Clean.{at_first, get_or-replicate}
use Rattle.gen_laws.proofs.Own.{early_at}
use Rattle.gen_laws.proofs.Says.{seen}
use Rattle.gen_laws.proofs.States.{IsBefore, IsUpTo}
use Rattle.gen_order_laws.proofs.Lawful.{IsWell, progress_at}
use Rattle.gen_count_laws.specs.Laws.{made_bounds}
use Rattle.gen_count_laws.proofs.FewEntries.{top_of}
use Rattle.gen_count_laws.proofs.KeptFew.{oldest_after, kept_few}
use Rattle.gen_count_laws.proofs.OpenFew.{next_bound, reads_few, stores_few}
use Rattle.gen_count_laws.proofs.Stays.{counts_bounds, IsSmall, stay_more, stays_opened}
use Rattle.gen_count_laws.proofs.Passes.{IsTurn, said_at, well_step, kept_first, each_well}
use Rattle.gen_count_laws.proofs.Recent.{IsRecent, AreLate, recent_said, recent_all, recent_first}
use Rattle.gen_count_laws.proofs.Uses.{weight_of, gain_at, adds_uses}

-- ---- before each turn

-- what is known of each hart
record IsTame (harts : ℕ) (m : Moment) : Type 0 where
  recent : (h : ℕ) → h < harts → (n : ℕ) × IsRecent m.messages h (progress_at m h).round n
  ones : (e : Entry) → In e (entries made_image m.messages) → weight_of e.memory ≤ 1

-- a hart at the start of a round
recent_start : (harts h : ℕ) (m : Moment) → IsWell harts m → h < harts → (progress_at m h).step ≡ step.ReadAhead
    → (n : ℕ) × IsRecent m.messages h (progress_at m h).round n
recent_start harts h m well mine start =
    let b = subst (λ (s : Step). IsBefore harts h s (progress_at m h) (seen m.messages h)) start (well.work.each h) in
    (length m.messages, recent_first harts m.counter (progress_at m) m.messages well.kept h mine b.reads b.early)

top_up : (o : Option ℕ) (n : ℕ) → IsUpTo o n → top_of o ≤ n
top_up None n up = omega arith
top_up (Some last) n up = up

module _ (harts h : ℕ) (m : Moment) (well : IsWell harts m) (mine : h < harts) (is : IsTame harts m) where
  abbrev p : Progress
  p = progress_at m h

  last_few : top_of (last_tag m.messages h) ≤ 7 * p.round + 7
  last_few =
      let up = top_up (last_tag m.messages h) _ (well.work.each h).next.last in
      omega (arith, up, next_bound p.step)

  reads_at : reads_of m.messages h ≤ 3
  reads_at =
      let b = well.work.each h in
      reads_few p.step h p (live m.messages h) (early_at h (early m.messages)) b.reads b.early

  stores_at : stores_of made_image m.messages h ≤ 1
  stores_at = stores_few (fate_at m.messages h) p.step h p (retired_stores made_image m.messages h)
      (well.work.each h).stores

  small_at : IsSmall m.messages h
  small_at =
      let r = is.recent h mine in
      record {
        reads = omega (arith, reads_at);
        stores = stores_at;
        kept =
            kept_few harts m.counter h r.0 (progress_at m) m.messages well.kept
            (suited made_image m.messages well.work.runs.clean) r.1 is.ones last_few (oldest_place m.messages h)
            (oldest_after m.messages h p.round r.0 r.1);
      }

  -- one more Read
  abbrev read_on : ℕ → Piece → List Message
  read_on tag piece = said h m.messages (record { tag = tag; body = body.Read piece })

  more_reads : (tag : ℕ) (piece : Piece) → reads_of (read_on tag piece) h ≤ 4
  more_reads tag piece = at (h == h) reads_at
    where
      at : (b : Bool) → reads_of m.messages h ≤ 3
          → length (cond b (open_report_of (length m.messages + 1)
          (record { hart = h; time = length m.messages; tag = tag }) piece ∷ live m.messages h) (live m.messages h))
          + length (early_at h (early m.messages)) ≤ 4
      at true le = omega (arith, le)
      at false le = omega (arith, le)

  small_mid : (tag : ℕ) (piece : Piece) → IsSmall (read_on tag piece) h
  small_mid tag piece =
      let r = is.recent h mine in
      let said_read : Saying = record { tag = tag; body = body.Read piece } in
      record {
        reads = more_reads tag piece;
        stores = stores_at;
        kept =
            kept_few harts m.counter h r.0 (progress_at m) m.messages well.kept
            (suited made_image m.messages well.work.runs.clean) r.1 is.ones last_few
            (oldest_place (read_on tag piece) h)
            (oldest_after (read_on tag piece) h p.round r.0
            (recent_said m.messages h h p.round r.0 said_read (λ e. tt) r.1));
      }

-- ---- a turn

gain_bound : (s : Step) → gain_at s ≤ 1
gain_bound step.ReadAhead = omega arith
gain_bound step.ReadCounter = omega arith
gain_bound step.RetireRead = omega arith
gain_bound step.RetireStore = omega arith
gain_bound step.ForwardStore = omega arith
gain_bound step.InsertStore = omega arith
gain_bound step.WriteStore = omega arith
gain_bound step.AddOne = omega arith
gain_bound step.RetireAdd = omega arith
gain_bound step.RetireFence = omega arith
gain_bound step.ReadAgain = omega arith
gain_bound step.RetireReadAgain = omega arith
gain_bound step.RetireJump = omega arith

-- what a hart says in a round is late in it
are_late : (s : Step) (h c : ℕ) (p : Progress) → AreLate (7 * p.round) (sayings_at s h c p)
are_late step.ReadAhead h c p = (tt, tt)
are_late step.ReadCounter h c p = (tt, tt)
are_late step.RetireRead h c p = (omega arith, tt)
are_late step.RetireStore h c p = (omega arith, tt)
are_late step.ForwardStore h c p = (tt, (omega arith, tt))
are_late step.InsertStore h c p = (omega arith, tt)
are_late step.WriteStore h c p = (tt, tt)
are_late step.AddOne h c p = (tt, (omega arith, tt))
are_late step.RetireAdd h c p = (omega arith, tt)
are_late step.RetireFence h c p = (omega arith, tt)
are_late step.ReadAgain h c p = (tt, tt)
are_late step.RetireReadAgain h c p = (omega arith, tt)
are_late step.RetireJump h c p = (omega arith, tt)

-- it is in the same round then, or at the start of one
goes_on : (s : Step) (c : ℕ) (p : Progress)
    → ((moved_by s c p).round ≡ p.round) ⊎ ((moved_by s c p).step ≡ step.ReadAhead)
goes_on step.ReadAhead c p = inl refl
goes_on step.ReadCounter c p = inl refl
goes_on step.RetireRead c p = inl refl
goes_on step.RetireStore c p = inl refl
goes_on step.ForwardStore c p = inl refl
goes_on step.InsertStore c p = inl refl
goes_on step.WriteStore c p = inl refl
goes_on step.AddOne c p = inl refl
goes_on step.RetireAdd c p = inl refl
goes_on step.RetireFence c p = inl refl
goes_on step.ReadAgain c p = inl refl
goes_on step.RetireReadAgain c p = inl refl
goes_on step.RetireJump c p = inr refl

module _ (h c : ℕ) (p : Progress) (before : List Message) (stays : StaysInBounds made_image counts_bounds before)
    (mid : (tag : ℕ) (piece : Piece)
    → IsSmall (said h before (record { tag = tag; body = body.Read piece })) h) where
  abbrev Stay : Step → Type 0
  Stay s = IsSmall (all_said h before (sayings_at s h c p)) h
      → StaysInBounds made_image counts_bounds (all_said h before (sayings_at s h c p))

  one : (s : Saying) → IsSmall (said h before s) h → StaysInBounds made_image counts_bounds (said h before s)
  one s small = stay_more before (record {
    head = record { hart = h; time = length before; tag = s.tag };
    body =
        s.body;
  }) stays small

  two : (tag : ℕ) (piece : Piece) (s : Saying)
      → IsSmall (said h (said h before (record { tag = tag; body = body.Read piece })) s) h
      → StaysInBounds made_image counts_bounds (said h (said h before (record { tag = tag; body = body.Read piece })) s)
  two tag piece s small =
      let read : Saying = record { tag = tag; body = body.Read piece } in
      stay_more (said h before read)
      (record { head = record { hart = h; time = length (said h before read); tag = s.tag }; body = s.body })
      (one read (mid tag piece)) small

  stays_on : (s : Step) → Stay s
  stays_on step.ReadAhead small = one _ small
  stays_on step.ReadCounter small = one _ small
  stays_on step.RetireRead small = one _ small
  stays_on step.RetireStore small = one _ small
  stays_on step.ForwardStore small = two _ _ _ small
  stays_on step.InsertStore small = one _ small
  stays_on step.WriteStore small = one _ small
  stays_on step.AddOne small = two _ _ _ small
  stays_on step.RetireAdd small = one _ small
  stays_on step.RetireFence small = one _ small
  stays_on step.ReadAgain small = one _ small
  stays_on step.RetireReadAgain small = one _ small
  stays_on step.RetireJump small = one _ small

module _ (harts h : ℕ) (m : Moment) (turn : IsTurn harts h m) (well : IsWell harts m) (is : IsTame harts m)
    (stays : StaysInBounds made_image counts_bounds m.messages) where
  abbrev old : Progress
  old = progress_at m h

  abbrev moved : Progress
  moved = moved_by old.step m.counter old

  abbrev after : Moment
  after = stepped h m

  abbrev says : List Saying
  says = sayings_at old.step h m.counter old

  own_is : progress_at after h ≡ moved
  own_is = get_or-set_same m.harts h moved first_progress turn.small

  recent_own : (n : ℕ) × IsRecent after.messages h (progress_at after h).round n
  recent_own = elim (goes_on old.step m.counter old) [
    | inl same ↦
        let r = is.recent h turn.mine in (
          r.0,
          subst (λ (x : ℕ). IsRecent after.messages h x r.0) (sym (ap (λ (q : Progress). q.round) own_is ∙ same))
              (recent_all h h old.round r.0 says m.messages (λ e. are_late old.step h m.counter old) r.1),
        )
    | inr start ↦
        recent_start harts h after (well_step harts h m turn well) turn.mine
        (ap (λ (q : Progress). q.step) own_is ∙ start)
  ]

  recent_after : (g : ℕ) → g < harts → (n : ℕ) × IsRecent after.messages g (progress_at after g).round n
  recent_after g small = elim (cases_eq h g) [
    | inl e ↦ subst (λ (x : ℕ). (n : ℕ) × IsRecent after.messages x (progress_at after x).round n) e recent_own
    | inr apart ↦
        let r = is.recent g small in
        let same : progress_at after g ≡ progress_at m g =
        get_or-set_other m.harts h g moved first_progress (λ e. apart (sym e)) in (
          r.0,
          subst (λ (q : Progress). IsRecent after.messages g q.round r.0) (sym same)
              (recent_all h g (progress_at m g).round r.0 says m.messages (λ e. absurd (apart e)) r.1),
        )
  ]

  ones_after : (e : Entry) → In e (entries made_image after.messages) → weight_of e.memory ≤ 1
  ones_after e i = elim
      (adds_uses harts h m.counter old m.messages well.work.runs turn.mine (omega (arith, turn.mine, turn.high))
      old.step (said_at harts h m turn well) (well.work.each h)) [
        | inl q ↦ is.ones e (subst (In e) q.0 i)
        | inr q ↦ new q.0 q.2 (subst (In e) q.1 i)
      ]
    where
      new : (d : Entry) → weight_of d.memory ≡ gain_at old.step → In e (d ∷ entries made_image m.messages)
          → weight_of e.memory ≤ 1
      new d weight (inl s) = omega (arith, ap (λ (x : Entry). weight_of x.memory) s, weight, gain_bound old.step)
      new d weight (inr j) = is.ones e j

  tame_step : IsTame harts after
  tame_step = record { recent = recent_after; ones = ones_after }

  stays_step : StaysInBounds made_image counts_bounds after.messages
  stays_step =
      stays_on h m.counter old m.messages stays (small_mid harts h m well turn.mine is) old.step
      (small_at harts h after (well_step harts h m turn well) turn.mine tame_step)

-- ---- all turns

-- what is known before each
abbrev IsBounded : ℕ → Moment → Type 0
IsBounded harts m = IsTame harts m × StaysInBounds made_image counts_bounds m.messages

bounded_first : (seed harts : ℕ) → 1 ≤ harts → harts ≤ 16 → IsBounded harts (before_turns seed harts)
bounded_first seed harts low high =
    let well : IsWell harts (before_turns seed harts) =
    record { work = at_first seed harts low high; kept = kept_first seed harts } in
    let opened' = stays_opened harts harts in (
      record {
        recent = λ h small.
            recent_start harts h (before_turns seed harts) well small
            (ap (λ (p : Progress). p.step) (get_or-replicate harts h first_progress));
        ones = λ e i. absurd (subst (In e) opened'.0.none i);
      },
      opened'.1,
    )

-- so few messages that they may all come
with_number : (ms : List Message) → length ms ≤ 4000000000 → StaysInBounds made_image counts_bounds ms
    → StaysInBounds made_image made_bounds ms
with_number [] le stays = tt
with_number (m ∷ before) le stays = (
  with_number before (omega (arith, le)) stays.0,
  record { reads = stays.1.reads; stores = stays.1.stores; kept = stays.1.kept; number = le },
)

pub made_in_bounds : (seed harts rounds : ℕ) → CanMake harts rounds
    → StaysInBounds made_image made_bounds (reverse (made_messages seed harts rounds))
made_in_bounds seed harts rounds can =
    let n = 13 * harts * rounds in
    let m = moment_of seed harts rounds n in
    let all = said 0 m.messages ends in
    let both = each_well seed harts rounds can (IsBounded harts) (bounded_first seed harts can.0 can.1)
    (λ m random b. (record { recent = b.0.recent; ones = b.0.ones }, b.1))
    (λ h m turn well b. (tame_step harts h m turn well b.0 b.1, stays_step harts h m turn well b.0 b.1))
    n (omega arith) in
    let small = small_at harts 0 m both.0 (omega (arith, can.0)) both.1.0 in
    let stays : StaysInBounds made_image counts_bounds all =
    stay_more m.messages (record { head = record { hart = 0; time = length m.messages; tag = 0 }; body = ends.body })
    both.1.1 (record { reads = small.reads; stores = small.stores; kept = small.kept }) in
    let few : length all ≤ 4000000000 =
    omega (arith, length-reverse all, made_number seed harts rounds, can.1, can.3) in
    subst (StaysInBounds made_image made_bounds) (sym (reverse-reverse all)) (with_number all few stays)
