-- What a hart has open was reported in its round, and what it did in earlier rounds was performed before that.
use Rattle.std.proofs.Common.{ℕ, ◌≡◌, ◌+◌, ◌*◌, ◌<◌, ◌≤◌, ◌==◌, ◌&&◌, List, [], ◌∷◌, length, Bool, true, false}
use Rattle.std.proofs.Common.{not, nat_lt, cond, refl, ap, sym, subst, ◌∙◌, arith, inl, inr, Some}
use Rattle.std.specs.List.{filter}
use Rattle.std.proofs.lemmas.Bool.{cases_eq, eq-eqb, ne_eqb, and_left, and_right}
use Rattle.tandem_base.specs.declared.names.Place.{Place}
use Rattle.msg_frames.specs.declared.message.Head.{Head}
use Rattle.msg_frames.specs.declared.message.Piece.{Piece}
use Rattle.msg_frames.specs.declared.message.Body.{Body}
use Rattle.msg_frames.specs.declared.message.Body.TheVariants as body
use Rattle.msg_frames.specs.declared.message.Message.{Message}
use Rattle.msg_frames.specs.Pieces.{has}
use Rattle.matching.specs.declared.reports.OpenReport.{OpenReport}
use Rattle.matching.specs.declared.stores.Fate.{Fate}
use Rattle.matching.specs.declared.stores.Fate.TheVariants.{Done, Waiting}
use Rattle.matching.specs.Fates.{fate, fate_in, drained}
use Rattle.matching.specs.Pieces.{line_start}
use Rattle.matching.specs.Reports.{live, live_in, early, early_in, open_report_of, is_report}
use Rattle.matching.specs.Settings.{number_after}
use Rattle.matching.specs.Tags.{is_of, is_early}
use Rattle.rvwmo_model.specs.declared.operations.Op.{Op}
use Rattle.trace_model.specs.Entries.{Entry, MemoryUse, Fixed, Stores}
use Rattle.trace_model.specs.Traces.{entries, entry_in}
use Rattle.trace_model.proofs.Keys.{with_cases, new_key}
use Rattle.trace_model.proofs.Lists.{In, in_filter, from_filter}
use Rattle.trace_gen.specs.declared.saying.Saying.{Saying}
use Rattle.trace_gen.specs.declared.rounds.Progress.{Progress}
use Rattle.trace_gen.specs.Program.{made_image, own_addr}
use Rattle.trace_gen.specs.Rounds.{tag_of}
use Rattle.trace_gen.specs.Schedule.{said, all_said}
use Rattle.gen_laws.proofs.Own.{early_at}
use Rattle.gen_order_laws.proofs.Logs.{written}
use Rattle.gen_order_laws.proofs.MadeOps.{IsOp}
use Rattle.gen_order_laws.proofs.Entered.{IsOfLog}
use Rattle.gen_order_laws.proofs.Kept.{IsKept}
use Rattle.gen_order_laws.proofs.Waiting.{either}

-- the report is of a message after message n
abbrev pub IsAfter : ℕ → OpenReport → Type 0
IsAfter n r = (n < r.number) × (r.time + 1 ≡ r.number)

-- the operations that stay as they are
abbrev pub fixed_ops : MemoryUse → List Op
fixed_ops (Fixed ops) = ops
fixed_ops (Stores a) = []

-- a byte of the store of a round was performed by message n
abbrev pub IsStoredBy : List Message → ℕ → ℕ → ℕ → ℕ → Type 0
IsStoredBy before h j k n = (q : Place) × (fate before h (tag_of j 1) (own_addr h + k) ≡ Done q) × (q.message ≤ n)
    × (q.time + 1 ≡ q.message)

-- what hart h has open was reported after message n, and what it did before a round was performed by then
pub record IsRecent (before : List Message) (h round n : ℕ) : Type 0 where
  pub low : n ≤ length before
  pub reads : (r : OpenReport) → In r (live before h) → IsAfter n r
  pub earlies : (r : OpenReport) → In r (early before) → r.hart ≡ h → IsAfter n r
  pub fixed : (e : Entry) (o : Op) (q : Place) → In e (entries made_image before) → e.insn.hart ≡ h
      → e.insn.tag ≤ 7 * round → In o (fixed_ops e.memory) → o.place ≡ Some q → q.message ≤ n
  pub stored : (j k : ℕ) → j < round → k < 8 → IsStoredBy before h j k n

-- ---- one more message

-- its tag is above a number, where that matters
abbrev pub IsLate : ℕ → ℕ → Body → Type 0
IsLate low tag (body.Open info) = Unit {0}
IsLate low tag (body.Poke poke) = Unit {0}
IsLate low tag (body.Read piece) = Unit {0}
IsLate low tag (body.Insert piece) = low < tag
IsLate low tag (body.Write write) = Unit {0}
IsLate low tag (body.Bypass piece) = low < tag
IsLate low tag (body.Retire retire) = low < tag
IsLate low tag body.Squash = Unit {0}
IsLate low tag body.End = Unit {0}

-- another store
off : (head : Head) (piece : Piece) (g t x low : ℕ) → t ≤ low → (head.hart ≡ g → low < head.tag)
    → (is_of head g t && has piece x) ≡ false
off head piece g t x low le late =
    and_left (is_of head g t) (has piece x) (elim (cases_eq head.hart g) [
      | inl e ↦
          let l = late e in
          and_right (head.hart == g) (head.tag == t) (ne_eqb head.tag t (λ q. absurd (omega (arith, q, l, le))))
      | inr apart ↦ and_left (head.hart == g) (head.tag == t) (ne_eqb head.hart g apart)
    ])

-- a byte that is performed stays so
fate_late : (before : List Message) (old : Fate) (head : Head) (b : Body) (g t x low : ℕ) (q : Place) → t ≤ low
    → (head.hart ≡ g → IsLate low head.tag b) → old ≡ Done q → fate_in before old head b g t x ≡ Done q
fate_late before old head (body.Open info) g t x low q le late e = e
fate_late before old head (body.Poke poke) g t x low q le late e = e
fate_late before old head (body.Read piece) g t x low q le late e = e
fate_late before old head (body.Insert piece) g t x low q le late e =
    ap (λ (b : Bool). cond b (Waiting (number_after before)) old) (off head piece g t x low le late) ∙ e
fate_late before old head (body.Write write) g t x low q le late e =
    ap (λ (o : Fate). cond ((head.hart == g) && (write.line == line_start x))
    (drained head.time (number_after before) o) o) e
    ∙ either ((head.hart == g) && (write.line == line_start x)) (Done q)
fate_late before old head (body.Bypass piece) g t x low q le late e =
    let place : Place = record { time = head.time; message = number_after before; insert = number_after before } in
    ap (λ (b : Bool). cond (is_early before head) old (cond b (Done place) old)) (off head piece g t x low le late)
    ∙ either (is_early before head) old ∙ e
fate_late before old head (body.Retire retire) g t x low q le late e = e
fate_late before old head body.Squash g t x low q le late e = e
fate_late before old head body.End g t x low q le late e = e

module _ (before : List Message) (head : Head) (n : ℕ) (low : n ≤ length before)
    (time : head.time ≡ length before) where
  new_after : (piece : Piece) → IsAfter n (open_report_of (number_after before) head piece)
  new_after piece = (omega (arith, low), omega (arith, time))

  -- the Reads
  module _ (h : ℕ) (old : List OpenReport) (are : (r : OpenReport) → In r old → IsAfter n r) where
    live_on : (b : Body) (r : OpenReport) → In r (live_in (number_after before) old head b h) → IsAfter n r
    live_on (body.Open info) r i = are r i
    live_on (body.Poke poke) r i = are r i
    live_on (body.Read piece) r i = at (head.hart == h) i
      where
        at : (c : Bool) → In r (cond c (open_report_of (number_after before) head piece ∷ old) old) → IsAfter n r
        at true (inl e) = subst (IsAfter n) (sym e) (new_after piece)
        at true (inr j) = are r j
        at false j = are r j
    live_on (body.Insert piece) r i = are r i
    live_on (body.Write write) r i = are r i
    live_on (body.Bypass piece) r i = are r i
    live_on (body.Retire retire) r i = at (head.hart == h) i
      where
        at : (c : Bool) → In r (cond c (filter (λ (x : OpenReport). nat_lt head.tag x.tag) old) old) → IsAfter n r
        at true j = are r (from_filter (λ (x : OpenReport). nat_lt head.tag x.tag) old r j).0
        at false j = are r j
    live_on body.Squash r i = at (head.hart == h) i
      where
        at : (c : Bool) → In r (cond c (filter (λ (x : OpenReport). nat_lt x.tag head.tag) old) old) → IsAfter n r
        at true j = are r (from_filter (λ (x : OpenReport). nat_lt x.tag head.tag) old r j).0
        at false j = are r j
    live_on body.End r i = are r i

  -- the early Bypasses
  module _ (h : ℕ) (old : List OpenReport) (are : (r : OpenReport) → In r old → r.hart ≡ h → IsAfter n r) where
    early_on : (b : Body) (r : OpenReport) → In r (early_in before old head b) → r.hart ≡ h → IsAfter n r
    early_on (body.Open info) r i e = are r i e
    early_on (body.Poke poke) r i e = are r i e
    early_on (body.Read piece) r i e = are r i e
    early_on (body.Insert piece) r i e = are r i e
    early_on (body.Write write) r i e = are r i e
    early_on (body.Bypass piece) r i e = at (is_early before head) i
      where
        at : (c : Bool) → In r (cond c (open_report_of (number_after before) head piece ∷ old) old) → IsAfter n r
        at true (inl q) = subst (IsAfter n) (sym q) (new_after piece)
        at true (inr j) = are r j e
        at false j = are r j e
    early_on (body.Retire retire) r i e =
        are r (from_filter (λ (x : OpenReport). not (is_report head.hart head.tag x)) old r i).0 e
    early_on body.Squash r i e = are r i e
    early_on body.End r i e = are r i e

-- a new entry is of the message, which is late
new_late : (before : List Message) (head : Head) (h low : ℕ) (b : Body) → (head.hart ≡ h → IsLate low head.tag b)
    → (e : Entry) → entry_in made_image before head b ≡ Some e → e.insn.hart ≡ h → low < e.insn.tag
new_late before head h low (body.Retire retire) late e is hart =
    let k = new_key made_image before head (body.Retire retire) e is in
    let l = late (sym k.0 ∙ hart) in
    omega (arith, l, k.1)
new_late before head h low _ late e is hart = absurd (cc)

-- a message
pub recent_said : (before : List Message) (g h round n : ℕ) (s : Saying) → (g ≡ h → IsLate (7 * round) s.tag s.body)
    → IsRecent before h round n → IsRecent (said g before s) h round n
recent_said before g h round n s late is = record {
  low = omega (arith, is.low);
  reads = live_on before head n is.low refl h (live before h) is.reads s.body;
  earlies = early_on before head n is.low refl h (early before) is.earlies s.body;
  fixed = fixed;
  stored = λ j k lt k8.
      let o = is.stored j k lt k8 in (
        o.0,
        fate_late before (fate before h (tag_of j 1) (own_addr h + k)) head s.body h (tag_of j 1) (own_addr h + k)
            (7 * round) o.0 (omega (arith, lt)) late o.1,
        o.2,
        o.3,
      );
}
  where
    head : Head
    head = record { hart = g; time = length before; tag = s.tag }

    fixed : (e : Entry) (o : Op) (q : Place) → In e (entries made_image (said g before s)) → e.insn.hart ≡ h
        → e.insn.tag ≤ 7 * round → In o (fixed_ops e.memory) → o.place ≡ Some q → q.message ≤ n
    fixed e o q i hart tag j place = elim
        (with_cases (entry_in made_image before (record { hart = g; time = length before; tag = s.tag }) s.body)
        (entries made_image before) e i) [
          | inl old ↦ is.fixed e o q old hart tag j place
          | inr new ↦
              let l = new_late before (record { hart = g; time = length before; tag = s.tag }) h (7 * round) s.body late
              e new hart in
              absurd (omega (arith, l, tag))
        ]

-- several
abbrev pub AreLate : ℕ → List Saying → Type 0
AreLate low [] = Unit {0}
AreLate low (s ∷ later) = IsLate low s.tag s.body × AreLate low later

pub recent_all : (g h round n : ℕ) (ss : List Saying) (before : List Message) → (g ≡ h → AreLate (7 * round) ss)
    → IsRecent before h round n → IsRecent (all_said g before ss) h round n
recent_all g h round n [] before late is = is
recent_all g h round n (s ∷ later) before late is =
    recent_all g h round n later (said g before s) (λ e. (late e).1)
    (recent_said before g h round n s (λ e. (late e).0) is)

-- ---- a hart that has nothing open

module _ (harts c : ℕ) (progress : ℕ → Progress) (before : List Message) (kept : IsKept harts c progress before)
    (h : ℕ) (mine : h < harts) (reads : live before h ≡ []) (earlies : early_at h (early before) ≡ []) where
  fixed_by : (e : Entry) (o : Op) (q : Place) → IsOfLog kept.log e → In o (fixed_ops e.memory) → o.place ≡ Some q
      → q.message ≤ length before
  fixed_by e o q (inl is) i place = absurd (subst (λ (u : MemoryUse). In o (fixed_ops u)) is i)
  fixed_by e o q (inr (inl f)) i place =
      let op : IsOp f.0 o = f.2.all o (subst (λ (u : MemoryUse). In o (fixed_ops u)) f.2.is i) in
      let both : Some q ≡ Some f.0.place = sym place ∙ op.place in
      let same : q ≡ f.0.place = cc in
      omega (arith, ap (λ (x : Place). x.message) same, kept.logged.known f.0 f.1)
  fixed_by e o q (inr (inr f)) i place = absurd (subst (λ (u : MemoryUse). In o (fixed_ops u)) f.2.is i)

  stored_by : (j k : ℕ) → j < (progress h).round → k < 8 → IsStoredBy before h j k (length before)
  stored_by j k lt k8 =
      let w = kept.logged.there h j written mine (omega (arith, lt)) in (
        w.0.place,
        ap (λ (x : ℕ). fate before x (tag_of j 1) (own_addr x + k)) (sym w.2)
            ∙ ap (λ (x : ℕ). fate before w.0.hart (tag_of x 1) (own_addr w.0.hart + k)) (sym w.3)
            ∙ kept.written w.0 w.1 w.4 k k8,
        kept.logged.known w.0 w.1,
        kept.logged.timed w.0 w.1,
      )

  pub recent_first : IsRecent before h (progress h).round (length before)
  recent_first = record {
    low = omega arith;
    reads = λ r i. absurd (subst (In r) reads i);
    earlies = λ r i e.
        absurd (subst (In r) earlies (in_filter (λ (x : OpenReport). x.hart == h) (early before) r i
        (eq-eqb r.hart h e)));
    fixed = λ e o q i hart tag j place. fixed_by e o q (kept.entered.known e i) j place;
    stored = stored_by;
  }
