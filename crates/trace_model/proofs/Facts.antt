-- One induction for each list, and what follows.
use Rattle.std.proofs.Common.{ℕ, ◌+◌, ◌≤◌, ◌≡◌, inl, inr, Bool, true, false, not, eqb, ltb, ◌&&◌, cond, List, [], ◌∷◌}
use Rattle.std.proofs.Common.{length, Option, Some, None, refl, subst, ◌∙◌, arith}
use Rattle.std.specs.List.{filter}
use Rattle.std.proofs.lemmas.Bool.{eqb-true, eq-eqb}
use Rattle.tandem_base.specs.declared.names.Place.{Place}
use Rattle.msg_frames.specs.declared.message.Head.{Head}
use Rattle.msg_frames.specs.declared.message.Piece.{Piece}
use Rattle.msg_frames.specs.declared.message.LineWrite.{LineWrite}
use Rattle.msg_frames.specs.declared.message.Body.{Body}
use Rattle.msg_frames.specs.declared.message.Body.TheVariants as body
use Rattle.msg_frames.specs.declared.message.Message.{Message}
use Rattle.trace_model.proofs.Lists.{In}
use Rattle.trace_model.proofs.Lists.{from_filter}
use Rattle.matching.specs.declared.stores.Fate.{Fate}
use Rattle.matching.specs.declared.reports.OpenReport.{OpenReport}
use Rattle.matching.specs.declared.stores.Fate.TheVariants.{Nothing, Waiting, Done}
use Rattle.matching.specs.Settings.{number_after}
use Rattle.msg_frames.specs.Pieces.{has}
use Rattle.matching.specs.Pieces.{line_start}
use Rattle.matching.specs.Tags.{is_of, is_early}
use Rattle.matching.specs.Reports.{open_report_of, is_report, live_in, live, early_in, early}
use Rattle.matching.specs.Fates.{drained, fate_in, fate}

-- what holds of the place of each new Done, and goes on, holds of each
pub record OnDone (P : List Message → Place → Type 0) : Type 0 where
  pub on : (before : List Message) (m : Message) (q : Place) → P before q → P (m ∷ before) q
  pub drain : (before : List Message) (head : Head) (write : LineWrite) (j : ℕ)
      → P (record { head = head; body = body.Write write } ∷ before)
      (record { time = head.time; message = number_after before; insert = j })
  pub bypass : (before : List Message) (head : Head) (piece : Piece)
      → P (record { head = head; body = body.Bypass piece } ∷ before)
      (record { time = head.time; message = number_after before; insert = number_after before })

module _ (P : List Message → Place → Type 0) (c : OnDone P) where
  module _ (before : List Message) (head : Head) (h t x : ℕ) (q : Place) (old : fate before h t x ≡ Done q → P before q)
    where
      abbrev At : Body → Type 0
      At b = P (record { head = head; body = b } ∷ before) q

      on : (b : Body) → fate before h t x ≡ Done q → At b
      on b e = c.on before (record { head = head; body = b }) q (old e)

      drained_all : (write : LineWrite) (f : Fate) → fate before h t x ≡ f → drained head.time (number_after before) f
          ≡ Done q → At (body.Write write)
      drained_all write Nothing s e = absurd (cc)
      drained_all write (Waiting j) s e = subst (P (record { head = head; body = body.Write write } ∷ before))
          (let r : record { time = head.time; message = number_after before; insert = j } ≡ q = cc in r)
          (c.drain before head write j)
      drained_all write (Done p) s e = on (body.Write write) (s ∙ e)

      fate_now : (b : Body) → fate_in before (fate before h t x) head b h t x ≡ Done q → At b
      fate_now (body.Insert piece) e = at (is_of head h t && has piece x) e
        where
          at : (d : Bool) → cond d (Waiting (number_after before)) (fate before h t x) ≡ Done q → At (body.Insert piece)
          at true e = absurd (cc)
          at false e = on (body.Insert piece) e
      fate_now (body.Write write) e = at (eqb head.hart h && eqb write.line (line_start x)) e
        where
          at : (d : Bool) → cond d (drained head.time (number_after before) (fate before h t x)) (fate before h t x)
              ≡ Done q → At (body.Write write)
          at true e = drained_all write (fate before h t x) refl e
          at false e = on (body.Write write) e
      fate_now (body.Bypass piece) e = at (is_early before head) (is_of head h t && has piece x) _
          (c.bypass before head piece) e
        where
          at : (b d : Bool) (p : Place) → P (record { head = head; body = body.Bypass piece } ∷ before) p
              → cond b (fate before h t x) (cond d (Done p) (fate before h t x)) ≡ Done q → At (body.Bypass piece)
          at true d p l e = on (body.Bypass piece) e
          at false true p l e = subst (P (record { head = head; body = body.Bypass piece } ∷ before)) (let r : p ≡ q =
              cc in r) l
          at false false p l e = on (body.Bypass piece) e
      fate_now b e = on b e

  pub fate_all : (before : List Message) (h t x : ℕ) (q : Place) → fate before h t x ≡ Done q → P before q
  fate_all [] h t x q e = absurd (cc)
  fate_all (m ∷ before) h t x q e = fate_now before m.head h t x q (fate_all before h t x q) m.body e

-- the same of live Reads
pub record OnRead (P : List Message → ℕ → OpenReport → Type 0) : Type 0 where
  pub on : (before : List Message) (m : Message) (h : ℕ) (r : OpenReport) → P before h r → P (m ∷ before) h r
  pub read : (before : List Message) (head : Head) (piece : Piece)
      → P (record { head = head; body = body.Read piece } ∷ before) head.hart
      (open_report_of (number_after before) head piece)

module _ (P : List Message → ℕ → OpenReport → Type 0) (c : OnRead P) where
  live_now : (before : List Message) (head : Head) (h : ℕ) (r : OpenReport) → (In r (live before h) → P before h r)
      → (b : Body) → In r (live_in (number_after before) (live before h) head b h)
      → P (record { head = head; body = b } ∷ before) h r
  live_now before head h r old (body.Read piece) i = at (eqb head.hart h) refl i
    where
      at : (d : Bool) → eqb head.hart h ≡ d → In r (cond d (open_report_of
          (number_after before) head piece ∷ live before h)
          (live before h)) → P (record { head = head; body = body.Read piece } ∷ before) h r
      at true q (inl e) = rw e (subst (λ (z : ℕ). P (record { head = head; body = body.Read piece } ∷ before) z
          (open_report_of (number_after before) head piece)) (eqb-true _ _ q) (c.read before head piece))
      at true q (inr j) = c.on before _ h r (old j)
      at false q j = c.on before _ h r (old j)
  live_now before head h r old (body.Retire retire) i = at (eqb head.hart h) i
    where
      at : (d : Bool) → In r (cond d (filter (λ (s : OpenReport). ltb head.tag s.tag) (live before h)) (live before h))
          → P (record { head = head; body = body.Retire retire } ∷ before) h r
      at true j = c.on before _ h r (old (from_filter (λ (s : OpenReport). ltb head.tag s.tag) (live before h) r j).0)
      at false j = c.on before _ h r (old j)
  live_now before head h r old body.Squash i = at (eqb head.hart h) i
    where
      at : (d : Bool) → In r (cond d (filter (λ (s : OpenReport). ltb s.tag head.tag) (live before h)) (live before h))
          → P (record { head = head; body = body.Squash } ∷ before) h r
      at true j = c.on before _ h r (old (from_filter (λ (s : OpenReport). ltb s.tag head.tag) (live before h) r j).0)
      at false j = c.on before _ h r (old j)
  live_now before head h r old b i = c.on before _ h r (old i)

  pub live_all : (before : List Message) (h : ℕ) (r : OpenReport) → In r (live before h) → P before h r
  live_all [] h r i = absurd i
  live_all (m ∷ before) h r i = live_now before m.head h r (live_all before h r) m.body i

-- the same of early Bypasses
pub record OnEarly (P : List Message → OpenReport → Type 0) : Type 0 where
  pub on : (before : List Message) (m : Message) (r : OpenReport) → P before r → P (m ∷ before) r
  pub bypass : (before : List Message) (head : Head) (piece : Piece) → is_early before head ≡ true
      → P (record { head = head; body = body.Bypass piece } ∷ before) (open_report_of (number_after before) head piece)

module _ (P : List Message → OpenReport → Type 0) (c : OnEarly P) where
  early_now : (before : List Message) (head : Head) (r : OpenReport) → (In r (early before) → P before r) → (b : Body)
      → In r (early_in before (early before) head b) → P (record { head = head; body = b } ∷ before) r
  early_now before head r old (body.Bypass piece) i = at (is_early before head) refl i
    where
      at : (d : Bool) → is_early before head ≡ d → In r
          (cond d (open_report_of (number_after before) head piece ∷ early before) (early before))
          → P (record { head = head; body = body.Bypass piece } ∷ before) r
      at true q (inl e) = rw e (c.bypass before head piece q)
      at true q (inr j) = c.on before _ r (old j)
      at false q j = c.on before _ r (old j)
  early_now before head r old (body.Retire retire) i = c.on before _ r
      (old (from_filter (λ (s : OpenReport). not (is_report head.hart head.tag s)) (early before) r i).0)
  early_now before head r old b i = c.on before _ r (old i)

  pub early_all : (before : List Message) (r : OpenReport) → In r (early before) → P before r
  early_all [] r i = absurd i
  early_all (m ∷ before) r i = early_now before m.head r (early_all before r) m.body i

-- ---- which message a number stands for

pub message_at : List Message → ℕ → Option Message
message_at [] k = None
message_at (m ∷ before) k = cond (eqb k (length before + 1)) (Some m) (message_at before k)

abbrev pub is_read : Body → Bool
is_read (body.Read piece) = true
is_read _ = false

at_most : (before : List Message) (k : ℕ) (m : Message) → message_at before k ≡ Some m → k ≤ length before
unfolding message_at
at_most [] k m e = absurd (cc)
at_most (n ∷ before) k m e = at (eqb k (length before + 1)) refl e (at_most before k m)
  where
    at : (c : Bool) → eqb k (length before + 1) ≡ c → cond c (Some n) (message_at before k) ≡ Some m
        → (message_at before k ≡ Some m → k ≤ length before) → k ≤ length (n ∷ before)
    at true q e rec = let s = eqb-true _ _ q in omega (arith, s)
    at false q e rec = let s = rec e in omega (arith, s)

pub message_on : (before : List Message) (n : Message) (k : ℕ) (m : Message) → message_at before k ≡ Some m
    → message_at (n ∷ before) k ≡ Some m
unfolding message_at
message_on before n k m e = at (eqb k (length before + 1)) refl
  where
    at : (c : Bool) → eqb k (length before + 1) ≡ c → cond c (Some n) (message_at before k) ≡ Some m
    at true q = let l = at_most before k m e in let s = eqb-true _ _ q in absurd (omega (arith, l, s))
    at false q = e

message_new : (before : List Message) (m : Message) → message_at (m ∷ before) (number_after before) ≡ Some m
unfolding message_at
message_new before m = rw (eq-eqb (length before + 1) (length before + 1) refl) refl

-- a live Read is the message of its number
abbrev pub IsLiveRead : List Message → ℕ → OpenReport → Type 0
IsLiveRead before h r = (m : Message) × (message_at before r.number ≡ Some m) × (is_read m.body ≡ true)
    × (m.head.hart ≡ h) × (m.head.tag ≡ r.tag)

-- a place is that of a message which is no Read
abbrev pub IsNoRead : List Message → ℕ → Type 0
IsNoRead before n = (m : Message) × (message_at before n ≡ Some m) × (is_read m.body ≡ false)

pub live_read : (before : List Message) (h : ℕ) (r : OpenReport) → In r (live before h) → IsLiveRead before h r
live_read = live_all IsLiveRead (record {
  on = λ before n h r y. (y.0, message_on before n r.number y.0 y.1, y.2, y.3, y.4);
  read = λ before head piece. (
    _,
    message_new before (record { head = head; body = body.Read piece }),
    refl,
    refl,
    refl,
  );
})

pub done_no_read : (before : List Message) (h t x : ℕ) (q : Place) → fate before h t x ≡ Done q
    → IsNoRead before q.message
done_no_read = fate_all (λ before q. IsNoRead before q.message) (record {
  on = λ before n q y. (y.0, message_on before n q.message y.0 y.1, y.2);
  drain = λ before head write j. (_, message_new before (record { head = head; body = body.Write write }), refl);
  bypass = λ before head piece. (_, message_new before (record { head = head; body = body.Bypass piece }), refl);
})

pub early_no_read : (before : List Message) (r : OpenReport) → In r (early before) → IsNoRead before r.number
early_no_read = early_all (λ before r. IsNoRead before r.number) (record {
  on = λ before n r y. (y.0, message_on before n r.number y.0 y.1, y.2);
  bypass = λ before head piece e. (_, message_new before (record { head = head; body = body.Bypass piece }), refl);
})
