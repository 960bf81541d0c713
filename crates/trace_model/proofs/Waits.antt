-- A byte waits exactly where a line holds an Insert of it.
use Rattle.std.proofs.Common.{ℕ, ◌+◌, ◌≤◌, ◌≡◌, ◌⊎◌, inl, inr, Bool, true, false, eqb, ◌&&◌, cond, List, [], ◌∷◌}
use Rattle.std.proofs.Common.{length, refl, sym, ap, subst, ◌∙◌, arith}
use Rattle.std.proofs.lemmas.Bool.{and_parts, and_from, eqb-true, eq-eqb}
use Rattle.msg_frames.specs.declared.message.Head.{Head}
use Rattle.msg_frames.specs.declared.message.Piece.{Piece}
use Rattle.msg_frames.specs.declared.message.Body.{Body}
use Rattle.msg_frames.specs.declared.message.Body.TheVariants as body
use Rattle.msg_frames.specs.declared.message.LineWrite.{LineWrite}
use Rattle.msg_frames.specs.declared.message.Message.{Message}
use Rattle.trace_model.proofs.Lists.{In}
use Rattle.matching.specs.declared.stores.Fate.{Fate}
use Rattle.matching.specs.declared.stores.Held.{Held}
use Rattle.matching.specs.declared.stores.Fate.TheVariants.{Nothing, Waiting, Done}
use Rattle.matching.specs.Settings.{number_after}
use Rattle.msg_frames.specs.Pieces.{has}
use Rattle.matching.specs.Pieces.{line_start}
use Rattle.matching.specs.Tags.{is_of, is_early}
use Rattle.matching.specs.Fates.{waiting_in, waiting, drained, fate_in, fate}
use Rattle.trace_model.proofs.Fresh.{IsFreshAt, AreFresh}

-- the line of byte x holds an Insert of that byte with number j
abbrev pub IsWaiting : List Held → ℕ → ℕ → ℕ → Type 0
IsWaiting held t x j = (e : Held) × In e held × (e.number ≡ j) × (e.tag ≡ t) × (has e.piece x ≡ true)

-- ---- from the fate to the line

not_drained : (time n j : ℕ) (f : Fate) → drained time n f ≡ Waiting j → ⊥
not_drained time n j Nothing e = absurd (cc)
not_drained time n j (Waiting i) e = absurd (cc)
not_drained time n j (Done p) e = absurd (cc)

in_more : {X : Type 0} (c : Bool) (y : X) (xs : List X) (e : X) → In e xs → In e (cond c (y ∷ xs) xs)
in_more true y xs e i = inr i
in_more false y xs e i = i

-- e is held by the Insert that this message is
pub record IsHeldBy (before : List Message) (head : Head) (b : Body) (h l : ℕ) (e : Held) : Type 0 where
  pub piece : Piece
  pub inserts : b ≡ body.Insert piece
  pub hart : head.hart ≡ h
  pub line : line_start piece.addr ≡ l
  pub is : e ≡ record { number = number_after before; tag = head.tag; piece = piece }

same_piece : (b : Body) (p q : Piece) → b ≡ body.Insert p → b ≡ body.Insert q → p ≡ q
same_piece b p q e f = let c : body.Insert p ≡ body.Insert q = sym e ∙ f in cc

fits_line : (before : List Message) (head : Head) (b : Body) (piece : Piece) → b ≡ body.Insert piece
    → IsFreshAt before head b → (x : ℕ) → has piece x ≡ true → line_start x ≡ line_start piece.addr
fits_line before head b piece e fits x p = (subst (λ (z : Body). IsFreshAt before head z) e fits).1 x p

module _ (before : List Message) (head : Head) (h t x j : ℕ) where
  abbrev Old : Type 0
  Old = fate before h t x ≡ Waiting j → IsWaiting (waiting before h (line_start x)) t x j

  abbrev Now : Body → Type 0
  Now b = fate_in before (fate before h t x) head b h t x ≡ Waiting j
      → IsWaiting (waiting_in (number_after before) (waiting before h (line_start x)) head b h (line_start x)) t x j

  insert_waits : (piece : Piece) → IsFreshAt before head (body.Insert piece) → Old → Now (body.Insert piece)
  insert_waits piece fits old = at (is_of head h t && has piece x) refl
    where
      at : (c : Bool) → (is_of head h t && has piece x) ≡ c → cond c (Waiting (number_after before)) (fate before h t x)
          ≡ Waiting j
          → IsWaiting (waiting_in (number_after before) (waiting before h (line_start x)) head (body.Insert piece) h
          (line_start x)) t x j
      at true e q =
          let r = and_parts (is_of head h t) (has piece x) e in
          let s = and_parts (eqb head.hart h) (eqb head.tag t) r.0 in
          let inside : (eqb head.hart h && eqb (line_start piece.addr) (line_start x)) ≡ true =
          and_from _ _ s.0 (eq-eqb _ _ (sym (fits.1 x r.1))) in (
            record { number = number_after before; tag = head.tag; piece = piece },
            rw inside (inl refl),
            (cc),
            eqb-true _ _ s.1,
            r.1,
          )
      at false e q = let w = old q in (w.0, in_more _ _ _ w.0 w.1, w.2, w.3, w.4)

  write_waits : (write : LineWrite) → Old → Now (body.Write write)
  write_waits write old = at (eqb head.hart h && eqb write.line (line_start x))
    where
      at : (c : Bool) → cond c (drained head.time (number_after before) (fate before h t x)) (fate before h t x)
          ≡ Waiting j → IsWaiting (cond c [] (waiting before h (line_start x))) t x j
      at true q = absurd (not_drained head.time (number_after before) j (fate before h t x) q)
      at false q = old q

  bypass_waits : (piece : Piece) → Old → Now (body.Bypass piece)
  bypass_waits piece old = at (is_early before head) (is_of head h t && has piece x)
    where
      at : (c d : Bool) → cond c (fate before h t x) (cond d
          (Done (record { time = head.time; message = number_after before; insert = number_after before }))
          (fate before h t x)) ≡ Waiting j → IsWaiting (waiting before h (line_start x)) t x j
      at true d q = old q
      at false true q = absurd (cc)
      at false false q = old q

  now_waits : (b : Body) → IsFreshAt before head b → Old → Now b
  now_waits (body.Insert piece) fits old = insert_waits piece fits old
  now_waits (body.Write write) fits old = write_waits write old
  now_waits (body.Bypass piece) fits old = bypass_waits piece old
  now_waits _ fits old = old

pub waits : (before : List Message) → AreFresh before → (h t x j : ℕ) → fate before h t x ≡ Waiting j
    → IsWaiting (waiting before h (line_start x)) t x j
waits [] c h t x j e = absurd (cc)
waits (m ∷ before) c h t x j e = now_waits before m.head h t x j m.body c.1 (waits before c.0 h t x j) e

-- ---- what a line holds

-- e was held, or is held by this message
pub held_now : (before : List Message) (head : Head) (b : Body) (h l : ℕ) (e : Held)
    → In e (waiting_in (number_after before) (waiting before h l) head b h l) → IsHeldBy before head b h l e
    ⊎ In e (waiting before h l)
held_now before head (body.Insert piece) h l e i = at (eqb head.hart h && eqb (line_start piece.addr) l) refl i
  where
    at : (c : Bool) → (eqb head.hart h && eqb (line_start piece.addr) l) ≡ c
        → In e (cond c (record { number = number_after before; tag = head.tag; piece = piece } ∷ waiting before h l)
        (waiting before h l)) → IsHeldBy before head (body.Insert piece) h l e ⊎ In e (waiting before h l)
    at true q (inl s) = let r = and_parts (eqb head.hart h) (eqb (line_start piece.addr) l) q in
        inl (record { piece = piece; inserts = refl; hart = eqb-true _ _ r.0; line = eqb-true _ _ r.1; is = s })
    at true q (inr j) = inr j
    at false q j = inr j
held_now before head (body.Write write) h l e i = at (eqb head.hart h && eqb write.line l) i
  where
    at : (c : Bool) → In e (cond c [] (waiting before h l)) → IsHeldBy before head (body.Write write) h l e
        ⊎ In e (waiting before h l)
    at true j = absurd j
    at false j = inr j
held_now before head _ h l e i = inr i

-- numbers are those of messages before
pub held_number : (before : List Message) (h l : ℕ) (e : Held) → In e (waiting before h l) → e.number ≤ length before
held_number [] h l e i = absurd i
held_number (m ∷ before) h l e i = elim (held_now before m.head m.body h l e i) [
  | inl n ↦ let s : e.number ≡ length before + 1 = ap (λ (z : Held). z.number) n.is in omega (arith, s)
  | inr j ↦ let r = held_number before h l e j in omega (arith, r)
]

-- a number stands for one Insert, of one hart
pub held_one : (before : List Message) (h l g k : ℕ) (d e : Held) → In d (waiting before h l)
    → In e (waiting before g k) → d.number ≡ e.number → (h ≡ g) × (d ≡ e)
held_one [] h l g k d e i j q = absurd i
held_one (m ∷ before) h l g k d e i j q = at (held_now before m.head m.body h l d i)
    (held_now before m.head m.body g k e j) (held_one before h l g k d e)
  where
    new_number : (h l : ℕ) (d : Held) → IsHeldBy before m.head m.body h l d → d.number ≡ length before + 1
    new_number h l d a = ap (λ (z : Held). z.number) a.is

    at : IsHeldBy before m.head m.body h l d ⊎ In d (waiting before h l) → IsHeldBy before m.head m.body g k e
        ⊎ In e (waiting before g k)
        → (In d (waiting before h l) → In e (waiting before g k) → d.number ≡ e.number → (h ≡ g) × (d ≡ e)) → (h ≡ g)
        × (d ≡ e)
    at (inl a) (inl b) rec = (
      sym a.hart ∙ b.hart,
      a.is
          ∙ ap (λ (z : Piece). record { number = number_after before; tag = m.head.tag; piece = z })
          (same_piece m.body a.piece b.piece a.inserts b.inserts) ∙ sym b.is,
    )
    at (inl a) (inr b) rec = let r = held_number before g k e b in let s = new_number h l d a in
        absurd (omega (arith, r, s, q))
    at (inr a) (inl b) rec = let r = held_number before h l d a in let s = new_number g k e b in
        absurd (omega (arith, r, s, q))
    at (inr a) (inr b) rec = rec a b q

-- its bytes are those of the line
pub held_line : (before : List Message) → AreFresh before → (h l : ℕ) (e : Held) (x : ℕ) → In e (waiting before h l)
    → has e.piece x ≡ true → line_start x ≡ l
held_line [] c h l e x i p = absurd i
held_line (m ∷ before) c h l e x i p = elim (held_now before m.head m.body h l e i) [
  | inl n ↦ fits_line before m.head m.body n.piece n.inserts c.1 x (subst (λ (z : Held). has z.piece x ≡ true) n.is p)
      ∙ n.line
  | inr j ↦ held_line before c.0 h l e x j p
]

-- ---- from the line to the fate

module _ (before : List Message) (head : Head) (h l x : ℕ) (e : Held) (p : has e.piece x ≡ true)
    (line : In e (waiting before h l) → line_start x ≡ l) (old : In e (waiting before h l) → fate before h e.tag x
    ≡ Waiting e.number) where
  abbrev Holds : Body → Type 0
  Holds b = In e (waiting_in (number_after before) (waiting before h l) head b h l)
      → fate_in before (fate before h e.tag x) head b h e.tag x ≡ Waiting e.number

  -- a piece of that store with that byte would not be fresh
  stale : (piece : Piece) → ((y : ℕ) → has piece y ≡ true → fate before head.hart head.tag y ≡ Nothing)
      → In e (waiting before h l) → (is_of head h e.tag && has piece x) ≡ true → ⊥
  stale piece fresh i q =
      let r = and_parts (is_of head h e.tag) (has piece x) q in
      let s = and_parts (eqb head.hart h) (eqb head.tag e.tag) r.0 in
      let f : fate before h e.tag x ≡ Nothing = subst (λ (z : ℕ). fate before z e.tag x ≡ Nothing) (eqb-true _ _ s.0)
      (subst (λ (z : ℕ). fate before head.hart z x ≡ Nothing) (eqb-true _ _ s.1) (fresh x r.1)) in
      let w : Waiting e.number ≡ Nothing = sym (old i) ∙ f in
      absurd (cc)

  insert_fate : (piece : Piece) → IsFreshAt before head (body.Insert piece) → Holds (body.Insert piece)
  insert_fate piece fits i = at (held_now before head (body.Insert piece) h l e i)
    where
      kept : In e (waiting before h l) → (c : Bool) → (is_of head h e.tag && has piece x) ≡ c
          → cond c (Waiting (number_after before)) (fate before h e.tag x) ≡ Waiting e.number
      kept j true q = absurd (stale piece fits.0 j q)
      kept j false q = old j

      at : IsHeldBy before head (body.Insert piece) h l e ⊎ In e (waiting before h l)
          → cond (is_of head h e.tag && has piece x) (Waiting (number_after before)) (fate before h e.tag x)
          ≡ Waiting e.number
      at (inl n) =
          let same : e.piece ≡ piece = ap (λ (z : Held). z.piece) n.is
          ∙ sym (same_piece (body.Insert piece) piece n.piece refl n.inserts) in
          let mine : (is_of head h e.tag && has piece x) ≡ true =
          and_from _ _ (and_from _ _ (eq-eqb _ _ n.hart) (eq-eqb _ _ (sym (ap (λ (z : Held). z.tag) n.is))))
          (subst (λ (z : Piece). has z x ≡ true) same p) in
          rw mine (ap Waiting (sym (ap (λ (z : Held). z.number) n.is)))
      at (inr j) = kept j (is_of head h e.tag && has piece x) refl

  write_fate : (write : LineWrite) → Holds (body.Write write)
  write_fate write i = at (eqb head.hart h && eqb write.line l) refl i
    where
      at : (c : Bool) → (eqb head.hart h && eqb write.line l) ≡ c → In e (cond c [] (waiting before h l))
          → cond (eqb head.hart h && eqb write.line (line_start x))
          (drained head.time (number_after before) (fate before h e.tag x)) (fate before h e.tag x) ≡ Waiting e.number
      at true q j = absurd j
      at false q j = rw (line j, q) (old j)

  bypass_fate : (piece : Piece) → IsFreshAt before head (body.Bypass piece) → Holds (body.Bypass piece)
  bypass_fate piece fits i = at (is_early before head) refl (is_of head h e.tag && has piece x) refl
    where
      at : (c : Bool) → is_early before head ≡ c → (d : Bool) → (is_of head h e.tag && has piece x) ≡ d
          → cond c (fate before h e.tag x) (cond d (Done
          (record { time = head.time; message = number_after before; insert = number_after before }))
          (fate before h e.tag x)) ≡ Waiting e.number
      at true q d r = old i
      at false q true r = absurd (stale piece (fits q) i r)
      at false q false r = old i

  now_fate : (b : Body) → IsFreshAt before head b → Holds b
  now_fate (body.Insert piece) fits i = insert_fate piece fits i
  now_fate (body.Write write) fits i = write_fate write i
  now_fate (body.Bypass piece) fits i = bypass_fate piece fits i
  now_fate _ fits i = old i

pub held_waits : (before : List Message) → AreFresh before → (h l : ℕ) (e : Held) (x : ℕ) → In e (waiting before h l)
    → has e.piece x ≡ true → fate before h e.tag x ≡ Waiting e.number
held_waits [] c h l e x i p = absurd i
held_waits (m ∷ before) c h l e x i p = now_fate before m.head h l x e p (λ j. held_line before c.0 h l e x j p)
    (λ j. held_waits before c.0 h l e x j p) m.body c.1 i
