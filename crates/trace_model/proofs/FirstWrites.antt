-- The fate of a byte is what the messages say of it.
use Rattle.std.proofs.Common.{ℕ, ◌+◌, ◌<◌, ◌≤◌, ◌≡◌, ◌⊎◌, inl, inr, Bool, true, false, eqb, ◌&&◌, cond, List, [], ◌∷◌}
use Rattle.std.proofs.Common.{◌++◌, length, refl, sym, ap, subst, ◌∙◌, arith}
use Rattle.std.proofs.lemmas.Bool.{both_ways, and_parts, and_from, eqb-true, eq-eqb, cases_order}
use Rattle.std.proofs.lemmas.List.{length-append}
use Rattle.tandem_base.specs.declared.names.Place.{Place}
use Rattle.msg_frames.specs.declared.message.Head.{Head}
use Rattle.msg_frames.specs.declared.message.Piece.{Piece}
use Rattle.msg_frames.specs.declared.message.LineWrite.{LineWrite}
use Rattle.msg_frames.specs.declared.message.Body.{Body}
use Rattle.msg_frames.specs.declared.message.Body.TheVariants as body
use Rattle.msg_frames.specs.declared.message.Message.{Message}
use Rattle.matching.specs.declared.stores.Fate.{Fate}
use Rattle.matching.specs.declared.stores.Fate.TheVariants.{Nothing, Waiting, Done}
use Rattle.matching.specs.Settings.{number_after}
use Rattle.msg_frames.specs.Pieces.{has}
use Rattle.matching.specs.Pieces.{line_start}
use Rattle.matching.specs.Tags.{is_of, is_early}
use Rattle.matching.specs.Fates.{drained, fate_in, fate}
use Rattle.trace_model.specs.FirstWrites.{IsMessage, IsInsert, IsPlainBypass, IsWrite, IsFirstWrite}
use Rattle.trace_model.specs.FirstWrites.{IsFate}
use Rattle.trace_model.proofs.Fresh.{IsFreshAt, AreFresh}

-- ---- which message a number stands for

abbrev pub message : Head → Body → Message
message head b = record { head = head; body = b }

pub message_new : (older : List Message) (head : Head) (b : Body)
    → IsMessage (message head b ∷ older) (number_after older) older head b
message_new older head b = record { later = []; whole = refl; number = refl }

pub message_on : (n : Message) (messages : List Message) (k : ℕ) (older : List Message) (head : Head) (b : Body)
    → IsMessage messages k older head b → IsMessage (n ∷ messages) k older head b
message_on n messages k older head b m = record {
  later = n ∷ m.later;
  whole = ap (λ ms. n ∷ ms) m.whole;
  number =
      m.number;
}

pub message_none : (k : ℕ) (older : List Message) (head : Head) (b : Body) → IsMessage [] k older head b → ⊥
message_none k older head b m = at m.later m.whole
  where
    at : (later : List Message) → [] ≡ later ++ message head b ∷ older → ⊥
    at [] e = absurd (cc)
    at (l ∷ ls) e = absurd (cc)

message_at_most : (messages : List Message) (k : ℕ) (older : List Message) (head : Head) (b : Body)
    → IsMessage messages k older head b → k ≤ length messages
message_at_most messages k older head b m =
    let e : length messages ≡ length m.later + length (message head b ∷ older) =
    ap length m.whole ∙ length-append m.later (message head b ∷ older) in
    let n = m.number in
    omega (arith, e, n)

-- message k is the newest
abbrev pub IsNewest : Message → List Message → ℕ → List Message → Head → Body → Type 0
IsNewest n messages k older head b = (n ≡ message head b) × (messages ≡ older) × (k ≡ number_after messages)

pub message_cases : (n : Message) (messages : List Message) (k : ℕ) (older : List Message) (head : Head) (b : Body)
    → IsMessage (n ∷ messages) k older head b
    → IsNewest n messages k older head b ⊎ IsMessage messages k older head b
message_cases n messages k older head b m = at m.later m.whole
  where
    at : (later : List Message) → n ∷ messages ≡ later ++ message head b ∷ older
        → IsNewest n messages k older head b ⊎ IsMessage messages k older head b
    at [] e =
        let s : messages ≡ older = cc in
        inl ((let f : n ≡ message head b = cc in f), s, m.number ∙ ap number_after (sym s))
    at (l ∷ ls) e = inr (record {
      later = ls;
      whole = (let s : messages ≡ ls ++ message head b ∷ older = cc in s);
      number = m.number;
    })

-- the earlier of two messages stands before the later
pub message_in : (later : List Message) (k : ℕ) (older : List Message) (head : Head) (b : Body) (n : ℕ)
    (past : List Message) (h : Head) (c : Body) → n ≡ number_after past
    → IsMessage (later ++ message h c ∷ past) k older head b → k < n → IsMessage past k older head b
message_in [] k older head b n past h c e m l = elim (message_cases (message h c) past k older head b m) [
  | inl q ↦ let s = q.2 in absurd (omega (arith, s, l, e))
  | inr i ↦ i
]
message_in (y ∷ ys) k older head b n past h c e m l =
    elim (message_cases y (ys ++ message h c ∷ past) k older head b m) [
      | inl q ↦
          let s = q.2 in
          let t : length (ys ++ message h c ∷ past) ≡ length ys + (1 + length past) =
          length-append ys (message h c ∷ past) ∙ (omega arith) in
          absurd (omega (arith, s, t, l, e))
      | inr i ↦ message_in ys k older head b n past h c e i l
    ]

-- a number stands for one message
pub message_one : (later : List Message) (k : ℕ) (older : List Message) (head : Head) (b : Body)
    (past : List Message) (h : Head) (c : Body) → k ≡ number_after past
    → IsMessage (later ++ message h c ∷ past) k older head b → (head ≡ h) × (b ≡ c)
message_one [] k older head b past h c e m = elim (message_cases (message h c) past k older head b m) [
  | inl q ↦ (ap (λ (z : Message). z.head) (sym q.0), ap (λ (z : Message). z.body) (sym q.0))
  | inr i ↦ let l = message_at_most past k older head b i in absurd (omega (arith, l, e))
]
message_one (y ∷ ys) k older head b past h c e m =
    elim (message_cases y (ys ++ message h c ∷ past) k older head b m) [
      | inl q ↦
          let s = q.2 in
          let t : length (ys ++ message h c ∷ past) ≡ length ys + (1 + length past) =
          length-append ys (message h c ∷ past) ∙ (omega arith) in
          absurd (omega (arith, s, t, e))
      | inr i ↦ message_one ys k older head b past h c e i
    ]

-- ---- the next message

-- what goes on, and what is new: a message of one of the three kinds
module _ (before : List Message) (head : Head) (b : Body) where
  insert_on : (h t x k : ℕ) → IsInsert before h t x k → IsInsert (message head b ∷ before) h t x k
  insert_on h t x k i = record {
    older = i.older;
    head = i.head;
    piece = i.piece;
    message = message_on (message head b) before k i.older i.head (body.Insert i.piece) i.message;
    of = i.of;
    byte = i.byte;
  }

  bypass_on : (h t x k time : ℕ) → IsPlainBypass before h t x k time → IsPlainBypass (message head b ∷ before) h t x k
      time
  bypass_on h t x k time i = record {
    older = i.older;
    head = i.head;
    piece = i.piece;
    message = message_on (message head b) before k i.older i.head (body.Bypass i.piece) i.message;
    of = i.of;
    byte = i.byte;
    plain = i.plain;
    timed = i.timed;
  }

  write_on : (h l k time : ℕ) → IsWrite before h l k time → IsWrite (message head b ∷ before) h l k time
  write_on h l k time i = record {
    older = i.older;
    head = i.head;
    write = i.write;
    message = message_on (message head b) before k i.older i.head (body.Write i.write) i.message;
    hart = i.hart;
    line = i.line;
    timed = i.timed;
  }

  -- the message is an Insert of the byte
  abbrev Inserts : ℕ → ℕ → ℕ → Type 0
  Inserts h t x = (piece : Piece) × (b ≡ body.Insert piece) × (is_of head h t ≡ true) × (has piece x ≡ true)

  -- a plain Bypass of it
  abbrev Bypasses : ℕ → ℕ → ℕ → Type 0
  Bypasses h t x = (piece : Piece) × (b ≡ body.Bypass piece) × (is_of head h t ≡ true) × (has piece x ≡ true)
      × (is_early before head ≡ false)

  -- a Write of the line
  abbrev Writes : ℕ → ℕ → Type 0
  Writes h l = (write : LineWrite) × (b ≡ body.Write write) × (head.hart ≡ h) × (write.line ≡ l)

  insert_cases : (h t x k : ℕ) → IsInsert (message head b ∷ before) h t x k → Inserts h t x ⊎ IsInsert before h t x k
  insert_cases h t x k i =
      elim (message_cases (message head b) before k i.older i.head (body.Insert i.piece) i.message) [
        | inl q ↦ inl (
          i.piece,
          ap (λ (z : Message). z.body) q.0,
          subst (λ (z : Head). is_of z h t ≡ true) (sym (ap (λ (z : Message). z.head) q.0)) i.of,
          i.byte,
        )
        | inr m ↦ inr (record {
          older = i.older;
          head = i.head;
          piece = i.piece;
          message = m;
          of = i.of;
          byte =
              i.byte;
        })
      ]

  bypass_cases : (h t x k time : ℕ) → IsPlainBypass (message head b ∷ before) h t x k time
      → Bypasses h t x ⊎ IsPlainBypass before h t x k time
  bypass_cases h t x k time i =
      elim (message_cases (message head b) before k i.older i.head (body.Bypass i.piece) i.message) [
        | inl q ↦
            let s : i.head ≡ head = sym (ap (λ (z : Message). z.head) q.0) in inl (
              i.piece,
              ap (λ (z : Message). z.body) q.0,
              subst (λ (z : Head). is_of z h t ≡ true) s i.of,
              i.byte,
              subst (λ (z : Head). is_early before z ≡ false) s
                  (subst (λ (z : List Message). is_early z i.head ≡ false) (sym q.1) i.plain),
            )
        | inr m ↦ inr (record {
          older = i.older;
          head = i.head;
          piece = i.piece;
          message = m;
          of = i.of;
          byte = i.byte;
          plain = i.plain;
          timed = i.timed;
        })
      ]

  write_cases : (h l k time : ℕ) → IsWrite (message head b ∷ before) h l k time
      → (Writes h l × (k ≡ number_after before)) ⊎ IsWrite before h l k time
  write_cases h l k time i =
      elim (message_cases (message head b) before k i.older i.head (body.Write i.write) i.message) [
        | inl q ↦ inl (
          (i.write, ap (λ (z : Message). z.body) q.0, ap (λ (z : Message). z.head.hart) q.0 ∙ i.hart, i.line),
          q.2,
        )
        | inr m ↦ inr (record {
          older = i.older;
          head = i.head;
          write = i.write;
          message = m;
          hart = i.hart;
          line = i.line;
          timed = i.timed;
        })
      ]

insert_at_most : (before : List Message) (h t x k : ℕ) → IsInsert before h t x k → k ≤ length before
insert_at_most before h t x k i = message_at_most before k i.older i.head (body.Insert i.piece) i.message

write_at_most : (before : List Message) (h l k time : ℕ) → IsWrite before h l k time → k ≤ length before
write_at_most before h l k time i = message_at_most before k i.older i.head (body.Write i.write) i.message

-- ---- from the fate to the messages

module _ (before : List Message) (head : Head) (h t x : ℕ) where
  -- the fate after a message of this body
  abbrev Now : Body → Fate → Type 0
  Now b f = IsFate (message head b ∷ before) h t x f

  kept_nothing : (b : Body) → (Inserts before head b h t x → ⊥) → (Bypasses before head b h t x → ⊥)
      → IsFate before h t x Nothing → Now b Nothing
  kept_nothing b no_insert no_bypass old = (
    (λ k i. elim (insert_cases before head b h t x k i) [ inl n ↦ no_insert n | inr j ↦ old.0 k j ]),
    λ k time i. elim (bypass_cases before head b h t x k time i) [ inl n ↦ no_bypass n | inr j ↦ old.1 k time j ],
  )

  kept_waiting : (b : Body) (j : ℕ) → (Writes before head b h (line_start x) → ⊥)
      → IsFate before h t x (Waiting j) → Now b (Waiting j)
  kept_waiting b j no_write old = (
    insert_on before head b h t x j old.0,
    λ k time l i. elim (write_cases before head b h (line_start x) k time i) [
      | inl n ↦ no_write n.0
      | inr w ↦ old.1 k time l w
    ],
  )

  kept_done : (b : Body) (p : Place) → IsFate before h t x (Done p) → Now b (Done p)
  kept_done b p (inr q) = inr (bypass_on before head b h t x p.message p.time q.0, q.1)
  kept_done b p (inl q) = inl (
    insert_on before head b h t x p.insert q.0,
    record {
      after = q.1.after;
      write = write_on before head b h (line_start x) p.message p.time q.1.write;
      first = λ i at l m w. elim (write_cases before head b h (line_start x) i at w) [
        | inl n ↦
            let s = n.1 in
            let u = write_at_most before h (line_start x) p.message p.time q.1.write in
            absurd (omega (arith, s, u, m))
        | inr v ↦ q.1.first i at l m v
      ];
    },
  )

  -- a message that is none of the three leaves a fate as it was
  kept : (b : Body) (f : Fate) → (Inserts before head b h t x → ⊥) → (Bypasses before head b h t x → ⊥)
      → (Writes before head b h (line_start x) → ⊥) → IsFate before h t x f → Now b f
  kept b Nothing no_insert no_bypass no_write old = kept_nothing b no_insert no_bypass old
  kept b (Waiting j) no_insert no_bypass no_write old = kept_waiting b j no_write old
  kept b (Done p) no_insert no_bypass no_write old = kept_done b p old

  insert_told : (piece : Piece) → IsFate before h t x (fate before h t x)
      → Now (body.Insert piece) (fate_in before (fate before h t x) head (body.Insert piece) h t x)
  insert_told piece old = at (is_of head h t && has piece x) refl
    where
      at : (c : Bool) → (is_of head h t && has piece x) ≡ c
          → Now (body.Insert piece) (cond c (Waiting (number_after before)) (fate before h t x))
      at true e = let p = and_parts (is_of head h t) (has piece x) e in (
        record {
          older = before;
          head = head;
          piece = piece;
          message = message_new before head (body.Insert piece);
          of = p.0;
          byte = p.1;
        },
        λ k time l i. elim (write_cases before head (body.Insert piece) h (line_start x) k time i) [
          | inl n ↦ let c : body.Insert piece ≡ body.Write n.0.0 = n.0.1 in absurd (cc)
          | inr w ↦ let u = write_at_most before h (line_start x) k time w in absurd (omega (arith, u, l))
        ],
      )
      at false e = kept (body.Insert piece) (fate before h t x)
          (λ i. let c : body.Insert piece ≡ body.Insert i.0 = i.1 in
          let s : piece ≡ i.0 = cc in
          both_ways (is_of head h t && has piece x) e
          (and_from _ _ i.2 (subst (λ (z : Piece). has z x ≡ true) (sym s) i.3)))
          (λ i. let c : body.Insert piece ≡ body.Bypass i.0 = i.1 in absurd (cc))
          (λ i. let c : body.Insert piece ≡ body.Write i.0 = i.1 in absurd (cc)) old

  drained_told : (write : LineWrite) → head.hart ≡ h → write.line ≡ line_start x → (f : Fate) → IsFate before h t x f
      → Now (body.Write write) (drained head.time (number_after before) f)
  drained_told write own line Nothing old = kept_nothing (body.Write write)
      (λ i. let c : body.Write write ≡ body.Insert i.0 = i.1 in absurd (cc))
      (λ i. let c : body.Write write ≡ body.Bypass i.0 = i.1 in absurd (cc)) old
  drained_told write own line (Done p) old = kept_done (body.Write write) p old
  drained_told write own line (Waiting j) old = inl (
    insert_on before head (body.Write write) h t x j old.0,
    record {
      after = let u = insert_at_most before h t x j old.0 in omega (arith, u);
      write = record {
        older = before;
        head = head;
        write = write;
        message = message_new before head (body.Write write);
        hart = own;
        line = line;
        timed = refl;
      };
      first = λ i at l m w. elim (write_cases before head (body.Write write) h (line_start x) i at w) [
        | inl n ↦ let s = n.1 in absurd (omega (arith, s, m))
        | inr v ↦ old.1 i at l v
      ];
    },
  )

  write_told : (write : LineWrite) → IsFate before h t x (fate before h t x)
      → Now (body.Write write) (fate_in before (fate before h t x) head (body.Write write) h t x)
  write_told write old = at (eqb head.hart h && eqb write.line (line_start x)) refl
    where
      at : (c : Bool) → (eqb head.hart h && eqb write.line (line_start x)) ≡ c
          → Now (body.Write write) (cond c (drained head.time (number_after before) (fate before h t x))
          (fate before h t x))
      at true e = let p = and_parts (eqb head.hart h) (eqb write.line (line_start x)) e in
          drained_told write (eqb-true _ _ p.0) (eqb-true _ _ p.1) (fate before h t x) old
      at false e = kept (body.Write write) (fate before h t x)
          (λ i. let c : body.Write write ≡ body.Insert i.0 = i.1 in absurd (cc))
          (λ i. let c : body.Write write ≡ body.Bypass i.0 = i.1 in absurd (cc))
          (λ i. let c : body.Write write ≡ body.Write i.0 = i.1 in
          let s : write ≡ i.0 = cc in
          both_ways (eqb head.hart h && eqb write.line (line_start x)) e
          (and_from _ _ (eq-eqb _ _ i.2) (eq-eqb _ _ (ap (λ (z : LineWrite). z.line) s ∙ i.3)))) old

  bypass_kept : (piece : Piece) (f : Fate) → (Bypasses before head (body.Bypass piece) h t x → ⊥)
      → IsFate before h t x f → Now (body.Bypass piece) f
  bypass_kept piece f none old = kept (body.Bypass piece) f
      (λ i. let c : body.Bypass piece ≡ body.Insert i.0 = i.1 in absurd (cc)) none
      (λ i. let c : body.Bypass piece ≡ body.Write i.0 = i.1 in absurd (cc)) old

  bypass_told : (piece : Piece) → IsFate before h t x (fate before h t x)
      → Now (body.Bypass piece) (fate_in before (fate before h t x) head (body.Bypass piece) h t x)
  bypass_told piece old = at (is_early before head) refl (is_of head h t && has piece x) refl
    where
      at : (c : Bool) → is_early before head ≡ c → (d : Bool) → (is_of head h t && has piece x) ≡ d
          → Now (body.Bypass piece) (cond c (fate before h t x) (cond d
          (Done (record { time = head.time; message = number_after before; insert = number_after before }))
          (fate before h t x)))
      at true e d f = bypass_kept piece (fate before h t x) (λ i. both_ways (is_early before head) i.4 e) old
      at false e true f = let p = and_parts (is_of head h t) (has piece x) f in inr (
        record {
          older = before;
          head = head;
          piece = piece;
          message = message_new before head (body.Bypass piece);
          of = p.0;
          byte = p.1;
          plain = e;
          timed = refl;
        },
        refl,
      )
      at false e false f = bypass_kept piece (fate before h t x)
          (λ i. let c : body.Bypass piece ≡ body.Bypass i.0 = i.1 in
          let s : piece ≡ i.0 = cc in
          both_ways (is_of head h t && has piece x) f
          (and_from _ _ i.2 (subst (λ (z : Piece). has z x ≡ true) (sym s) i.3))) old

  other_told : (b : Body) → ((piece : Piece) → b ≡ body.Insert piece → ⊥)
      → ((piece : Piece) → b ≡ body.Bypass piece → ⊥) → ((write : LineWrite) → b ≡ body.Write write → ⊥)
      → IsFate before h t x (fate before h t x) → Now b (fate before h t x)
  other_told b no_insert no_bypass no_write old =
      kept b (fate before h t x) (λ i. no_insert i.0 i.1) (λ i. no_bypass i.0 i.1) (λ i. no_write i.0 i.1) old

  now_told : (b : Body) → IsFate before h t x (fate before h t x)
      → Now b (fate_in before (fate before h t x) head b h t x)
  now_told (body.Insert piece) old = insert_told piece old
  now_told (body.Write write) old = write_told write old
  now_told (body.Bypass piece) old = bypass_told piece old
  now_told (body.Open info) old = other_told (body.Open info) (λ p e. absurd (cc)) (λ p e. absurd (cc))
      (λ p e. absurd (cc)) old
  now_told (body.Poke poke) old = other_told (body.Poke poke) (λ p e. absurd (cc)) (λ p e. absurd (cc))
      (λ p e. absurd (cc)) old
  now_told (body.Read piece) old = other_told (body.Read piece) (λ p e. absurd (cc)) (λ p e. absurd (cc))
      (λ p e. absurd (cc)) old
  now_told (body.Retire retire) old =
      other_told (body.Retire retire) (λ p e. absurd (cc)) (λ p e. absurd (cc)) (λ p e. absurd (cc)) old
  now_told body.Squash old = other_told body.Squash (λ p e. absurd (cc)) (λ p e. absurd (cc)) (λ p e. absurd (cc)) old
  now_told body.End old = other_told body.End (λ p e. absurd (cc)) (λ p e. absurd (cc)) (λ p e. absurd (cc)) old

-- the fate of a byte is one that the messages tell
pub told : (messages : List Message) (h t x : ℕ) → IsFate messages h t x (fate messages h t x)
told [] h t x = (
  (λ k i. message_none k i.older i.head (body.Insert i.piece) i.message),
  λ k time i. message_none k i.older i.head (body.Bypass i.piece) i.message,
)
told (m ∷ before) h t x = now_told before m.head h t x m.body (told before h t x)

-- ---- they tell one

fresh_at : (later : List Message) (older : List Message) (head : Head) (b : Body)
    → AreFresh (later ++ message head b ∷ older) → IsFreshAt older head b
fresh_at [] older head b a = a.1
fresh_at (y ∷ ys) older head b a = fresh_at ys older head b a.0

module _ (messages : List Message) (fresh : AreFresh messages) (h t x : ℕ) where
  -- the parts of an instruction that a head names are those of the store
  own : (older : List Message) (head : Head) → is_of head h t ≡ true → fate older head.hart head.tag x ≡ Nothing
      → fate older h t x ≡ Nothing
  own older head of e =
      let p = and_parts (eqb head.hart h) (eqb head.tag t) of in
      subst (λ (z : ℕ). fate older z t x ≡ Nothing) (eqb-true _ _ p.0)
      (subst (λ (z : ℕ). fate older head.hart z x ≡ Nothing) (eqb-true _ _ p.1) e)

  -- nothing of the byte was before
  nothing_before : (older : List Message) → fate older h t x ≡ Nothing → IsFate older h t x Nothing
  nothing_before older e = subst (IsFate older h t x) e (told older h t x)

  insert_nothing : (k : ℕ) (i : IsInsert messages h t x k) → IsFate i.older h t x Nothing
  insert_nothing k i = nothing_before i.older (own i.older i.head i.of
      ((fresh_at i.message.later i.older i.head (body.Insert i.piece) (subst AreFresh i.message.whole fresh)).0 x
      i.byte))

  bypass_nothing : (k time : ℕ) (i : IsPlainBypass messages h t x k time) → IsFate i.older h t x Nothing
  bypass_nothing k time i = nothing_before i.older (own i.older i.head i.of
      (fresh_at i.message.later i.older i.head (body.Bypass i.piece) (subst AreFresh i.message.whole fresh) i.plain x
      i.byte))

  insert_in : (j k : ℕ) (older : List Message) (head : Head) (b : Body) → IsInsert messages h t x j
      → IsMessage messages k older head b → j < k → IsInsert older h t x j
  insert_in j k older head b i m l = record {
    older = i.older;
    head = i.head;
    piece = i.piece;
    message = message_in m.later j i.older i.head (body.Insert i.piece) k older head b m.number
        (subst (λ (z : List Message). IsMessage z j i.older i.head (body.Insert i.piece)) m.whole i.message) l;
    of = i.of;
    byte = i.byte;
  }

  bypass_in : (j time k : ℕ) (older : List Message) (head : Head) (b : Body) → IsPlainBypass messages h t x j time
      → IsMessage messages k older head b → j < k → IsPlainBypass older h t x j time
  bypass_in j time k older head b i m l = record {
    older = i.older;
    head = i.head;
    piece = i.piece;
    message = message_in m.later j i.older i.head (body.Bypass i.piece) k older head b m.number
        (subst (λ (z : List Message). IsMessage z j i.older i.head (body.Bypass i.piece)) m.whole i.message) l;
    of = i.of;
    byte = i.byte;
    plain = i.plain;
    timed = i.timed;
  }

  insert_above : (j k : ℕ) → IsInsert messages h t x j → IsInsert messages h t x k → j < k → ⊥
  insert_above j k i n l = (insert_nothing k n).0 j (insert_in j k n.older n.head (body.Insert n.piece) i n.message l)

  one_insert : (j k : ℕ) → IsInsert messages h t x j → IsInsert messages h t x k → j ≡ k
  one_insert j k i n = elim (cases_order j k) [
    | inl e ↦ e
    | inr o ↦ elim o [ inl l ↦ absurd (insert_above j k i n l) | inr l ↦ absurd (insert_above k j n i l) ]
  ]

  same_message : (k : ℕ) (older past : List Message) (head q : Head) (b c : Body) → IsMessage messages k older head b
      → IsMessage messages k past q c → (head ≡ q) × (b ≡ c)
  same_message k older past head q b c m n = message_one n.later k older head b past q c n.number
      (subst (λ (z : List Message). IsMessage z k older head b) n.whole m)

  not_both : (j k time : ℕ) → IsInsert messages h t x j → IsPlainBypass messages h t x k time → ⊥
  not_both j k time i n = elim (cases_order j k) [
    | inl e ↦
        let m : IsMessage messages k i.older i.head (body.Insert i.piece) =
        subst (λ (z : ℕ). IsMessage messages z i.older i.head (body.Insert i.piece)) e i.message in
        let s : body.Insert i.piece ≡ body.Bypass n.piece =
        (same_message k i.older n.older i.head n.head (body.Insert i.piece) (body.Bypass n.piece) m n.message).1 in
        absurd (cc)
    | inr o ↦ elim o [
      | inl l ↦ (bypass_nothing k time n).0 j (insert_in j k n.older n.head (body.Bypass n.piece) i n.message l)
      | inr l ↦ (insert_nothing j i).1 k time (bypass_in k time j i.older i.head (body.Insert i.piece) n i.message l)
    ]
  ]

  bypass_above : (j s k time : ℕ) → IsPlainBypass messages h t x j s → IsPlainBypass messages h t x k time → j < k → ⊥
  bypass_above j s k time i n l =
      (bypass_nothing k time n).1 j s (bypass_in j s k n.older n.head (body.Bypass n.piece) i n.message l)

  one_bypass : (j s k time : ℕ) → IsPlainBypass messages h t x j s → IsPlainBypass messages h t x k time
      → (j ≡ k) × (s ≡ time)
  one_bypass j s k time i n = elim (cases_order j k) [
    | inl e ↦
        let m : IsMessage messages k i.older i.head (body.Bypass i.piece) =
        subst (λ (z : ℕ). IsMessage messages z i.older i.head (body.Bypass i.piece)) e i.message in (
          e,
          sym i.timed ∙ ap (λ (z : Head). z.time)
              (same_message k i.older n.older i.head n.head (body.Bypass i.piece) (body.Bypass n.piece) m n.message).0
              ∙ n.timed,
        )
    | inr o ↦ elim o [ inl l ↦ absurd (bypass_above j s k time i n l) | inr l ↦ absurd (bypass_above k time j s n i l) ]
  ]

  one_write : (l j k s i time : ℕ) → IsFirstWrite messages h l j k s → IsFirstWrite messages h l j i time
      → (k ≡ i) × (s ≡ time)
  one_write l j k s i time v w = elim (cases_order k i) [
    | inl e ↦
        let m : IsMessage messages i v.write.older v.write.head (body.Write v.write.write) =
        subst (λ (z : ℕ). IsMessage messages z v.write.older v.write.head (body.Write v.write.write)) e
        v.write.message in (
          e,
          sym v.write.timed ∙ ap (λ (z : Head). z.time)
              (same_message i v.write.older w.write.older v.write.head w.write.head (body.Write v.write.write)
              (body.Write w.write.write) m w.write.message).0
              ∙ w.write.timed,
        )
    | inr o ↦ elim o [
      | inl l ↦ absurd (w.first k s v.after l v.write)
      | inr l ↦ absurd (v.first i time w.after l w.write)
    ]
  ]

  -- a byte that waits isn't performed
  not_written : (j : ℕ) (p : Place) → IsFate messages h t x (Waiting j) → IsFate messages h t x (Done p) → ⊥
  not_written j p w (inr q) = not_both j p.message p.time w.0 q.0
  not_written j p w (inl q) = w.1 p.message p.time
      (let e = one_insert j p.insert w.0 q.0 in let l = q.1.after in omega (arith, e, l)) q.1.write

  one_place : (p q : Place) → IsFate messages h t x (Done p) → IsFate messages h t x (Done q) → p ≡ q
  one_place p q (inl a) (inl b) =
      let e = one_insert p.insert q.insert a.0 b.0 in
      let w = one_write (line_start x) p.insert p.message p.time q.message q.time a.1
      (subst (λ (z : ℕ). IsFirstWrite messages h (line_start x) z q.message q.time) (sym e) b.1) in
      λ i. record { time = w.1 i; message = w.0 i; insert = e i }
  one_place p q (inl a) (inr b) = absurd (not_both p.insert q.message q.time a.0 b.0)
  one_place p q (inr a) (inl b) = absurd (not_both q.insert p.message p.time b.0 a.0)
  one_place p q (inr a) (inr b) =
      let w = one_bypass p.message p.time q.message q.time a.0 b.0 in
      let e : p.insert ≡ q.insert = a.1 ∙ w.0 ∙ sym b.1 in
      λ i. record { time = w.1 i; message = w.0 i; insert = e i }

  not_nothing : (f : Fate) → IsFate messages h t x Nothing → IsFate messages h t x f → Nothing ≡ f
  not_nothing Nothing n g = refl
  not_nothing (Waiting j) n g = absurd (n.0 j g.0)
  not_nothing (Done p) n (inl g) = absurd (n.0 p.insert g.0)
  not_nothing (Done p) n (inr g) = absurd (n.1 p.message p.time g.0)

  pub one_fate : (f g : Fate) → IsFate messages h t x f → IsFate messages h t x g → f ≡ g
  one_fate Nothing g a b = not_nothing g a b
  one_fate (Waiting j) Nothing a b = sym (not_nothing (Waiting j) b a)
  one_fate (Waiting j) (Waiting k) a b = ap Waiting (one_insert j k a.0 b.0)
  one_fate (Waiting j) (Done p) a b = absurd (not_written j p a b)
  one_fate (Done p) Nothing a b = sym (not_nothing (Done p) b a)
  one_fate (Done p) (Waiting j) a b = absurd (not_written j p b a)
  one_fate (Done p) (Done q) a b = ap Done (one_place p q a b)
