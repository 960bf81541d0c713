-- A line that is read is the words of its message.
use Rattle.std.proofs.Common.{◌≡◌, ℕ, ◌^◌, ◌<◌, ◌≤◌, Bool, true, false, List, [], ◌∷◌, ◌++◌, length, drop, codes}
use Rattle.std.proofs.Common.{Option, Some, None, IfSome, Result, Ok, refl, sym, ap, ◌∙◌, subst, arith, length-append}
use Rattle.std.specs.Prelude.{All, if◌then◌else◌}
use Rattle.std.proofs.lemmas.Grind.{flat_map-append}
use Rattle.std.proofs.lemmas.Option.{cond_some}
use Rattle.std.specs.Cmp.Lexicographic.{same_text}
use Rattle.std.specs.List.{flat_map}
use Rattle.msg_frames.specs.declared.csrs.CsrValue.{CsrValue}
use Rattle.msg_frames.specs.declared.message.RdValue.{RdValue}
use Rattle.msg_frames.specs.declared.message.Retire.{Retire}
use Rattle.msg_frames.specs.declared.message.Target.{Target}
use Rattle.msg_frames.specs.declared.message.Target.TheVariants.{Pc, X, Csr}
use Rattle.msg_frames.specs.declared.message.Message.{Message}
use Rattle.msg_frames.specs.Frames.{FitsRetire, TargetInRange, CsrInRange, RetireInRange, Fits, InRange}
use Rattle.numerals.specs.Numerals.{decimal_or_dash}
use Rattle.trace_text.specs.Lines.{spaced, fields_of, kind_word, open_fields, poke_fields, piece_fields, write_fields}
use Rattle.trace_text.specs.Lines.{retire_fields, words_of}
use Rattle.trace_text.specs.Lines.{rd_text, csrs_text}
use Rattle.trace_text.specs.Reading.{timed_at, placed_at, tagged_at, open_at, poke_at, piece_at, write_at, fetch_at}
use Rattle.trace_text.specs.Reading.{outcome_at, retire_at, kind_named, message_at, message_of, line_read}
use Rattle.trace_text.specs.Values.{is_text}
use Rattle.trace_text.specs.Words.{◌>>=◌, until, ended}
use Rattle.trace_text.specs.declared.kinds.Kind.{Kind}
use Rattle.trace_text.specs.declared.kinds.Kind.TheVariants as kind
use Rattle.trace_text.proofs.Clean.{breaks_at, until_and_rest}
use Rattle.trace_text.proofs.FieldLaws.{bind_ok, Spelled}
use Rattle.trace_text.proofs.Found.{Here, here, ok_same, closes, timed_found, placed_found, tagged_found, open_found}
use Rattle.trace_text.proofs.Found.{poke_found, piece_found, write_found, fetch_found, outcome_found}
use Rattle.trace_text.proofs.ValueLaws.{TargetFits, RdFits, CsrFits}

-- ---- fields behind the head

-- the head's fields, and the others up to the line's end
joined : {line : List ℕ} {at middle : ℕ} {first : List (List ℕ)} (second : List (List ℕ)) → Spelled line at middle first
    → drop middle line ≡ flat_map spaced second → drop at line ≡ flat_map spaced (first ++ second)
joined {line} {at} {middle} {first} second s rest =
    s.is ∙ ap (λ l. flat_map spaced first ++ l) rest ∙ sym (flat_map-append spaced first second)

-- ---- ranges

target_holds : (target : Target) → TargetFits target → TargetInRange target
target_holds Pc fits = tt
target_holds (X number) fits = omega (arith, fits.1)
target_holds (Csr number) fits = omega (arith, fits.1)

rd_fits : (rd : Option RdValue) → IfSome rd RdFits → IfSome rd (λ r. (1 ≤ r.number) × (r.number ≤ 31))
rd_fits None fits = tt
rd_fits (Some rd) fits = (fits.0, fits.1)

rd_holds : (rd : Option RdValue) → IfSome rd RdFits → IfSome rd (λ r. (r.number < 2 ^ 8) × (r.value < 2 ^ 64))
rd_holds None fits = tt
rd_holds (Some rd) fits = (omega (arith, fits.1), omega (arith, fits.2))

trap_holds : (trap : Option ℕ) → IfSome trap (λ cause. cause ≤ 255) → IfSome trap (λ cause. cause < 2 ^ 8)
trap_holds None fits = tt
trap_holds (Some cause) fits = omega (arith, fits)

csrs_hold : (csrs : List CsrValue) → All CsrFits csrs → All CsrInRange csrs
csrs_hold csrs fits k d low = let fit = fits k d low in (omega (arith, fit.0), omega (arith, fit.1))

-- the steps of a reading, one by one
by_step : {A B P : Type 0} (first : Result A ℕ) (next : A → Result B ℕ) (value : B) → (first >>= next) ≡ Ok value
    → ((a : A) → first ≡ Ok a → next a ≡ Ok value → P) → P
by_step first next value e more = let step = bind_ok first next value e in more step.0 step.1 step.2

abbrev outcome_fields : Option ℕ × Option RdValue × List CsrValue → List (List ℕ)
outcome_fields o =
    (codes "trap=" ++ decimal_or_dash o.0) ∷ (codes "rd=" ++ rd_text o.1) ∷ (codes "csrs=" ++ csrs_text o.2) ∷ []

retire_found : (line : List ℕ) (at : ℕ) (retire : Retire) → Here line at → retire_at line at ≡ Ok retire
    → (drop at line ≡ flat_map spaced (retire_fields retire)) × FitsRetire retire × RetireInRange retire
unfolding retire_at
retire_found line at retire at_end e =
    by_step (fetch_at line at) _ retire e (λ fetch p rest. by_step (outcome_at line fetch.3) _ retire rest
    (λ outcome q last.
    let f = fetch_found line at fetch at_end p in
    let o = outcome_found line fetch.3 outcome (here f.0) q in
    subst (λ (r : Retire). (drop at line ≡ flat_map spaced (retire_fields r)) × FitsRetire r × RetireInRange r)
    (ok_same _ retire last) (
      joined (outcome_fields outcome) f.0 o.0,
      (rd_fits outcome.1 o.2, o.3),
      (
        omega (arith, f.1.0),
        omega (arith, f.1.1),
        omega (arith, f.1.2),
        trap_holds outcome.0 o.1,
        rd_holds outcome.1 o.2,
        csrs_hold outcome.2 o.4,
      ),
    )))

-- ---- the kinds

-- a message whose fields stand behind the place, and that has a line
abbrev pub Stands : List ℕ → ℕ → List ℕ → Message → Type 0
Stands line at word message =
    (word ≡ kind_word message.body) × (drop at line ≡ flat_map spaced (fields_of message.head message.body))
    × Fits message × InRange message

-- the word of each kind
abbrev pub word_of : Kind → List ℕ
word_of kind.Open = codes "open"
word_of kind.Poke = codes "poke"
word_of kind.Read = codes "read"
word_of kind.Insert = codes "insert"
word_of kind.Write = codes "write"
word_of kind.Bypass = codes "bypass"
word_of kind.Retire = codes "retire"
word_of kind.Squash = codes "squash"
word_of kind.End = codes "end"

message_found : (k : Kind) (line : List ℕ) (at : ℕ) (message : Message) → Here line at
    → message_at k line at ≡ Ok message → Stands line at (word_of k) message
unfolding message_at
message_found kind.Open line at message at_end e =
    by_step (timed_at line at) _ message e (λ head p rest. by_step (open_at line head.1) _ message rest
    (λ info q last.
    let h = timed_found line at head at_end p in
    let o = open_found line head.1 info (here h.0) q in
    let fits = o.1 in
    subst (λ (m : Message). Stands line at (codes "open") m) (ok_same _ message last) (
      refl,
      joined (open_fields info) h.0 o.0,
      (h.1.0, h.1.1, fits),
      (
        omega (arith, h.1.0),
        omega (arith, h.1.2),
        omega (arith, h.1.1),
        (
          omega (arith, fits.0),
          omega (arith, fits.2),
          omega (arith, fits.3),
          omega (arith, fits.4),
          omega (arith, fits.5),
        ),
      ),
    )))
message_found kind.Poke line at message at_end e =
    by_step (placed_at line at) _ message e (λ head p rest. by_step (poke_at line head.1) _ message rest
    (λ poke q last.
    let h = placed_found line at head at_end p in
    let o = poke_found line head.1 poke (here h.0) q in
    subst (λ (m : Message). Stands line at (codes "poke") m) (ok_same _ message last) (
      refl,
      joined (poke_fields poke) h.0 o.0,
      (h.1.1, o.2),
      (
        omega (arith, h.1.0),
        omega (arith, h.1.2),
        omega (arith, h.1.1),
        (target_holds poke.target o.1, omega (arith, o.3)),
      ),
    )))
message_found kind.Read line at message at_end e =
    by_step (tagged_at line at) _ message e (λ head p rest. by_step (piece_at line head.1) _ message rest
    (λ piece q last.
    let h = tagged_found line at head at_end p in
    let o = piece_found line head.1 piece (here h.0) q in
    subst (λ (m : Message). Stands line at (codes "read") m) (ok_same _ message last) (
      refl,
      joined (piece_fields piece) h.0 o.0,
      (o.2, o.3),
      (
        omega (arith, h.1.0),
        omega (arith, h.1.2),
        omega (arith, h.1.1),
        (omega (arith, o.1), o.4),
      ),
    )))
message_found kind.Insert line at message at_end e =
    by_step (tagged_at line at) _ message e (λ head p rest. by_step (piece_at line head.1) _ message rest
    (λ piece q last.
    let h = tagged_found line at head at_end p in
    let o = piece_found line head.1 piece (here h.0) q in
    subst (λ (m : Message). Stands line at (codes "insert") m) (ok_same _ message last) (
      refl,
      joined (piece_fields piece) h.0 o.0,
      (o.2, o.3),
      (
        omega (arith, h.1.0),
        omega (arith, h.1.2),
        omega (arith, h.1.1),
        (omega (arith, o.1), o.4),
      ),
    )))
message_found kind.Write line at message at_end e =
    by_step (placed_at line at) _ message e (λ head p rest. by_step (write_at line head.1) _ message rest
    (λ write q last.
    let h = placed_found line at head at_end p in
    let o = write_found line head.1 write (here h.0) q in
    subst (λ (m : Message). Stands line at (codes "write") m) (ok_same _ message last) (
      refl,
      joined (write_fields write) h.0 o.0,
      (h.1.1, o.5),
      (
        omega (arith, h.1.0),
        omega (arith, h.1.2),
        omega (arith, h.1.1),
        (omega (arith, o.1), omega (arith, o.2), o.3, o.4),
      ),
    )))
message_found kind.Bypass line at message at_end e =
    by_step (tagged_at line at) _ message e (λ head p rest. by_step (piece_at line head.1) _ message rest
    (λ piece q last.
    let h = tagged_found line at head at_end p in
    let o = piece_found line head.1 piece (here h.0) q in
    subst (λ (m : Message). Stands line at (codes "bypass") m) (ok_same _ message last) (
      refl,
      joined (piece_fields piece) h.0 o.0,
      (o.2, o.3),
      (
        omega (arith, h.1.0),
        omega (arith, h.1.2),
        omega (arith, h.1.1),
        (omega (arith, o.1), o.4),
      ),
    )))
message_found kind.Retire line at message at_end e =
    by_step (tagged_at line at) _ message e (λ head p rest. by_step (retire_at line head.1) _ message rest
    (λ retire q last.
    let h = tagged_found line at head at_end p in
    let o = retire_found line head.1 retire (here h.0) q in
    subst (λ (m : Message). Stands line at (codes "retire") m) (ok_same _ message last) (
      refl,
      joined (retire_fields retire) h.0 o.0,
      o.1,
      (
        omega (arith, h.1.0),
        omega (arith, h.1.2),
        omega (arith, h.1.1),
        o.2,
      ),
    )))
message_found kind.Squash line at message at_end e =
    by_step (tagged_at line at) _ message e (λ head p rest. by_step (ended line head.1) _ message rest
    (λ u q last.
    let h = tagged_found line at head at_end p in
    subst (λ (m : Message). Stands line at (codes "squash") m) (ok_same _ message last)
    (refl, closes h.0 q, tt, (omega (arith, h.1.0), omega (arith, h.1.2), omega (arith, h.1.1), tt))))
message_found kind.End line at message at_end e =
    by_step (timed_at line at) _ message e (λ head p rest. by_step (ended line head.1) _ message rest
    (λ u q last.
    let h = timed_found line at head at_end p in
    subst (λ (m : Message). Stands line at (codes "end") m) (ok_same _ message last)
    (refl, closes h.0 q, (h.1.0, h.1.1), (omega (arith, h.1.0), omega (arith, h.1.2), omega (arith, h.1.1), tt))))

-- the word that names a kind is the kind's
chain : (word wanted : List ℕ) (first k : Kind) (others : Option Kind) → wanted ≡ word_of first
    → (others ≡ Some k → word ≡ word_of k)
    → (if is_text word wanted then Some first else others) ≡ Some k → word ≡ word_of k
chain word wanted first k others own later e = decide (is_text word wanted) refl e
  where
    decide : (b : Bool) → is_text word wanted ≡ b → (if b then Some first else others) ≡ Some k → word ≡ word_of k
    decide true p h = same_text word wanted (sym p) ∙ own ∙ ap word_of (cond_some true first k h).1
    decide false p h = later h

kind_found : (word : List ℕ) (k : Kind) → kind_named word ≡ Some k → word ≡ word_of k
unfolding kind_named
kind_found word k =
    chain word (codes "open") kind.Open k _ refl (chain word (codes "poke") kind.Poke k _ refl
    (chain word (codes "read") kind.Read k _ refl (chain word (codes "insert") kind.Insert k _ refl
    (chain word (codes "write") kind.Write k _ refl (chain word (codes "bypass") kind.Bypass k _ refl
    (chain word (codes "retire") kind.Retire k _ refl (chain word (codes "squash") kind.Squash k _ refl
    (chain word (codes "end") kind.End k None refl (λ none. cc)))))))))

-- a line that is read is the words of its message
pub line_found : (line : List ℕ) (message : Message) → line_read line ≡ Ok message
    → (line ≡ words_of message) × Fits message × InRange message
unfolding line_read
line_found line message e = told (kind_named (until 32 line)) refl e
  where
    told : (o : Option Kind) → kind_named (until 32 line) ≡ o → message_of o line (length (until 32 line)) ≡ Ok message
        → (line ≡ words_of message) × Fits message × InRange message
    told None p h = cc
    told (Some k) p h =
        let parts = until_and_rest 32 line in
        let low : length (until 32 line) ≤ length line =
        omega (arith, ap length parts, length-append (until 32 line) (drop (length (until 32 line)) line)) in
        let found = message_found k line (length (until 32 line)) message (low, breaks_at 32 line) h in
        let front : until 32 line ≡ kind_word message.body = kind_found (until 32 line) k p ∙ found.0 in
        (sym parts ∙ (λ i. front i ++ found.1 i), found.2, found.3)
