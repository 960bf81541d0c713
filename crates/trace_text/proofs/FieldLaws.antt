-- A field is read from its spelling, and from nothing else.
use Rattle.std.proofs.Common.{◌≡◌, ℕ, ◌+◌, ◌-◌, ◌<◌, ◌≤◌, Bool, true, false, nat_eq, if◌then◌else◌, inl, inr}
use Rattle.std.proofs.Common.{List, [], ◌∷◌, ◌++◌, length, drop, drop-drop, length-append, length-drop, append-nil}
use Rattle.std.proofs.Common.{append_assoc}
use Rattle.std.proofs.Common.{Option, Some, None, Result, Ok, Err, refl, sym, ap, ◌∙◌, subst, arith}
use Rattle.std.proofs.Math.Seq.{drop-append_seam}
use Rattle.std.proofs.lemmas.Bool.{ne_eqb, eqb-true, eq-eqb, eqb-false}
use Rattle.std.proofs.lemmas.Grind.{flat_map-append}
use Rattle.std.specs.List.{flat_map, starts_with}
use Rattle.numerals.proofs.TextLaws.{starts, started}
use Rattle.trace_text.specs.Lines.{spaced}
use Rattle.trace_text.specs.Words.{◌>>=◌, until, word_from, behind_name, named_word, value_or, field, ended}
use Rattle.trace_text.proofs.Clean.{Lacks, Breaks, breaks_at, until_and_rest, until_whole, until_front}

-- ---- steps

-- the first step of two that went well
pub bind_ok : {A B : Type 0} (first : Result A ℕ) (next : A → Result B ℕ) (value : B) → (first >>= next) ≡ Ok value
    → (a : A) × (first ≡ Ok a) × (next a ≡ Ok value)
bind_ok (Ok a) next value e = (a, refl, e)
bind_ok (Err place) next value e = cc

-- ---- what was read stands there

-- from one place to another stand these fields, each behind a space, and a word ends there
pub record Spelled (line : List ℕ) (at end : ℕ) (fields : List (List ℕ)) : Type 0 where
  pub is : drop at line ≡ flat_map spaced fields ++ drop end line
  pub ends : Breaks 32 (drop end line)
  pub bound : end ≤ length line

-- fields behind others
pub spelled_then : {line : List ℕ} {at middle end : ℕ} {first second : List (List ℕ)}
    → Spelled line at middle first → Spelled line middle end second → Spelled line at end (first ++ second)
spelled_then {line} {at} {middle} {end} {first} {second} p q =
    record {
      is = p.is ∙ ap (λ l. flat_map spaced first ++ l) q.is
          ∙ sym (append_assoc (flat_map spaced first) (flat_map spaced second) (drop end line))
          ∙ ap (λ l. l ++ drop end line) (sym (flat_map-append spaced first second));
      ends = q.ends;
      bound = q.bound;
    }

one_word : (line : List ℕ) (at : ℕ) (more : List ℕ) → at < length line → drop at line ≡ 32 ∷ more
    → Spelled line at (at + 1 + length (word_from (at + 1) line)) (word_from (at + 1) line ∷ [])
one_word line at more low is =
    let next : drop (at + 1) line ≡ more = sym (drop-drop 1 at line) ∙ ap (drop 1) is in
    let word = word_from (at + 1) line in
    let rest : drop (length word) (drop (at + 1) line) ≡ drop (at + 1 + length word) line =
    drop-drop (length word) (at + 1) line in
    let parts : word ++ drop (at + 1 + length word) line ≡ more =
    ap (λ l. word ++ l) (sym rest) ∙ until_and_rest 32 (drop (at + 1) line) ∙ next in
    record {
      is = is ∙ ap (λ l. 32 ∷ l) (sym parts ∙ ap (λ l. l ++ drop (at + 1 + length word) line) (sym (append-nil word)));
      ends = subst (Breaks 32) rest (breaks_at 32 (drop (at + 1) line));
      bound = omega (
        arith,
        low,
        ap length parts,
        ap length next,
        length-append word (drop (at + 1 + length word) line),
        length-drop (at + 1) line,
        length-drop (at + 1 + length word) line,
      );
    }

word_told : (name line text : List ℕ) (at end : ℕ) (more : List ℕ) → at < length line → drop at line ≡ 32 ∷ more
    → (b : Bool) → starts_with nat_eq (word_from (at + 1) line) name ≡ b
    → if◌then◌else◌ {A = Result (List ℕ × ℕ) ℕ} b (Ok (
      drop (length name) (word_from (at + 1) line),
      at + 1
          + length (word_from (at + 1) line),
    )) (Err (at + 1)) ≡ Ok (text, end)
    → Spelled line at end ((name ++ text) ∷ [])
word_told name line text at end more low is false p h = cc
word_told name line text at end more low is true p h =
    let same : word_from (at + 1) line ≡ name ++ text =
    starts name (word_from (at + 1) line) p ∙ ap (λ l. name ++ l) (ap (λ r. (get_ok r).0) h) in
    let there : at + 1 + length (word_from (at + 1) line) ≡ end = ap (λ r. (get_ok r).1) h in
    subst (λ (w : List ℕ). Spelled line at end (w ∷ [])) same
    (subst (λ (n : ℕ). Spelled line at n (word_from (at + 1) line ∷ [])) there (one_word line at more low is))
  where
    get_ok : Result (List ℕ × ℕ) ℕ → List ℕ × ℕ
    get_ok (Ok pair) = pair
    get_ok (Err place) = ([], 0)

-- where a word follows
word_follows : (line : List ℕ) (at : ℕ) → at < length line → Breaks 32 (drop at line)
    → (more : List ℕ) × (drop at line ≡ 32 ∷ more)
word_follows line at low (inl none) = absurd (omega (arith, low, ap length none, length-drop at line))
word_follows line at low (inr some) = some

pub named_found : (name line text : List ℕ) (at end : ℕ) → at ≤ length line → Breaks 32 (drop at line)
    → named_word name line at ≡ Ok (text, end) → Spelled line at end ((name ++ text) ∷ [])
unfolding named_word
named_found name line text at end low breaks e = decide (nat_eq at (length line)) refl e
  where
    decide : (b : Bool) → nat_eq at (length line) ≡ b
        → (if b then Err at else behind_name name (word_from (at + 1) line) (at + 1)) ≡ Ok (text, end)
        → Spelled line at end ((name ++ text) ∷ [])
    decide true p h = cc
    decide false p h =
        let short : at < length line = omega (arith, low, eqb-false at (length line) p) in
        let some = word_follows line at short breaks in
        word_told name line text at end some.0 short some.1 _ refl h

abbrev pair_or : {A : Type 0} → A → ℕ → Result (A × ℕ) ℕ → A × ℕ
pair_or value end (Ok pair) = pair
pair_or value end (Err place) = (value, end)

-- a field that was read
pub record FieldFound {A : Type 0} (name : List ℕ) (read : List ℕ
    → Option A) (line : List ℕ) (at end : ℕ) (value : A) : Type 0 where
  pub text : List ℕ
  pub reads : read text ≡ Some value
  pub spelled : Spelled line at end ((name ++ text) ∷ [])

value_told : {A : Type 0} (name : List ℕ) (read : List ℕ → Option A) (line text : List ℕ) (at end there : ℕ) (value : A)
    → Spelled line at there ((name ++ text) ∷ []) → (o : Option A) → read text ≡ o
    → value_or (at + 1) o there ≡ Ok (value, end) → FieldFound name read line at end value
value_told name read line text at end there value spelled None p h = cc
value_told name read line text at end there value spelled (Some v) p h =
    let same : v ≡ value = ap (λ r. (pair_or v there r).0) h in
    let ends : there ≡ end = ap (λ r. (pair_or v there r).1) h in
    record {
      text = text;
      reads = p ∙ ap Some same;
      spelled = subst (λ (n : ℕ). Spelled line at n ((name ++ text) ∷ [])) ends spelled;
    }

pub field_found : {A : Type 0} (name : List ℕ) (read : List ℕ → Option A) (line : List ℕ) (at end : ℕ) (value : A)
    → at ≤ length line → Breaks 32 (drop at line) → field name read line at ≡ Ok (value, end)
    → FieldFound name read line at end value
field_found name read line at end value low breaks e =
    let step = bind_ok (named_word name line at) (λ text. value_or (at + 1) (read text.0) text.1) (value, end) e in
    value_told name read line step.0.0 at end step.0.1 value
    (named_found name line step.0.0 at step.0.1 low breaks step.1)
    (read step.0.0) refl step.2

-- the line ends
pub ended_found : (line : List ℕ) (at : ℕ) → ended line at ≡ Ok tt → at ≡ length line
ended_found line at e = decide (nat_eq at (length line)) refl e
  where
    decide : (b : Bool) → nat_eq at (length line) ≡ b
        → if◌then◌else◌ {A = Result (Unit {0}) ℕ} b (Ok tt) (Err (at + 1)) ≡ Ok tt → at ≡ length line
    decide true p h = eqb-true at (length line) p
    decide false p h = cc

-- ---- what stands there is read

-- the rest of the line is these fields, each behind a space
pub record Follows (line : List ℕ) (at : ℕ) (fields : List (List ℕ)) : Type 0 where
  pub is : drop at line ≡ flat_map spaced fields
  pub bound : at ≤ length line

-- a field that is read, with what follows
pub record FieldReads {A : Type 0} (name : List ℕ) (read : List ℕ
    → Option A) (line : List ℕ) (at : ℕ) (value : A) (fields : List (List ℕ)) : Type 0 where
  pub end : ℕ
  pub is : field name read line at ≡ Ok (value, end)
  pub follows : Follows line end fields

pub first_word : (word : List ℕ) (fields : List (List ℕ)) → Lacks 32 word
    → until 32 (word ++ flat_map spaced fields) ≡ word
first_word word [] p = ap (until 32) (append-nil word) ∙ until_whole 32 word p
first_word word (next ∷ fields) p = until_front 32 word (next ++ flat_map spaced fields) p

pub field_reads : {A : Type 0} (name : List ℕ) (read : List ℕ → Option A) (text line : List ℕ) (at : ℕ) (value : A)
    (fields : List (List ℕ)) → Follows line at ((name ++ text) ∷ fields) → Lacks 32 (name ++ text)
    → read text ≡ Some value → FieldReads name read line at value fields
unfolding named_word
field_reads name read text line at value fields follows plain reads =
    let size : length (drop at line) ≡ length line - at = length-drop at line in
    let long : 0 < length (drop at line) = omega (arith, ap length follows.is) in
    let next : drop (at + 1) line ≡ (name ++ text) ++ flat_map spaced fields =
    sym (drop-drop 1 at line) ∙ ap (drop 1) follows.is in
    let word : word_from (at + 1) line ≡ name ++ text = ap (until 32) next ∙ first_word (name ++ text) fields plain in
    let open_end : nat_eq at (length line) ≡ false = ne_eqb at (length line) (λ same. omega (arith, size, long, same))
    in
    let there : drop (at + 1 + length (name ++ text)) line ≡ flat_map spaced fields =
    sym (drop-drop (length (name ++ text)) (at + 1) line) ∙ ap (drop (length (name ++ text))) next
    ∙ drop-append_seam (name ++ text) (flat_map spaced fields) in
    record {
      end = at + 1 + length (name ++ text);
      is = rw (open_end, word, started name text, drop-append_seam name text, reads) refl;
      follows = record {
        is = there;
        bound = omega (
          arith,
          size,
          long,
          ap length next,
          length-append (name ++ text) (flat_map spaced fields),
          length-drop (at + 1) line,
        );
      };
    }

-- where nothing follows the line ends
pub ended_reads : (line : List ℕ) (at : ℕ) → Follows line at [] → ended line at ≡ Ok tt
ended_reads line at follows =
    let same : at ≡ length line =
    omega (arith, follows.bound, length-drop at line, ap length follows.is) in
    ap (λ (b : Bool). if◌then◌else◌ {A = Result (Unit {0}) ℕ} b (Ok tt) (Err (at + 1))) (eq-eqb at (length line) same)
