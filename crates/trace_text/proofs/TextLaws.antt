-- How a text is read line by line.
use Rattle.std.proofs.Common.{◌≡◌, ℕ, ◌+◌, ◌-◌, ◌<◌, ◌≤◌, Bool, true, false, nat_eq, nat_lt, if◌then◌else◌}
use Rattle.std.proofs.Common.{List, [], ◌∷◌, ◌++◌, length, drop, drop-drop, length-drop, length-append, append_assoc}
use Rattle.std.proofs.Common.{Option, Some, None, Result, Ok, Err, refl, sym, ap, ◌∙◌, subst, arith, inl, inr}
use Rattle.std.proofs.Common.{drop_of_length-le}
use Rattle.std.proofs.lemmas.Bool.{ne_eqb, eqb-true, eqb-false, ltb-true, ltb-false}
use Rattle.msg_frames.specs.declared.message.Message.{Message}
use Rattle.trace_text.specs.Reading.{line_read}
use Rattle.trace_text.specs.Texts.{Lines, put_byte, text_lines, rest_fault, left_read, message_before}
use Rattle.trace_text.specs.Texts.{line_before, lines_read, text_from, line_answer, text_line_at}
use Rattle.trace_text.specs.Words.{until}
use Rattle.trace_text.specs.declared.fault.TextFault.{TextFault}
use Rattle.trace_text.specs.declared.fault.TextFault.TheVariants as fault
use Rattle.trace_text.specs.declared.text_line.TextLine.{TextLine}
use Rattle.trace_text.proofs.Clean.{Lacks, Breaks, breaks_at, until_and_rest, until_all}

-- ---- lines

until_lacks : (stop : ℕ) (text : List ℕ) → Lacks stop (until stop text)
until_lacks stop [] = tt
until_lacks stop (x ∷ xs) = decide (until_lacks stop xs) (nat_eq x stop) refl
  where
    decide : Lacks stop (until stop xs) → (b : Bool) → nat_eq x stop ≡ b
        → Lacks stop (if b then [] else x ∷ until stop xs)
    decide later true p = tt
    decide later false p = (eqb-false x stop p, later)

-- a line before others
pub lines_ended : (front rest : List ℕ) → Lacks 10 front
    → text_lines (front ++ (10 ∷ rest))
    ≡ record { whole = front ∷ (text_lines rest).whole; left = (text_lines rest).left }
lines_ended [] rest plain = refl
lines_ended (x ∷ xs) rest plain =
    ap (λ (b : Bool). if b then record {
      whole = [] ∷ (text_lines (xs ++ (10 ∷ rest))).whole;
      left = (text_lines (xs ++ (10 ∷ rest))).left;
    } else put_byte x (text_lines (xs ++ (10 ∷ rest))).whole
    (text_lines (xs ++ (10 ∷ rest))).left) (ne_eqb x 10 plain.0)
    ∙ ap (λ (l : Lines). put_byte x l.whole l.left) (lines_ended xs rest plain.1)

-- no line ends
pub lines_left : (text : List ℕ) → Lacks 10 text → text_lines text ≡ record { whole = []; left = text }
lines_left [] plain = refl
lines_left (x ∷ xs) plain =
    ap (λ (b : Bool). if b then record { whole = [] ∷ (text_lines xs).whole; left = (text_lines xs).left }
    else put_byte x (text_lines xs).whole (text_lines xs).left) (ne_eqb x 10 plain.0)
    ∙ ap (λ (l : Lines). put_byte x l.whole l.left) (lines_left xs plain.1)

-- a text that begins with a line
pub text_ended : (number : ℕ) (front rest : List ℕ) → Lacks 10 front
    → text_from number (front ++ (10 ∷ rest)) ≡ line_before number (line_read front) (text_from (number + 1) rest)
text_ended number front rest plain = ap (λ (l : Lines). lines_read number l.whole l.left) (lines_ended front rest plain)

-- a text without a whole line
pub text_left : (number : ℕ) (text : List ℕ) → Lacks 10 text → text_from number text ≡ left_read number text
text_left number text plain = ap (λ (l : Lines). lines_read number l.whole l.left) (lines_left text plain)

-- ---- one line

-- the answer for a line that spells a message, by whether its newline is there
abbrev answer_by : Bool → Message → ℕ → ℕ → Result (Option TextLine) ℕ
answer_by true message end start = Ok (Some (record { message = message; next = end + 1 }))
answer_by false message end start = Err (end - start + 1)

answer_is : (b : Bool) (message : Message) (end start : ℕ) (r : Result (Option TextLine) ℕ)
    → if◌then◌else◌ {A = Result (Option TextLine) ℕ} b (Ok (Some (record { message = message; next = end + 1 })))
    (Err (end - start + 1)) ≡ r → answer_by b message end start ≡ r
answer_is true message end start r e = e
answer_is false message end start r e = e

-- the text ends
pub next_none : (text : List ℕ) (start number : ℕ) → text_line_at text start ≡ Ok None
    → text_from number (drop start text) ≡ Ok []
unfolding text_line_at
next_none text start number e = decide (nat_eq start (length text)) refl e
  where
    some : (b : Bool) (message : Message)
        → answer_by b message (start + length (until 10 (drop start text))) start ≡ Ok None
        → text_from number (drop start text) ≡ Ok []
    some true message h = cc
    some false message h = cc

    answer : (r : Result Message ℕ)
        → line_answer (length text) start (start + length (until 10 (drop start text))) r ≡ Ok None
        → text_from number (drop start text) ≡ Ok []
    answer (Ok message) h = some (nat_lt (start + length (until 10 (drop start text))) (length text)) message
        (answer_is (nat_lt (start + length (until 10 (drop start text))) (length text)) message
        (start + length (until 10 (drop start text))) start (Ok None) h)
    answer (Err place) h = cc

    decide : (b : Bool) → nat_eq start (length text) ≡ b
        → (if b then Ok None else line_answer (length text) start (start + length (until 10 (drop start text)))
        (line_read (until 10 (drop start text)))) ≡ Ok None
        → text_from number (drop start text) ≡ Ok []
    decide true p h =
        ap (text_from number) (drop_of_length-le text {i = start} (omega (arith, eqb-true start (length text) p)))
    decide false p h = answer (line_read (until 10 (drop start text))) h

-- what stands behind a line, where its newline is there
ended_parts : (text : List ℕ) (start : ℕ) → start + length (until 10 (drop start text)) < length text
    → drop start text ≡ until 10 (drop start text) ++ (10 ∷ drop (start + length (until 10 (drop start text)) + 1) text)
ended_parts text start short =
    told (drop (length (until 10 (drop start text))) (drop start text)) refl (breaks_at 10 (drop start text))
  where
    told : (rest : List ℕ) → drop (length (until 10 (drop start text))) (drop start text) ≡ rest → Breaks 10 rest
        → drop start text ≡ until 10 (drop start text) ++ (10
        ∷ drop (start + length (until 10 (drop start text)) + 1) text)
    told rest p (inl none) = absurd (omega (
      arith,
      short,
      ap length (p ∙ none),
      length-drop (length (until 10 (drop start text))) (drop start text),
      length-drop start text,
    ))
    told rest p (inr some) =
        let there : drop (start + length (until 10 (drop start text))) text ≡ 10 ∷ some.0 =
        sym (drop-drop (length (until 10 (drop start text))) start text) ∙ p ∙ some.1 in
        let behind : some.0 ≡ drop (start + length (until 10 (drop start text)) + 1) text =
        ap (drop 1) (sym there) ∙ drop-drop 1 (start + length (until 10 (drop start text))) text in
        sym (until_and_rest 10 (drop start text)) ∙ ap (λ l. until 10 (drop start text) ++ l) (p ∙ some.1
        ∙ ap (λ l. 10 ∷ l) behind)

-- where there is no newline the line is the rest of the text
left_whole : (text : List ℕ) (start : ℕ) → (start + length (until 10 (drop start text)) < length text → ⊥)
    → until 10 (drop start text) ≡ drop start text
left_whole text start long =
    until_all 10 (drop start text) (omega (
      arith,
      ap length (until_and_rest 10 (drop start text)),
      length-append (until 10 (drop start text)) (drop (length (until 10 (drop start text))) (drop start text)),
      length-drop start text,
      outside (start + length (until 10 (drop start text))) (length text) long,
    ))
  where
    outside : (a b : ℕ) → (a < b → ⊥) → b ≤ a
    outside a b h = omega (arith, h)

-- a line with its newline
pub next_some : (text : List ℕ) (start number : ℕ) (line : TextLine) → text_line_at text start ≡ Ok (Some line)
    → text_from number (drop start text) ≡ message_before line.message (text_from (number + 1) (drop line.next text))
unfolding text_line_at
next_some text start number line e = decide (nat_eq start (length text)) refl e
  where
    ended_line : (message : Message) → line_read (until 10 (drop start text)) ≡ Ok message
        → start + length (until 10 (drop start text)) < length text
        → text_from number (drop start text)
        ≡ message_before message (text_from (number + 1) (drop (start + length (until 10 (drop start text)) + 1) text))
    ended_line message p short =
        ap (text_from number) (ended_parts text start short)
        ∙ text_ended number (until 10 (drop start text)) (drop (start + length (until 10 (drop start text)) + 1) text)
        (until_lacks 10 (drop start text))
        ∙ ap (λ r. line_before number r (text_from (number + 1)
        (drop (start + length (until 10 (drop start text)) + 1) text))) p

    by_end : (b : Bool) (message : Message) → line_read (until 10 (drop start text)) ≡ Ok message
        → nat_lt (start + length (until 10 (drop start text))) (length text) ≡ b
        → answer_by b message (start + length (until 10 (drop start text))) start ≡ Ok (Some line)
        → text_from number (drop start text) ≡ message_before line.message
        (text_from (number + 1) (drop line.next text))
    by_end true message p q h =
        subst (λ (l : TextLine). text_from number (drop start text)
        ≡ message_before l.message (text_from (number + 1) (drop l.next text))) (line_is message h)
        (ended_line message p (ltb-true _ _ q))
      where
        value_of : Result (Option TextLine) ℕ → TextLine
        value_of (Ok (Some l)) = l
        value_of (Ok None) = line
        value_of (Err place) = line

        line_is : (m : Message) → ◌≡◌ {A = Result (Option TextLine) ℕ}
            (Ok (Some (record { message = m; next = start + length (until 10 (drop start text)) + 1 })))
            (Ok (Some line))
            → record { message = m; next = start + length (until 10 (drop start text)) + 1 } ≡ line
        line_is m same = ap value_of same
    by_end false message p q h = cc

    answer : (r : Result Message ℕ) → line_read (until 10 (drop start text)) ≡ r
        → line_answer (length text) start (start + length (until 10 (drop start text))) r ≡ Ok (Some line)
        → text_from number (drop start text) ≡ message_before line.message
        (text_from (number + 1) (drop line.next text))
    answer (Ok message) p h =
        by_end (nat_lt (start + length (until 10 (drop start text))) (length text)) message p refl
        (answer_is (nat_lt (start + length (until 10 (drop start text))) (length text)) message
        (start + length (until 10 (drop start text))) start (Ok (Some line)) h)
    answer (Err place) p h = cc

    decide : (b : Bool) → nat_eq start (length text) ≡ b
        → (if b then Ok None else line_answer (length text) start (start + length (until 10 (drop start text)))
        (line_read (until 10 (drop start text)))) ≡ Ok (Some line)
        → text_from number (drop start text) ≡ message_before line.message
        (text_from (number + 1) (drop line.next text))
    decide true p h = cc
    decide false p h = answer (line_read (until 10 (drop start text))) refl h

err_is : {A : Type 0} (a b : ℕ) → ◌≡◌ {A = Result A ℕ} (Err a) (Err b) → a ≡ b
err_is {A} a b e = ap (λ r. place_of r) e
  where
    place_of : Result A ℕ → ℕ
    place_of (Ok v) = a
    place_of (Err place) = place

-- a line that is wrong, or has no newline
pub next_err : (text : List ℕ) (start number column : ℕ) → start ≤ length text → text_line_at text start ≡ Err column
    → text_from number (drop start text) ≡ Err (fault.Form number column)
unfolding text_line_at
next_err text start number column low e = decide (nat_eq start (length text)) refl e
  where
    whole_line : (place : ℕ) → line_read (until 10 (drop start text)) ≡ Err place → place + 1 ≡ column
        → start + length (until 10 (drop start text)) < length text
        → text_from number (drop start text) ≡ Err (fault.Form number column)
    whole_line place p same short =
        ap (text_from number) (ended_parts text start short)
        ∙ text_ended number (until 10 (drop start text)) (drop (start + length (until 10 (drop start text)) + 1) text)
        (until_lacks 10 (drop start text))
        ∙ ap (λ r. line_before number r (text_from (number + 1)
        (drop (start + length (until 10 (drop start text)) + 1) text))) p
        ∙ ap (λ n. Err (fault.Form number n)) same

    last_line : (r : Result Message ℕ) → line_read (until 10 (drop start text)) ≡ r
        → (start + length (until 10 (drop start text)) < length text → ⊥) → (start ≡ length text → ⊥)
        → text_from number (drop start text) ≡ Err (rest_fault number (drop start text) r)
    last_line r p long open_end =
        let whole = left_whole text start long in
        let some : nat_eq (length (drop start text)) 0 ≡ false =
        ne_eqb _ 0 (λ none. open_end (omega (arith, low, none, length-drop start text))) in
        text_left number (drop start text) (subst (Lacks 10) whole (until_lacks 10 (drop start text)))
        ∙ ap (λ (b : Bool). if b then Ok [] else Err (rest_fault number (drop start text)
        (line_read (drop start text)))) some
        ∙ ap (λ q. Err (rest_fault number (drop start text) q)) (ap line_read (sym whole) ∙ p)

    wrong : (b : Bool) (place : ℕ) → nat_lt (start + length (until 10 (drop start text))) (length text) ≡ b
        → line_read (until 10 (drop start text)) ≡ Err place → place + 1 ≡ column → (start ≡ length text → ⊥)
        → text_from number (drop start text) ≡ Err (fault.Form number column)
    wrong true place q p same open_end = whole_line place p same (ltb-true _ _ q)
    wrong false place q p same open_end =
        last_line (Err place) p (λ short. not_below _ _ q short) open_end ∙ ap (λ n. Err (fault.Form number n)) same
      where
        not_below : (a b : ℕ) → nat_lt a b ≡ false → a < b → ⊥
        not_below a b t short = omega (arith, ltb-false a b t, short)

    by_end : (b : Bool) (message : Message) → line_read (until 10 (drop start text)) ≡ Ok message
        → nat_lt (start + length (until 10 (drop start text))) (length text) ≡ b
        → answer_by b message (start + length (until 10 (drop start text))) start ≡ Err column
        → (start ≡ length text → ⊥)
        → text_from number (drop start text) ≡ Err (fault.Form number column)
    by_end true message p q h open_end = cc
    by_end false message p q h open_end =
        let long : start + length (until 10 (drop start text)) < length text → ⊥ =
        λ short. omega (arith, ltb-false _ _ q, short) in
        let size = ap length (left_whole text start long) in
        last_line (Ok message) p long open_end
        ∙ ap (λ n. Err (fault.Form number n)) (omega (arith, err_is _ column h, size))

    answer : (r : Result Message ℕ) → line_read (until 10 (drop start text)) ≡ r → (start ≡ length text → ⊥)
        → line_answer (length text) start (start + length (until 10 (drop start text))) r ≡ Err column
        → text_from number (drop start text) ≡ Err (fault.Form number column)
    answer (Ok message) p open_end h =
        by_end (nat_lt (start + length (until 10 (drop start text))) (length text)) message p refl
        (answer_is (nat_lt (start + length (until 10 (drop start text))) (length text)) message
        (start + length (until 10 (drop start text))) start (Err column) h) open_end
    answer (Err place) p open_end h =
        wrong (nat_lt (start + length (until 10 (drop start text))) (length text)) place refl p
        (err_is (place + 1) column h)
        open_end

    decide : (b : Bool) → nat_eq start (length text) ≡ b
        → (if b then Ok None else line_answer (length text) start (start + length (until 10 (drop start text)))
        (line_read (until 10 (drop start text)))) ≡ Err column
        → text_from number (drop start text) ≡ Err (fault.Form number column)
    decide true p h = cc
    decide false p h = answer (line_read (until 10 (drop start text))) refl (eqb-false start (length text) p) h

-- ---- whole texts

-- messages behind those that were read
abbrev pub after_messages : List Message → Result (List Message) TextFault → Result (List Message) TextFault
after_messages messages (Ok more) = Ok (messages ++ more)
after_messages messages (Err broken) = Err broken

pub after_none : (r : Result (List Message) TextFault) → after_messages [] r ≡ r
after_none (Ok more) = refl
after_none (Err broken) = refl

pub after_one : (messages : List Message) (message : Message) (r : Result (List Message) TextFault)
    → after_messages messages (message_before message r) ≡ after_messages (messages ++ (message ∷ [])) r
after_one messages message (Ok more) = ap Ok (sym (append_assoc messages (message ∷ []) more))
after_one messages message (Err broken) = refl
