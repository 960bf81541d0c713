-- A text that is read is the lines of its messages, and those lines are read as these messages.
use Rattle.std.proofs.Common.{◌≡◌, ℕ, zero, suc, ◌+◌, Bool, true, false, nat_eq, if◌then◌else◌, List, [], ◌∷◌, ◌++◌}
use Rattle.std.proofs.Common.{length}
use Rattle.std.proofs.Common.{Result, Ok, Err, refl, sym, ap, ◌∙◌, subst, arith, append_assoc}
use Rattle.std.proofs.Common.{◌⊎◌, inl, inr}
use Rattle.std.specs.Prelude.{All, IfOk}
use Rattle.std.proofs.lemmas.Bool.{eqb-true}
use Rattle.std.specs.List.{flat_map}
use Rattle.msg_frames.specs.declared.message.Message.{Message}
use Rattle.tandem_base.specs.Texts.{newline}
use Rattle.trace_text.specs.Lines.{spaced, fields_of, kind_word, words_of, text_of}
use Rattle.trace_text.specs.Reading.{line_read}
use Rattle.trace_text.specs.Texts.{Spellable, Lines, put_byte, text_lines, rest_fault, message_before}
use Rattle.trace_text.specs.Texts.{line_before, lines_read, text_from, text_read}
use Rattle.trace_text.specs.declared.fault.TextFault.{TextFault}
use Rattle.trace_text.specs.declared.fault.TextFault.TheVariants.{Memory}
use Rattle.trace_text.proofs.Clean.{Lacks, clean_lacks, lacks_append}
use Rattle.trace_text.proofs.LineBack.{fields_clean, line_reads, word_clean, FieldsClean}
use Rattle.trace_text.proofs.LineFound.{line_found}
use Rattle.trace_text.proofs.TextLaws.{text_ended}

-- ---- what is read is there

-- a line with its newline
abbrev with_newline : List ℕ → List ℕ
with_newline line = line ++ newline

put_whole : (byte : ℕ) (lines : List (List ℕ)) (left : List ℕ)
    → byte ∷ (flat_map with_newline lines ++ left)
    ≡ flat_map with_newline (put_byte byte lines left).whole ++ (put_byte byte lines left).left
put_whole byte [] left = refl
put_whole byte (line ∷ lines) left = refl

-- a text is its lines, each with its newline, and what is left
lines_whole : (text : List ℕ) → text ≡ flat_map with_newline (text_lines text).whole ++ (text_lines text).left
lines_whole [] = refl
lines_whole (x ∷ xs) = decide (lines_whole xs) (nat_eq x 10) refl
  where
    parts : Bool → Lines
    parts b = if b then record { whole = [] ∷ (text_lines xs).whole; left = (text_lines xs).left }
        else put_byte x (text_lines xs).whole (text_lines xs).left

    decide : xs ≡ flat_map with_newline (text_lines xs).whole ++ (text_lines xs).left → (b : Bool) → nat_eq x 10 ≡ b
        → x ∷ xs ≡ flat_map with_newline (parts b).whole ++ (parts b).left
    decide later true p = (λ i. eqb-true x 10 p i ∷ later i)
    decide later false p = ap (λ l. x ∷ l) later ∙ put_whole x (text_lines xs).whole (text_lines xs).left

all_none : All Spellable []
all_none k d low = absurd (omega arith)

all_first : (message : Message) (messages : List Message) → Spellable message → All Spellable messages
    → All Spellable (message ∷ messages)
all_first message messages p q zero d low = p
all_first message messages p q (suc k) d low = q k d (omega arith)

all_later : (message : Message) (messages : List Message) → All Spellable (message ∷ messages) → All Spellable messages
all_later message messages p k d low = p (suc k) d (omega arith)

abbrev Told : List (List ℕ) → List ℕ → List Message → Type 0
Told lines left messages = (flat_map with_newline lines ++ left ≡ text_of messages) × All Spellable messages

list_is : (a b : List Message) → ◌≡◌ {A = Result (List Message) TextFault} (Ok a) (Ok b) → a ≡ b
list_is a b e = ap (λ r. list_or r) e
  where
    list_or : Result (List Message) TextFault → List Message
    list_or (Ok l) = l
    list_or (Err broken) = a

lines_found : (number : ℕ) (lines : List (List ℕ)) (left : List ℕ) (messages : List Message)
    → lines_read number lines left ≡ Ok messages → Told lines left messages
lines_found number [] left messages e = decide (nat_eq (length left) 0) refl e
  where
    none_left : (l : List ℕ) → length l ≡ 0 → l ≡ []
    none_left [] p = refl
    none_left (x ∷ xs) p = absurd (omega (arith, p))

    decide : (b : Bool) → nat_eq (length left) 0 ≡ b
        → (if b then Ok [] else Err (rest_fault number left (line_read left))) ≡ Ok messages → Told [] left messages
    decide true p h =
        subst (λ (l : List Message). Told [] left l) (list_is [] messages h)
        (none_left left (eqb-true (length left) 0 p), all_none)
    decide false p h = cc
lines_found number (line ∷ lines) left messages e =
    first (λ more. lines_found (number + 1) lines left more) (line_read line) refl e
  where
    both : (message : Message) → line_read line ≡ Ok message → (more : List Message) → Told lines left more
        → Told (line ∷ lines) left (message ∷ more)
    both message p more told =
        let found = line_found line message p in (
          append_assoc (with_newline line) (flat_map with_newline lines) left
              ∙ (λ i. (found.0 i ++ newline) ++ told.0 i),
          all_first message more (found.1, found.2) told.1,
        )

    second : ((more : List Message) → lines_read (number + 1) lines left ≡ Ok more → Told lines left more)
        → (message : Message) → line_read line ≡ Ok message → (r : Result (List Message) TextFault)
        → lines_read (number + 1) lines left ≡ r → message_before message r ≡ Ok messages
        → Told (line ∷ lines) left messages
    second later message p (Ok more) q h =
        subst (λ (l : List Message). Told (line ∷ lines) left l) (list_is (message ∷ more) messages h)
        (both message p more (later more q))
    second later message p (Err broken) q h = cc

    first : ((more : List Message) → lines_read (number + 1) lines left ≡ Ok more → Told lines left more)
        → (r : Result Message ℕ) → line_read line ≡ r
        → line_before number r (lines_read (number + 1) lines left) ≡ Ok messages → Told (line ∷ lines) left messages
    first later (Ok message) p h = second later message p (lines_read (number + 1) lines left) refl h
    first later (Err place) p h = cc

-- a text that is read is the lines of its messages
pub text_found : (text : List ℕ) (messages : List Message) → text_read text ≡ Ok messages
    → (text ≡ text_of messages) × All Spellable messages
unfolding text_read
text_found text messages e =
    let told = lines_found 1 (text_lines text).whole (text_lines text).left messages e in
    (lines_whole text ∙ told.0, told.1)

-- ---- what is there is read

spaced_lack : (fields : List (List ℕ)) → FieldsClean fields → Lacks 10 (flat_map spaced fields)
spaced_lack [] fit = tt
spaced_lack (field ∷ fields) fit = (
  (λ same. omega (arith, same)),
  lacks_append 10 field (flat_map spaced fields) (clean_lacks 10 field (omega arith) fit.0)
      (spaced_lack fields fit.1),
)

words_lack : (message : Message) → Spellable message → Lacks 10 (words_of message)
words_lack message fit =
    lacks_append 10 (kind_word message.body) (flat_map spaced (fields_of message.head message.body))
    (clean_lacks 10 (kind_word message.body) (omega arith) (word_clean message.body))
    (spaced_lack (fields_of message.head message.body) (fields_clean message.head message.body fit.0 fit.1))

lines_back : (number : ℕ) (messages : List Message) → All Spellable messages
    → text_from number (text_of messages) ≡ Ok messages
lines_back number [] fit = refl
lines_back number (message ∷ messages) fit =
    let own = fit 0 message (omega arith) in
    ap (text_from number) (append_assoc (words_of message) newline (text_of messages))
    ∙ text_ended number (words_of message) (text_of messages) (words_lack message own)
    ∙ ap (λ r. line_before number r (text_from (number + 1) (text_of messages))) (line_reads message own.0 own.1)
    ∙ ap (message_before message) (lines_back (number + 1) messages (all_later message messages fit))

-- the lines of messages are read
pub text_back : (messages : List Message) → All Spellable messages → text_read (text_of messages) ≡ Ok messages
unfolding text_read
text_back messages fit = lines_back 1 messages fit

-- a text tells one list
pub one_list : (these those : List Message) → All Spellable these → All Spellable those
    → text_of these ≡ text_of those → these ≡ those
one_list these those p q same =
    list_is these those (sym (text_back these p) ∙ ap text_read same ∙ text_back those q)

-- ---- what reading with or without memory answers

pub accepted_by : (text : List ℕ) (r : Result (List Message) TextFault) → (r ≡ Err Memory) ⊎ (r ≡ text_read text)
    → IfOk r (λ messages. (text ≡ text_of messages) × All Spellable messages)
accepted_by text (Ok messages) (inl none) = cc
accepted_by text (Ok messages) (inr e) = text_found text messages (sym e)
accepted_by text (Err broken) either = tt

pub only_by : (text : List ℕ) (messages : List Message) (r : Result (List Message) TextFault)
    → All Spellable messages → text ≡ text_of messages → (r ≡ Err Memory) ⊎ (r ≡ text_read text)
    → (r ≡ Err Memory) ⊎ (r ≡ Ok messages)
only_by text messages r fit is (inl none) = inl none
only_by text messages r fit is (inr e) = inr (e ∙ ap text_read is ∙ text_back messages fit)
