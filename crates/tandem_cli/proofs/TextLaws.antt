-- What the printing of a stream and the reading of a text come to.
use Rattle.std.proofs.Common.{◌≡◌, ℕ, ◌≤◌, inl, inr, List, [], ◌++◌, length, take, drop, refl, sym}
use Rattle.std.proofs.Common.{ap, subst, ◌∙◌, arith, Option, None, Some, Result, Ok, Err, append-nil, length-append}
use Rattle.std.proofs.Common.{Bool, true, false}
use Rattle.std.specs.Prelude.{nat_lt, is_some, IfSome, IfOk, IfErr, IsOk, OnOk, OnErr, MatchBool}
use Rattle.std.specs.List.{flat_map}
use Rattle.std.specs.Io.KnownBytes.{Appends, Consumes, Keeps}
use Rattle.std.proofs.KnownBytes.{Appends-trans}
use Rattle.std.proofs.Math.Seq.{drop-append_seam}
use Rattle.std.proofs.lemmas.Bool.{lt-ltb, le-ltb, cond-true, cond-false}
use Rattle.tandem_io.specs.Causes.{HasCause, Rose}
use Rattle.tandem_io.specs.Inputs.{Named, SlotView, content_of}
use Rattle.verdict_report.specs.declared.verdict.Verdict.{Verdict}
use Rattle.msg_frames.specs.declared.message.Message.{Message}
use Rattle.msg_frames.specs.Frames.{frame}
use Rattle.trace_text.specs.Texts.{text_read}
use Rattle.trace_text.specs.declared.fault.TextFault.{TextFault}
use Rattle.trace_text.specs.declared.fault.TextFault.TheVariants as text_fault
use Rattle.text_runs.specs.declared.printing.Unprinted.{Unprinted}
use Rattle.text_runs.specs.declared.printing.Unprinted.TheVariants as unprinted
use Rattle.text_runs.specs.declared.taking.TakenText.{TakenText}
use Rattle.text_runs.specs.declared.taking.TakenText.TheVariants as taken
use Rattle.text_runs.specs.Printouts.{Printout, printout, lines_of_stream, PrintedAs, EndsAs}
use Rattle.text_runs.specs.Taking.{TextIs, most_text_bytes}
use Rattle.text_runs.specs.Written.{TakesFront}
use Rattle.text_runs.proofs.Fronts.{front_then}
use Rattle.tandem_cli.specs.declared.text_words.TextWay.{TextWay}
use Rattle.tandem_cli.specs.declared.text_words.TextWay.TheVariants as way
use Rattle.tandem_cli.specs.declared.text_outcome.StreamPrinted.{StreamPrinted}
use Rattle.tandem_cli.specs.declared.text_outcome.StreamPrinted.TheVariants as printed
use Rattle.tandem_cli.specs.declared.text_outcome.TextRead.{TextRead}
use Rattle.tandem_cli.specs.declared.text_outcome.TextRead.TheVariants as text
use Rattle.tandem_cli.specs.Answers.{Due, Prints, PrintsDue}
use Rattle.tandem_cli.specs.Outcomes.{missing_line, failed_line}
use Rattle.tandem_cli.specs.TextRuns.{closing_line, closing_status, due_for_printout, due_for_stream, due_for_reading}
use Rattle.tandem_cli.specs.TextRuns.{due_for_text, too_large_due, stream_printed, text_taken, IsTakenOf, IsPrintoutOf}
use Rattle.tandem_cli.specs.TextRuns.{StreamPrintedIs, StreamPrintedCaused, TakesLines, last_due, PrintsLast}
use Rattle.tandem_cli.specs.TextRuns.{PrintsStream, PrintsAs, NoStreamFaultRose, SettledStream, TextReadIs}
use Rattle.tandem_cli.specs.TextRuns.{runs_text, settles_text, text_fault_line}
use Rattle.tandem_cli.specs.TextRuns.{TextReadCaused, due_for_read, WritesAs, SettledText, no_memory, written}
use Rattle.tandem_cli.proofs.AnswerLaws.{not_risen, printed_quietly}
use Rattle.tandem_cli.proofs.CheckLaws.{content_found, content_none, rose_on}

-- ---- an input that is there, or isn't

-- no input of the name is there
pub missing_input : (names : Option (List Named)) (name : List ℕ) (found : Bool) → found ≡ false
    → IfSome names (λ files. found ≡ is_some (content_of files name))
    → IfSome names (λ files. content_of files name ≡ None)
missing_input None name found none told = tt
missing_input (Some files) name found none told = content_none (content_of files name) (sym none ∙ told)

-- what was taken of an input that is there
taken_of : (name : List ℕ) (files : List Named) (content got rest : List ℕ) → content_of files name ≡ Some content
    → content ≡ got ++ rest → IsTakenOf name files got (Some rest)
taken_of name files content got rest there is = record {
  content = content;
  rest = rest;
  there = there;
  content_is = is;
  left_is = refl;
}

-- ---- a printout

-- the printout of a stream whose front was taken
printout_is : (name : List ℕ) (files : List Named) (content got rest : List ℕ) (p : Printout)
    → content_of files name ≡ Some content → content ≡ got ++ rest → printout (got ++ rest) ≡ p → p.taken ≡ length got
    → IsPrintoutOf name files p (Some rest)
printout_is name files content got rest p there is whole size = record {
  stream = content;
  there = there;
  is = ap printout is ∙ whole;
  left_is =
      ap (λ (b : List ℕ). Some b) (sym (ap (λ (n : ℕ). drop n content) size ∙ ap (drop (length got)) is
      ∙ drop-append_seam got rest));
}

printed_by : (name : List ℕ) (files : List Named) (answer : Result (Option Verdict) Unprinted)
    (content got : List ℕ) (left : Option (List ℕ)) (ended : Bool) (old new : Option (List ℕ))
    → content_of files name ≡ Some content → Consumes (Some content) left got
    → PrintedAs answer got left ended old new → StreamPrintedIs name files (stream_printed answer) got left
printed_by name files (Ok v) content got None ended old new there consumed is = absurd consumed
printed_by name files (Ok v) content got (Some rest) ended old new there consumed is =
    let p : Printout = record { lines = lines_of_stream got; verdict = v; taken = length got } in
    let whole : printout (got ++ rest) ≡ p =
    elim is.0 as (λ _. printout (got ++ rest) ≡ p) [
      | inl always ↦ always rest
      | inr ends ↦ ap (λ (r : List ℕ). printout (got ++ r)) ends.1 ∙ ap printout (append-nil got) ∙ ends.2
    ] in
    printout_is name files content got rest p there consumed whole refl
printed_by name files (Err unprinted.Unread) content got None ended old new there consumed is = absurd consumed
printed_by name files (Err unprinted.Unread) content got (Some rest) ended old new there consumed is =
    (taken_of name files content got rest there consumed, is.0)
printed_by name files (Err unprinted.Unwritten) content got None ended old new there consumed is = absurd consumed
printed_by name files (Err unprinted.Unwritten) content got (Some rest) ended old new there consumed is =
    taken_of name files content got rest there consumed

-- what was attached as the stream and printed
pub printed_told : (names : Option (List Named)) (name : List ℕ) (answer : Result (Option Verdict) Unprinted)
    (found : Bool) (before left left' : Option (List ℕ)) (got : List ℕ) (ended : Bool) (old new : Option (List ℕ))
    → found ≡ true → IfSome names (λ files. found ≡ is_some (content_of files name))
    → MatchBool found (IfSome names (λ files. left ≡ content_of files name)) (Keeps before left)
    → Consumes left left' got → PrintedAs answer got left' ended old new
    → IfSome names (λ files. StreamPrintedIs name files (stream_printed answer) got left')
printed_told None name answer found before left left' got ended old new there told holds consumed is = tt
printed_told (Some files) name answer true before left left' got ended old new there told holds consumed is =
    let content = content_found (content_of files name) told in
    printed_by name files answer content.0 got left' ended old new content.1
    (subst (λ (l : Option (List ℕ)). Consumes l left' got) (holds ∙ content.1) consumed) is
printed_told (Some files) name answer false before left left' got ended old new there told holds consumed is =
    absurd (cc)

-- what the sink took
pub lines_taken : (answer : Result (Option Verdict) Unprinted) (got : List ℕ) (left : Option (List ℕ)) (ended : Bool)
    (old new : Option (List ℕ)) → PrintedAs answer got left ended old new
    → TakesLines (stream_printed answer) got old new
lines_taken (Ok v) got left ended old new is = is.1
lines_taken (Err unprinted.Unread) got left ended old new is = is.1
lines_taken (Err unprinted.Unwritten) got left ended old new is = is

-- the cause of an answer on a stream that is there
pub printed_caused : (answer : Result (Option Verdict) Unprinted) (before after : SlotView)
    → after.attached ≡ Some true → IfOk answer (λ v. EndsAs v after.ended)
    → (answer ≡ Err unprinted.Unread → Rose before.faults after.faults)
    → StreamPrintedCaused (stream_printed answer) before after
printed_caused (Ok v) before after attached ends rises = (attached, ends)
printed_caused (Err unprinted.Unread) before after attached ends rises = (rises refl, attached)
printed_caused (Err unprinted.Unwritten) before after attached ends rises = attached

-- the sink failed in the lines
pub unwritten_answer : (answer : Result (Option Verdict) Unprinted) → stream_printed answer ≡ printed.Unwritten
    → answer ≡ Err unprinted.Unwritten
unwritten_answer (Ok v) is = absurd (cc)
unwritten_answer (Err unprinted.Unread) is = absurd (cc)
unwritten_answer (Err unprinted.Unwritten) is = refl

-- ---- the last line

-- a count that rose in the front of a call rose over it
rose_first : (before between after : ℕ) → between ≤ after → Rose before between → Rose before after
rose_first before between after high (inl rises) = inl (omega arith)
rose_first before between after high (inr last) = inr last

-- a front of a text, and nothing behind it
front_kept : {old mid text : Option (List ℕ)} {line : List ℕ} → TakesFront old mid line → Appends mid text []
    → TakesFront old text line
front_kept {old} {mid} {text} {line} front nothing = record {
  put = front.put;
  within = front.within;
  took =
      subst (λ (l : List ℕ). Appends old text l) (append-nil (take front.put line))
      (Appends-trans old mid text (take front.put line) [] front.took nothing);
}

-- lines, and then what is due behind them
behind : {old mid : Option (List ℕ)} {before between after result : ℕ} (new : Option (List ℕ)) (lines line : List ℕ)
    (status : ℕ) → Appends old mid lines → before ≤ between → between ≤ after
    → Prints (record { line = line; status = status }) result mid new between after
    → Prints (record { line = lines ++ line; status = status }) result old new before after
behind {old} {mid} new lines line status took low high (inl whole) =
    inl (whole.0, Appends-trans old mid new lines line took whole.1)
behind {old} {mid} {before} {between} {after} new lines line status took low high (inr failed) =
    inr (failed.0, rose_on before between after low high failed.1, front_then lines took failed.2)

pub stream_prints : (name : List ℕ) (outcome : StreamPrinted) (got : List ℕ) (result : ℕ)
    (old mid new : Option (List ℕ)) (before between after : ℕ) → TakesLines outcome got old mid → before ≤ between
    → (outcome ≡ printed.Unwritten → Rose before between) → between ≤ after
    → PrintsLast (last_due name outcome) result mid new between after
    → PrintsStream name outcome got result old new before after
stream_prints name printed.Missing got result old mid new before between after takes low rises high prints =
    behind new [] (missing_line name) 3 takes low high prints
stream_prints name printed.Unopened got result old mid new before between after takes low rises high prints =
    behind new [] (failed_line name) 3 takes low high prints
stream_prints name printed.Unread got result old mid new before between after takes low rises high prints =
    behind new (lines_of_stream got) (failed_line name) 3 takes low high prints
stream_prints name printed.Unwritten got result old mid new before between after takes low rises high prints = (
  prints.0,
  rose_first before between after high (rises refl),
  λ more. front_kept (takes more) prints.1,
)
stream_prints name (printed.Printed v) got result old mid new before between after takes low rises high prints =
    behind new (lines_of_stream got) (closing_line v) (closing_status v) takes low high prints

-- ---- where no count rose

stream_due : (name : List ℕ) (files : List Named) (p : Printout) (left : Option (List ℕ))
    → IsPrintoutOf name files p left → due_for_stream name (content_of files name) ≡ due_for_printout p
stream_due name files p left of = ap (due_for_stream name) of.there ∙ ap due_for_printout of.is

abbrev settled_as : (name : List ℕ) (files : List Named) (left : Option (List ℕ)) (result : ℕ)
    (old new : Option (List ℕ)) (due : Due) → due_for_stream name (content_of files name) ≡ due
    → IfSome (content_of files name) (λ stream. left ≡ Some (drop (printout stream).taken stream))
    → (result ≡ due.status) × Appends old new due.line → SettledStream name files left result old new
settled_as name files left result old new due is left_is line = record {
  status = line.0 ∙ ap (λ (d : Due). d.status) (sym is);
  line = subst (λ (d : Due). Appends old new d.line) (sym is) line.1;
  left_is = left_is;
}

stream_settled : (name : List ℕ) (files : List Named) (stream stream' : SlotView) (result : ℕ)
    (old new : Option (List ℕ)) (before after : ℕ) (outcome : StreamPrinted) (got : List ℕ)
    → StreamPrintedIs name files outcome got stream'.left → StreamPrintedCaused outcome stream stream'
    → NoStreamFaultRose stream stream' before after → PrintsStream name outcome got result old new before after
    → SettledStream name files stream'.left result old new
stream_settled name files stream stream' result old new before after printed.Missing got is caused quiet prints =
    settled_as name files stream'.left result old new _ (ap (due_for_stream name) is)
    (subst (λ (o : Option (List ℕ)). IfSome o (λ s. stream'.left ≡ Some (drop (printout s).taken s))) (sym is) tt)
    (printed_quietly quiet.out.0 quiet.out.1 prints)
stream_settled name files stream stream' result old new before after printed.Unopened got is caused quiet prints =
    absurd (not_risen stream.faults stream'.faults quiet.source.0 quiet.source.1 caused.0)
stream_settled name files stream stream' result old new before after printed.Unread got is caused quiet prints =
    absurd (not_risen stream.faults stream'.faults quiet.source.0 quiet.source.1 caused.0)
stream_settled name files stream stream' result old new before after printed.Unwritten got is caused quiet prints =
    absurd (not_risen before after quiet.out.0 quiet.out.1 prints.1)
stream_settled name files stream stream' result old new before after (printed.Printed v) got is caused quiet prints =
    settled_as name files stream'.left result old new _ (stream_due name files _ stream'.left is)
    (subst (λ (o : Option (List ℕ)). IfSome o (λ s. stream'.left ≡ Some (drop (printout s).taken s))) (sym is.there)
    (is.left_is ∙ ap (λ (p : Printout). Some (drop p.taken is.stream)) (sym is.is)))
    (printed_quietly quiet.out.0 quiet.out.1 prints)

pub stream_settled_told : (name : List ℕ) (names : Option (List Named)) (stream stream' : SlotView) (result : ℕ)
    (old new : Option (List ℕ)) (before after : ℕ) → PrintsAs name names stream stream' result old new before after
    → IfSome names (λ files. NoStreamFaultRose stream stream' before after
    → SettledStream name files stream'.left result old new)
stream_settled_told name None stream stream' result old new before after answers = tt
stream_settled_told name (Some files) stream stream' result old new before after answers =
    λ quiet. stream_settled name files stream stream' result old new before after answers.outcome answers.got
    answers.is answers.caused quiet answers.prints

-- ---- a text

text_by : (name : List ℕ) (files : List Named) (answer : TakenText) (content got : List ℕ) (left : Option (List ℕ))
    (ended : Bool) → content_of files name ≡ Some content → Consumes (Some content) left got
    → TextIs answer got left ended → TextReadIs name files (text_taken answer) left
text_by name files (taken.Text bytes) content got None ended there consumed is = absurd consumed
text_by name files (taken.Text bytes) content got (Some rest) ended there consumed is =
    let at_end : rest ≡ [] = is.2 in
    let whole : content ≡ bytes.items =
    consumed ∙ ap (λ (r : List ℕ). got ++ r) at_end ∙ append-nil got ∙ is.0 in (
      there ∙ ap (λ (b : List ℕ). Some b) whole,
      subst (λ (b : List ℕ). length b ≤ most_text_bytes) is.0 is.1,
      ap (λ (b : List ℕ). Some b) at_end,
    )
text_by name files taken.TooLarge content got None ended there consumed is = absurd consumed
text_by name files taken.TooLarge content got (Some rest) ended there consumed is = (
  content,
  there,
  omega (arith, ap length consumed, length-append got rest, is),
  ap (λ (b : List ℕ). Some b)
      (sym (ap (λ (n : ℕ). drop n content) (sym is) ∙ ap (drop (length got)) consumed ∙ drop-append_seam got rest)),
)
text_by name files taken.Failed content got None ended there consumed is = absurd consumed
text_by name files taken.Failed content got (Some rest) ended there consumed is =
    (got, taken_of name files content got rest there consumed, is.0)
text_by name files taken.Memory content got None ended there consumed is = absurd consumed
text_by name files taken.Memory content got (Some rest) ended there consumed is =
    (got, taken_of name files content got rest there consumed, is)

-- what was attached and read
pub text_told : (names : Option (List Named)) (name : List ℕ) (answer : TakenText) (found : Bool)
    (before left left' : Option (List ℕ)) (got : List ℕ) (ended : Bool) → found ≡ true
    → IfSome names (λ files. found ≡ is_some (content_of files name))
    → MatchBool found (IfSome names (λ files. left ≡ content_of files name)) (Keeps before left)
    → Consumes left left' got → TextIs answer got left' ended
    → IfSome names (λ files. TextReadIs name files (text_taken answer) left')
text_told None name answer found before left left' got ended there told holds consumed is = tt
text_told (Some files) name answer true before left left' got ended there told holds consumed is =
    let content = content_found (content_of files name) told in
    text_by name files answer content.0 got left' ended content.1
    (subst (λ (l : Option (List ℕ)). Consumes l left' got) (holds ∙ content.1) consumed) is
text_told (Some files) name answer false before left left' got ended there told holds consumed is = absurd (cc)

-- the cause of an answer on a text that is there
pub text_caused : (answer : TakenText) (got : List ℕ) (left : Option (List ℕ)) (before after : SlotView)
    → after.attached ≡ Some true → TextIs answer got left after.ended
    → (answer ≡ taken.Failed → Rose before.faults after.faults) → TextReadCaused (text_taken answer) before after
text_caused (taken.Text bytes) got left before after attached is rises = (attached, is.3)
text_caused taken.TooLarge got left before after attached is rises = attached
text_caused taken.Failed got left before after attached is rises = (rises refl, attached, is.1)
text_caused taken.Memory got left before after attached is rises = attached

text_settled : (name : List ℕ) (files : List Named) (stream stream' : SlotView) (result : ℕ)
    (old new : Option (List ℕ)) (before after : ℕ) (outcome : TextRead) → TextReadIs name files outcome stream'.left
    → TextReadCaused outcome stream stream' → NoStreamFaultRose stream stream' before after
    → PrintsDue (due_for_read name outcome) result old new before after → SettledText name files result old new
text_settled name files stream stream' result old new before after text.Missing is caused quiet prints =
    let line = printed_quietly quiet.out.0 quiet.out.1 prints in
    written _ (ap (due_for_text name) is) line.0 line.1
text_settled name files stream stream' result old new before after text.Unopened is caused quiet prints =
    absurd (not_risen stream.faults stream'.faults quiet.source.0 quiet.source.1 caused.0)
text_settled name files stream stream' result old new before after text.Unread is caused quiet prints =
    absurd (not_risen stream.faults stream'.faults quiet.source.0 quiet.source.1 caused.0)
text_settled name files stream stream' result old new before after text.Memory is caused quiet prints = no_memory prints
text_settled name files stream stream' result old new before after text.TooLarge is caused quiet prints =
    let line = printed_quietly quiet.out.0 quiet.out.1 prints in
    written too_large_due
    (ap (due_for_text name) is.1 ∙ cond-true (nat_lt most_text_bytes (length is.0)) _ _ (lt-ltb _ _ is.2)) line.0 line.1
text_settled name files stream stream' result old new before after (text.Whole bytes) is caused quiet prints =
    whole (due_for_reading (text_read bytes.items)) refl prints
  where
    whole : (due : Option Due) → due_for_reading (text_read bytes.items) ≡ due
        → PrintsDue due result old new before after → SettledText name files result old new
    whole None e nothing = no_memory nothing
    whole (Some due) e line =
        let said = printed_quietly quiet.out.0 quiet.out.1 line in
        written due
        (ap (due_for_text name) is.0
        ∙ cond-false (nat_lt most_text_bytes (length bytes.items)) _ _ (le-ltb _ _ is.1) ∙ e) said.0 said.1

pub text_settled_told : (name : List ℕ) (names : Option (List Named)) (stream stream' : SlotView) (result : ℕ)
    (old new : Option (List ℕ)) (before after : ℕ) → WritesAs name names stream stream' result old new before after
    → IfSome names (λ files. NoStreamFaultRose stream stream' before after → SettledText name files result old new)
text_settled_told name None stream stream' result old new before after answers = tt
text_settled_told name (Some files) stream stream' result old new before after answers =
    λ quiet. text_settled name files stream stream' result old new before after answers.outcome answers.is
    answers.caused quiet answers.prints

-- the same, by their way
pub text_settles : (way : TextWay) (name : List ℕ) (names : Option (List Named)) (stream stream' : SlotView)
    (result : ℕ) (old new : Option (List ℕ)) (before after : ℕ)
    → runs_text way name names stream stream' result old new before after
    → IfSome names (λ files. NoStreamFaultRose stream stream' before after
    → settles_text way name files stream'.left result old new)
text_settles way.To name names stream stream' result old new before after answers =
    stream_settled_told name names stream stream' result old new before after answers
text_settles way.From name names stream stream' result old new before after answers =
    text_settled_told name names stream stream' result old new before after answers

-- ---- what is written of a text

-- what was printed, by the answer of the call that printed it
pub prints_by : {E : Type 0} (due : Due) (r : Result (Unit {0}) E) (result : ℕ) (old new : Option (List ℕ))
    (before after : ℕ) → OnOk r (Appends old new due.line) → OnErr r (TakesFront old new due.line)
    → HasCause before after r → IfOk r (λ u. result ≡ due.status) → IfErr r (λ e. result ≡ 6)
    → Prints due result old new before after
prints_by due (Ok u) result old new before after ok err cause status failed = inl (status, ok)
prints_by due (Err e) result old new before after ok err cause status failed = inr (failed, cause, err)

-- the frames of a text that is fine
pub frames_due : {E : Type 0} (t : Result (List Message) TextFault) (r : Result (Unit {0}) E) (result : ℕ)
    (old new : Option (List ℕ)) (before after : ℕ) → IsOk t
    → ((messages : List Message) → t ≡ Ok messages → OnOk r (Appends old new (flat_map frame messages)))
    → ((messages : List Message) → t ≡ Ok messages → OnErr r (TakesFront old new (flat_map frame messages)))
    → HasCause before after r → IfOk r (λ u. result ≡ 0) → IfErr r (λ e. result ≡ 6)
    → PrintsDue (due_for_reading t) result old new before after
frames_due (Ok messages) r result old new before after fine ok err cause status failed =
    prints_by (record { line = flat_map frame messages; status = 0 }) r result old new before after (ok messages refl)
    (err messages refl) cause status failed
frames_due (Err broken) r result old new before after fine ok err cause status failed = absurd (cc)

-- the first thing in a text that is wrong
pub fault_due : {E : Type 0} (t : Result (List Message) TextFault) (line column : ℕ) (r : Result (Unit {0}) E)
    (result : ℕ) (old new : Option (List ℕ)) (before after : ℕ) → t ≡ Err (text_fault.Form line column)
    → OnOk r (Appends old new (text_fault_line line column))
    → OnErr r (TakesFront old new (text_fault_line line column))
    → HasCause before after r → IfOk r (λ u. result ≡ 1) → IfErr r (λ e. result ≡ 6)
    → PrintsDue (due_for_reading t) result old new before after
fault_due t line column r result old new before after is ok err cause status failed =
    subst (λ (q : Result (List Message) TextFault). PrintsDue (due_for_reading q) result old new before after) (sym is)
    (prints_by (record { line = text_fault_line line column; status = 1 }) r result old new before after ok err cause
    status failed)
