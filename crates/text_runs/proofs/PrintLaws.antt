-- How far the printing of a source has come, and what each next frame makes of it.
use Rattle.std.proofs.Common.{◌≡◌, ℕ, ◌+◌, ◌-◌, ◌<◌, ◌≤◌, inl, inr, Bool, true, false, List, [], ◌∷◌, ◌++◌}
use Rattle.std.proofs.Common.{length, take, drop, refl, sym, ap, ◌∙◌, subst, arith, Option, None, Some, Ok, Err}
use Rattle.std.proofs.Common.{Result, append_assoc, append-nil, length-append}
use Rattle.std.specs.Prelude.{nat_lt, OnOk, OnErr, IfOk, IfErr}
use Rattle.std.specs.List.{flat_map}
use Rattle.std.specs.Io.KnownBytes.{Appends, IsAtEnd}
use Rattle.std.proofs.Math.Seq.{take-append-add, drop-append_seam}
use Rattle.std.proofs.lemmas.Bool.{lt-ltb, le-ltb, cond-true, cond-false}
use Rattle.std.proofs.lemmas.List.{flat_map_more, take_all}
use Rattle.std.proofs.lemmas.List.Concat.{flat_map-append}
use Rattle.tandem_io.specs.Told.{Log}
use Rattle.msg_frames.specs.declared.message.Message.{Message}
use Rattle.msg_frames.specs.declared.message.FrameFault.{FrameFault}
use Rattle.msg_frames.specs.Frames.{frame, Spells}
use Rattle.msg_frames.specs.Reading.{reading}
use Rattle.msg_frames.specs.Cut.{Cut, Ending, End, Bad, Short, cut, is_end, needed}
use Rattle.msg_frames.specs.Taking.{TakenFrom, IsWholeFrame, IsShort}
use Rattle.msg_frames.proofs.Taking.{TakenFrom-trans}
use Rattle.msg_frames.proofs.CutLaws.{needed_least, needed_front, cut_message, cut_end, cut_bad, cut_short}
use Rattle.verdict_report.specs.declared.fault.Fault.{Fault}
use Rattle.verdict_report.specs.declared.fault.Fault.TheVariants as fault
use Rattle.verdict_report.specs.declared.verdict.Verdict.{Verdict}
use Rattle.verdict_report.specs.declared.verdict.Verdict.TheVariants as verdict
use Rattle.trace_text.specs.Lines.{message_line, text_of}
use Rattle.text_runs.specs.declared.printing.Unprinted.{Unprinted}
use Rattle.text_runs.specs.declared.printing.Unprinted.TheVariants as unprinted
use Rattle.text_runs.specs.Printouts.{most_printed, frames_length, lines_in, lines_of_stream, taken_up_to, printout_of}
use Rattle.text_runs.specs.Printouts.{Printout, form_verdict, passed_limit, bad_frame_at, truncated_at}
use Rattle.text_runs.specs.Printouts.{IsPrinted, EndsAs, EndsShort, PrintedAs}
use Rattle.text_runs.specs.Written.{TakesFront}
use Rattle.text_runs.proofs.Fronts.{front_first}
use Rattle.text_runs.proofs.Gathering.{Gathers, gathers_all, gathers_front}

-- ---- cuts

-- messages before those of a cut
abbrev pub put_all : List Message → Cut → Cut
put_all messages c = record { messages = messages ++ c.messages; ending = c.ending }

put_more : (messages : List Message) (m : Message) (c : Cut)
    → put_all messages (record { messages = m ∷ c.messages; ending = c.ending }) ≡ put_all (messages ++ m ∷ []) c
put_more messages m c =
    ap (λ (l : List Message). record { messages = l; ending = c.ending })
    (sym (append_assoc messages (m ∷ []) c.messages))

-- one message more, in frames and in lines
frames_more : (messages : List Message) (m : Message)
    → flat_map frame messages ++ frame m ≡ flat_map frame (messages ++ m ∷ [])
frames_more messages m = flat_map_more frame [] messages m

lines_more : (messages : List Message) (m : Message) → text_of messages ++ message_line m ≡ text_of (messages ++ m ∷ [])
lines_more messages m = flat_map_more message_line [] messages m

-- the lines of messages that are printed all, before those of others
lines_put : (messages : List Message) (c : Cut) → length messages ≤ most_printed
    → lines_in (put_all messages c) ≡ text_of messages ++ text_of (take (most_printed - length messages) c.messages)
lines_put messages c few =
    let split : most_printed ≡ length messages + (most_printed - length messages) = omega arith in
    ap (λ (n : ℕ). text_of (take n (messages ++ c.messages))) split
    ∙ ap text_of (take-append-add messages c.messages (most_printed - length messages))
    ∙ flat_map-append message_line messages (take (most_printed - length messages) c.messages)

-- the lines of messages that are printed all
lines_all : (messages : List Message) (ending : Ending) → length messages ≤ most_printed
    → lines_in (record { messages = messages; ending = ending }) ≡ text_of messages
lines_all messages ending few = ap text_of (take_all most_printed messages few)

-- ---- printouts

print_whole : (bytes : List ℕ) (c : Cut) → length c.messages ≤ most_printed
    → printout_of bytes c ≡ record {
      lines = lines_in c;
      verdict = form_verdict (length c.messages) (frames_length c.messages) c.ending;
      taken = taken_up_to bytes (frames_length c.messages) c.ending;
    }
unfolding printout_of
print_whole bytes c few = cond-false (nat_lt most_printed (length c.messages)) _ _ (le-ltb _ _ few)

print_full : (bytes : List ℕ) (c : Cut) → most_printed < length c.messages
    → printout_of bytes c ≡ record {
      lines = lines_in c;
      verdict = Some passed_limit;
      taken = frames_length (take (most_printed + 1) c.messages);
    }
unfolding printout_of
print_full bytes c many = cond-true (nat_lt most_printed (length c.messages)) _ _ (lt-ltb _ _ many)

-- ---- how far it has come

-- the bytes that were taken are the frames of these messages, none of which is an End, and their lines are gathered
pub record Printing (left left' : Option (List ℕ)) (log log' : Log) (old new : Option (List ℕ)) (text : List ℕ)
    (used count offset : ℕ) : Type 0 where
  pub messages : List Message
  pub took : TakenFrom left left' log log' (flat_map frame messages)
  pub same : (more : List ℕ) → cut (flat_map frame messages ++ more) ≡ put_all messages (cut more)
  pub count_is : count ≡ length messages
  pub offset_is : offset ≡ frames_length messages
  pub gathers : Gathers old new text used (text_of messages)

-- what an exit says of the bytes that were taken: what they give, and that their lines are this text, with which the
-- lines begin whatever follows
pub record Exits (got : List ℕ) (text : List ℕ) : Type 0 where
  pub lines : lines_of_stream got ≡ text
  pub begins : (more : List ℕ) → (rest : List ℕ) × (lines_of_stream (got ++ more) ≡ text ++ rest)

-- one frame more was taken
pub takes : {left left' left'' : Option (List ℕ)} {log log' log'' : Log} (messages : List Message) (front : List ℕ)
    → TakenFrom left left' log log' (flat_map frame messages) → TakenFrom left' left'' log' log'' front
    → TakenFrom left left'' log log'' (flat_map frame messages ++ front)
takes {left} {left'} {left''} {log} {log'} {log''} messages front took more =
    TakenFrom-trans left left' left'' log log' log'' (flat_map frame messages) front took more

-- the cut of all, from what was taken last on
from_here : (messages : List Message) (front more : List ℕ)
    → ((more : List ℕ) → cut (flat_map frame messages ++ more) ≡ put_all messages (cut more))
    → cut ((flat_map frame messages ++ front) ++ more) ≡ put_all messages (cut (front ++ more))
from_here messages front more same =
    ap cut (append_assoc (flat_map frame messages) front more) ∙ same (front ++ more)

-- the same where nothing follows
from_here_alone : (messages : List Message) (front : List ℕ)
    → ((more : List ℕ) → cut (flat_map frame messages ++ more) ≡ put_all messages (cut more))
    → cut (flat_map frame messages ++ front) ≡ put_all messages (cut front)
from_here_alone messages front same = same front

-- the lines begin with those of the messages before, whatever follows
begins_before : (messages : List Message) (front more : List ℕ)
    → ((more : List ℕ) → cut (flat_map frame messages ++ more) ≡ put_all messages (cut more))
    → length messages ≤ most_printed
    → (rest : List ℕ) × (lines_of_stream ((flat_map frame messages ++ front) ++ more) ≡ text_of messages ++ rest)
begins_before messages front more same few = (
  text_of (take (most_printed - length messages) (cut (front ++ more)).messages),
  ap lines_in (from_here messages front more same) ∙ lines_put messages (cut (front ++ more)) few,
)

-- ---- a message that is no End

pub message_same : (messages : List Message) (front : List ℕ) (m : Message)
    → ((more : List ℕ) → cut (flat_map frame messages ++ more) ≡ put_all messages (cut more))
    → IsWholeFrame front → reading front ≡ Ok m → Spells front m → is_end m.body ≡ false
    → (more : List ℕ) → cut (flat_map frame (messages ++ m ∷ []) ++ more) ≡ put_all (messages ++ m ∷ []) (cut more)
message_same messages front m same whole reads spells stays more =
    ap (λ (l : List ℕ). cut (l ++ more)) (sym (frames_more messages m)
    ∙ ap (λ (l : List ℕ). flat_map frame messages ++ l) (sym spells.is))
    ∙ from_here messages front more same
    ∙ ap (put_all messages) (cut_message front more m whole reads stays)
    ∙ put_more messages m (cut more)

-- one message more
pub goes_on : {left left' left'' : Option (List ℕ)} {log log' log'' : Log} {old new new' : Option (List ℕ)}
    {text text' : List ℕ} {used used' count count' offset offset' : ℕ} (front : List ℕ) (m : Message)
    (p : Printing left left' log log' old new text used count offset)
    → TakenFrom left' left'' log' log'' front → IsWholeFrame front → reading front ≡ Ok m → Spells front m
    → is_end m.body ≡ false → count' ≡ count + 1 → offset' ≡ offset + length (frame m)
    → Gathers old new' text' used' (text_of p.messages ++ message_line m)
    → Printing left left'' log log'' old new' text' used' count' offset'
goes_on {left} {left'} {left''} {log} {log'} {log''} {old} {new} {new'} {text} {text'} {used} {used'} front m p took
    whole reads spells stays count_more offset_more gathers =
    record {
      messages = p.messages ++ m ∷ [];
      took =
          subst (λ (bytes : List ℕ). TakenFrom left left'' log log'' bytes)
          (ap (λ (l : List ℕ). flat_map frame p.messages ++ l) spells.is ∙ frames_more p.messages m)
          (takes p.messages front p.took took);
      same = message_same p.messages front m p.same whole reads spells stays;
      count_is = omega (arith, count_more, p.count_is, length-append p.messages (m ∷ []));
      offset_is =
          offset_more ∙ ap (λ (n : ℕ). n + length (frame m)) p.offset_is
          ∙ sym (length-append (flat_map frame p.messages) (frame m)) ∙ ap length (frames_more p.messages m);
      gathers = subst (λ (l : List ℕ). Gathers old new' text' used' l) (lines_more p.messages m) gathers;
    }

-- the lines that are gathered with one message more, where a piece of them could not be written
pub message_exits : (messages : List Message) (front : List ℕ) (m : Message)
    → ((more : List ℕ) → cut (flat_map frame messages ++ more) ≡ put_all messages (cut more))
    → IsWholeFrame front → reading front ≡ Ok m → Spells front m → is_end m.body ≡ false
    → length messages + 1 ≤ most_printed → (more : List ℕ) → (rest : List ℕ)
    × (lines_of_stream ((flat_map frame messages ++ front) ++ more) ≡ (text_of messages ++ message_line m) ++ rest)
message_exits messages front m same whole reads spells stays few more =
    let longer : List Message = messages ++ m ∷ [] in
    let size : length longer ≤ most_printed = omega (arith, length-append messages (m ∷ [])) in
    let here : flat_map frame longer ≡ flat_map frame messages ++ front =
    sym (frames_more messages m) ∙ ap (λ (l : List ℕ). flat_map frame messages ++ l) (sym spells.is) in (
      text_of (take (most_printed - length longer) (cut more).messages),
      ap (λ (l : List ℕ). lines_of_stream (l ++ more)) (sym here)
          ∙ ap lines_in (message_same messages front m same whole reads spells stays more)
          ∙ lines_put longer (cut more) size
          ∙ ap (λ (l : List ℕ). l ++ text_of (take (most_printed - length longer) (cut more).messages))
          (sym (lines_more messages m)),
    )

-- ---- the exits

-- the cut is this one, whatever follows
fixed_exits : (got : List ℕ) (messages : List Message) (ending : Ending) → length messages ≤ most_printed
    → ((more : List ℕ) → cut (got ++ more) ≡ record { messages = messages; ending = ending })
    → Exits got (text_of messages)
fixed_exits got messages ending few is = record {
  lines = ap lines_of_stream (sym (append-nil got)) ∙ ap lines_in (is []) ∙ lines_all messages ending few;
  begins = λ more. (
    [],
    ap lines_in (is more) ∙ lines_all messages ending few ∙ sym (append-nil (text_of messages)),
  );
}

-- an End
pub end_exits : (messages : List Message) (front : List ℕ) (m : Message)
    → ((more : List ℕ) → cut (flat_map frame messages ++ more) ≡ put_all messages (cut more))
    → IsWholeFrame front → reading front ≡ Ok m → is_end m.body ≡ true → length messages + 1 ≤ most_printed
    → Exits (flat_map frame messages ++ front) (text_of messages ++ message_line m)
end_exits messages front m same whole reads ends few =
    subst (λ (l : List ℕ). Exits (flat_map frame messages ++ front) l) (sym (lines_more messages m))
    (fixed_exits (flat_map frame messages ++ front) (messages ++ m ∷ []) End
    (omega (arith, length-append messages (m ∷ [])))
    (λ more. from_here messages front more same ∙ ap (put_all messages) (cut_end front more m whole reads ends)))

abbrev shown : List ℕ → Option Verdict → ℕ → Printout
shown lines v n = record { lines = lines; verdict = v; taken = n }

pub end_printed : (messages : List Message) (front : List ℕ) (m : Message) (left : Option (List ℕ))
    (ended : Bool)
    → ((more : List ℕ) → cut (flat_map frame messages ++ more) ≡ put_all messages (cut more))
    → IsWholeFrame front → reading front ≡ Ok m → Spells front m → is_end m.body ≡ true
    → length messages + 1 ≤ most_printed → IsPrinted (flat_map frame messages ++ front) left ended None
end_printed messages front m left ended same whole reads spells ends few =
    let got : List ℕ = flat_map frame messages ++ front in
    let longer : List Message = messages ++ m ∷ [] in
    let size : length longer ≤ most_printed = omega (arith, length-append messages (m ∷ [])) in
    let exits = end_exits messages front m same whole reads ends few in
    let bytes : flat_map frame longer ≡ got =
    sym (frames_more messages m) ∙ ap (λ (l : List ℕ). flat_map frame messages ++ l) (sym spells.is) in
    inl (λ more.
    ap (printout_of (got ++ more)) (from_here messages front more same
    ∙ ap (put_all messages) (cut_end front more m whole reads ends))
    ∙ print_whole (got ++ more) (record { messages = longer; ending = End }) size
    ∙ ap (λ (l : List ℕ). shown l None (frames_length longer)) (lines_all longer End size
    ∙ sym (lines_more messages m) ∙ sym exits.lines)
    ∙ ap (λ (l : List ℕ). shown (lines_of_stream got) None (length l)) bytes)

-- a frame that breaks the grammar
pub bad_exits : (messages : List Message) (front : List ℕ) (broken : FrameFault)
    → ((more : List ℕ) → cut (flat_map frame messages ++ more) ≡ put_all messages (cut more))
    → IsWholeFrame front → reading front ≡ Err broken → length messages ≤ most_printed
    → Exits (flat_map frame messages ++ front) (text_of messages)
bad_exits messages front broken same whole reads few =
    fixed_exits (flat_map frame messages ++ front) messages (Bad broken) few
    (λ more. from_here messages front more same ∙ ap (put_all messages) (cut_bad front more broken whole reads)
    ∙ ap (λ (l : List Message). record { messages = l; ending = Bad broken }) (append-nil messages))

pub bad_printed : (messages : List Message) (front : List ℕ) (broken : FrameFault) (left : Option (List ℕ))
    (ended : Bool) (count offset : ℕ)
    → ((more : List ℕ) → cut (flat_map frame messages ++ more) ≡ put_all messages (cut more))
    → IsWholeFrame front → reading front ≡ Err broken → length messages ≤ most_printed → count ≡ length messages
    → offset ≡ frames_length messages
    → IsPrinted (flat_map frame messages ++ front) left ended (Some (bad_frame_at count offset broken))
bad_printed messages front broken left ended count offset same whole reads few count_is offset_is =
    let got : List ℕ = flat_map frame messages ++ front in
    let exits = bad_exits messages front broken same whole reads few in
    let least = needed_least front in
    inl (λ more.
    let rest : drop (frames_length messages) (got ++ more) ≡ front ++ more =
    ap (drop (frames_length messages)) (append_assoc (flat_map frame messages) front more)
    ∙ drop-append_seam (flat_map frame messages) (front ++ more) in
    let needs : needed (drop (frames_length messages) (got ++ more)) ≡ length front =
    ap needed rest ∙ needed_front front more (omega arith) ∙ sym whole in
    ap (printout_of (got ++ more)) (from_here messages front more same
    ∙ ap (put_all messages) (cut_bad front more broken whole reads)
    ∙ ap (λ (l : List Message). record { messages = l; ending = Bad broken }) (append-nil messages))
    ∙ print_whole (got ++ more) (record { messages = messages; ending = Bad broken }) few
    ∙ ap (λ (l : List ℕ). shown l (Some (bad_frame_at (length messages) (frames_length messages) broken))
    (frames_length messages + needed (drop (frames_length messages) (got ++ more))))
    (lines_all messages (Bad broken) few ∙ sym exits.lines)
    ∙ ap (λ (n : ℕ). shown (lines_of_stream got) (Some (bad_frame_at (length messages) (frames_length messages) broken))
    n)
    (ap (λ (n : ℕ). frames_length messages + n) needs ∙ sym (length-append (flat_map frame messages) front))
    ∙ ap (λ (n : ℕ). shown (lines_of_stream got) (Some (bad_frame_at n (frames_length messages) broken)) (length got))
    (sym count_is)
    ∙ ap (λ (n : ℕ). shown (lines_of_stream got) (Some (bad_frame_at count n broken)) (length got)) (sym offset_is))

-- a part of a frame
short_cut : (messages : List Message) (front : List ℕ)
    → ((more : List ℕ) → cut (flat_map frame messages ++ more) ≡ put_all messages (cut more)) → IsShort front
    → cut (flat_map frame messages ++ front) ≡ record { messages = messages; ending = Short (length front) }
short_cut messages front same short =
    same front ∙ ap (put_all messages) (cut_short front short)
    ∙ ap (λ (l : List Message). record { messages = l; ending = Short (length front) }) (append-nil messages)

pub short_exits : (messages : List Message) (front : List ℕ)
    → ((more : List ℕ) → cut (flat_map frame messages ++ more) ≡ put_all messages (cut more)) → IsShort front
    → length messages ≤ most_printed → Exits (flat_map frame messages ++ front) (text_of messages)
short_exits messages front same short few = record {
  lines =
      ap lines_in (short_cut messages front same short) ∙ lines_all messages (Short (length front)) few;
  begins = λ more. begins_before messages front more same few;
}

pub short_ends : (messages : List Message) (front : List ℕ)
    → ((more : List ℕ) → cut (flat_map frame messages ++ more) ≡ put_all messages (cut more)) → IsShort front
    → EndsShort (flat_map frame messages ++ front)
short_ends messages front same short = (
  length front,
  ap (λ (c : Cut). c.ending) (short_cut messages front same short),
)

pub short_printed : (messages : List Message) (front : List ℕ) (left : Option (List ℕ)) (ended : Bool)
    (count offset have : ℕ)
    → ((more : List ℕ) → cut (flat_map frame messages ++ more) ≡ put_all messages (cut more)) → IsShort front
    → length front ≡ have → IsAtEnd left → ended ≡ true → length messages ≤ most_printed → count ≡ length messages
    → offset ≡ frames_length messages
    → IsPrinted (flat_map frame messages ++ front) left ended (Some (truncated_at count offset have))
short_printed messages front left ended count offset have same short have_is at_end is_ended few count_is offset_is =
    let got : List ℕ = flat_map frame messages ++ front in
    let exits = short_exits messages front same short few in
    inr (
      is_ended,
      at_end,
      ap (printout_of got) (short_cut messages front same short)
          ∙ print_whole got (record { messages = messages; ending = Short (length front) }) few
          ∙ ap (λ (l : List ℕ). shown l (Some (truncated_at (length messages) (frames_length messages) (length front)))
          (frames_length messages + length front)) (lines_all messages (Short (length front)) few ∙ sym exits.lines)
          ∙ ap (λ (n : ℕ). shown (lines_of_stream got)
          (Some (truncated_at (length messages) (frames_length messages) (length front))) n)
          (sym (length-append (flat_map frame messages) front))
          ∙ ap (λ (n : ℕ). shown (lines_of_stream got) (Some (truncated_at n (frames_length messages) (length front)))
          (length got)) (sym count_is)
          ∙ ap (λ (n : ℕ). shown (lines_of_stream got) (Some (truncated_at count n (length front))) (length got))
          (sym offset_is)
          ∙ ap (λ (n : ℕ). shown (lines_of_stream got) (Some (truncated_at count offset n)) (length got)) have_is,
    )

-- one message too many
first_message : (front more : List ℕ) (m : Message) → IsWholeFrame front → reading front ≡ Ok m
    → (later : List Message) × ((cut (front ++ more)).messages ≡ m ∷ later)
first_message front more m whole reads = by (is_end m.body) refl
  where
    by : (b : Bool) → is_end m.body ≡ b → (later : List Message) × ((cut (front ++ more)).messages ≡ m ∷ later)
    by true ends = ([], ap (λ (c : Cut). c.messages) (cut_end front more m whole reads ends))
    by false goes = ((cut more).messages, ap (λ (c : Cut). c.messages) (cut_message front more m whole reads goes))

-- messages that are as many as are printed leave no line to others
full_put : (messages : List Message) (c : Cut) → length messages ≡ most_printed
    → lines_in (put_all messages c) ≡ text_of messages
full_put messages c full =
    let none : most_printed - length messages ≡ 0 = omega arith in
    lines_put messages c (omega arith)
    ∙ ap (λ (n : ℕ). text_of messages ++ text_of (take n c.messages)) none ∙ append-nil (text_of messages)

full_lines : (messages : List Message) (front more : List ℕ)
    → ((more : List ℕ) → cut (flat_map frame messages ++ more) ≡ put_all messages (cut more))
    → length messages ≡ most_printed
    → lines_of_stream ((flat_map frame messages ++ front) ++ more) ≡ text_of messages
full_lines messages front more same full =
    ap lines_in (from_here messages front more same) ∙ full_put messages (cut (front ++ more)) full

pub full_exits : (messages : List Message) (front : List ℕ) (m : Message)
    → ((more : List ℕ) → cut (flat_map frame messages ++ more) ≡ put_all messages (cut more))
    → IsWholeFrame front → reading front ≡ Ok m → length messages ≡ most_printed
    → Exits (flat_map frame messages ++ front) (text_of messages)
full_exits messages front m same whole reads full = record {
  lines = ap lines_in (same front) ∙ full_put messages (cut front) full;
  begins = λ more. ([], full_lines messages front more same full ∙ sym (append-nil (text_of messages)));
}

pub full_printed : (messages : List Message) (front : List ℕ) (m : Message) (left : Option (List ℕ))
    (ended : Bool)
    → ((more : List ℕ) → cut (flat_map frame messages ++ more) ≡ put_all messages (cut more))
    → IsWholeFrame front → reading front ≡ Ok m → Spells front m → length messages ≡ most_printed
    → IsPrinted (flat_map frame messages ++ front) left ended (Some passed_limit)
full_printed messages front m left ended same whole reads spells full =
    let got : List ℕ = flat_map frame messages ++ front in
    let exits = full_exits messages front m same whole reads full in
    inl (λ more.
    let later = first_message front more m whole reads in
    let all : (cut (got ++ more)).messages ≡ messages ++ (m ∷ later.0) =
    ap (λ (c : Cut). c.messages) (from_here messages front more same)
    ∙ ap (λ (l : List Message). messages ++ l) later.1 in
    let many : most_printed < length (cut (got ++ more)).messages =
    omega (arith, ap length all, length-append messages (m ∷ later.0)) in
    let one : take (most_printed + 1) (cut (got ++ more)).messages ≡ messages ++ m ∷ [] =
    ap (take (most_printed + 1)) all
    ∙ ap (λ (n : ℕ). take (n + 1) (messages ++ (m ∷ later.0))) (sym full)
    ∙ take-append-add messages (m ∷ later.0) 1 in
    let none : lines_of_stream (got ++ more) ≡ text_of messages = full_lines messages front more same full in
    let size : frames_length (take (most_printed + 1) (cut (got ++ more)).messages) ≡ length got =
    ap frames_length one
    ∙ ap length (sym (frames_more messages m) ∙ ap (λ (l : List ℕ). flat_map frame messages ++ l) (sym spells.is)) in
    print_full (got ++ more) (cut (got ++ more)) many
    ∙ ap (λ (l : List ℕ). shown l (Some passed_limit)
    (frames_length (take (most_printed + 1) (cut (got ++ more)).messages)))
    (none ∙ sym exits.lines)
    ∙ ap (λ (n : ℕ). shown (lines_of_stream got) (Some passed_limit) n) size)

-- ---- answers

-- a front of the lines, whatever follows
pub unwritten_is : {old mid new : Option (List ℕ)} {text lines : List ℕ} {used : ℕ} (got : List ℕ)
    → Gathers old mid text used lines → TakesFront mid new (take used text)
    → ((more : List ℕ) → (rest : List ℕ) × (lines_of_stream (got ++ more) ≡ lines ++ rest))
    → (more : List ℕ) → TakesFront old new (lines_of_stream (got ++ more))
unwritten_is {old} {mid} {new} {text} {lines} {used} got gathers front begins more =
    let b = begins more in
    subst (λ (l : List ℕ). TakesFront old new l) (sym b.1) (front_first b.0 (gathers_front gathers front))

-- a verdict that doesn't tell that the input ended says nothing of its end
pub none_ends : (ended : Bool) → EndsAs None ended
none_ends ended count offset have same = absurd (cc)

pub full_ends : (ended : Bool) → EndsAs (Some passed_limit) ended
full_ends ended count offset have same = absurd (cc)

pub bad_ends : (n at : ℕ) (broken : FrameFault) (ended : Bool) → EndsAs (Some (bad_frame_at n at broken)) ended
bad_ends n at broken ended count offset have same = absurd (cc (ap (λ (v : Option Verdict). fault_in v) same))
  where
    fault_in : Option Verdict → Fault
    fault_in None = fault.BadFrame broken.form
    fault_in (Some (verdict.Accept messages retired operations)) = fault.BadFrame broken.form
    fault_in (Some (verdict.Reject report)) = report.fault
    fault_in (Some (verdict.Undecided message limit hart number)) = fault.BadFrame broken.form

-- the same of an answer with this verdict
pub ends_as : (v : Option Verdict) (ended : Bool) (answer : Result (Option Verdict) Unprinted)
    → IfOk answer (λ w. w ≡ v) → EndsAs v ended → IfOk answer (λ w. EndsAs w ended)
ends_as v ended (Ok w) same ends = subst (λ (o : Option Verdict). EndsAs o ended) (sym same) ends
ends_as v ended (Err why) same ends = tt

-- the last lines were written, or a front of them
pub printed_is : {old mid : Option (List ℕ)} {text lines got : List ℕ} {used : ℕ} (new left : Option (List ℕ))
    (ended : Bool) (v : Option Verdict)
    (answer : Result (Option Verdict) Unprinted) → Exits got lines → IsPrinted got left ended v
    → Gathers old mid text used lines → IfOk answer (λ w. w ≡ v) → OnOk answer (Appends mid new (take used text))
    → IfErr answer (λ why. why ≡ unprinted.Unwritten) → OnErr answer (TakesFront mid new (take used text))
    → PrintedAs answer got left ended old new
printed_is {old} {mid} {text} {lines} {got} {used} new left ended v (Ok w) exits is gathers same took why front = (
  subst (λ (o : Option Verdict). IsPrinted got left ended o) (sym same) is,
  subst (λ (l : List ℕ). Appends old new l) (sym exits.lines) (gathers_all new gathers took),
)
printed_is new left ended v (Err unprinted.Unread) exits is gathers same took why front = absurd (cc)
printed_is {got = got} new left ended v (Err unprinted.Unwritten) exits is gathers same took why front =
    unwritten_is got gathers front exits.begins

-- the same before a read that failed
pub unread_is : {old mid : Option (List ℕ)} {text lines got : List ℕ} {used : ℕ} (new left : Option (List ℕ))
    (ended : Bool) (why : Unprinted)
    → Exits got lines → EndsShort got → Gathers old mid text used lines
    → (why ≡ unprinted.Unread → Appends mid new (take used text))
    → (why ≡ unprinted.Unwritten → TakesFront mid new (take used text))
    → PrintedAs (Err why) got left ended old new
unread_is {old} {mid} {text} {lines} {got} {used} new left ended unprinted.Unread exits short gathers took front = (
  short,
  subst (λ (l : List ℕ). Appends old new l) (sym exits.lines) (gathers_all new gathers (took refl)),
)
unread_is {got = got} new left ended unprinted.Unwritten exits short gathers took front =
    unwritten_is got gathers (front refl) exits.begins
