-- How a text is read line by line, and how its frames are written.
use Rattle.std.proofs.Common.{◌≡◌, ℕ, ◌+◌, ◌≤◌, List, [], ◌∷◌, ◌++◌, length, take, drop, Option, Some, None, Result}
use Rattle.std.proofs.Common.{Ok, Err, refl, sym, ap, subst, ◌∙◌, append-nil, arith}
use Rattle.std.specs.Prelude.{IsOk, OnOk, OnErr}
use Rattle.std.specs.List.{flat_map}
use Rattle.std.specs.Io.KnownBytes.{Appends}
use Rattle.std.proofs.lemmas.List.{flat_map_more}
use Rattle.std.proofs.lemmas.List.Concat.{flat_map-append}
use Rattle.tandem_base.specs.Puts.{Puts}
use Rattle.msg_frames.specs.declared.message.Message.{Message}
use Rattle.msg_frames.specs.Frames.{frame}
use Rattle.trace_text.specs.Texts.{text_from, text_read, text_line_at}
use Rattle.trace_text.specs.declared.fault.TextFault.{TextFault}
use Rattle.trace_text.specs.declared.fault.TextFault.TheVariants as fault
use Rattle.trace_text.specs.declared.text_line.TextLine.{TextLine}
use Rattle.trace_text.proofs.TextLaws.{after_messages, after_none, after_one, next_none, next_some, next_err}
use Rattle.text_runs.specs.Written.{TakesFront}
use Rattle.text_runs.proofs.Fronts.{front_first}
use Rattle.text_runs.proofs.Gathering.{Gathers, gathers_all, gathers_front, gathers_more, gathers_none}

-- a line of the text begins here, it has this number, and each line before spells a message
pub record Stands (text : List ℕ) (start number : ℕ) : Type 0 where
  pub low : start ≤ length text
  pub messages : List Message
  pub same : after_messages messages (text_from number (drop start text)) ≡ text_read text

-- the first line
pub first_line : (text : List ℕ) → Stands text 0 1
unfolding text_read
first_line text = record { low = omega arith; messages = []; same = after_none (text_from 1 text) }

-- the next one
pub later_line : {text : List ℕ} {start number : ℕ} (line : TextLine) → Stands text start number
    → text_line_at text start ≡ Ok (Some line) → line.next ≤ length text → Stands text line.next (number + 1)
later_line {text} {start} {number} line p is low =
    let rest = text_from (number + 1) (drop line.next text) in
    record {
      low = low;
      messages = p.messages ++ line.message ∷ [];
      same =
          sym (after_one p.messages line.message rest)
          ∙ sym (ap (after_messages p.messages) (next_some text start number line is)) ∙ p.same;
    }

-- where the text ends, it spells the messages before
pub ends_there : {text : List ℕ} {start number : ℕ} (p : Stands text start number) → text_line_at text start ≡ Ok None
    → text_read text ≡ Ok p.messages
ends_there {text} {start} {number} p is =
    sym p.same ∙ ap (after_messages p.messages) (next_none text start number is) ∙ ap Ok (append-nil p.messages)

-- where a line is wrong, it is the first thing that is
pub wrong_there : {text : List ℕ} {start number : ℕ} (column : ℕ) (p : Stands text start number)
    → text_line_at text start ≡ Err column → text_read text ≡ Err (fault.Form number column)
wrong_there {text} {start} {number} column p is =
    sym p.same ∙ ap (after_messages p.messages) (next_err text start number column p.low is)

-- the text is fine, or it isn't
pub is_fine : {r : Result (List Message) TextFault} (messages : List Message) → r ≡ Ok messages → IsOk r
is_fine messages is = subst (λ (r : Result (List Message) TextFault). IsOk r) (sym is) refl

pub not_fine : {r : Result (List Message) TextFault} (broken : TextFault) → r ≡ Err broken → IsOk r → ⊥
not_fine broken is fine = cc (subst (λ (r : Result (List Message) TextFault). IsOk r) is fine)

-- one list of messages
list_is : (these those : List Message) → ◌≡◌ {A = Result (List Message) TextFault} (Ok these) (Ok those)
    → these ≡ those
list_is these those same = ap (λ r. list_or r) same
  where
    list_or : Result (List Message) TextFault → List Message
    list_or (Ok l) = l
    list_or (Err broken) = these

-- the messages of the text begin with those before
begins_with : (messages all : List Message) (r : Result (List Message) TextFault) → after_messages messages r ≡ Ok all
    → (rest : List Message) × (all ≡ messages ++ rest)
begins_with messages all (Ok more) is = (more, sym (list_is (messages ++ more) all is))
begins_with messages all (Err broken) is = absurd (cc)

-- the frames of the messages before are gathered
pub record Writing (text : List ℕ) (start : ℕ) (old new : Option (List ℕ)) (piece : List ℕ) (used : ℕ) : Type 0 where
  pub number : ℕ
  pub stands : Stands text start number
  pub gathers : Gathers old new piece used (flat_map frame stands.messages)

-- nothing yet
pub writes_none : (text : List ℕ) (old : Option (List ℕ)) (piece : List ℕ) → Writing text 0 old old piece 0
unfolding first_line
writes_none text old piece = record {
  number = 1;
  stands = first_line text;
  gathers = gathers_none old piece;
}

-- one frame more
pub writes_more : {text : List ℕ} {start : ℕ} {old new : Option (List ℕ)} {piece piece' : List ℕ} {used end : ℕ}
    (line : TextLine) → Writing text start old new piece used → text_line_at text start ≡ Ok (Some line)
    → line.next ≤ length text → Puts used piece end piece' (frame line.message)
    → Writing text line.next old new piece' end
unfolding later_line
writes_more {text} {start} {old} {new} {piece} {piece'} {used} {end} line p is low puts = record {
  number = p.number + 1;
  stands = later_line line p.stands is low;
  gathers =
      subst (λ (l : List ℕ). Gathers old new piece' end l) (flat_map_more frame [] p.stands.messages line.message)
      (gathers_more p.gathers puts);
}

-- all frames were written, or a front of them
pub writes_all : {text : List ℕ} {start : ℕ} {old mid : Option (List ℕ)} {piece : List ℕ} {used : ℕ} {E : Type 0}
    (new : Option (List ℕ)) (r : Result (Unit {0}) E) (messages : List Message)
    (p : Writing text start old mid piece used)
    → text_line_at text start ≡ Ok None → text_read text ≡ Ok messages → OnOk r (Appends mid new (take used piece))
    → OnOk r (Appends old new (flat_map frame messages))
writes_all {text} {start} {old} {mid} {piece} {used} new (Ok u) messages p ends is took =
    let same : p.stands.messages ≡ messages =
    list_is p.stands.messages messages (sym (ends_there p.stands ends) ∙ is) in
    subst (λ (l : List Message). Appends old new (flat_map frame l)) same (gathers_all new p.gathers took)
writes_all new (Err e) messages p ends is took = tt

pub writes_front : {text : List ℕ} {start : ℕ} {old mid new : Option (List ℕ)} {piece : List ℕ} {used : ℕ}
    (messages : List Message) (p : Writing text start old mid piece used) → text_read text ≡ Ok messages
    → TakesFront mid new (take used piece) → TakesFront old new (flat_map frame messages)
writes_front {text} {start} {old} {mid} {new} {piece} {used} messages p is front =
    let more = begins_with p.stands.messages messages (text_from p.number (drop start text)) (p.stands.same ∙ is) in
    subst (λ (l : List ℕ). TakesFront old new l)
    (sym (flat_map-append frame p.stands.messages more.0) ∙ ap (flat_map frame) (sym more.1))
    (front_first (flat_map frame more.0) (gathers_front p.gathers front))

pub writes_front_last : {text : List ℕ} {start : ℕ} {old mid : Option (List ℕ)} {piece : List ℕ} {used : ℕ}
    {E : Type 0} (new : Option (List ℕ)) (r : Result (Unit {0}) E) (messages : List Message)
    (p : Writing text start old mid piece used)
    → text_read text ≡ Ok messages → OnErr r (TakesFront mid new (take used piece))
    → OnErr r (TakesFront old new (flat_map frame messages))
writes_front_last new (Ok u) messages p is front = tt
writes_front_last new (Err e) messages p is front = writes_front messages p is front
