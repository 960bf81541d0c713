-- The laws of frames: their sizes, and that the frame of a message is read again.
use Rattle.std.proofs.Common.{Result, ◌≡◌, ℕ, ◌+◌, ◌≤◌, ◌<◌, true, List, length, refl, ◌∙◌, arith, Ok, Err}
use Rattle.std.proofs.Common.{OnOk, IfErr, ap}
use Rattle.std.specs.Prelude.{nat_le, ◌&&◌}
use Rattle.std.proofs.lemmas.Bool.{le-leb, and_from}
use Rattle.msg_frames.specs.declared.message.Head.{Head}
use Rattle.msg_frames.specs.declared.message.Body.{Body}
use Rattle.msg_frames.specs.declared.message.Body.TheVariants as body
use Rattle.msg_frames.specs.declared.message.Message.{Message}
use Rattle.msg_frames.specs.declared.message.FrameFault.{FrameFault}
use Rattle.msg_frames.specs.Kinds.{kind_of}
use Rattle.msg_frames.specs.Frames.{body_bytes, piece_bytes, frame, FitsBody, BodyInRange, Fits, InRange, Spells}
use Rattle.msg_frames.specs.Reading.{head_in, body_in, reading}
use Rattle.msg_frames.proofs.Again.{Again, again_open, again_poke, again_piece, again_write, zero_from}
use Rattle.msg_frames.proofs.Again.{zeros_u64, then_from, reading_by, head_again, length_frame, u16_frame}
use Rattle.msg_frames.proofs.AgainRetire.{again_retire}

piece_allowed : (size : ℕ) → 10 ≤ size → size ≤ 17 → (nat_le 28 (18 + size) && nat_le (18 + size) 35) ≡ true
piece_allowed size low high = and_from _ _ (le-leb 28 (18 + size) (omega arith)) (le-leb (18 + size) 35 (omega arith))

pub again_of : (head : Head) (body : Body) → FitsBody head body → BodyInRange body → Again head body
again_of head (body.Open info) fits holds = again_open head info fits holds
again_of head (body.Poke poke) fits holds = again_poke head poke.target poke.value fits holds
again_of head (body.Read piece) fits holds =
    let again = again_piece (18 + length (piece_bytes piece)) 3 head piece refl fits holds in
    record {
      few = omega (arith, again.few);
      allowed =
          piece_allowed (length (piece_bytes piece)) again.low again.few;
      checked = again.checked;
      value =
          ap body.Read again.value;
    }
again_of head (body.Insert piece) fits holds =
    let again = again_piece (18 + length (piece_bytes piece)) 4 head piece refl fits holds in
    record {
      few = omega (arith, again.few);
      allowed =
          piece_allowed (length (piece_bytes piece)) again.low again.few;
      checked = again.checked;
      value =
          ap body.Insert again.value;
    }
again_of head (body.Write write) fits holds = again_write head write fits holds
again_of head (body.Bypass piece) fits holds =
    let again = again_piece (18 + length (piece_bytes piece)) 6 head piece refl fits holds in
    record {
      few = omega (arith, again.few);
      allowed =
          piece_allowed (length (piece_bytes piece)) again.low again.few;
      checked = again.checked;
      value =
          ap body.Bypass again.value;
    }
again_of head (body.Retire retire) fits holds = again_retire head retire fits holds
again_of head body.Squash fits holds = record { few = omega arith; allowed = refl; checked = refl; value = refl }
again_of head body.End fits holds =
    record {
      few = omega arith;
      allowed = refl;
      checked = then_from _ _ (zero_from 3 head.hart fits.0)
          (zeros_u64 12 head.tag fits.1);
      value = refl;
    }

same_message : (head head' : Head) (body body' : Body) → head ≡ head' → body ≡ body'
    → (let old : Message = record { head = head; body = body } in
    let new : Message = record { head = head'; body = body' } in old ≡ new)
same_message head head' body body' e f = rw (e, f) refl

-- the frame of a message is at least 20 bytes, and at most 514
pub size_low : (message : Message) → 20 ≤ length (frame message)
size_low message = omega (arith, length_frame message)

pub size_high : (message : Message) → Fits message → InRange message → length (frame message) ≤ 514
size_high message fits holds =
    let again = again_of message.head message.body fits holds.3 in omega (arith, length_frame message, again.few)

-- the frame of a message reads as that message
pub reading_frame : (message : Message) → Fits message → InRange message → reading (frame message) ≡ Ok message
reading_frame message fits holds =
    let again = again_of message.head message.body fits holds.3 in
    let few : length (body_bytes message.body) < 1000 = omega (arith, again.few) in
    let size = u16_frame message few in
    let long = length_frame message in
    reading_by (kind_of message.body) (frame message) message (omega arith) (omega arith)
    (omega (arith, again.few)) refl
    (rw size again.allowed) again.checked
    (same_message (head_in (frame message)) message.head (body_in (kind_of message.body)
    (frame message)) message.body (head_again message holds.1 holds.2) again.value)

pub spells_reading : (bytes : List ℕ) (message : Message) → Spells bytes message → reading bytes ≡ Ok message
spells_reading bytes message spells = ap reading spells.is ∙ reading_frame message spells.fits spells.holds

-- one answer is at most one message
pub same_ok : (read : Result Message FrameFault) (first second : Message) → read ≡ Ok first → read ≡ Ok second
    → first ≡ second
same_ok read first second e f = cc

-- bytes spell at most one message
pub one_message : (bytes : List ℕ) (first second : Message) → Spells bytes first → Spells bytes second → first ≡ second
one_message bytes first second p q =
    same_ok (reading bytes) first second (spells_reading bytes first p) (spells_reading bytes second q)

ok_err : {A : Type 0} (read : Result Message FrameFault) (message : Message) (fault : FrameFault) → read ≡ Ok message
    → read ≡ Err fault → A
ok_err read message fault e f = cc

-- bytes that spell a message have no fault
pub spells_no_fault : {A : Type 0} (bytes : List ℕ) (message : Message) (fault : FrameFault) → Spells bytes message
    → reading bytes ≡ Err fault → A
spells_no_fault bytes message fault spells e = ok_err (reading bytes) message fault
    (spells_reading bytes message spells) e

-- where bytes spell a message it is the one that was read
pub only_into : (bytes : List ℕ) (result : Result (Unit {0}) FrameFault) (new message : Message)
    → OnOk result (reading bytes ≡ Ok new)
    → IfErr result (λ fault. reading bytes ≡ Err fault) → Spells bytes message → (result ≡ Ok tt) × (new ≡ message)
only_into bytes (Ok v) new message read fault spells =
    (refl, same_ok (reading bytes) new message read (spells_reading bytes message spells))
only_into bytes (Err broken) new message read fault spells = spells_no_fault bytes message broken spells fault
