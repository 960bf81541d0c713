-- The frame of a message is read again.
use Rattle.std.proofs.Common.{◌≡◌, ℕ, suc, ◌+◌, ◌%◌, ◌^◌, ◌≤◌, ◌<◌, Bool, true, false, List, [], ◌∷◌, ◌++◌}
use Rattle.std.proofs.Common.{length, take, get_or, add-zero, zero-add, refl, ◌∙◌, ap, arith, Option, Some}
use Rattle.std.proofs.Common.{Ok, length-append, None}
use Rattle.std.specs.Prelude.{◌==◌, nat_lt, nat_le, ◌&&◌, not}
use Rattle.std.specs.Int.{w16, w32, w64, to_le_bytes, from_le_bytes, bit_at}
use Rattle.std.proofs.lemmas.Bool.{eq-eqb, lt-ltb, le-leb, and_from, cond-true, cond-false}
use Rattle.std.proofs.lemmas.Bool.Decides.{nat_tests}
use Rattle.std.proofs.lemmas.List.{take_all}
use Rattle.std.proofs.lemmas.Nat.{from_le_bytes-to_le_bytes_2, from_le_bytes-to_le_bytes_4, from_le_bytes-to_le_bytes_8}
use Rattle.tandem_base.specs.FirstFault.{◌or_else◌, unless}
use Rattle.msg_frames.specs.declared.message.FrameFault.{FrameFault}
use Rattle.msg_frames.specs.declared.message.Form.{Form}
use Rattle.msg_frames.specs.declared.message.Form.TheVariants as form
use Rattle.msg_frames.specs.declared.message.Head.{Head}
use Rattle.msg_frames.specs.declared.message.OpenInfo.{OpenInfo}
use Rattle.msg_frames.specs.declared.message.Target.{Target}
use Rattle.msg_frames.specs.declared.message.Target.TheVariants.{Pc, X, Csr}
use Rattle.msg_frames.specs.declared.message.Piece.{Piece}
use Rattle.msg_frames.specs.declared.message.LineWrite.{LineWrite}
use Rattle.msg_frames.specs.declared.message.Body.{Body}
use Rattle.msg_frames.specs.declared.message.Body.TheVariants as body
use Rattle.msg_frames.specs.declared.message.Message.{Message}
use Rattle.msg_frames.specs.declared.kinds.Kind.{Kind}
use Rattle.msg_frames.specs.declared.kinds.Kind.TheVariants as kind
use Rattle.tandem_base.specs.Fields.{u8_at, u16_at, u64_at}
use Rattle.msg_frames.specs.Kinds.{code_of, kind_of, kind_coded, has_length}
use Rattle.msg_frames.specs.Frames.{body_bytes, piece_bytes, head_bytes, frame, FitsBody, BodyInRange, FitsPiece}
use Rattle.msg_frames.specs.Frames.{PieceInRange, is_poked_csr}
use Rattle.msg_frames.specs.Reading.{rule, zeros, is_stray_byte, unmasked_zeros, field_fault, piece_fault, head_in}
use Rattle.msg_frames.specs.Reading.{piece_in, body_in, message_in, has_stated_length, reading_of, reading}

-- ---- what is whole, coded and checked is read

whole_from : (n size : ℕ) → n ≡ size + 2 → 18 ≤ size → size ≤ 512
    → (nat_le 2 n && (nat_le 18 size && nat_le size 512) && n == size + 2) ≡ true
whole_from n size e low high = grind (arith, nat_tests)

code_coded : (which : Kind) → kind_coded (code_of which) ≡ Some which
code_coded kind.Open = refl
code_coded kind.Poke = refl
code_coded kind.Read = refl
code_coded kind.Insert = refl
code_coded kind.Write = refl
code_coded kind.Bypass = refl
code_coded kind.Retire = refl
code_coded kind.Squash = refl
code_coded kind.End = refl

pub reading_by : (which : Kind) (bytes : List ℕ) (message : Message) → length bytes ≡ u16_at 0 bytes + 2
    → 18 ≤ u16_at 0 bytes → u16_at 0 bytes ≤ 512
    → u8_at 2 bytes ≡ code_of which → has_length which (u16_at 0 bytes) ≡ true → field_fault which bytes ≡ None
    → message_in which bytes ≡ message
    → reading bytes ≡ Ok message
unfolding reading reading_of
reading_by which bytes message size low high code allowed checked value =
    cond-true (has_stated_length bytes) (reading_of (kind_coded (u8_at 2 bytes)) bytes) _ (whole_from (length bytes)
    (u16_at 0 bytes) size low high)
    ∙ ap (λ (o : Option Kind). reading_of o bytes) (ap kind_coded code ∙ code_coded which)
    ∙ cond-true (has_length which (u16_at 0 bytes)) (unless (field_fault which bytes)
    (message_in which bytes)) _ allowed
    ∙ ap (λ (c : Option FrameFault). unless c (message_in which bytes)) checked ∙ ap Ok value

-- ---- checks that find nothing

pub then_from : (first next : Option FrameFault) → first ≡ None → next ≡ None → first or_else next ≡ None
then_from first next e f = ap (λ (c : Option FrameFault). c or_else next) e ∙ f

pub rule_from : (form : Form) (at : ℕ) (holds : Bool) → holds ≡ true → rule form at holds ≡ None
rule_from form at holds e = ap (rule form at) e

pub zero_from : (at n : ℕ) → n ≡ 0 → zeros at (n ∷ []) ≡ None
zero_from at n e = rw e refl

pub zeros_u32 : (at n : ℕ) → n ≡ 0 → zeros at (to_le_bytes w32 n) ≡ None
zeros_u32 at n e = rw e refl

pub zeros_u64 : (at n : ℕ) → n ≡ 0 → zeros at (to_le_bytes w64 n) ≡ None
zeros_u64 at n e = rw e refl

stray_from : (bit byte : ℕ) → (bit ≡ 0 → byte ≡ 0) → (bit == 0 && not (byte == 0)) ≡ false
stray_from bit byte h = grind (arith, nat_tests)

-- ---- the head

record_head : (hart time time' tag tag' : ℕ) → time ≡ time' → tag ≡ tag'
    → (let old : Head = record { hart = hart; time = time; tag = tag } in
    let new : Head = record { hart = hart; time = time'; tag = tag' } in old ≡ new)
record_head hart time time' tag tag' e f = rw (e, f) refl

pub length_frame : (message : Message) → length (frame message) ≡ 20 + length (body_bytes message.body)
length_frame message = length-append (head_bytes (18 + length (body_bytes message.body))
    (code_of (kind_of message.body)) message.head) (body_bytes message.body)

pub u16_frame : (message : Message) → length (body_bytes message.body) < 1000
    → u16_at 0 (frame message) ≡ 18 + length (body_bytes message.body)
u16_frame message few = from_le_bytes-to_le_bytes_2 (18 + length (body_bytes message.body)) (omega arith)

pub head_again : (message : Message) → message.head.time < 2 ^ 64 → message.head.tag < 2 ^ 64
    → head_in (frame message) ≡ message.head
head_again message t g = record_head message.head.hart (u64_at 4 (frame message)) message.head.time
    (u64_at 12 (frame message)) message.head.tag
    (from_le_bytes-to_le_bytes_8 message.head.time t) (from_le_bytes-to_le_bytes_8 message.head.tag g)

-- the fields of a message are found again in its frame
pub record Again (head : Head) (body : Body) : Type 0 where
  pub few : length (body_bytes body) ≤ 494
  pub allowed : has_length (kind_of body) (18 + length (body_bytes body)) ≡ true
  pub checked : field_fault (kind_of body) (frame (record { head = head; body = body })) ≡ None
  pub value : body_in (kind_of body) (frame (record { head = head; body = body })) ≡ body

-- the message of these parts
abbrev pub of : Head → Body → Message
of head body = record { head = head; body = body }

pub again_open : (head : Head) (info : OpenInfo) → FitsBody head (body.Open info) → BodyInRange (body.Open info)
    → Again head (body.Open info)
again_open head info fits holds = record {
  few = omega arith;
  allowed = refl;
  checked = then_from (zeros 3 (head.hart ∷ [])) _ (zero_from 3 head.hart fits.0)
      (then_from (zeros 12 (to_le_bytes w64 head.tag)) _ (zeros_u64 12 head.tag fits.1)
      (then_from (rule form.Field 20 (info.version == 1)) _ (rule_from _ _ _ (eq-eqb info.version 1 fits.2.0))
      (then_from (rule form.Field 21 (nat_le 1 info.harts && nat_le info.harts 16)) _
      (rule_from _ _ _ (and_from _ _ (le-leb 1 info.harts fits.2.1) (le-leb info.harts 16 fits.2.2)))
      (then_from (rule form.Reserved 22 (nat_lt info.flags 4)) _ (rule_from _ _ _ (lt-ltb info.flags 4 fits.2.3))
      (then_from (zeros 23 (info.granule ∷ [])) _ (zero_from 23 info.granule fits.2.4)
      (zeros_u32 24 info.skew fits.2.5))))));
  value = ap (λ (skew : ℕ). body.Open (record info { skew = skew })) (from_le_bytes-to_le_bytes_4 info.skew holds.4);
}

-- ---- Poke

same_poke : (target target' : Target) (value value' : ℕ) → target ≡ target' → value ≡ value'
    → body.Poke (record { target = target; value = value }) ≡ body.Poke (record { target = target'; value = value' })
same_poke target target' value value' e f = rw (e, f) refl

pub again_poke : (head : Head) (target : Target) (value : ℕ)
    → FitsBody head (body.Poke (record { target = target; value = value }))
    → BodyInRange (body.Poke (record { target = target; value = value }))
    → Again head (body.Poke (record { target = target; value = value }))
again_poke head Pc value fits holds =
    let same : u64_at 24 (frame (of head (body.Poke (record { target = Pc; value = value })))) ≡ value =
    from_le_bytes-to_le_bytes_8 value holds.1 in
    record {
      few = omega arith;
      allowed = refl;
      checked = then_from (zeros 12 (to_le_bytes w64 head.tag)) _ (zeros_u64 12 head.tag fits.0)
          (rule_from form.Field 24 _ (eq-eqb (u64_at 24
          (frame (of head (body.Poke (record { target = Pc; value = value })))) % 4) 0 (ap (λ n. n % 4) same
          ∙ fits.1)));
      value = ap (λ (v : ℕ). body.Poke (record { target = Pc; value = v })) same;
    }
again_poke head (X number) value fits holds =
    let of_number : from_le_bytes w16 (to_le_bytes w16 number) ≡ number = from_le_bytes-to_le_bytes_2 number
    (omega (arith, holds.0)) in
    let low : number % 256 ≡ number = omega (arith, holds.0) in
    record {
      few = omega arith;
      allowed = refl;
      checked = then_from (zeros 12 (to_le_bytes w64 head.tag)) _ (zeros_u64 12 head.tag fits.0)
          (rule_from form.Field 22 _ (ap (λ n. nat_le 1 n && nat_le n 31) of_number
          ∙ and_from _ _ (le-leb 1 number fits.1.0) (le-leb number 31 fits.1.1)));
      value = same_poke (X (number % 256)) (X number) _ value (ap X low) (from_le_bytes-to_le_bytes_8 value holds.1);
    }
again_poke head (Csr number) value fits holds =
    let of_number : from_le_bytes w16 (to_le_bytes w16 number) ≡ number = from_le_bytes-to_le_bytes_2 number holds.0 in
    record {
      few = omega arith;
      allowed = refl;
      checked = then_from (zeros 12 (to_le_bytes w64 head.tag)) _ (zeros_u64 12 head.tag fits.0)
          (rule_from form.Field 22 _ (ap is_poked_csr of_number ∙ fits.1));
      value = same_poke (Csr (from_le_bytes w16 (to_le_bytes w16 number))) (Csr number) _ value (ap Csr of_number)
          (from_le_bytes-to_le_bytes_8 value holds.1);
    }

-- ---- Read, Insert and Bypass

pub record AgainPiece (bytes : List ℕ) (piece : Piece) : Type 0 where
  pub few : length (piece_bytes piece) ≤ 17
  pub low : 10 ≤ length (piece_bytes piece)
  pub checked : piece_fault bytes ≡ None
  pub value : piece_in bytes ≡ piece

pub again_piece : (size code : ℕ) (head : Head) (piece : Piece) → size ≡ 18 + length (piece_bytes piece)
    → FitsPiece piece → PieceInRange piece
    → AgainPiece (head_bytes size code head ++ piece_bytes piece) piece
again_piece size code head piece is fits holds =
    let long : length (piece_bytes piece) ≡ 9 + length piece.bytes = length-append (to_le_bytes w64 piece.addr)
    (length piece.bytes ∷ piece.bytes) ∙ omega arith in
    let lengths : from_le_bytes w16 (to_le_bytes w16 size) ≡ size =
    from_le_bytes-to_le_bytes_2 size (omega (arith, fits.1)) in
    record {
      few = omega (arith, fits.1);
      low = omega (arith, fits.0);
      checked = rule_from form.Field 28 _ (eq-eqb (27 + length piece.bytes)
          (from_le_bytes w16 (to_le_bytes w16 size)) (omega arith));
      value = ap (λ (addr : ℕ). record piece { addr = addr }) (from_le_bytes-to_le_bytes_8 piece.addr holds.0);
    }

-- ---- Write

pub unmasked_from : (mask k : ℕ) (bytes : List ℕ) → ((i : ℕ) → i < length bytes → bit_at mask (k + i) ≡ 0
    → get_or bytes i 0 ≡ 0) → unmasked_zeros mask k bytes ≡ None
unmasked_from mask k [] h = refl
unmasked_from mask k (byte ∷ bytes) h =
    cond-false (is_stray_byte mask k byte) _ (unmasked_zeros mask (k + 1) bytes) (stray_from (bit_at mask k) byte
    (λ outside. h 0 (omega arith) (rw add-zero outside)))
    ∙ unmasked_from mask (k + 1) bytes (λ i below outside. let same : k + suc i ≡ k + 1 + i = omega arith in
    h (suc i) (omega arith) (rw same outside))

same_write : (line line' mask mask' : ℕ) (bytes bytes' : List ℕ) → line ≡ line' → mask ≡ mask' → bytes ≡ bytes'
    → body.Write (record { line = line; mask = mask; bytes = bytes }) ≡ body.Write (record {
      line = line';
      mask =
          mask';
      bytes = bytes';
    })
same_write line line' mask mask' bytes bytes' e f g = rw (e, f, g) refl

pub again_write : (head : Head) (write : LineWrite) → FitsBody head (body.Write write) → BodyInRange (body.Write write)
    → Again head (body.Write write)
again_write head write fits holds =
    let size : length (body_bytes (body.Write write)) ≡ 80 =
    length-append (to_le_bytes w64 write.line ++ to_le_bytes w64 write.mask) write.bytes ∙ omega (arith, holds.2) in
    let all : take 64 write.bytes ≡ write.bytes = take_all 64 write.bytes (omega (arith, holds.2)) in
    let line : from_le_bytes w64 (to_le_bytes w64 write.line) ≡ write.line =
    from_le_bytes-to_le_bytes_8 write.line holds.0 in
    let mask : from_le_bytes w64 (to_le_bytes w64 write.mask) ≡ write.mask =
    from_le_bytes-to_le_bytes_8 write.mask holds.1 in
    record {
      few = omega arith;
      allowed = ap (λ n. 18 + n == 98) size;
      checked = then_from (zeros 12 (to_le_bytes w64 head.tag)) _ (zeros_u64 12 head.tag fits.0)
          (then_from (rule form.Field 20 (from_le_bytes w64 (to_le_bytes w64 write.line) % 64 == 0)) _
          (rule_from _ _ _ (eq-eqb (from_le_bytes w64 (to_le_bytes w64 write.line) % 64) 0 (ap (λ n. n % 64) line
          ∙ fits.1.0)))
          (ap (λ m. unmasked_zeros m 0 (take 64 write.bytes)) mask ∙ ap (unmasked_zeros write.mask 0) all
          ∙ unmasked_from write.mask 0 write.bytes (λ i below outside. fits.1.1 i (omega (arith, holds.2))
          (rw zero-add at outside))));
      value = same_write _ write.line _ write.mask _ write.bytes line mask all;
    }
