-- The words of a message are read as that message.
use Rattle.std.proofs.Common.{◌≡◌, ℕ, ◌^◌, ◌<◌, ◌≤◌, List, [], ◌∷◌, ◌++◌, length, codes}
use Rattle.std.proofs.Common.{Option, Some, None, IfSome, Result, Ok, refl, sym, ap, ◌∙◌, arith, length-append}
use Rattle.std.proofs.Math.Seq.{drop-append_seam}
use Rattle.std.specs.Prelude.{All}
use Rattle.std.specs.Fmt.{decimal}
use Rattle.std.specs.List.{flat_map}
use Rattle.hex.specs.Hex.{encode_lower}
use Rattle.msg_frames.specs.declared.csrs.CsrValue.{CsrValue}
use Rattle.msg_frames.specs.declared.message.Head.{Head}
use Rattle.msg_frames.specs.declared.message.OpenInfo.{OpenInfo}
use Rattle.msg_frames.specs.declared.message.Poke.{Poke}
use Rattle.msg_frames.specs.declared.message.Piece.{Piece}
use Rattle.msg_frames.specs.declared.message.LineWrite.{LineWrite}
use Rattle.msg_frames.specs.declared.message.RdValue.{RdValue}
use Rattle.msg_frames.specs.declared.message.Retire.{Retire}
use Rattle.msg_frames.specs.declared.message.Target.{Target}
use Rattle.msg_frames.specs.declared.message.Target.TheVariants.{Pc, X, Csr}
use Rattle.msg_frames.specs.declared.message.Body.{Body}
use Rattle.msg_frames.specs.declared.message.Body.TheVariants as body
use Rattle.msg_frames.specs.declared.message.Message.{Message}
use Rattle.msg_frames.specs.Frames.{FitsOpen, FitsTarget, FitsWrite, FitsRetire, FitsPiece, Fits, InRange}
use Rattle.msg_frames.specs.Frames.{TargetInRange, PieceInRange, CsrInRange, RetireInRange, BodyInRange, AreBytes}
use Rattle.numerals.proofs.SpellingLaws.{hexadecimal_back}
use Rattle.numerals.specs.Numerals.{decimal_or_dash, hexadecimal, hexadecimal_in}
use Rattle.trace_text.specs.Lines.{spaced, hart_field, time_field, tag_field, open_fields, poke_fields, piece_fields}
use Rattle.trace_text.specs.Lines.{write_fields, retire_fields, fields_of, kind_word, words_of}
use Rattle.trace_text.specs.Lines.{target_text, rd_text, csrs_text}
use Rattle.trace_text.specs.Reading.{timed_at, placed_at, tagged_at, open_at, poke_at, piece_at, write_at, fetch_at}
use Rattle.trace_text.specs.Reading.{outcome_at, retire_at, kind_named, message_at, message_of, line_read}
use Rattle.trace_text.specs.Values.{most32, most64, between, multiple, target_word, poked_value_in, piece_bytes_in}
use Rattle.trace_text.specs.Values.{line_bytes_in, trap_word, rd_word, csrs_word}
use Rattle.trace_text.specs.Words.{◌>>=◌, until, field}
use Rattle.trace_text.specs.declared.kinds.Kind.{Kind}
use Rattle.trace_text.specs.declared.kinds.Kind.TheVariants as kind
use Rattle.trace_text.proofs.Clean.{Clean, clean_append, clean_by, clean_lacks, decimal_clean, hexadecimal_clean}
use Rattle.trace_text.proofs.Clean.{bytes_clean}
use Rattle.trace_text.proofs.FieldLaws.{Follows, FieldReads, field_reads, ended_reads, first_word}
use Rattle.trace_text.proofs.ValueLaws.{between_back, multiple_back, TargetFits, target_back, target_clean}
use Rattle.trace_text.proofs.ValueLaws.{poked_value_back, trap_back, trap_clean, RdFits, rd_back, rd_clean, CsrFits}
use Rattle.trace_text.proofs.ValueLaws.{csr_list_back, csrs_clean, piece_bytes_back, line_bytes_back}

-- a step that goes well
then_is : {A B : Type 0} {first : Result A ℕ} {value : Result B ℕ} (next : A → Result B ℕ) (a : A) → first ≡ Ok a
    → next a ≡ value → (first >>= next) ≡ value
then_is next a p q = ap (λ r. r >>= next) p ∙ q

-- a field with a clean text is read
reads : {A : Type 0} (name : List ℕ) (read : List ℕ → Option A) (text line : List ℕ) (at : ℕ) (value : A)
    (fields : List (List ℕ)) → Clean name → Clean text → read text ≡ Some value
    → Follows line at ((name ++ text) ∷ fields) → FieldReads name read line at value fields
reads name read text line at value fields p q e follows =
    field_reads name read text line at value fields follows
    (clean_lacks 32 (name ++ text) (omega arith) (clean_append name text p q)) e

decimal_reads : (name : List ℕ) (least most n : ℕ) (line : List ℕ) (at : ℕ) (fields : List (List ℕ)) → Clean name
    → most < 2 ^ 64 → least ≤ n → n ≤ most → Follows line at ((name ++ decimal n) ∷ fields)
    → FieldReads name (between least most) line at n fields
decimal_reads name least most n line at fields p fits low high follows =
    reads name (between least most) (decimal n) line at n fields p (decimal_clean n (omega arith))
    (between_back least most n fits low high) follows

hexadecimal_reads : (name : List ℕ) (most n : ℕ) (line : List ℕ) (at : ℕ) (fields : List (List ℕ)) → Clean name
    → most < 2 ^ 64 → n ≤ most → Follows line at ((name ++ hexadecimal n) ∷ fields)
    → FieldReads name (hexadecimal_in most) line at n fields
hexadecimal_reads name most n line at fields p fits high follows =
    reads name (hexadecimal_in most) (hexadecimal n) line at n fields p (hexadecimal_clean n (omega arith))
    (hexadecimal_back most n fits high) follows

-- what is read, and what follows it
record Reads {A : Type 0} (read : List ℕ → ℕ → Result (A
    × ℕ) ℕ) (line : List ℕ) (at : ℕ) (value : A) (fields : List (List ℕ)) : Type 0 where
  end : ℕ
  is : read line at ≡ Ok (value, end)
  follows : Follows line end fields

-- ---- what messages have in common

timed_reads : (head : Head) (line : List ℕ) (at : ℕ) (fields : List (List ℕ)) → head.hart ≡ 0 → head.tag ≡ 0
    → head.time < 2 ^ 64 → Follows line at (time_field head ∷ fields) → Reads timed_at line at head fields
unfolding timed_at
timed_reads head line at fields hart tag time follows =
    let none_hart : 0 ≡ head.hart = sym hart in
    let none_tag : 0 ≡ head.tag = sym tag in
    let t = decimal_reads (codes "time=") 0 most64 head.time line at fields (clean_by (codes "time=") refl)
    (omega arith)
    (omega arith) (omega arith) follows in
    record {
      end = t.end;
      is = then_is _ (head.time, t.end) t.is (λ i. Ok (
        (record
            { hart = none_hart i; time = head.time; tag = none_tag i }),
        t.end,
      ));
      follows = t.follows;
    }

placed_reads : (head : Head) (line : List ℕ) (at : ℕ) (fields : List (List ℕ)) → head.hart < 2 ^ 8 → head.tag ≡ 0
    → head.time < 2 ^ 64 → Follows line at (hart_field head ∷ time_field head ∷ fields)
    → Reads placed_at line at head fields
unfolding placed_at
placed_reads head line at fields hart tag time follows =
    let none_tag : 0 ≡ head.tag = sym tag in
    let h = decimal_reads (codes "hart=") 0 255 head.hart line at (time_field head ∷ fields)
    (clean_by (codes "hart=") refl) (omega arith) (omega arith) (omega arith) follows in
    let t = decimal_reads (codes "time=") 0 most64 head.time line h.end fields (clean_by (codes "time=") refl)
    (omega arith) (omega arith) (omega arith) h.follows in
    record {
      end = t.end;
      is = then_is _ (head.hart, h.end) h.is (then_is _ (head.time, t.end) t.is
          (λ i. Ok ((record { hart = head.hart; time = head.time; tag = none_tag i }), t.end)));
      follows = t.follows;
    }

tagged_reads : (head : Head) (line : List ℕ) (at : ℕ) (fields : List (List ℕ)) → head.hart < 2 ^ 8
    → head.time < 2 ^ 64 → head.tag < 2 ^ 64
    → Follows line at (hart_field head ∷ time_field head ∷ tag_field head ∷ fields)
    → Reads tagged_at line at head fields
unfolding tagged_at
tagged_reads head line at fields hart time tag follows =
    let h = decimal_reads (codes "hart=") 0 255 head.hart line at (time_field head ∷ tag_field head ∷ fields)
    (clean_by (codes "hart=") refl) (omega arith) (omega arith) (omega arith) follows in
    let t = decimal_reads (codes "time=") 0 most64 head.time line h.end (tag_field head ∷ fields)
    (clean_by (codes "time=") refl) (omega arith) (omega arith) (omega arith) h.follows in
    let g = decimal_reads (codes "tag=") 0 most64 head.tag line t.end fields (clean_by (codes "tag=") refl)
    (omega arith) (omega arith) (omega arith) t.follows in
    record {
      end = g.end;
      is = then_is _ (head.hart, h.end) h.is (then_is _ (head.time, t.end) t.is
          (then_is _ (head.tag, g.end) g.is refl));
      follows = g.follows;
    }

-- ---- the fields of each kind

open_reads : (info : OpenInfo) (line : List ℕ) (at : ℕ) → FitsOpen info → Follows line at (open_fields info)
    → open_at line at ≡ Ok info
unfolding open_at
open_reads info line at fits follows =
    let v = decimal_reads (codes "version=") 1 1 info.version line at _ (clean_by (codes "version=") refl) (omega arith)
    (omega (arith, fits.0)) (omega (arith, fits.0)) follows in
    let h = decimal_reads (codes "harts=") 1 16 info.harts line v.end _ (clean_by (codes "harts=") refl) (omega arith)
    fits.1 fits.2 v.follows in
    let f = decimal_reads (codes "flags=") 0 3 info.flags line h.end _ (clean_by (codes "flags=") refl) (omega arith)
    (omega arith) (omega (arith, fits.3)) h.follows in
    let g = decimal_reads (codes "granule=") 0 0 info.granule line f.end _ (clean_by (codes "granule=") refl)
    (omega arith) (omega arith) (omega (arith, fits.4)) f.follows in
    let s = decimal_reads (codes "skew=") 0 0 info.skew line g.end [] (clean_by (codes "skew=") refl) (omega arith)
    (omega arith) (omega (arith, fits.5)) g.follows in
    then_is _ (info.version, v.end) v.is (then_is _ (info.harts, h.end) h.is (then_is _ (info.flags, f.end) f.is
    (then_is _ (info.granule, g.end) g.is (then_is _ (info.skew, s.end) s.is
    (then_is _ tt (ended_reads line s.end s.follows) refl)))))

target_fits : (target : Target) (value : ℕ) → FitsTarget target value → TargetInRange target → TargetFits target
target_fits Pc value fits holds = tt
target_fits (X number) value fits holds = fits
target_fits (Csr number) value fits holds = (fits, omega (arith, holds))

poke_reads : (poke : Poke) (line : List ℕ) (at : ℕ) → FitsTarget poke.target poke.value → TargetInRange poke.target
    → poke.value < 2 ^ 64 → Follows line at (poke_fields poke) → poke_at line at ≡ Ok poke
unfolding poke_at
poke_reads poke line at fits holds small follows =
    let fit = target_fits poke.target poke.value fits holds in
    let t = reads (codes "reg=") target_word (target_text poke.target) line at poke.target _
    (clean_by (codes "reg=") refl)
    (target_clean poke.target fit) (target_back poke.target fit) follows in
    let v = reads (codes "value=") (poked_value_in poke.target) (hexadecimal poke.value) line t.end poke.value []
    (clean_by (codes "value=") refl) (hexadecimal_clean poke.value small)
    (poked_value_back poke.target poke.value fits small) t.follows in
    then_is _ (poke.target, t.end) t.is (then_is _ (poke.value, v.end) v.is
    (then_is _ tt (ended_reads line v.end v.follows) refl))

piece_reads : (piece : Piece) (line : List ℕ) (at : ℕ) → FitsPiece piece → PieceInRange piece
    → Follows line at (piece_fields piece) → piece_at line at ≡ Ok piece
unfolding piece_at
piece_reads piece line at fits holds follows =
    let a = hexadecimal_reads (codes "addr=") most64 piece.addr line at _ (clean_by (codes "addr=") refl) (omega arith)
    (omega (arith, holds.0)) follows in
    let b = reads (codes "bytes=") piece_bytes_in (encode_lower piece.bytes) line a.end piece.bytes []
    (clean_by (codes "bytes=") refl) (bytes_clean piece.bytes holds.1)
    (piece_bytes_back piece.bytes fits.0 fits.1 holds.1) a.follows in
    then_is _ (piece.addr, a.end) a.is (then_is _ (piece.bytes, b.end) b.is
    (then_is _ tt (ended_reads line b.end b.follows) refl))

write_reads : (write : LineWrite) (line : List ℕ) (at : ℕ) → FitsWrite write → write.line < 2 ^ 64
    → write.mask < 2 ^ 64 → length write.bytes ≡ 64 → AreBytes write.bytes → Follows line at (write_fields write)
    → write_at line at ≡ Ok write
unfolding write_at
write_reads write line at fits address mask sized bytes follows =
    let a = reads (codes "line=") (multiple 64) (hexadecimal write.line) line at write.line _
    (clean_by (codes "line=") refl) (hexadecimal_clean write.line address)
    (multiple_back 64 write.line address fits.0) follows in
    let m = hexadecimal_reads (codes "mask=") most64 write.mask line a.end _ (clean_by (codes "mask=") refl)
    (omega arith) (omega (arith, mask)) a.follows in
    let b = reads (codes "bytes=") (line_bytes_in write.mask) (encode_lower write.bytes) line m.end write.bytes []
    (clean_by (codes "bytes=") refl) (bytes_clean write.bytes bytes)
    (line_bytes_back write.mask write.bytes sized bytes fits.1) m.follows in
    then_is _ (write.line, a.end) a.is (then_is _ (write.mask, m.end) m.is (then_is _ (write.bytes, b.end) b.is
    (then_is _ tt (ended_reads line b.end b.follows) refl)))

abbrev fetch_of : Retire → ℕ × ℕ × ℕ
fetch_of retire = (retire.pc, retire.word, retire.next)

record FetchReads (retire : Retire) (line : List ℕ) (at : ℕ) (fields : List (List ℕ)) : Type 0 where
  end : ℕ
  is : fetch_at line at ≡ Ok (retire.pc, retire.word, retire.next, end)
  follows : Follows line end fields

fetch_reads : (retire : Retire) (line : List ℕ) (at : ℕ) (fields : List (List ℕ)) → retire.pc < 2 ^ 64
    → retire.word < 2 ^ 32 → retire.next < 2 ^ 64
    → Follows line at ((codes "pc=" ++ hexadecimal retire.pc) ∷ (codes "word=" ++ hexadecimal retire.word)
    ∷ (codes "next=" ++ hexadecimal retire.next) ∷ fields)
    → FetchReads retire line at fields
unfolding fetch_at
fetch_reads retire line at fields pc word next follows =
    let p = hexadecimal_reads (codes "pc=") most64 retire.pc line at _ (clean_by (codes "pc=") refl) (omega arith)
    (omega (arith, pc)) follows in
    let w = hexadecimal_reads (codes "word=") most32 retire.word line p.end _ (clean_by (codes "word=") refl)
    (omega arith) (omega (arith, word)) p.follows in
    let n = hexadecimal_reads (codes "next=") most64 retire.next line w.end fields (clean_by (codes "next=") refl)
    (omega arith) (omega (arith, next)) w.follows in
    record {
      end = n.end;
      is = then_is _ (retire.pc, p.end) p.is (then_is _ (retire.word, w.end) w.is
          (then_is _ (retire.next, n.end) n.is refl));
      follows = n.follows;
    }

rd_fit : (rd : Option RdValue) → IfSome rd (λ r. (1 ≤ r.number) × (r.number ≤ 31))
    → IfSome rd (λ r. (r.number < 2 ^ 8) × (r.value < 2 ^ 64)) → IfSome rd RdFits
rd_fit None fits holds = tt
rd_fit (Some rd) fits holds = (fits.0, fits.1, omega (arith, holds.1))

trap_fit : (trap : Option ℕ) → IfSome trap (λ cause. cause < 2 ^ 8) → IfSome trap (λ cause. cause ≤ 255)
trap_fit None holds = tt
trap_fit (Some cause) holds = omega (arith, holds)

csrs_fit : (csrs : List CsrValue) → All CsrInRange csrs → All CsrFits csrs
csrs_fit csrs holds k d low = let hold = holds k d low in (omega (arith, hold.0), omega (arith, hold.1))

retire_reads : (retire : Retire) (line : List ℕ) (at : ℕ) → FitsRetire retire → RetireInRange retire
    → Follows line at (retire_fields retire) → retire_at line at ≡ Ok retire
unfolding retire_at outcome_at
retire_reads retire line at fits holds follows =
    let f = fetch_reads retire line at _ holds.0 holds.1 holds.2 follows in
    let trapped = trap_fit retire.trap holds.3 in
    let t = reads (codes "trap=") trap_word (decimal_or_dash retire.trap) line f.end retire.trap _
    (clean_by (codes "trap=") refl)
    (trap_clean retire.trap trapped) (trap_back retire.trap trapped) f.follows in
    let written = rd_fit retire.rd fits.0 holds.4 in
    let r = reads (codes "rd=") rd_word (rd_text retire.rd) line t.end retire.rd _ (clean_by (codes "rd=") refl)
    (rd_clean retire.rd written) (rd_back retire.rd written) t.follows in
    let listed = csrs_fit retire.csrs holds.5 in
    let c = reads (codes "csrs=") csrs_word (csrs_text retire.csrs) line r.end retire.csrs []
    (clean_by (codes "csrs=") refl)
    (csrs_clean retire.csrs listed) (csr_list_back retire.csrs fits.1 listed) r.follows in
    then_is _ (retire.pc, retire.word, retire.next, f.end) f.is (then_is _ (retire.trap, retire.rd, retire.csrs)
    (then_is _ (retire.trap, t.end) t.is (then_is _ (retire.rd, r.end) r.is (then_is _ (retire.csrs, c.end) c.is
    (then_is _ tt (ended_reads line c.end c.follows) refl)))) refl)

-- ---- the line

-- the kind of a body
abbrev kind_of_body : Body → Kind
kind_of_body (body.Open _) = kind.Open
kind_of_body (body.Poke _) = kind.Poke
kind_of_body (body.Read _) = kind.Read
kind_of_body (body.Insert _) = kind.Insert
kind_of_body (body.Write _) = kind.Write
kind_of_body (body.Bypass _) = kind.Bypass
kind_of_body (body.Retire _) = kind.Retire
kind_of_body body.Squash = kind.Squash
kind_of_body body.End = kind.End

abbrev pub with_body : Head → Body → Message
with_body head b = record { head = head; body = b }

message_reads : (head : Head) (b : Body) (line : List ℕ) (at : ℕ) → Fits (with_body head b) → InRange (with_body head b)
    → Follows line at (fields_of head b) → message_at (kind_of_body b) line at ≡ Ok (with_body head b)
unfolding message_at
message_reads head (body.Open info) line at fits holds follows =
    let h = timed_reads head line at _ fits.0 fits.1 holds.1 follows in
    then_is _ (head, h.end) h.is (then_is _ info (open_reads info line h.end fits.2 h.follows) refl)
message_reads head (body.Poke poke) line at fits holds follows =
    let h = placed_reads head line at _ holds.0 fits.0 holds.1 follows in
    then_is _ (head, h.end) h.is (then_is _ poke (poke_reads poke line h.end fits.1 holds.3.0 holds.3.1 h.follows) refl)
message_reads head (body.Read piece) line at fits holds follows =
    let h = tagged_reads head line at _ holds.0 holds.1 holds.2 follows in
    then_is _ (head, h.end) h.is (then_is _ piece (piece_reads piece line h.end fits holds.3 h.follows) refl)
message_reads head (body.Insert piece) line at fits holds follows =
    let h = tagged_reads head line at _ holds.0 holds.1 holds.2 follows in
    then_is _ (head, h.end) h.is (then_is _ piece (piece_reads piece line h.end fits holds.3 h.follows) refl)
message_reads head (body.Write write) line at fits holds follows =
    let h = placed_reads head line at _ holds.0 fits.0 holds.1 follows in
    then_is _ (head, h.end) h.is (then_is _ write (write_reads write line h.end fits.1 holds.3.0 holds.3.1 holds.3.2
    holds.3.3 h.follows) refl)
message_reads head (body.Bypass piece) line at fits holds follows =
    let h = tagged_reads head line at _ holds.0 holds.1 holds.2 follows in
    then_is _ (head, h.end) h.is (then_is _ piece (piece_reads piece line h.end fits holds.3 h.follows) refl)
message_reads head (body.Retire retire) line at fits holds follows =
    let h = tagged_reads head line at _ holds.0 holds.1 holds.2 follows in
    then_is _ (head, h.end) h.is (then_is _ retire (retire_reads retire line h.end fits holds.3 h.follows) refl)
message_reads head body.Squash line at fits holds follows =
    let h = tagged_reads head line at _ holds.0 holds.1 holds.2 follows in
    then_is _ (head, h.end) h.is (then_is _ tt (ended_reads line h.end h.follows) refl)
message_reads head body.End line at fits holds follows =
    let h = timed_reads head line at _ fits.0 fits.1 holds.1 follows in
    then_is _ (head, h.end) h.is (then_is _ tt (ended_reads line h.end h.follows) refl)

pub word_clean : (b : Body) → Clean (kind_word b)
word_clean (body.Open _) = clean_by (codes "open") refl
word_clean (body.Poke _) = clean_by (codes "poke") refl
word_clean (body.Read _) = clean_by (codes "read") refl
word_clean (body.Insert _) = clean_by (codes "insert") refl
word_clean (body.Write _) = clean_by (codes "write") refl
word_clean (body.Bypass _) = clean_by (codes "bypass") refl
word_clean (body.Retire _) = clean_by (codes "retire") refl
word_clean body.Squash = clean_by (codes "squash") refl
word_clean body.End = clean_by (codes "end") refl

named : (b : Body) → kind_named (kind_word b) ≡ Some (kind_of_body b)
unfolding kind_named
named (body.Open _) = refl
named (body.Poke _) = refl
named (body.Read _) = refl
named (body.Insert _) = refl
named (body.Write _) = refl
named (body.Bypass _) = refl
named (body.Retire _) = refl
named body.Squash = refl
named body.End = refl

-- the words of a message are read
pub line_reads : (message : Message) → Fits message → InRange message → line_read (words_of message) ≡ Ok message
unfolding line_read
line_reads message fits holds =
    let word = kind_word message.body in
    let fields = fields_of message.head message.body in
    let line = word ++ flat_map spaced fields in
    let front : until 32 line ≡ word =
    first_word word fields (clean_lacks 32 word (omega arith) (word_clean message.body)) in
    let follows : Follows line (length word) fields = record {
      is = drop-append_seam word (flat_map spaced fields);
      bound = omega (arith, length-append word (flat_map spaced fields));
    } in
    ap (λ w. message_of (kind_named w) line (length w)) front
    ∙ ap (λ k. message_of k line (length word)) (named message.body)
    ∙ message_reads message.head message.body line (length word) fits holds follows

-- ---- all fields are clean

abbrev pub FieldsClean : List (List ℕ) → Type 0
FieldsClean [] = Unit {0}
FieldsClean (field ∷ fields) = Clean field × FieldsClean fields

clean_field : (name text : List ℕ) → Clean name → Clean text → Clean (name ++ text)
clean_field name text p q = clean_append name text p q

time_clean : (head : Head) → head.time < 2 ^ 64 → Clean (time_field head)
time_clean head small = clean_field (codes "time=") (decimal head.time) (clean_by (codes "time=") refl)
    (decimal_clean head.time small)

hart_clean : (head : Head) → head.hart < 2 ^ 8 → Clean (hart_field head)
hart_clean head small =
    clean_field (codes "hart=") (decimal head.hart) (clean_by (codes "hart=") refl)
    (decimal_clean head.hart (omega arith))

tag_clean : (head : Head) → head.tag < 2 ^ 64 → Clean (tag_field head)
tag_clean head small = clean_field (codes "tag=") (decimal head.tag) (clean_by (codes "tag=") refl)
    (decimal_clean head.tag small)

piece_clean : (piece : Piece) → PieceInRange piece → FieldsClean (piece_fields piece)
piece_clean piece holds = (
  clean_field (codes "addr=") (hexadecimal piece.addr) (clean_by (codes "addr=") refl)
      (hexadecimal_clean piece.addr holds.0),
  (
    clean_field (codes "bytes=") (encode_lower piece.bytes)
        (clean_by (codes "bytes=") refl) (bytes_clean piece.bytes holds.1),
    tt,
  ),
)

open_clean : (info : OpenInfo) → BodyInRange (body.Open info) → FieldsClean (open_fields info)
open_clean info holds = (
  clean_field (codes "version=") (decimal info.version) (clean_by (codes "version=") refl)
      (decimal_clean info.version (omega (arith, holds.0))),
  (
    clean_field (codes "harts=") (decimal info.harts)
        (clean_by (codes "harts=") refl) (decimal_clean info.harts (omega (arith, holds.1))),
    (
      clean_field (codes "flags=") (decimal info.flags) (clean_by (codes "flags=") refl)
          (decimal_clean info.flags (omega (arith, holds.2))),
      (
        clean_field (codes "granule=") (decimal info.granule)
            (clean_by (codes "granule=") refl) (decimal_clean info.granule (omega (arith, holds.3))),
        (
          clean_field (codes "skew=") (decimal info.skew) (clean_by (codes "skew=") refl)
              (decimal_clean info.skew (omega (arith, holds.4))),
          tt,
        ),
      ),
    ),
  ),
)

poke_clean : (poke : Poke) → FitsTarget poke.target poke.value → TargetInRange poke.target → poke.value < 2 ^ 64
    → FieldsClean (poke_fields poke)
poke_clean poke fits holds small = (
  clean_field (codes "reg=") (target_text poke.target) (clean_by (codes "reg=") refl)
      (target_clean poke.target (target_fits poke.target poke.value fits holds)),
  (
    clean_field (codes "value=")
        (hexadecimal poke.value) (clean_by (codes "value=") refl) (hexadecimal_clean poke.value small),
    tt,
  ),
)

write_clean : (write : LineWrite) → BodyInRange (body.Write write) → FieldsClean (write_fields write)
write_clean write holds = (
  clean_field (codes "line=") (hexadecimal write.line) (clean_by (codes "line=") refl)
      (hexadecimal_clean write.line holds.0),
  (
    clean_field (codes "mask=") (hexadecimal write.mask)
        (clean_by (codes "mask=") refl) (hexadecimal_clean write.mask holds.1),
    (
      clean_field (codes "bytes=")
          (encode_lower write.bytes) (clean_by (codes "bytes=") refl) (bytes_clean write.bytes holds.3),
      tt,
    ),
  ),
)

retire_clean : (retire : Retire) → FitsRetire retire → RetireInRange retire → FieldsClean (retire_fields retire)
retire_clean retire fits holds = (
  clean_field (codes "pc=") (hexadecimal retire.pc) (clean_by (codes "pc=") refl)
      (hexadecimal_clean retire.pc holds.0),
  (
    clean_field (codes "word=") (hexadecimal retire.word)
        (clean_by (codes "word=") refl) (hexadecimal_clean retire.word (omega (arith, holds.1))),
    (
      clean_field (codes "next=") (hexadecimal retire.next) (clean_by (codes "next=") refl)
          (hexadecimal_clean retire.next holds.2),
      (
        clean_field (codes "trap=") (decimal_or_dash retire.trap)
            (clean_by (codes "trap=") refl) (trap_clean retire.trap (trap_fit retire.trap holds.3)),
        (
          clean_field (codes "rd=") (rd_text retire.rd) (clean_by (codes "rd=") refl)
              (rd_clean retire.rd (rd_fit retire.rd fits.0 holds.4)),
          (
            clean_field (codes "csrs=") (csrs_text retire.csrs)
                (clean_by (codes "csrs=") refl) (csrs_clean retire.csrs (csrs_fit retire.csrs holds.5)),
            tt,
          ),
        ),
      ),
    ),
  ),
)

pub fields_clean : (head : Head) (b : Body) → Fits (with_body head b) → InRange (with_body head b)
    → FieldsClean (fields_of head b)
fields_clean head (body.Open info) fits holds = (time_clean head holds.1, open_clean info holds.3)
fields_clean head (body.Poke poke) fits holds =
    (hart_clean head holds.0, (time_clean head holds.1, poke_clean poke fits.1 holds.3.0 holds.3.1))
fields_clean head (body.Read piece) fits holds =
    (hart_clean head holds.0, (time_clean head holds.1, (tag_clean head holds.2, piece_clean piece holds.3)))
fields_clean head (body.Insert piece) fits holds =
    (hart_clean head holds.0, (time_clean head holds.1, (tag_clean head holds.2, piece_clean piece holds.3)))
fields_clean head (body.Write write) fits holds =
    (hart_clean head holds.0, (time_clean head holds.1, write_clean write holds.3))
fields_clean head (body.Bypass piece) fits holds =
    (hart_clean head holds.0, (time_clean head holds.1, (tag_clean head holds.2, piece_clean piece holds.3)))
fields_clean head (body.Retire retire) fits holds =
    (hart_clean head holds.0, (time_clean head holds.1, (tag_clean head holds.2, retire_clean retire fits holds.3)))
fields_clean head body.Squash fits holds = (
  hart_clean head holds.0,
  (time_clean head holds.1, (tag_clean head holds.2, tt)),
)
fields_clean head body.End fits holds = (time_clean head holds.1, tt)
