-- What is read from a line stands there, field by field.
use Rattle.std.proofs.Common.{◌≡◌, ℕ, ◌%◌, ◌<◌, ◌≤◌, List, [], ◌∷◌, ◌++◌, length, drop, codes, Option, Some, IfSome}
use Rattle.std.proofs.Common.{Result, Ok, Err, refl, ap, ◌∙◌, subst, arith, append-nil, drop_of_length-le, get_or}
use Rattle.std.specs.Prelude.{All}
use Rattle.std.specs.Fmt.{decimal}
use Rattle.std.specs.Int.{bit_at}
use Rattle.std.specs.List.{flat_map}
use Rattle.hex.specs.Hex.{encode_lower, IsBytes}
use Rattle.msg_frames.specs.declared.csrs.CsrValue.{CsrValue}
use Rattle.msg_frames.specs.declared.message.Head.{Head}
use Rattle.msg_frames.specs.declared.message.OpenInfo.{OpenInfo}
use Rattle.msg_frames.specs.declared.message.Poke.{Poke}
use Rattle.msg_frames.specs.declared.message.Piece.{Piece}
use Rattle.msg_frames.specs.declared.message.LineWrite.{LineWrite}
use Rattle.msg_frames.specs.declared.message.RdValue.{RdValue}
use Rattle.msg_frames.specs.Frames.{FitsOpen, FitsTarget, FitsWrite}
use Rattle.numerals.specs.Numerals.{decimal_or_dash, hexadecimal, hexadecimal_in}
use Rattle.trace_text.specs.Lines.{spaced, hart_field, time_field, tag_field, open_fields, poke_fields, piece_fields}
use Rattle.trace_text.specs.Lines.{write_fields, target_text, rd_text, csrs_text}
use Rattle.trace_text.specs.Reading.{hart_at, time_at, tag_at, timed_at, placed_at, tagged_at, open_at, poke_at}
use Rattle.trace_text.specs.Reading.{piece_at, write_at, fetch_at, outcome_at}
use Rattle.trace_text.specs.Values.{most32, most64, between, multiple, target_word, poked_value_in, piece_bytes_in}
use Rattle.trace_text.specs.Values.{line_bytes_in, trap_word, rd_word, csrs_word}
use Rattle.trace_text.specs.Words.{field, ended}
use Rattle.trace_text.proofs.Clean.{Breaks}
use Rattle.trace_text.proofs.FieldLaws.{bind_ok, Spelled, spelled_then, field_found, ended_found}
use Rattle.trace_text.proofs.ValueLaws.{hexadecimal_read, between_read, multiple_read, TargetFits, target_read}
use Rattle.trace_text.proofs.ValueLaws.{poked_value_read, trap_read, RdFits, rd_read, CsrFits, csr_list_read}
use Rattle.trace_text.proofs.ValueLaws.{piece_bytes_read, line_bytes_read}

-- a place at the end of a word
abbrev pub Here : List ℕ → ℕ → Type 0
Here line at = (at ≤ length line) × Breaks 32 (drop at line)

pub here : {line : List ℕ} {at end : ℕ} {fields : List (List ℕ)} → Spelled line at end fields → Here line end
here s = (s.bound, s.ends)

pub ok_same : {A : Type 0} (a b : A) → ◌≡◌ {A = Result A ℕ} (Ok a) (Ok b) → a ≡ b
ok_same {A} a b e = ap (λ r. value_of r) e
  where
    value_of : Result A ℕ → A
    value_of (Ok v) = v
    value_of (Err place) = a

-- a field whose value has one spelling
pub spelled_by : {A : Type 0} (name : List ℕ) (read : List ℕ → Option A) (spelling : A → List ℕ) (Fit : A → Type 0)
    → ((text : List ℕ) (value : A) → read text ≡ Some value → (text ≡ spelling value) × Fit value)
    → (line : List ℕ) (at : ℕ) (p : A × ℕ) → Here line at → field name read line at ≡ Ok p
    → Spelled line at p.1 ((name ++ spelling p.0) ∷ []) × Fit p.0
spelled_by name read spelling Fit law line at p at_end e =
    let found = field_found name read line at p.1 p.0 at_end.0 at_end.1 e in
    let told = law found.text p.0 found.reads in
    (subst (λ (t : List ℕ). Spelled line at p.1 ((name ++ t) ∷ [])) told.0 found.spelled, told.1)

pub decimal_at : (name : List ℕ) (least most : ℕ) (line : List ℕ) (at : ℕ) (p : ℕ × ℕ) → Here line at
    → field name (between least most) line at ≡ Ok p
    → Spelled line at p.1 ((name ++ decimal p.0) ∷ []) × ((least ≤ p.0) × (p.0 ≤ most))
decimal_at name least most line at p at_end e =
    spelled_by name (between least most) decimal (λ n. (least ≤ n) × (n ≤ most))
    (λ text n r. let told = between_read least most n text r in (told.0, (told.1, told.2))) line at p at_end e

pub hexadecimal_at : (name : List ℕ) (most : ℕ) (line : List ℕ) (at : ℕ) (p : ℕ × ℕ) → Here line at
    → field name (hexadecimal_in most) line at ≡ Ok p
    → Spelled line at p.1 ((name ++ hexadecimal p.0) ∷ []) × (p.0 ≤ most)
hexadecimal_at name most line at p at_end e =
    spelled_by name (hexadecimal_in most) hexadecimal (λ n. n ≤ most) (λ text n r. hexadecimal_read most n text r)
    line at p at_end e

-- fields up to the line's end
pub closes : {line : List ℕ} {at end : ℕ} {fields : List (List ℕ)} → Spelled line at end fields
    → ended line end ≡ Ok tt → drop at line ≡ flat_map spaced fields
closes {line} {at} {end} {fields} s e =
    s.is ∙ ap (λ l. flat_map spaced fields ++ l)
    (drop_of_length-le line {i = end} (omega (arith, ended_found line end e))) ∙ append-nil (flat_map spaced fields)

-- ---- what messages have in common

pub timed_found : (line : List ℕ) (at : ℕ) (p : Head × ℕ) → Here line at → timed_at line at ≡ Ok p
    → Spelled line at p.1 (time_field p.0 ∷ [])
    × ((p.0.hart ≡ 0) × (p.0.tag ≡ 0) × (p.0.time ≤ most64))
unfolding timed_at
timed_found line at p at_end e =
    let time = bind_ok (time_at line at) _ p e in
    let t = decimal_at (codes "time=") 0 most64 line at time.0 at_end time.1 in
    subst (λ (q : Head × ℕ). Spelled line at q.1 (time_field q.0 ∷ [])
    × ((q.0.hart ≡ 0) × (q.0.tag ≡ 0) × (q.0.time ≤ most64))) (ok_same _ p time.2) (t.0, (refl, refl, t.1.1))

pub placed_found : (line : List ℕ) (at : ℕ) (p : Head × ℕ) → Here line at → placed_at line at ≡ Ok p
    → Spelled line at p.1 (hart_field p.0 ∷ time_field p.0 ∷ [])
    × ((p.0.hart ≤ 255) × (p.0.tag ≡ 0) × (p.0.time ≤ most64))
unfolding placed_at
placed_found line at p at_end e =
    let hart = bind_ok (hart_at line at) _ p e in
    let time = bind_ok (time_at line hart.0.1) _ p hart.2 in
    let h = decimal_at (codes "hart=") 0 255 line at hart.0 at_end hart.1 in
    let t = decimal_at (codes "time=") 0 most64 line hart.0.1 time.0 (here h.0) time.1 in
    subst (λ (q : Head × ℕ). Spelled line at q.1 (hart_field q.0 ∷ time_field q.0 ∷ [])
    × ((q.0.hart ≤ 255) × (q.0.tag ≡ 0) × (q.0.time ≤ most64))) (ok_same _ p time.2)
    (spelled_then h.0 t.0, (h.1.1, refl, t.1.1))

pub tagged_found : (line : List ℕ) (at : ℕ) (p : Head × ℕ) → Here line at → tagged_at line at ≡ Ok p
    → Spelled line at p.1 (hart_field p.0 ∷ time_field p.0 ∷ tag_field p.0 ∷ [])
    × ((p.0.hart ≤ 255) × (p.0.tag ≤ most64) × (p.0.time ≤ most64))
unfolding tagged_at
tagged_found line at p at_end e =
    let hart = bind_ok (hart_at line at) _ p e in
    let time = bind_ok (time_at line hart.0.1) _ p hart.2 in
    let tag = bind_ok (tag_at line time.0.1) _ p time.2 in
    let h = decimal_at (codes "hart=") 0 255 line at hart.0 at_end hart.1 in
    let t = decimal_at (codes "time=") 0 most64 line hart.0.1 time.0 (here h.0) time.1 in
    let g = decimal_at (codes "tag=") 0 most64 line time.0.1 tag.0 (here t.0) tag.1 in
    subst (λ (q : Head × ℕ). Spelled line at q.1 (hart_field q.0 ∷ time_field q.0 ∷ tag_field q.0 ∷ [])
    × ((q.0.hart ≤ 255) × (q.0.tag ≤ most64) × (q.0.time ≤ most64))) (ok_same _ p tag.2)
    (spelled_then (spelled_then h.0 t.0) g.0, (h.1.1, g.1.1, t.1.1))

-- ---- the fields of each kind

pub open_found : (line : List ℕ) (at : ℕ) (info : OpenInfo) → Here line at → open_at line at ≡ Ok info
    → (drop at line ≡ flat_map spaced (open_fields info)) × FitsOpen info
unfolding open_at
open_found line at info at_end e =
    let version = bind_ok (field (codes "version=") (between 1 1) line at) _ info e in
    let harts = bind_ok (field (codes "harts=") (between 1 16) line version.0.1) _ info version.2 in
    let flags = bind_ok (field (codes "flags=") (between 0 3) line harts.0.1) _ info harts.2 in
    let granule = bind_ok (field (codes "granule=") (between 0 0) line flags.0.1) _ info flags.2 in
    let skew = bind_ok (field (codes "skew=") (between 0 0) line granule.0.1) _ info granule.2 in
    let end = bind_ok (ended line skew.0.1) _ info skew.2 in
    let v = decimal_at (codes "version=") 1 1 line at version.0 at_end version.1 in
    let h = decimal_at (codes "harts=") 1 16 line version.0.1 harts.0 (here v.0) harts.1 in
    let f = decimal_at (codes "flags=") 0 3 line harts.0.1 flags.0 (here h.0) flags.1 in
    let g = decimal_at (codes "granule=") 0 0 line flags.0.1 granule.0 (here f.0) granule.1 in
    let s = decimal_at (codes "skew=") 0 0 line granule.0.1 skew.0 (here g.0) skew.1 in
    subst (λ (i : OpenInfo). (drop at line ≡ flat_map spaced (open_fields i)) × FitsOpen i) (ok_same _ info end.2) (
      closes (spelled_then (spelled_then (spelled_then (spelled_then v.0 h.0) f.0) g.0) s.0) end.1,
      (omega (arith, v.1.0, v.1.1), h.1.0, h.1.1, omega (arith, f.1.1), omega (arith, g.1.1), omega (arith, s.1.1)),
    )

pub poke_found : (line : List ℕ) (at : ℕ) (poke : Poke) → Here line at → poke_at line at ≡ Ok poke
    → (drop at line ≡ flat_map spaced (poke_fields poke)) × (TargetFits poke.target)
    × FitsTarget poke.target poke.value × (poke.value ≤ most64)
unfolding poke_at
poke_found line at poke at_end e =
    let target = bind_ok (field (codes "reg=") target_word line at) _ poke e in
    let value = bind_ok (field (codes "value=") (poked_value_in target.0.0) line target.0.1) _ poke target.2 in
    let end = bind_ok (ended line value.0.1) _ poke value.2 in
    let t = spelled_by (codes "reg=") target_word (λ x. target_text x) (λ x. TargetFits x) target_read line at target.0
    at_end target.1 in
    let v = spelled_by (codes "value=") (poked_value_in target.0.0) hexadecimal
    (λ n. FitsTarget target.0.0 n × (n ≤ most64))
    (λ text n r. let told = poked_value_read target.0.0 n text t.1 r in (told.0, (told.1, told.2))) line
    target.0.1 value.0 (here t.0) value.1 in
    subst (λ (k : Poke). (drop at line ≡ flat_map spaced (poke_fields k)) × (TargetFits k.target)
    × FitsTarget k.target k.value × (k.value ≤ most64)) (ok_same _ poke end.2)
    (closes (spelled_then t.0 v.0) end.1, t.1, v.1.0, v.1.1)

pub piece_found : (line : List ℕ) (at : ℕ) (piece : Piece) → Here line at → piece_at line at ≡ Ok piece
    → (drop at line ≡ flat_map spaced (piece_fields piece)) × (piece.addr ≤ most64) × (1 ≤ length piece.bytes)
    × (length piece.bytes ≤ 8) × IsBytes piece.bytes
unfolding piece_at
piece_found line at piece at_end e =
    let addr = bind_ok (field (codes "addr=") (hexadecimal_in most64) line at) _ piece e in
    let bytes = bind_ok (field (codes "bytes=") piece_bytes_in line addr.0.1) _ piece addr.2 in
    let end = bind_ok (ended line bytes.0.1) _ piece bytes.2 in
    let a = hexadecimal_at (codes "addr=") most64 line at addr.0 at_end addr.1 in
    let b = spelled_by (codes "bytes=") piece_bytes_in encode_lower
    (λ l. (1 ≤ length l) × (length l ≤ 8) × IsBytes l)
    (λ text l r. let told = piece_bytes_read text l r in (told.0, (told.1, told.2, told.3))) line addr.0.1
    bytes.0 (here a.0) bytes.1 in
    subst (λ (k : Piece). (drop at line ≡ flat_map spaced (piece_fields k)) × (k.addr ≤ most64)
    × (1 ≤ length k.bytes) × (length k.bytes ≤ 8) × IsBytes k.bytes) (ok_same _ piece end.2)
    (closes (spelled_then a.0 b.0) end.1, a.1, b.1.0, b.1.1, b.1.2)

pub write_found : (line : List ℕ) (at : ℕ) (write : LineWrite) → Here line at → write_at line at ≡ Ok write
    → (drop at line ≡ flat_map spaced (write_fields write)) × (write.line ≤ most64) × (write.mask ≤ most64)
    × (length write.bytes ≡ 64) × IsBytes write.bytes × FitsWrite write
unfolding write_at
write_found line at write at_end e =
    let address = bind_ok (field (codes "line=") (multiple 64) line at) _ write e in
    let mask = bind_ok (field (codes "mask=") (hexadecimal_in most64) line address.0.1) _ write address.2 in
    let bytes = bind_ok (field (codes "bytes=") (line_bytes_in mask.0.0) line mask.0.1) _ write mask.2 in
    let end = bind_ok (ended line bytes.0.1) _ write bytes.2 in
    let a = spelled_by (codes "line=") (multiple 64) hexadecimal (λ n. (n % 64 ≡ 0) × (n ≤ most64))
    (λ text n r. let told = multiple_read 64 n text r in (told.0, (told.1, told.2))) line at address.0 at_end
    address.1 in
    let m = hexadecimal_at (codes "mask=") most64 line address.0.1 mask.0 (here a.0) mask.1 in
    let b = spelled_by (codes "bytes=") (line_bytes_in mask.0.0) encode_lower
    (λ l. (length l ≡ 64) × IsBytes l
    × ((k : ℕ) → k < 64 → bit_at mask.0.0 k ≡ 0 → get_or l k 0 ≡ 0))
    (λ text l r. let told = line_bytes_read mask.0.0 text l r in (told.0, (told.1, told.2, told.3))) line
    mask.0.1 bytes.0 (here m.0) bytes.1 in
    subst (λ (k : LineWrite). (drop at line ≡ flat_map spaced (write_fields k)) × (k.line ≤ most64)
    × (k.mask ≤ most64) × (length k.bytes ≡ 64) × IsBytes k.bytes × FitsWrite k) (ok_same _ write end.2)
    (closes (spelled_then (spelled_then a.0 m.0) b.0) end.1, a.1.1, m.1, b.1.0, b.1.1, (a.1.0, b.1.2))

pub fetch_found : (line : List ℕ) (at : ℕ) (p : ℕ × ℕ × ℕ × ℕ) → Here line at → fetch_at line at ≡ Ok p
    → Spelled line at p.3 ((codes "pc=" ++ hexadecimal p.0) ∷ (codes "word=" ++ hexadecimal p.1)
    ∷ (codes "next=" ++ hexadecimal p.2) ∷ [])
    × ((p.0 ≤ most64) × (p.1 ≤ most32) × (p.2 ≤ most64))
unfolding fetch_at
fetch_found line at p at_end e =
    let pc = bind_ok (field (codes "pc=") (hexadecimal_in most64) line at) _ p e in
    let word = bind_ok (field (codes "word=") (hexadecimal_in most32) line pc.0.1) _ p pc.2 in
    let next = bind_ok (field (codes "next=") (hexadecimal_in most64) line word.0.1) _ p word.2 in
    let c = hexadecimal_at (codes "pc=") most64 line at pc.0 at_end pc.1 in
    let w = hexadecimal_at (codes "word=") most32 line pc.0.1 word.0 (here c.0) word.1 in
    let n = hexadecimal_at (codes "next=") most64 line word.0.1 next.0 (here w.0) next.1 in
    subst (λ (q : ℕ × ℕ × ℕ × ℕ). Spelled line at q.3 ((codes "pc=" ++ hexadecimal q.0)
    ∷ (codes "word=" ++ hexadecimal q.1) ∷ (codes "next=" ++ hexadecimal q.2) ∷ [])
    × ((q.0 ≤ most64) × (q.1 ≤ most32) × (q.2 ≤ most64))) (ok_same _ p next.2)
    (spelled_then (spelled_then c.0 w.0) n.0, (c.1, w.1, n.1))

pub outcome_found : (line : List ℕ) (at : ℕ) (p : Option ℕ × Option RdValue × List CsrValue) → Here line at
    → outcome_at line at ≡ Ok p
    → (drop at line ≡ flat_map spaced ((codes "trap=" ++ decimal_or_dash p.0) ∷ (codes "rd=" ++ rd_text p.1)
    ∷ (codes "csrs=" ++ csrs_text p.2) ∷ []))
    × IfSome p.0 (λ cause. cause ≤ 255) × IfSome p.1 RdFits × (length p.2 ≤ 4) × All CsrFits p.2
unfolding outcome_at
outcome_found line at p at_end e =
    let trap = bind_ok (field (codes "trap=") trap_word line at) _ p e in
    let rd = bind_ok (field (codes "rd=") rd_word line trap.0.1) _ p trap.2 in
    let csrs = bind_ok (field (codes "csrs=") csrs_word line rd.0.1) _ p rd.2 in
    let end = bind_ok (ended line csrs.0.1) _ p csrs.2 in
    let t = spelled_by (codes "trap=") trap_word (λ x. decimal_or_dash x) (λ x. IfSome x (λ cause. cause ≤ 255))
    trap_read line at trap.0 at_end trap.1 in
    let r = spelled_by (codes "rd=") rd_word (λ x. rd_text x) (λ x. IfSome x RdFits) rd_read line trap.0.1 rd.0
    (here t.0) rd.1 in
    let c = spelled_by (codes "csrs=") csrs_word (λ x. csrs_text x) (λ l. (length l ≤ 4) × All CsrFits l)
    (λ text l q. let told = csr_list_read text l q in (told.0, (told.1, told.2))) line rd.0.1 csrs.0 (here r.0)
    csrs.1 in
    subst (λ (q : Option ℕ × Option RdValue × List CsrValue).
    (drop at line ≡ flat_map spaced ((codes "trap=" ++ decimal_or_dash q.0) ∷ (codes "rd=" ++ rd_text q.1)
    ∷ (codes "csrs=" ++ csrs_text q.2) ∷ []))
    × IfSome q.0 (λ cause. cause ≤ 255) × IfSome q.1 RdFits × (length q.2 ≤ 4) × All CsrFits q.2) (ok_same _ p end.2)
    (closes (spelled_then (spelled_then t.0 r.0) c.0) end.1, t.1, r.1, c.1.0, c.1.1)
