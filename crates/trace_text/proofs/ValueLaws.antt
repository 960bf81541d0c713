-- Each value is read from its spelling, and from nothing else.
use Rattle.std.proofs.Common.{◌≡◌, ℕ, zero, suc, ◌/◌, ◌%◌, ◌^◌, ◌<◌, ◌≤◌, Bool, true, false, ◌&&◌, nat_eq, nat_le}
use Rattle.std.proofs.Common.{◌==◌, if◌then◌else◌, List, [], ◌∷◌, ◌++◌, length, drop, codes, refl, sym, ap, ◌∙◌}
use Rattle.std.proofs.Common.{subst, arith}
use Rattle.std.proofs.Common.{Option, Some, None, IfSome, Result, Ok, Err, IsTrue}
use Rattle.std.specs.Prelude.{All}
use Rattle.std.proofs.Common.{append-nil, append_assoc, length-append, drop-drop, get_or, zero-add, inl, inr}
use Rattle.std.proofs.lemmas.Bool.{ne_eqb, eq-eqb, eqb-true, leb-true}
use Rattle.std.proofs.lemmas.Bool.Decides.{nat_tests}
use Rattle.std.proofs.lemmas.Option.{cond_some}
use Rattle.std.specs.Cmp.Lexicographic.{same_text}
use Rattle.std.specs.Fmt.{decimal}
use Rattle.std.specs.Int.{bit_at}
use Rattle.std.specs.List.{starts_with}
use Rattle.std.specs.Option.{option_map}
use Rattle.hex.proofs.HexLemmas.{length-encode_with, decode_sized-ok, decode_sized-twice, decode_of-ok}
use Rattle.hex.proofs.HexLemmas.{decode_of-encode_lower}
use Rattle.hex.specs.Hex.{encode_lower, lower_digits, decode_sized, IsBytes}
use Rattle.hex.specs.declared.error.FromHexError.{FromHexError}
use Rattle.msg_frames.proofs.Again.{unmasked_from}
use Rattle.msg_frames.proofs.Steps.{unmasked_ok}
use Rattle.msg_frames.specs.Reading.{unmasked_zeros}
use Rattle.msg_frames.specs.declared.csrs.CsrValue.{CsrValue}
use Rattle.msg_frames.specs.declared.message.FrameFault.{FrameFault}
use Rattle.msg_frames.specs.declared.message.Target.{Target}
use Rattle.msg_frames.specs.declared.message.Target.TheVariants.{Pc, X, Csr}
use Rattle.msg_frames.specs.declared.message.RdValue.{RdValue}
use Rattle.msg_frames.specs.Frames.{is_poked_csr, FitsTarget}
use Rattle.numerals.proofs.SpellingLaws.{decimal_found, decimal_back, hexadecimal_found, hexadecimal_back}
use Rattle.numerals.proofs.TextLaws.{alike, unlike, starts}
use Rattle.numerals.specs.Numerals.{decimal_in, decimal_or_dash, hexadecimal, hexadecimal_in}
use Rattle.std.specs.List.{flat_map}
use Rattle.trace_text.specs.Lines.{target_text, rd_text, csr_text, next_csr_text, csrs_text}
use Rattle.trace_text.specs.Values.{most16, most64, is_text, at_least, between, if_multiple, multiple, poked}
use Rattle.trace_text.specs.Values.{target_word, poked_value_in, trap_word, rd_of, register_in, rd_word}
use Rattle.trace_text.specs.Values.{csr_of, csr_in, csr_before, some_csrs_in, csrs_word}
use Rattle.trace_text.specs.Values.{if_written, bytes_in, piece_bytes_in, nothing, is_masked, if_masked, line_bytes_in}
use Rattle.trace_text.specs.Words.{until, behind}
use Rattle.trace_text.proofs.Clean.{Clean, Lacks, Breaks, clean_append, lacks_append, clean_by, decimal_clean}
use Rattle.trace_text.proofs.Clean.{hexadecimal_clean}
use Rattle.trace_text.proofs.Clean.{decimal_lacks, hexadecimal_lacks, until_front, until_whole, until_all}
use Rattle.trace_text.proofs.Clean.{behind_front, breaks_at, until_and_rest}

-- ---- numbers

pub hexadecimal_read : (most n : ℕ) (text : List ℕ) → hexadecimal_in most text ≡ Some n
    → (text ≡ hexadecimal n) × (n ≤ most)
hexadecimal_read most n text e = hexadecimal_found most text (Some n) (sym e)

pub between_read : (least most n : ℕ) (text : List ℕ) → between least most text ≡ Some n
    → (text ≡ decimal n) × (least ≤ n) × (n ≤ most)
between_read least most n text e = told (decimal_in most text) refl e
  where
    told : (o : Option ℕ) → decimal_in most text ≡ o → at_least least o ≡ Some n
        → (text ≡ decimal n) × (least ≤ n) × (n ≤ most)
    told None p h = cc
    told (Some m) p h =
        let both = cond_some (nat_le least m) m n h in
        let found = decimal_found most text (Some m) (sym p) in
        (found.0 ∙ ap decimal both.1, low both.0 both.1, omega (arith, found.1, both.1))
      where
        low : nat_le least m ≡ true → m ≡ n → least ≤ n
        low q same = grind (arith, nat_tests)

pub between_back : (least most n : ℕ) → most < 2 ^ 64 → least ≤ n → n ≤ most → between least most (decimal n) ≡ Some n
between_back least most n fits low high = ap (at_least least) (decimal_back most n fits high) ∙ passed
  where
    passed : (if nat_le least n then Some n else None) ≡ Some n
    passed = grind (arith, nat_tests)

pub multiple_read : (unit n : ℕ) (text : List ℕ) → multiple unit text ≡ Some n
    → (text ≡ hexadecimal n) × (n % unit ≡ 0) × (n ≤ most64)
multiple_read unit n text e = told (hexadecimal_in most64 text) refl e
  where
    told : (o : Option ℕ) → hexadecimal_in most64 text ≡ o → if_multiple unit o ≡ Some n
        → (text ≡ hexadecimal n) × (n % unit ≡ 0) × (n ≤ most64)
    told None p h = cc
    told (Some m) p h =
        let both = cond_some (m % unit == 0) m n h in
        let found = hexadecimal_found most64 text (Some m) (sym p) in (
          found.0 ∙ ap hexadecimal both.1,
          ap (λ k. k % unit) (sym both.1)
              ∙ eqb-true (m % unit) 0 both.0,
          omega (arith, found.1, both.1),
        )

pub multiple_back : (unit n : ℕ) → n < 2 ^ 64 → n % unit ≡ 0 → multiple unit (hexadecimal n) ≡ Some n
multiple_back unit n small whole =
    ap (if_multiple unit) (hexadecimal_back most64 n (omega arith) (omega arith))
    ∙ ap (λ (b : Bool). if b then Some n else None) (eq-eqb (n % unit) 0 whole)

-- ---- what a Poke sets

-- the target is one that a Poke may set, whatever the value
abbrev pub TargetFits : Target → Type 0
TargetFits Pc = Unit {0}
TargetFits (X number) = (1 ≤ number) × (number ≤ 31)
TargetFits (Csr number) = IsTrue (is_poked_csr number) × (number ≤ most16)

poked_told : (text : List ℕ) (o : Option ℕ) (target : Target) → hexadecimal_in most16 text ≡ o → poked o ≡ Some target
    → (text ≡ target_text target) × TargetFits target
poked_told text None target p h = cc
poked_told text (Some n) target p h =
    let both = cond_some (is_poked_csr n) (Csr n) target h in
    let found = hexadecimal_read most16 n text p in
    subst (λ (t : Target). (text ≡ target_text t) × TargetFits t) both.1 (found.0, (both.0, found.1))

pub target_read : (text : List ℕ) (target : Target) → target_word text ≡ Some target
    → (text ≡ target_text target) × TargetFits target
target_read text target e = first (is_text text (codes "pc")) refl e
  where
    register : (o : Option ℕ) → between 1 31 (drop 1 text) ≡ o → starts_with nat_eq text (codes "x") ≡ true
        → option_map (λ number. X number) o ≡ Some target → (text ≡ target_text target) × TargetFits target
    register None p x h = cc
    register (Some n) p x h =
        let found = between_read 1 31 n (drop 1 text) p in
        subst (λ (t : Target). (text ≡ target_text t) × TargetFits t) (cond_some true (X n) target h).1
        (starts (codes "x") text x ∙ ap (λ l. 120 ∷ l) found.0, (found.1, found.2))

    second : (b : Bool) → starts_with nat_eq text (codes "x") ≡ b
        → (if b then option_map (λ number. X number) (between 1 31 (drop 1 text)) else poked
        (hexadecimal_in most16 text))
        ≡ Some target → (text ≡ target_text target) × TargetFits target
    second true p h = register (between 1 31 (drop 1 text)) refl p h
    second false p h = poked_told text (hexadecimal_in most16 text) target refl h

    first : (b : Bool) → is_text text (codes "pc") ≡ b
        → (if b then Some Pc else if starts_with nat_eq text (codes "x")
        then option_map (λ number. X number) (between 1 31 (drop 1 text)) else poked (hexadecimal_in most16 text))
        ≡ Some target → (text ≡ target_text target) × TargetFits target
    first true p h =
        subst (λ (t : Target). (text ≡ target_text t) × TargetFits t) (cond_some true Pc target h).1
        (same_text text (codes "pc") (sym p), tt)
    first false p h = second (starts_with nat_eq text (codes "x")) refl h

pub target_back : (target : Target) → TargetFits target → target_word (target_text target) ≡ Some target
target_back Pc fits = refl
target_back (X number) fits = ap (option_map (λ n. X n)) (between_back 1 31 number (omega arith) fits.0 fits.1)
target_back (Csr number) fits =
    ap poked (hexadecimal_back most16 number (omega arith) fits.1)
    ∙ ap (λ (b : Bool). if b then Some (Csr number) else None) fits.0

pub poked_value_read : (target : Target) (value : ℕ) (text : List ℕ) → TargetFits target
    → poked_value_in target text ≡ Some value
    → (text ≡ hexadecimal value) × FitsTarget target value × (value ≤ most64)
poked_value_read Pc value text fits e = let found = multiple_read 4 value text e in (found.0, found.1, found.2)
poked_value_read (X number) value text fits e = let found = hexadecimal_read most64 value text e in
    (found.0, fits, found.1)
poked_value_read (Csr number) value text fits e =
    let found = hexadecimal_read most64 value text e in (found.0, fits.0, found.1)

pub poked_value_back : (target : Target) (value : ℕ) → FitsTarget target value → value < 2 ^ 64
    → poked_value_in target (hexadecimal value) ≡ Some value
poked_value_back Pc value fits small = multiple_back 4 value small fits
poked_value_back (X number) value fits small = hexadecimal_back most64 value (omega arith) (omega arith)
poked_value_back (Csr number) value fits small = hexadecimal_back most64 value (omega arith) (omega arith)

pub target_clean : (target : Target) → TargetFits target → Clean (target_text target)
target_clean Pc fits = clean_by (codes "pc") refl
target_clean (X number) fits = (omega arith, decimal_clean number (omega (arith, fits.1)))
target_clean (Csr number) fits = hexadecimal_clean number (omega (arith, fits.1))

-- ---- the trap

-- a number is no dash
no_dash : (n : ℕ) → n < 2 ^ 64 → is_text (decimal n) (codes "-") ≡ false
no_dash n small = unlike (decimal n) (codes "-") (λ same. (subst (Lacks 45) same (decimal_lacks 45 n small refl)).0
    refl)

pub trap_read : (text : List ℕ) (trap : Option ℕ) → trap_word text ≡ Some trap
    → (text ≡ decimal_or_dash trap) × IfSome trap (λ cause. cause ≤ 255)
trap_read text trap e = first (is_text text (codes "-")) refl e
  where
    caused : (o : Option ℕ) → between 0 255 text ≡ o → option_map (λ cause. Some cause) o ≡ Some trap
        → (text ≡ decimal_or_dash trap) × IfSome trap (λ cause. cause ≤ 255)
    caused None p h = cc
    caused (Some n) p h =
        let found = between_read 0 255 n text p in
        subst (λ (t : Option ℕ). (text ≡ decimal_or_dash t) × IfSome t (λ cause. cause ≤ 255))
        (cond_some true (Some n) trap h).1 (found.0, found.2)

    first : (b : Bool) → is_text text (codes "-") ≡ b
        → (if b then Some None else option_map (λ cause. Some cause) (between 0 255 text)) ≡ Some trap
        → (text ≡ decimal_or_dash trap) × IfSome trap (λ cause. cause ≤ 255)
    first true p h =
        subst (λ (t : Option ℕ). (text ≡ decimal_or_dash t) × IfSome t (λ cause. cause ≤ 255))
        (cond_some true None trap h).1 (same_text text (codes "-") (sym p), tt)
    first false p h = caused (between 0 255 text) refl h

pub trap_back : (trap : Option ℕ) → IfSome trap (λ cause. cause ≤ 255) → trap_word (decimal_or_dash trap) ≡ Some trap
trap_back None fits = refl
trap_back (Some cause) fits =
    ap (λ (b : Bool). if b then Some None else option_map (λ c. Some c) (between 0 255 (decimal cause)))
    (no_dash cause (omega (arith, fits)))
    ∙ ap (option_map (λ c. Some c)) (between_back 0 255 cause (omega arith) (omega arith) fits)

pub trap_clean : (trap : Option ℕ) → IfSome trap (λ cause. cause ≤ 255) → Clean (decimal_or_dash trap)
trap_clean None fits = clean_by (codes "-") refl
trap_clean (Some cause) fits = decimal_clean cause (omega (arith, fits))

-- ---- two numbers with a colon between them

-- a text that is cut at its first stop, with something behind it
pub parted_at : (stop : ℕ) (text front : List ℕ) (byte : ℕ) (back : List ℕ) → until stop text ≡ front
    → behind stop text ≡ byte ∷ back → text ≡ front ++ (stop ∷ (byte ∷ back))
parted_at stop text front byte back before after =
    sym (until_and_rest stop text) ∙ told (drop (length (until stop text)) text) refl (breaks_at stop text)
  where
    told : (rest : List ℕ) → drop (length (until stop text)) text ≡ rest → Breaks stop rest
        → until stop text ++ drop (length (until stop text)) text ≡ front ++ (stop ∷ (byte ∷ back))
    told rest p (inl none) =
        let empty : [] ≡ byte ∷ back =
        ap (drop 1) (sym (p ∙ none)) ∙ drop-drop 1 (length (until stop text)) text ∙ after in
        absurd (omega (arith, ap length empty))
    told rest p (inr some) =
        let more : some.0 ≡ byte ∷ back =
        ap (drop 1) (sym (p ∙ some.1)) ∙ drop-drop 1 (length (until stop text)) text ∙ after in
        ap (λ l. until stop text ++ l) (p ∙ some.1 ∙ ap (λ l. stop ∷ l) more)
        ∙ ap (λ l. l ++ (stop ∷ (byte ∷ back))) before

-- what stands behind a number and a colon
pub number_first : (first : List ℕ) (value : ℕ) → Lacks 58 first
    → (until 58 (first ++ (58 ∷ hexadecimal value)) ≡ first)
    × (behind 58 (first ++ (58 ∷ hexadecimal value)) ≡ hexadecimal value)
number_first first value plain =
    (until_front 58 first (hexadecimal value) plain, behind_front 58 first (hexadecimal value) plain)

-- a number is read before a colon, and a value in hexadecimal behind it
both_read : (text first : List ℕ) (value : ℕ) → until 58 text ≡ first → behind 58 text ≡ hexadecimal value
    → text ≡ first ++ (58 ∷ hexadecimal value)
both_read text first value before after = parted_at 58 text first 48 (120 ∷ _) before after

-- ---- the register

abbrev pub RdFits : RdValue → Type 0
RdFits rd = (1 ≤ rd.number) × (rd.number ≤ 31) × (rd.value ≤ most64)

register_read : (text : List ℕ) (rd : RdValue) → register_in text ≡ Some rd
    → (text ≡ decimal rd.number ++ (58 ∷ hexadecimal rd.value)) × RdFits rd
register_read text rd e = told (between 1 31 (until 58 text)) (hexadecimal_in most64 (behind 58 text)) refl refl e
  where
    told : (o q : Option ℕ) → between 1 31 (until 58 text) ≡ o → hexadecimal_in most64 (behind 58 text) ≡ q
        → rd_of o q ≡ Some rd → (text ≡ decimal rd.number ++ (58 ∷ hexadecimal rd.value)) × RdFits rd
    told None q p r h = cc
    told (Some n) None p r h = cc
    told (Some n) (Some v) p r h =
        let number = between_read 1 31 n (until 58 text) p in
        let value = hexadecimal_read most64 v (behind 58 text) r in
        subst (λ (x : RdValue). (text ≡ decimal x.number ++ (58 ∷ hexadecimal x.value)) × RdFits x)
        (cond_some true (record { number = n; value = v }) rd h).1
        (both_read text (decimal n) v number.0 value.0, (number.1, number.2, value.1))

register_back : (rd : RdValue) → RdFits rd → register_in (decimal rd.number ++ (58 ∷ hexadecimal rd.value)) ≡ Some rd
register_back rd fits =
    let parts = number_first (decimal rd.number) rd.value (decimal_lacks 58 rd.number (omega (arith, fits.1)) refl) in
    let text = decimal rd.number ++ (58 ∷ hexadecimal rd.value) in
    let number : between 1 31 (until 58 text) ≡ Some rd.number =
    ap (between 1 31) parts.0 ∙ between_back 1 31 rd.number (omega arith) fits.0 fits.1 in
    let value : hexadecimal_in most64 (behind 58 text) ≡ Some rd.value =
    ap (hexadecimal_in most64) parts.1 ∙ hexadecimal_back most64 rd.value (omega arith) fits.2 in
    λ i. rd_of (number i) (value i)

pub rd_read : (text : List ℕ) (rd : Option RdValue) → rd_word text ≡ Some rd
    → (text ≡ rd_text rd) × IfSome rd RdFits
rd_read text rd e = first (is_text text (codes "-")) refl e
  where
    written : (o : Option RdValue) → register_in (drop 1 text) ≡ o → starts_with nat_eq text (codes "x") ≡ true
        → option_map (λ r. Some r) o ≡ Some rd → (text ≡ rd_text rd) × IfSome rd RdFits
    written None p x h = cc
    written (Some r) p x h =
        let found = register_read (drop 1 text) r p in
        subst (λ (t : Option RdValue). (text ≡ rd_text t) × IfSome t RdFits) (cond_some true (Some r) rd h).1 (
          starts (codes "x") text x ∙ ap (λ l. 120 ∷ l)
              (found.0 ∙ sym (append_assoc (decimal r.number) (codes ":") (hexadecimal r.value))),
          found.1,
        )

    second : (b : Bool) → starts_with nat_eq text (codes "x") ≡ b
        → (if b then option_map (λ r. Some r) (register_in (drop 1 text)) else None) ≡ Some rd
        → (text ≡ rd_text rd) × IfSome rd RdFits
    second true p h = written (register_in (drop 1 text)) refl p h
    second false p h = cc

    first : (b : Bool) → is_text text (codes "-") ≡ b
        → (if b then Some None else if starts_with nat_eq text (codes "x")
        then option_map (λ r. Some r) (register_in (drop 1 text)) else None) ≡ Some rd
        → (text ≡ rd_text rd) × IfSome rd RdFits
    first true p h =
        subst (λ (t : Option RdValue). (text ≡ rd_text t) × IfSome t RdFits) (cond_some true None rd h).1
        (same_text text (codes "-") (sym p), tt)
    first false p h = second (starts_with nat_eq text (codes "x")) refl h

pub rd_back : (rd : Option RdValue) → IfSome rd RdFits → rd_word (rd_text rd) ≡ Some rd
rd_back None fits = refl
rd_back (Some rd) fits =
    ap (λ l. option_map (λ r. Some r) (register_in l)) (append_assoc (decimal rd.number) (codes ":")
    (hexadecimal rd.value))
    ∙ ap (option_map (λ r. Some r)) (register_back rd fits)

pub rd_clean : (rd : Option RdValue) → IfSome rd RdFits → Clean (rd_text rd)
rd_clean None fits = clean_by (codes "-") refl
rd_clean (Some rd) fits = (
  omega arith,
  clean_append (decimal rd.number ++ codes ":") (hexadecimal rd.value) (clean_append (decimal rd.number)
      (codes ":") (decimal_clean rd.number (omega (arith, fits.1))) (clean_by (codes ":") refl))
      (hexadecimal_clean rd.value (omega (arith, fits.2))),
)

-- ---- the CSRs

abbrev pub CsrFits : CsrValue → Type 0
CsrFits csr = (csr.number ≤ most16) × (csr.value ≤ most64)

csr_read : (text : List ℕ) (csr : CsrValue) → csr_in text ≡ Some csr → (text ≡ csr_text csr) × CsrFits csr
csr_read text csr e = told (hexadecimal_in most16 (until 58 text)) (hexadecimal_in most64 (behind 58 text)) refl refl e
  where
    told : (o q : Option ℕ) → hexadecimal_in most16 (until 58 text) ≡ o → hexadecimal_in most64 (behind 58 text) ≡ q
        → csr_of o q ≡ Some csr → (text ≡ csr_text csr) × CsrFits csr
    told None q p r h = cc
    told (Some n) None p r h = cc
    told (Some n) (Some v) p r h =
        let number = hexadecimal_read most16 n (until 58 text) p in
        let value = hexadecimal_read most64 v (behind 58 text) r in
        subst (λ (x : CsrValue). (text ≡ csr_text x) × CsrFits x)
        (cond_some true (record { number = n; value = v }) csr h).1 (
          both_read text (hexadecimal n) v number.0 value.0
              ∙ sym (append_assoc (hexadecimal n) (codes ":") (hexadecimal v)),
          (number.1, value.1),
        )

csr_back : (csr : CsrValue) → CsrFits csr → csr_in (csr_text csr) ≡ Some csr
csr_back csr fits =
    let parts = number_first (hexadecimal csr.number) csr.value
    (hexadecimal_lacks 58 csr.number (omega (arith, fits.0)) refl) in
    let text = hexadecimal csr.number ++ (58 ∷ hexadecimal csr.value) in
    let number : hexadecimal_in most16 (until 58 text) ≡ Some csr.number =
    ap (hexadecimal_in most16) parts.0 ∙ hexadecimal_back most16 csr.number (omega arith) fits.0 in
    let value : hexadecimal_in most64 (behind 58 text) ≡ Some csr.value =
    ap (hexadecimal_in most64) parts.1 ∙ hexadecimal_back most64 csr.value (omega arith) fits.1 in
    let read : csr_in text ≡ Some csr = λ i. csr_of (number i) (value i) in
    ap csr_in (append_assoc (hexadecimal csr.number) (codes ":") (hexadecimal csr.value)) ∙ read

pub csr_clean : (csr : CsrValue) → CsrFits csr → Clean (csr_text csr)
csr_clean csr fits =
    clean_append (hexadecimal csr.number ++ codes ":") (hexadecimal csr.value) (clean_append (hexadecimal csr.number)
    (codes ":") (hexadecimal_clean csr.number (omega (arith, fits.0))) (clean_by (codes ":") refl))
    (hexadecimal_clean csr.value (omega (arith, fits.1)))

-- a CSR's text has no comma
csr_lacks : (csr : CsrValue) → CsrFits csr → Lacks 44 (csr_text csr)
csr_lacks csr fits =
    lacks_append 44 (hexadecimal csr.number ++ codes ":") (hexadecimal csr.value)
    (lacks_append 44 (hexadecimal csr.number)
    (codes ":") (hexadecimal_lacks 44 csr.number (omega (arith, fits.0)) refl) ((λ same. omega (arith, same)), tt))
    (hexadecimal_lacks 44 csr.value (omega (arith, fits.1)) refl)

-- some CSRs, each in the range of its fields
pub data SomeCsrs (room : ℕ) (text : List ℕ) (csrs : List CsrValue) : Type 0 where
  some : (first : CsrValue) (others : List CsrValue) → csrs ≡ first ∷ others → text ≡ csrs_text (first ∷ others)
      → length csrs ≤ room → All CsrFits csrs → SomeCsrs room text csrs

all_none : All CsrFits []
all_none k d low = absurd (omega arith)

all_first : (csr : CsrValue) (csrs : List CsrValue) → CsrFits csr → All CsrFits csrs → All CsrFits (csr ∷ csrs)
all_first csr csrs p q zero d low = p
all_first csr csrs p q (suc k) d low = q k d (omega arith)

all_later : (csr : CsrValue) (csrs : List CsrValue) → All CsrFits (csr ∷ csrs) → All CsrFits csrs
all_later csr csrs p k d low = p (suc k) d (omega arith)

-- the last CSR of a text
last_csr : (room : ℕ) (text : List ℕ) (csr : CsrValue) (csrs : List CsrValue) → csr_in (until 44 text) ≡ Some csr
    → csr ∷ [] ≡ csrs → length (until 44 text) ≡ length text → SomeCsrs (suc room) text csrs
last_csr room text csr csrs p same whole =
    let found = csr_read (until 44 text) csr p in
    subst (λ (l : List CsrValue). SomeCsrs (suc room) text l) same (some csr [] refl
    (sym (until_all 44 text whole) ∙ found.0 ∙ sym (append-nil (csr_text csr))) (omega arith)
    (all_first csr [] found.1 all_none))

-- a CSR that others follow
csr_then : (room : ℕ) (text : List ℕ) (csr : CsrValue) (csrs others : List CsrValue)
    → csr_in (until 44 text) ≡ Some csr → csr ∷ others ≡ csrs → SomeCsrs room (behind 44 text) others
    → SomeCsrs (suc room) text csrs
csr_then room text csr csrs others p same (some next more e is few fits) =
    let found = csr_read (until 44 text) csr p in
    let parts : text ≡ csrs_text (csr ∷ (next ∷ more)) = parted_at 44 text (csr_text csr) 48 _ found.0 is in
    subst (λ (l : List CsrValue). SomeCsrs (suc room) text l) same (some csr others refl
    (parts ∙ ap (λ l. csrs_text (csr ∷ l)) (sym e)) (omega (arith, few)) (all_first csr others found.1 fits))

csrs_read : (room : ℕ) (text : List ℕ) (csrs : List CsrValue) → some_csrs_in room text ≡ Some csrs
    → SomeCsrs room text csrs
unfolding some_csrs_in
csrs_read zero text csrs e = cc
csrs_read (suc room) text csrs e =
    first (λ others. csrs_read room (behind 44 text) others) (csr_in (until 44 text)) refl e
  where
    more : ((others : List CsrValue) → some_csrs_in room (behind 44 text) ≡ Some others
        → SomeCsrs room (behind 44 text) others) → (csr : CsrValue) → csr_in (until 44 text) ≡ Some csr
        → (o : Option (List CsrValue)) → some_csrs_in room (behind 44 text) ≡ o
        → csr_before (Some csr) o ≡ Some csrs → SomeCsrs (suc room) text csrs
    more later csr p None q h = cc
    more later csr p (Some others) q h =
        csr_then room text csr csrs others p (cond_some true (csr ∷ others) csrs h).1 (later others q)

    test : ((others : List CsrValue) → some_csrs_in room (behind 44 text) ≡ Some others
        → SomeCsrs room (behind 44 text) others) → (csr : CsrValue) → csr_in (until 44 text) ≡ Some csr
        → (b : Bool) → nat_eq (length (until 44 text)) (length text) ≡ b
        → csr_before (Some csr) (if b then Some [] else some_csrs_in room (behind 44 text)) ≡ Some csrs
        → SomeCsrs (suc room) text csrs
    test later csr p true q h =
        last_csr room text csr csrs p (cond_some true (csr ∷ []) csrs h).1 (eqb-true _ _ q)
    test later csr p false q h = more later csr p (some_csrs_in room (behind 44 text)) refl h

    first : ((others : List CsrValue) → some_csrs_in room (behind 44 text) ≡ Some others
        → SomeCsrs room (behind 44 text) others) → (o : Option CsrValue) → csr_in (until 44 text) ≡ o
        → csr_before o (if nat_eq (length (until 44 text)) (length text) then Some []
        else some_csrs_in room (behind 44 text)) ≡ Some csrs → SomeCsrs (suc room) text csrs
    first later None p h = cc
    first later (Some csr) p h = test later csr p (nat_eq (length (until 44 text)) (length text)) refl h

pub csr_list_read : (text : List ℕ) (csrs : List CsrValue) → csrs_word text ≡ Some csrs
    → (text ≡ csrs_text csrs) × (length csrs ≤ 4) × All CsrFits csrs
csr_list_read text csrs e = first (is_text text (codes "-")) refl e
  where
    told : SomeCsrs 4 text csrs → (text ≡ csrs_text csrs) × (length csrs ≤ 4) × All CsrFits csrs
    told (some next more e is few fits) = (is ∙ ap csrs_text (sym e), few, fits)

    first : (b : Bool) → is_text text (codes "-") ≡ b
        → (if b then Some [] else some_csrs_in 4 text) ≡ Some csrs
        → (text ≡ csrs_text csrs) × (length csrs ≤ 4) × All CsrFits csrs
    first true p h =
        subst (λ (l : List CsrValue). (text ≡ csrs_text l) × (length l ≤ 4) × All CsrFits l)
        (cond_some true [] csrs h).1 (same_text text (codes "-") (sym p), omega arith, all_none)
    first false p h = told (csrs_read 4 text csrs h)

-- CSRs are read from their text
some_csrs_back : (room : ℕ) (first : CsrValue) (others : List CsrValue) → length (first ∷ others) ≤ room
    → All CsrFits (first ∷ others) → some_csrs_in room (csrs_text (first ∷ others)) ≡ Some (first ∷ others)
unfolding some_csrs_in
some_csrs_back zero first others few fits = absurd (omega (arith, few))
some_csrs_back (suc room) first [] few fits =
    let text = csrs_text (first ∷ []) in
    let fit : CsrFits first = fits 0 first (omega arith) in
    let front : until 44 text ≡ csr_text first =
    ap (until 44) (append-nil (csr_text first)) ∙ until_whole 44 (csr_text first) (csr_lacks first fit) in
    let read : csr_in (until 44 text) ≡ Some first = ap csr_in front ∙ csr_back first fit in
    let test : nat_eq (length (until 44 text)) (length text) ≡ true =
    eq-eqb _ _ (ap length front ∙ ap length (sym (append-nil (csr_text first)))) in
    λ i. csr_before (read i) (if test i then Some [] else some_csrs_in room (behind 44 text))
some_csrs_back (suc room) first (next ∷ more) few fits =
    let rest = csrs_text (next ∷ more) in
    let text = csr_text first ++ (44 ∷ rest) in
    let fit : CsrFits first = fits 0 first (omega arith) in
    let plain = csr_lacks first fit in
    let front : until 44 text ≡ csr_text first = until_front 44 (csr_text first) rest plain in
    let read : csr_in (until 44 text) ≡ Some first = ap csr_in front ∙ csr_back first fit in
    let test : nat_eq (length (until 44 text)) (length text) ≡ false =
    ne_eqb _ _ (λ same. omega (arith, same, ap length front, length-append (csr_text first) (44 ∷ rest))) in
    let later : some_csrs_in room (behind 44 text) ≡ Some (next ∷ more) =
    ap (some_csrs_in room) (behind_front 44 (csr_text first) rest plain)
    ∙ some_csrs_back room next more (omega (arith, few)) (all_later first (next ∷ more) fits) in
    λ i. csr_before (read i) (if test i then Some [] else later i)

pub csr_list_back : (csrs : List CsrValue) → length csrs ≤ 4 → All CsrFits csrs → csrs_word (csrs_text csrs) ≡ Some csrs
csr_list_back [] few fits = refl
csr_list_back (csr ∷ csrs) few fits = some_csrs_back 4 csr csrs few fits

next_clean : (csrs : List CsrValue) → All CsrFits csrs → Clean (flat_map next_csr_text csrs)
next_clean [] fits = tt
next_clean (csr ∷ csrs) fits = (
  omega arith,
  clean_append (csr_text csr) (flat_map next_csr_text csrs) (csr_clean csr (fits 0 csr (omega arith)))
      (next_clean csrs (all_later csr csrs fits)),
)

pub csrs_clean : (csrs : List CsrValue) → All CsrFits csrs → Clean (csrs_text csrs)
csrs_clean [] fits = clean_by (codes "-") refl
csrs_clean (csr ∷ csrs) fits =
    clean_append (csr_text csr) (flat_map next_csr_text csrs) (csr_clean csr (fits 0 csr (omega arith)))
    (next_clean csrs (all_later csr csrs fits))

-- ---- bytes

pub bytes_read : (count : ℕ) (text bytes : List ℕ) → bytes_in count text ≡ Some bytes
    → (text ≡ encode_lower bytes) × (length bytes ≡ count) × IsBytes bytes
unfolding bytes_in
bytes_read count text bytes e = told (decode_sized text count) refl e
  where
    told : (d : Result (List ℕ) FromHexError) → decode_sized text count ≡ d → if_written text d ≡ Some bytes
        → (text ≡ encode_lower bytes) × (length bytes ≡ count) × IsBytes bytes
    told (Err broken) p h = cc
    told (Ok found) p h =
        let both = cond_some (is_text text (encode_lower found)) found bytes h in
        let twice = decode_sized-ok text count found p in
        let whole = decode_of-ok text found (sym (decode_sized-twice text count twice) ∙ p) in
        subst (λ (l : List ℕ). (text ≡ encode_lower l) × (length l ≡ count) × IsBytes l) both.1
        (same_text text (encode_lower found) (sym both.0), omega (arith, twice, whole.2), whole.3)

pub bytes_back : (count : ℕ) (bytes : List ℕ) → length bytes ≡ count → IsBytes bytes
    → bytes_in count (encode_lower bytes) ≡ Some bytes
unfolding bytes_in
bytes_back count bytes sized fits =
    let size = length-encode_with lower_digits bytes in
    let decoded : decode_sized (encode_lower bytes) count ≡ Ok bytes =
    decode_sized-twice (encode_lower bytes) count (omega (arith, size, sized)) ∙ decode_of-encode_lower bytes fits in
    ap (if_written (encode_lower bytes)) decoded
    ∙ ap (λ (b : Bool). if b then Some bytes else None) (alike (encode_lower bytes) (encode_lower bytes) refl)

pub piece_bytes_read : (text bytes : List ℕ) → piece_bytes_in text ≡ Some bytes
    → (text ≡ encode_lower bytes) × (1 ≤ length bytes) × (length bytes ≤ 8) × IsBytes bytes
piece_bytes_read text bytes e =
    told (nat_le 1 (length text / 2)) (nat_le (length text / 2) 8) refl refl e
  where
    told : (t u : Bool) → nat_le 1 (length text / 2) ≡ t → nat_le (length text / 2) 8 ≡ u
        → (if t && u then bytes_in (length text / 2) text else None) ≡ Some bytes
        → (text ≡ encode_lower bytes) × (1 ≤ length bytes) × (length bytes ≤ 8) × IsBytes bytes
    told true true p q h =
        let found = bytes_read (length text / 2) text bytes h in
        (found.0, omega (arith, found.1, leb-true _ _ p), omega (arith, found.1, leb-true _ _ q), found.2)
    told true false p q h = cc
    told false u p q h = cc

pub piece_bytes_back : (bytes : List ℕ) → 1 ≤ length bytes → length bytes ≤ 8 → IsBytes bytes
    → piece_bytes_in (encode_lower bytes) ≡ Some bytes
piece_bytes_back bytes any few fits =
    let size = length-encode_with lower_digits bytes in
    let half : length (encode_lower bytes) / 2 ≡ length bytes = omega (arith, size) in
    let low : nat_le 1 (length (encode_lower bytes) / 2) ≡ true = test 1 _ (omega (arith, half)) in
    let high : nat_le (length (encode_lower bytes) / 2) 8 ≡ true = test _ 8 (omega (arith, half)) in
    (λ i. if low i && high i then bytes_in (length (encode_lower bytes) / 2) (encode_lower bytes) else None)
    ∙ bytes_back (length (encode_lower bytes) / 2) bytes (sym half) fits
  where
    test : (a b : ℕ) → a ≤ b → nat_le a b ≡ true
    test a b low = grind (arith, nat_tests)

nothing_is : (o : Option FrameFault) → nothing o ≡ true → o ≡ None
nothing_is None e = refl
nothing_is (Some broken) e = cc

pub line_bytes_read : (mask : ℕ) (text bytes : List ℕ) → line_bytes_in mask text ≡ Some bytes
    → (text ≡ encode_lower bytes) × (length bytes ≡ 64) × IsBytes bytes
    × ((k : ℕ) → k < 64 → bit_at mask k ≡ 0 → get_or bytes k 0 ≡ 0)
line_bytes_read mask text bytes e = told (bytes_in 64 text) refl e
  where
    told : (o : Option (List ℕ)) → bytes_in 64 text ≡ o → if_masked mask o ≡ Some bytes
        → (text ≡ encode_lower bytes) × (length bytes ≡ 64) × IsBytes bytes
        × ((k : ℕ) → k < 64 → bit_at mask k ≡ 0 → get_or bytes k 0 ≡ 0)
    told None p h = cc
    told (Some found) p h =
        let both = cond_some (is_masked mask found) found bytes h in
        let is = bytes_read 64 text found p in
        subst (λ (l : List ℕ). (text ≡ encode_lower l) × (length l ≡ 64) × IsBytes l
        × ((k : ℕ) → k < 64 → bit_at mask k ≡ 0 → get_or l k 0 ≡ 0)) both.1 (
          is.0,
          is.1,
          is.2,
          λ k below outside. unmasked_ok mask 0 found (nothing_is (unmasked_zeros mask 0 found) both.0) k
              (rw zero-add outside),
        )

pub line_bytes_back : (mask : ℕ) (bytes : List ℕ) → length bytes ≡ 64 → IsBytes bytes
    → ((k : ℕ) → k < 64 → bit_at mask k ≡ 0 → get_or bytes k 0 ≡ 0)
    → line_bytes_in mask (encode_lower bytes) ≡ Some bytes
line_bytes_back mask bytes sized fits outside =
    let clear : unmasked_zeros mask 0 bytes ≡ None =
    unmasked_from mask 0 bytes (λ k below out. outside k (omega (arith, sized)) (rw zero-add at out)) in
    ap (if_masked mask) (bytes_back 64 bytes sized fits)
    ∙ ap (λ o. if nothing o then Some bytes else None) clear
