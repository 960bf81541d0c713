-- The frame of a Retire is read again.
use Rattle.std.proofs.Common.{◌≡◌, ℕ, suc, ◌+◌, ◌*◌, ◌%◌, ◌/◌, ◌^◌, ◌≤◌, ◌<◌, Bool, true, cond, List, [], ◌∷◌}
use Rattle.std.proofs.Common.{length, refl, ◌∙◌, arith, Option, Some, None, IfSome, length-append}
use Rattle.std.specs.Prelude.{◌==◌, nat_lt, nat_le, ◌&&◌, ◌||◌, is_some, unwrap_or, All}
use Rattle.std.specs.Int.{w16, w64, to_le_bytes, from_le_bytes}
use Rattle.std.specs.List.{flat_map}
use Rattle.std.proofs.lemmas.Bool.{eq-eqb, le-leb, and_from}
use Rattle.std.proofs.lemmas.Bool.Decides.{nat_tests}
use Rattle.std.proofs.lemmas.Nat.{from_le_bytes-to_le_bytes_2, from_le_bytes-to_le_bytes_4, from_le_bytes-to_le_bytes_8}
use Rattle.msg_frames.specs.declared.csrs.CsrValue.{CsrValue}
use Rattle.msg_frames.specs.declared.message.Form.TheVariants as form
use Rattle.msg_frames.specs.declared.message.Head.{Head}
use Rattle.msg_frames.specs.declared.message.RdValue.{RdValue}
use Rattle.msg_frames.specs.declared.message.Retire.{Retire}
use Rattle.msg_frames.specs.declared.message.Body.TheVariants as body
use Rattle.msg_frames.specs.Frames.{retire_bytes, csr_bytes, flag, rd_number, rd_value, FitsBody, BodyInRange}
use Rattle.msg_frames.specs.Frames.{CsrInRange}
use Rattle.msg_frames.specs.Reading.{cause_fault, rd_fault, value_fault, rule, zeros, csrs_in}
use Rattle.msg_frames.proofs.Again.{Again, then_from, rule_from}

pub length-csrs : (csrs : List CsrValue) → length (flat_map csr_bytes csrs) ≡ 10 * length csrs
length-csrs [] = refl
length-csrs (csr ∷ csrs) = length-append (csr_bytes csr) (flat_map csr_bytes csrs) ∙ omega (arith, length-csrs csrs)

pub length_retire : (retire : Retire) → length (retire_bytes retire) ≡ 32 + 10 * length retire.csrs
length_retire retire = omega (arith, length-csrs retire.csrs)

-- ---- the CSRs

same_csr : (number number' value value' : ℕ) (rest rest' : List CsrValue) → number ≡ number' → value ≡ value'
    → rest ≡ rest'
    → record { number = number; value = value } ∷ rest ≡ record { number = number'; value = value' } ∷ rest'
same_csr number number' value value' rest rest' e f g = rw (e, f, g) refl

csrs_again : (csrs : List CsrValue) → All CsrInRange csrs → csrs_in (length csrs) (flat_map csr_bytes csrs) ≡ csrs
csrs_again [] holds = refl
csrs_again (csr ∷ csrs) holds =
    let first : CsrInRange csr = holds 0 csr (omega arith) in
    same_csr _ csr.number _ csr.value _ csrs (from_le_bytes-to_le_bytes_2 csr.number first.0)
    (from_le_bytes-to_le_bytes_8 csr.value first.1)
    (csrs_again csrs (λ k d below. holds (suc k) d (omega arith)))

-- ---- the trap and the register

few_flags : (trap : Option ℕ) (rd : Option RdValue) → nat_lt (flag 1 trap + flag 2 rd) 4 ≡ true
few_flags None None = refl
few_flags None (Some rd) = refl
few_flags (Some cause) None = refl
few_flags (Some cause) (Some rd) = refl

trap_bit : (trap : Option ℕ) (rd : Option RdValue) → ((flag 1 trap + flag 2 rd) % 2 == 1) ≡ is_some trap
trap_bit None None = refl
trap_bit None (Some rd) = refl
trap_bit (Some cause) None = refl
trap_bit (Some cause) (Some rd) = refl

rd_bit : (trap : Option ℕ) (rd : Option RdValue) → ((flag 1 trap + flag 2 rd) / 2 % 2 == 1) ≡ is_some rd
rd_bit None None = refl
rd_bit None (Some rd) = refl
rd_bit (Some cause) None = refl
rd_bit (Some cause) (Some rd) = refl

cause_from : (trapped : Bool) (trap : Option ℕ) → trapped ≡ is_some trap
    → cond trapped None (zeros 41 (unwrap_or trap 0 ∷ [])) ≡ None
cause_from trapped None e = rw e refl
cause_from trapped (Some cause) e = rw e refl

rd_from : (wrote : Bool) (rd : Option RdValue) → wrote ≡ is_some rd → IfSome rd (λ r. (1 ≤ r.number) × (r.number ≤ 31))
    → cond wrote (rule form.Field 42 (nat_le 1 (rd_number rd) && nat_le (rd_number rd) 31))
    (zeros 42 (rd_number rd ∷ [])) ≡ None
rd_from wrote None e fits = rw e refl
rd_from wrote (Some rd) e fits = rw e (rule_from form.Field 42 _ (and_from _ _ (le-leb 1 rd.number fits.0)
    (le-leb rd.number 31 fits.1)))

value_from : (wrote : Bool) (rd : Option RdValue) → wrote ≡ is_some rd
    → cond wrote None (zeros 44 (to_le_bytes w64 (rd_value rd))) ≡ None
value_from wrote None e = rw e refl
value_from wrote (Some rd) e = rw e refl

trap_again : (trapped : Bool) (trap : Option ℕ) → trapped ≡ is_some trap
    → cond trapped (Some (unwrap_or trap 0)) None ≡ trap
trap_again trapped None e = rw e refl
trap_again trapped (Some cause) e = rw e refl

rd_again : (wrote : Bool) (rd : Option RdValue) (value : ℕ) → wrote ≡ is_some rd → value ≡ rd_value rd
    → cond wrote (Some (record { number = rd_number rd; value = value })) None ≡ rd
rd_again wrote None value e f = rw e refl
rd_again wrote (Some rd) value e f = rw (e, f) refl

rd_value_below : (rd : Option RdValue) → IfSome rd (λ r. (r.number < 2 ^ 8) × (r.value < 2 ^ 64)) → rd_value rd < 2 ^ 64
rd_value_below None h = omega arith
rd_value_below (Some rd) h = h.1

-- ---- the whole

retire_allowed : (size count : ℕ) → size ≡ 50 + 10 * count → count ≤ 4
    → (size == 50 || size == 60 || size == 70 || size == 80 || size == 90) ≡ true
retire_allowed size count e few = grind (arith, nat_tests)

same_retire : (pc pc' word word' next next' : ℕ) (trap trap' : Option ℕ) (rd rd' : Option RdValue)
    (csrs csrs' : List CsrValue)
    → pc ≡ pc' → word ≡ word' → next ≡ next' → trap ≡ trap' → rd ≡ rd' → csrs ≡ csrs'
    → body.Retire (record { pc = pc; word = word; next = next; trap = trap; rd = rd; csrs = csrs })
    ≡ body.Retire (record { pc = pc'; word = word'; next = next'; trap = trap'; rd = rd'; csrs = csrs' })
same_retire pc pc' word word' next next' trap trap' rd rd' csrs csrs' p w n t r c = rw (p, w, n, t, r, c) refl

pub again_retire : (head : Head) (retire : Retire) → FitsBody head (body.Retire retire)
    → BodyInRange (body.Retire retire) → Again head (body.Retire retire)
unfolding cause_fault rd_fault value_fault
again_retire head retire fits holds =
    let size = length_retire retire in
    let few : length retire.csrs ≤ 4 = fits.1 in
    let lengths : from_le_bytes w16 (to_le_bytes w16 (18 + length (retire_bytes retire))) ≡ 18 + length
    (retire_bytes retire)
    = from_le_bytes-to_le_bytes_2 (18 + length (retire_bytes retire)) (omega arith) in
    let trapped = trap_bit retire.trap retire.rd in
    let wrote = rd_bit retire.trap retire.rd in
    record {
      few = omega arith;
      allowed = retire_allowed (18 + length (retire_bytes retire)) (length retire.csrs) (omega arith) few;
      checked = then_from (rule form.Reserved 40 (nat_lt (flag 1 retire.trap + flag 2 retire.rd) 4)) _
          (rule_from _ _ _ (few_flags retire.trap retire.rd))
          (then_from (cond ((flag 1 retire.trap + flag 2 retire.rd) % 2 == 1) None
          (zeros 41 (unwrap_or retire.trap 0 ∷ []))) _ (cause_from _ retire.trap trapped)
          (then_from (cond ((flag 1 retire.trap + flag 2 retire.rd) / 2 % 2 == 1)
          (rule form.Field 42 (nat_le 1 (rd_number retire.rd) && nat_le (rd_number retire.rd) 31))
          (zeros 42 (rd_number retire.rd ∷ [])))
          _ (rd_from _ retire.rd wrote fits.0)
          (then_from (rule form.Field 43 (50 + 10 * length retire.csrs == from_le_bytes w16
          (to_le_bytes w16 (18 + length (retire_bytes retire))))) _
          (rule_from _ _ _ (eq-eqb (50 + 10 * length retire.csrs)
          (from_le_bytes w16 (to_le_bytes w16 (18 + length (retire_bytes retire)))) (omega arith)))
          (value_from _ retire.rd wrote))));
      value = same_retire _ retire.pc _ retire.word _ retire.next _ retire.trap _ retire.rd _ retire.csrs
          (from_le_bytes-to_le_bytes_8 retire.pc holds.0) (from_le_bytes-to_le_bytes_4 retire.word holds.1)
          (from_le_bytes-to_le_bytes_8 retire.next holds.2)
          (trap_again _ retire.trap trapped)
          (rd_again _ retire.rd (from_le_bytes w64 (to_le_bytes w64 (rd_value retire.rd))) wrote
          (from_le_bytes-to_le_bytes_8 (rd_value retire.rd) (rd_value_below retire.rd holds.4)))
          (csrs_again retire.csrs holds.5);
    }
