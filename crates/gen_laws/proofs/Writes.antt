-- A Write brings just what waits in its line.
use Rattle.std.proofs.Common.{ℕ, zero, suc, ◌≡◌, ◌+◌, ◌-◌, ◌<◌, ◌≤◌, ◌==◌, not, nat_lt, nat_le, nat_eq, List, [], ◌∷◌}
use Rattle.std.proofs.Common.{◌++◌, replicate, slice_index, Bool, true, false, cond, refl, ap, ◌∙◌, arith}
use Rattle.std.proofs.Common.{Some, None}
use Rattle.std.specs.Int.{bit_at}
use Rattle.std.specs.List.{filter}
use Rattle.std.specs.declared.option.Option.{Option}
use Rattle.std.specs.Option.{option_eq, option_or}
use Rattle.std.proofs.lemmas.Bool.{eq-eqb, le-leb, lt-ltb, le-ltb, ltb-true, ltb-false, and_from, and_right}
use Rattle.std.proofs.lemmas.Bool.{agree_below_at}
use Rattle.msg_frames.specs.declared.message.Piece.{Piece}
use Rattle.msg_frames.specs.declared.message.LineWrite.{LineWrite}
use Rattle.msg_frames.specs.Pieces.{has, byte_in, byte_written}
use Rattle.matching.specs.declared.stores.Held.{Held}
use Rattle.matching.specs.Pieces.{line_start}
use Rattle.matching.specs.PartFaults.{merge_fault_of, merge_fault_in, first_unmerged, byte_waiting}
use Rattle.matching.specs.Tables.{is_in}
use Rattle.trace_gen.specs.Program.{own_addr}
use Rattle.trace_gen.specs.Rounds.{bytes_of_number}
use Rattle.gen_laws.proofs.ReadBytes.{first_none}
use Rattle.gen_laws.proofs.States.{HasInsert, number_at}
use Rattle.gen_laws.proofs.Stores.{same_option}

-- the Write of a number at the front of a line
abbrev pub write_of : ℕ → ℕ → LineWrite
write_of line value = record { line = line; mask = 0xff; bytes = bytes_of_number value ++ replicate 56 0 }

front_is : (value k : ℕ) → k < 8
    → slice_index (bytes_of_number value ++ replicate 56 0) k ≡ slice_index (bytes_of_number value) k
front_is value zero lt = refl
front_is value (suc zero) lt = refl
front_is value (suc (suc zero)) lt = refl
front_is value (suc (suc (suc zero))) lt = refl
front_is value (suc (suc (suc (suc zero)))) lt = refl
front_is value (suc (suc (suc (suc (suc zero))))) lt = refl
front_is value (suc (suc (suc (suc (suc (suc zero)))))) lt = refl
front_is value (suc (suc (suc (suc (suc (suc (suc zero))))))) lt = refl
front_is value (suc (suc (suc (suc (suc (suc (suc (suc k)))))))) lt = absurd (omega (arith, lt))

mask_is : (k : ℕ) → k < 64 → (bit_at 0xff k == 1) ≡ nat_lt k 8
mask_is k lt = agree_below_at (λ (i : ℕ). bit_at 0xff i == 1) (λ (i : ℕ). nat_lt i 8) 64 k refl lt

-- the byte k behind the front
abbrev byte_behind : ℕ → ℕ → Option ℕ
byte_behind value k = cond (nat_lt k 8) (Some (slice_index (bytes_of_number value) k)) None

waits : (line value k : ℕ) (b : Bool) → nat_lt k 8 ≡ b → byte_in (number_at line value) (line + k) ≡ byte_behind value k
waits line value k true e =
    let lt : k < 8 = ltb-true k 8 e in
    let back : line + k - line ≡ k = omega arith in
    rw (and_from _ _ (le-leb line (line + k) (omega arith)) (lt-ltb (line + k) (line + 8) (omega (arith, lt))), back, e)
    refl
waits line value k false e =
    let le : 8 ≤ k = ltb-false k 8 e in
    rw (and_right (nat_le line (line + k)) _ (le-ltb (line + k) (line + 8) (omega (arith, le))), e) refl

comes : (line value k : ℕ) (b : Bool) → k < 64 → nat_lt k 8 ≡ b
    → byte_written (write_of line value) (line + k) ≡ byte_behind value k
comes line value k true lt e =
    let small : k < 8 = ltb-true k 8 e in
    let back : line + k - line ≡ k = omega arith in
    rw (back, mask_is k lt, e, front_is value k small) refl
comes line value k false lt e =
    let back : line + k - line ≡ k = omega arith in
    rw (back, mask_is k lt, e) refl

only_one : (o : Option ℕ) → option_or o None ≡ o
only_one None = refl
only_one (Some x) = refl

alike : (a b o : Option ℕ) → a ≡ o → b ≡ o → not (option_eq nat_eq a b) ≡ false
alike a b o e f = rw (e, f) (same_option o)

none_unmerged : (held : Held) (line value : ℕ) → held.piece ≡ number_at line value
    → first_unmerged (held ∷ []) (write_of line value) ≡ None
unfolding first_unmerged
none_unmerged held line value here =
    first_none _ 64 (λ k lt. alike (byte_waiting (held ∷ []) (line + k)) (byte_written (write_of line value) (line + k))
    (byte_behind value k)
    (only_one (byte_in held.piece (line + k)) ∙ ap (λ (p : Piece). byte_in p (line + k)) here
    ∙ waits line value k (nat_lt k 8) refl)
    (comes line value k (nat_lt k 8) lt refl))

in_line : (h value : ℕ) (e : Held) → e.piece ≡ number_at (own_addr h) value → is_in (own_addr h) e ≡ true
in_line h value e here =
    ap (λ (p : Piece). line_start p.addr == own_addr h) here
    ∙ eq-eqb (line_start (own_addr h)) (own_addr h) (omega arith)

-- the Write of what waits has no fault
pub merge_fine : (h value : ℕ) (es : List Held) → HasInsert (number_at (own_addr h) value) es
    → merge_fault_of (filter (is_in (own_addr h)) es) (write_of (own_addr h) value) ≡ None
merge_fine h value es has =
    let write = write_of (own_addr h) value in
    ap (λ (ds : List Held). merge_fault_of (filter (is_in (own_addr h)) ds) write) has.is
    ∙ ap (λ (b : Bool). merge_fault_of (cond b (has.held ∷ []) []) write) (in_line h value has.held has.here)
    ∙ ap (merge_fault_in (has.held ∷ []) write) (none_unmerged has.held (own_addr h) value has.here)

-- and nothing waits behind it
pub none_waits : (h value : ℕ) (es : List Held) → HasInsert (number_at (own_addr h) value) es
    → filter (λ (e : Held). not (is_in (own_addr h) e)) es ≡ []
none_waits h value es has =
    ap (filter (λ (e : Held). not (is_in (own_addr h) e))) has.is
    ∙ ap (λ (b : Bool). cond (not b) (has.held ∷ []) []) (in_line h value has.held has.here)
