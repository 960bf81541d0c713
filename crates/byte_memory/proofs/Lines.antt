-- Bytes of a line.
use Rattle.std.proofs.Common.{ℕ, zero, suc, ◌≡◌, ◌≢◌, ◌+◌, ◌-◌, ◌*◌, ◌/◌, ◌%◌, ◌<◌, ◌≤◌, inl, inr, Option, None}
use Rattle.std.proofs.Common.{Some, slice_index, get_or, replicate, refl, sym, ap, ◌∙◌, subst, arith}
use Rattle.std.proofs.lemmas.Bool.{cases_eq}
use Rattle.std.proofs.lemmas.Bool.Decides.{nat_tests}
use Rattle.msg_frames.specs.declared.message.Piece.{Piece}
use Rattle.byte_memory.specs.declared.line.Line.{Line}
use Rattle.byte_memory.specs.declared.writer.Writer.{Writer}
use Rattle.byte_memory.specs.Memory.{Written, written_in, after_part, overwritten}

pub none_of_none : {X : Type 0} (n k : ℕ) → get_or {A = Option X} (replicate n None) k None ≡ None
none_of_none zero k = refl
none_of_none (suc n) zero = refl
none_of_none (suc n) (suc k) = none_of_none n k

-- one byte more of a store
module _ (piece : Piece) (first k : ℕ) (w : Writer) (old now new : Line) (line : ℕ) (some : first ≤ k)
    (from : line * 64 ≤ piece.addr + first) (to : piece.addr + k < (line + 1) * 64)
    (so_far : (x : ℕ) → x / 64 ≡ line → written_in now (x % 64) ≡ after_part piece first k w x
    (written_in old (x % 64)))
    (there : written_in new ((piece.addr + k) % 64) ≡ Some (overwritten (written_in now ((piece.addr + k) % 64)) w
    (slice_index piece.bytes k)))
    (others : (j : ℕ) → j ≢ (piece.addr + k) % 64 → written_in new j ≡ written_in now j) where
  at_it : after_part piece first (k + 1) w (piece.addr + k) (written_in old ((piece.addr + k) % 64)) ≡ Some
      (overwritten (written_in old ((piece.addr + k) % 64)) w (slice_index piece.bytes k))
  at_it = let e : piece.addr + k - piece.addr ≡ k = omega arith in grind (arith, nat_tests)

  not_yet : after_part piece first k w (piece.addr + k) (written_in old ((piece.addr + k) % 64)) ≡ written_in old
      ((piece.addr + k) % 64)
  not_yet = grind (arith, nat_tests)

  elsewhere : (x : ℕ) → x ≢ piece.addr + k → (was : Option Written)
      → after_part piece first (k + 1) w x was ≡ after_part piece first k w x was
  elsewhere x n was = grind (arith, nat_tests)

  pub part_more : (x : ℕ) → x / 64 ≡ line → written_in new (x % 64) ≡ after_part piece first (k + 1) w x
      (written_in old (x % 64))
  part_more x e = elim (cases_eq x (piece.addr + k)) [
    | inl i ↦ subst (λ (y : ℕ). written_in new (y % 64) ≡ after_part piece first (k + 1) w y
        (written_in old (y % 64))) (sym i)
        (there ∙ ap (λ (o : Option Written). Some (overwritten o w (slice_index piece.bytes k)))
        (so_far (piece.addr + k) (omega arith) ∙ not_yet) ∙ sym at_it)
    | inr n ↦ others (x % 64) (λ r. n (omega (arith, r))) ∙ so_far x e ∙ sym (elsewhere x n (written_in old (x % 64)))
  ]
