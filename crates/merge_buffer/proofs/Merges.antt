-- A line and one byte or piece more.
use Rattle.std.proofs.Common.{ℕ, ◌≡◌, ◌≢◌, ◌+◌, ◌-◌, ◌*◌, ◌/◌, ◌%◌, ◌^◌, ◌<◌, ◌≤◌, ◌==◌, inl, inr, Bool, false}
use Rattle.std.proofs.Common.{length, get_or, set, Option, None, Some, bit_or, refl, sym, ap, ◌∙◌, subst, arith}
use Rattle.std.proofs.Common.{if◌then◌else◌}
use Rattle.std.proofs.lemmas.Bool.{cases_eq}
use Rattle.std.proofs.lemmas.Bool.Decides.{nat_tests}
use Rattle.std.proofs.lemmas.List.{get_or-set_same, get_or-set_other}
use Rattle.tandem_base.specs.Extents.{is_among}
use Rattle.msg_frames.specs.declared.message.Piece.{Piece}
use Rattle.std.specs.Int.{bit_at}
use Rattle.merge_buffer.specs.declared.merging.Merged.{Merged}
use Rattle.merge_buffer.specs.Parts.{}
use Rattle.tandem_base.specs.FirstFault.{◌or_else◌}
use Rattle.merge_buffer.specs.Chains.{merged_byte}
use Rattle.merge_buffer.proofs.Bits.{set_there, set_others}

module _ (m : Merged) (k byte : ℕ) (size : length m.bytes ≡ 64) (below : k < 64) where
  abbrev added : Merged
  added = record { mask = bit_or m.mask (1 * 2 ^ k % 2 ^ 64); bytes = set m.bytes k byte }

  pub added_there : (bit_at m.mask k == 1) ≡ false → merged_byte added k ≡ ◌or_else◌ (merged_byte m k) (Some byte)
  added_there e =
      let s = set_there m.mask k below in
      let g = get_or-set_same m.bytes k byte 0 (omega (arith, size)) in
      ap (λ (x : ℕ). if x == 1 then Some (get_or (set m.bytes k byte) k 0) else None) s
      ∙ ap (λ (x : ℕ). Some x) g
      ∙ sym (ap (λ (b : Bool). ◌or_else◌ (if b then Some (get_or m.bytes k 0) else None) (Some byte)) e)

  pub added_others : (j : ℕ) → j ≢ k → merged_byte added j ≡ merged_byte m j
  added_others j d =
      let s = set_others m.mask k j below d in
      let g = get_or-set_other m.bytes k j byte 0 d in
      ap (λ (x : ℕ). if x == 1 then Some (get_or (set m.bytes k byte) j 0) else None) s
      ∙ ap (λ (x : ℕ). if bit_at m.mask j == 1 then Some x else None) g

-- the byte at x of the first `count` bytes of a piece
abbrev pub front_byte : Piece → ℕ → ℕ → Option ℕ
front_byte piece count x =
    if is_among piece.addr count x then Some (get_or piece.bytes (x - piece.addr) 0) else None

pub or_else_none : (a : Option ℕ) → ◌or_else◌ a None ≡ a
or_else_none None = refl
or_else_none (Some x) = refl

pub or_else_assoc : (a b c : Option ℕ) → ◌or_else◌ (◌or_else◌ a b) c ≡ ◌or_else◌ a (◌or_else◌ b c)
or_else_assoc None b c = refl
or_else_assoc (Some x) b c = refl

module _ (piece : Piece) (old now new : Merged) (line k byte : ℕ)
    (within : piece.addr % 64 + length piece.bytes ≤ 64) (on : piece.addr / 64 ≡ line) (more : k < length piece.bytes)
    (so_far : (j : ℕ) → j < 64 → merged_byte now j ≡ ◌or_else◌ (merged_byte old j) (front_byte piece k (line * 64 + j)))
    (is : byte ≡ get_or piece.bytes k 0)
    (there : merged_byte new (piece.addr % 64 + k) ≡ ◌or_else◌ (merged_byte now (piece.addr % 64 + k)) (Some byte))
    (others : (j : ℕ) → j ≢ piece.addr % 64 + k → merged_byte new j ≡ merged_byte now j) where
  place : line * 64 + (piece.addr % 64 + k) ≡ piece.addr + k
  place = omega (arith, on)

  not_yet : front_byte piece k (line * 64 + (piece.addr % 64 + k)) ≡ None
  not_yet = ap (front_byte piece k) place ∙ none
    where
      none : front_byte piece k (piece.addr + k) ≡ None
      none = grind (arith, nat_tests)

  now_there : front_byte piece (k + 1) (line * 64 + (piece.addr % 64 + k)) ≡ Some byte
  now_there = ap (front_byte piece (k + 1)) place ∙ some ∙ ap (λ (x : ℕ). Some x) (sym is)
    where
      back : piece.addr + k - piece.addr ≡ k
      back = omega arith

      some : front_byte piece (k + 1) (piece.addr + k) ≡ Some (get_or piece.bytes k 0)
      some = grind (arith, nat_tests, back)

  elsewhere : (x : ℕ) → x ≢ piece.addr + k → front_byte piece (k + 1) x ≡ front_byte piece k x
  elsewhere x d = grind (arith, nat_tests)

  pub merge_more : (j : ℕ) → j < 64
      → merged_byte new j ≡ ◌or_else◌ (merged_byte old j) (front_byte piece (k + 1) (line * 64 + j))
  merge_more j l = elim (cases_eq j (piece.addr % 64 + k)) [
    | inl s ↦ subst
        (λ (i : ℕ). merged_byte new i ≡ ◌or_else◌ (merged_byte old i) (front_byte piece (k + 1) (line * 64 + i)))
        (sym s) here
    | inr d ↦ others j d ∙ so_far j l
        ∙ ap (◌or_else◌ (merged_byte old j)) (sym (elsewhere (line * 64 + j) (λ e. d (omega (arith, e, on)))))
  ]
    where
      i : ℕ
      i = piece.addr % 64 + k

      here : merged_byte new (piece.addr % 64 + k) ≡ ◌or_else◌ (merged_byte old (piece.addr % 64 + k))
          (front_byte piece (k + 1) (line * 64 + (piece.addr % 64 + k)))
      here =
          let a = so_far (piece.addr % 64 + k) (omega arith) in
          let b : merged_byte now (piece.addr % 64 + k) ≡ merged_byte old (piece.addr % 64 + k) = a
          ∙ ap (◌or_else◌ (merged_byte old (piece.addr % 64 + k))) not_yet
          ∙ or_else_none (merged_byte old (piece.addr % 64 + k)) in
          there ∙ ap (λ (o : Option ℕ). ◌or_else◌ o (Some byte)) b
          ∙ ap (◌or_else◌ (merged_byte old (piece.addr % 64 + k))) (sym now_there)
