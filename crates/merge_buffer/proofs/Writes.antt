-- A Write against what waits, and the lists by line.
use Rattle.std.proofs.Common.{ℕ, zero, suc, ◌≡◌, ◌+◌, ◌-◌, ◌*◌, ◌<◌, ◌≤◌, ◌==◌, inl, inr, Bool, true}
use Rattle.std.proofs.Common.{List, [], ◌∷◌, Option, None, Some, refl, sym, ap, ◌∙◌, subst, arith, if◌then◌else◌}
use Rattle.std.proofs.lemmas.Bool.{cases_eq}
use Rattle.std.proofs.lemmas.Bool.Decides.{nat_tests}
use Rattle.tandem_base.specs.Extents.{is_among}
use Rattle.slab.specs.Slab.{Slab, get}
use Rattle.key_tree.specs.Entries.{number_of}
use Rattle.msg_frames.specs.declared.message.LineWrite.{LineWrite}
use Rattle.merge_buffer.specs.declared.merging.Merged.{Merged}
use Rattle.merge_buffer.specs.declared.merging.Difference.{Difference}
use Rattle.merge_buffer.specs.declared.waiting.Part.{Part}
use Rattle.merge_buffer.specs.declared.waiting.Waiting.{Waiting}
use Rattle.msg_frames.specs.Pieces.{byte_written}
use Rattle.merge_buffer.specs.Parts.{latest_byte, SameByte, Matches, DiffersAt}
use Rattle.merge_buffer.specs.Chains.{chain_of, merged_byte, IsFirstDifference}
use Rattle.merge_buffer.specs.Buffers.{list_at, lines_of}
use Rattle.merge_buffer.proofs.Equality.{same_line, other_line}

chain_none : (n : ℕ) (at : ℕ → Option Waiting) → chain_of n at None ≡ []
chain_none zero at = refl
chain_none (suc n) at = refl

pub lines_are : (n : ℕ) (waiting : Slab Waiting) (es : List (ℕ × ℕ)) (line : ℕ)
    → list_at (lines_of n waiting es) line ≡ chain_of n (get waiting) (number_of es line)
lines_are n waiting [] line = sym (chain_none n (get waiting))
lines_are n waiting (e ∷ es) line = elim (cases_eq e.0 line) [
  | inl s ↦
      let t : (e.0 == line) ≡ true = ap (λ (x : ℕ). x == line) s ∙ same_line line in
      ap (λ (b : Bool). if b then chain_of n (get waiting) (Some e.1) else list_at (lines_of n waiting es) line) t
      ∙ ap (λ (b : Bool). chain_of n (get waiting) (if b then Some e.1 else number_of es line)) (sym t)
  | inr d ↦
      let t = other_line e.0 line d in
      ap (λ (b : Bool). if b then chain_of n (get waiting) (Some e.1) else list_at (lines_of n waiting es) line) t
      ∙ lines_are n waiting es line
      ∙ ap (λ (b : Bool). chain_of n (get waiting) (if b then Some e.1 else number_of es line)) (sym t)
]

module _ (ps : List Part) (merged : Merged) (write : LineWrite) (line : ℕ) (at : line * 64 ≡ write.line)
    (are : (k : ℕ) → k < 64 → merged_byte merged k ≡ latest_byte ps (line * 64 + k)) where
  byte_is : (k : ℕ) → k < 64 → merged_byte merged k ≡ latest_byte ps (write.line + k)
  byte_is k l = are k l ∙ ap (λ (x : ℕ). latest_byte ps (x + k)) at

  pub matches : ((k : ℕ) → k < 64 → merged_byte merged k ≡ byte_written write (write.line + k)) → Matches ps write
  matches same x i =
      let low : write.line ≤ x = grind (arith, nat_tests) in
      let high : x < write.line + 64 = grind (arith, nat_tests) in
      let is : write.line + (x - write.line) ≡ x = omega arith in
      subst (λ (y : ℕ). SameByte ps write y) is
      (sym (byte_is (x - write.line) (omega arith)) ∙ same (x - write.line) (omega arith))

  pub differs : (d : Difference) → IsFirstDifference merged write d → DiffersAt ps write d
  differs d f = record {
    inside = ap (is_among write.line 64) f.at ∙ among f.k f.inside;
    waits = ap (latest_byte ps) f.at ∙ sym (byte_is f.k f.inside) ∙ f.want;
    reported = ap (byte_written write) f.at ∙ f.got;
    differ = f.differ;
    lowest = λ x low high. (
        let is : write.line + (x - write.line) ≡ x = omega arith in
        let below : x - write.line < f.k = omega (arith, f.at) in
        subst (λ (y : ℕ). SameByte ps write y) is
        (sym (byte_is (x - write.line) (omega (arith, f.inside))) ∙ f.lowest (x - write.line) below));
  }
    where
      among : (k : ℕ) → k < 64 → is_among write.line 64 (write.line + k) ≡ true
      among k l = grind (arith, nat_tests)
