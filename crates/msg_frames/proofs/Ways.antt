-- What a reading that gave a message went through.
use Rattle.std.proofs.Common.{◌≡◌, ℕ, ◌+◌, ◌≤◌, true, cond, List, length, refl, sym, ◌∙◌, ap, arith, inl, inr}
use Rattle.std.proofs.Common.{Option, Some, None, Ok}
use Rattle.std.specs.Prelude.{◌==◌, nat_le, ◌&&◌}
use Rattle.std.proofs.lemmas.Bool.{eqb-true}
use Rattle.std.proofs.lemmas.Bool.Decides.{nat_tests}
use Rattle.tandem_base.specs.FirstFault.{unless}
use Rattle.msg_frames.specs.declared.message.Message.{Message}
use Rattle.msg_frames.specs.declared.kinds.Kind.{Kind}
use Rattle.msg_frames.specs.declared.kinds.Kind.TheVariants as kind
use Rattle.tandem_base.specs.Fields.{u8_at, u16_at}
use Rattle.msg_frames.specs.Kinds.{code_of, kind_coded, has_length}
use Rattle.msg_frames.specs.Reading.{field_fault, message_in, has_stated_length, reading_of, reading}
use Rattle.msg_frames.proofs.Steps.{unless_ok, chosen, chosen_ok}

pub record Read (bytes : List ℕ) (message : Message) : Type 0 where
  pub which : Kind
  pub coded : kind_coded (u8_at 2 bytes) ≡ Some which
  pub length : has_length which (u16_at 0 bytes) ≡ true
  pub checked : field_fault which bytes ≡ None
  pub value : message_in which bytes ≡ message

read_of : (o : Option Kind) (bytes : List ℕ) (message : Message) → o ≡ kind_coded (u8_at 2 bytes)
    → reading_of o bytes ≡ Ok message → Read bytes message
unfolding reading_of
read_of None bytes message o e = cc
read_of (Some which) bytes message o e =
    let way = chosen_ok (has_length which (u16_at 0 bytes)) (unless (field_fault which bytes)
    (message_in which bytes)) _ message e in
    let last = unless_ok (field_fault which bytes) (message_in which bytes) message way.1 in
    record { which = which; coded = sym o; length = way.0; checked = last.0; value = last.1 }

pub reading_ok : (bytes : List ℕ) (message : Message) → reading bytes ≡ Ok message
    → (has_stated_length bytes ≡ true) × Read bytes message
unfolding reading
reading_ok bytes message e =
    let way = chosen_ok (has_stated_length bytes) (reading_of (kind_coded (u8_at 2 bytes)) bytes) _ message e in
    (way.0, read_of (kind_coded (u8_at 2 bytes)) bytes message refl way.1)

coded_else : (code n : ℕ) (k : Kind) (rest : Option Kind) (which : Kind) → code_of k ≡ n
    → cond (code == n) (Some k) rest ≡ Some which
    → (rest ≡ Some which → code ≡ code_of which) → code ≡ code_of which
coded_else code n k rest which c e later =
    elim (chosen (code == n) (Some k) rest (Some which) e) [
      | inl way ↦ let same : k ≡ which = cc in eqb-true code n way.0 ∙ sym c ∙ ap code_of same
      | inr way ↦ later way.1
    ]

-- the byte of a kind is its code
pub coded_is : (code : ℕ) (which : Kind) → kind_coded code ≡ Some which → code ≡ code_of which
coded_is code which e =
    coded_else code 1 kind.Open _ which refl e (λ e. coded_else code 2 kind.Poke _ which refl e
    (λ e. coded_else code 3 kind.Read _ which refl e (λ e.
    coded_else code 4 kind.Insert _ which refl e (λ e. coded_else code 5 kind.Write _ which refl e
    (λ e. coded_else code 6 kind.Bypass _ which refl e (λ e.
    coded_else code 7 kind.Retire _ which refl e (λ e. coded_else code 8 kind.Squash _ which refl e
    (λ e. coded_else code 9 kind.End _ which refl e (λ e. cc)))))))))

-- the length of a whole frame
pub record Whole (bytes : List ℕ) : Type 0 where
  pub low : 18 ≤ u16_at 0 bytes
  pub high : u16_at 0 bytes ≤ 512
  pub size : length bytes ≡ u16_at 0 bytes + 2

whole_low : (n size : ℕ) → (nat_le 2 n && (nat_le 18 size && nat_le size 512) && n == size + 2) ≡ true → 18 ≤ size
whole_low n size e = grind (arith, nat_tests)

whole_high : (n size : ℕ) → (nat_le 2 n && (nat_le 18 size && nat_le size 512) && n == size + 2) ≡ true → size ≤ 512
whole_high n size e = grind (arith, nat_tests)

whole_size : (n size : ℕ) → (nat_le 2 n && (nat_le 18 size && nat_le size 512) && n == size + 2) ≡ true → n ≡ size + 2
whole_size n size e = grind (arith, nat_tests)

pub whole_is : (bytes : List ℕ) → has_stated_length bytes ≡ true → Whole bytes
whole_is bytes e = record {
  low = whole_low (length bytes) (u16_at 0 bytes) e;
  high = whole_high (length bytes) (u16_at 0 bytes) e;
  size = whole_size (length bytes) (u16_at 0 bytes) e;
}
