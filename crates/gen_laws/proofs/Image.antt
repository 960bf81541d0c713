-- What is found in the image that is made: the program, and RAM.
use Rattle.std.proofs.Common.{◌≡◌, ℕ, zero, suc, ◌+◌, ◌<◌, ◌≤◌, ◌^◌, [], ◌∷◌, true, false, refl}
use Rattle.std.proofs.Common.{Some, None, is_some, pos, negsuc, arith}
use Rattle.std.specs.declared.option.Option.{Option}
use Rattle.std.specs.Option.{option_or}
use Rattle.std.proofs.lemmas.Bool.{le-leb, lt-ltb, and_from}
use Rattle.elf_image.specs.Images.{word_at, image_byte, ram_byte}
use Rattle.rv_decode.specs.Decoding.{decoding}
use Rattle.rv_decode.specs.declared.instruction.Insn.TheVariants.{Jal, Load, Store, Fence, Amo}
use Rattle.rv_decode.specs.declared.operations.LoadOp.TheVariants.{Lw, Ld}
use Rattle.rv_decode.specs.declared.operations.StoreOp.TheVariants.{Sd}
use Rattle.rv_decode.specs.declared.operations.AmoOp.TheVariants as amo
use Rattle.rv_step.specs.Plans.{has_bytes, is_held}
use Rattle.trace_gen.specs.Program.{made_image, pc_of, word_of}

-- the words of the program
pub word_0 : word_at made_image (pc_of 0) ≡ Some (word_of 0)
unfolding word_at image_byte
word_0 = refl

pub word_1 : word_at made_image (pc_of 1) ≡ Some (word_of 1)
unfolding word_at image_byte
word_1 = refl

pub word_2 : word_at made_image (pc_of 2) ≡ Some (word_of 2)
unfolding word_at image_byte
word_2 = refl

pub word_3 : word_at made_image (pc_of 3) ≡ Some (word_of 3)
unfolding word_at image_byte
word_3 = refl

pub word_4 : word_at made_image (pc_of 4) ≡ Some (word_of 4)
unfolding word_at image_byte
word_4 = refl

pub word_5 : word_at made_image (pc_of 5) ≡ Some (word_of 5)
unfolding word_at image_byte
word_5 = refl

pub word_6 : word_at made_image (pc_of 6) ≡ Some (word_of 6)
unfolding word_at image_byte
word_6 = refl

-- what they encode
pub decoded_0 : decoding (word_of 0) ≡ Some (Load Ld 5 10 (pos 0))
unfolding decoding
decoded_0 = refl

pub decoded_1 : decoding (word_of 1) ≡ Some (Store Sd 11 5 (pos 0))
unfolding decoding
decoded_1 = refl

pub decoded_2 : decoding (word_of 2) ≡ Some (Load Lw 9 11 (pos 0))
unfolding decoding
decoded_2 = refl

pub decoded_3 : decoding (word_of 3) ≡ Some (Amo amo.Add true false false 6 10 12)
unfolding decoding
decoded_3 = refl

pub decoded_4 : decoding (word_of 4) ≡ Some (Fence 0b0000 0b0011 0b0011 0 0)
unfolding decoding
decoded_4 = refl

pub decoded_5 : decoding (word_of 5) ≡ Some (Load Ld 8 11 (pos 0))
unfolding decoding
decoded_5 = refl

pub decoded_6 : decoding (word_of 6) ≡ Some (Jal 0 (negsuc 23))
unfolding decoding
decoded_6 = refl

some_second : (a b : Option ℕ) → is_some b ≡ true → is_some (option_or a b) ≡ true
some_second None b e = e
some_second (Some x) b e = refl

ram_some : (x : ℕ) → 0x8000_1000 ≤ x → x < 0x8000_3000
    → is_some (ram_byte (record { base = 0x8000_1000; size = 0x2000 } ∷ []) x) ≡ true
ram_some x low high = rw (and_from _ _ (le-leb 0x8000_1000 x low) (lt-ltb x 0x8000_3000 high)) refl

byte_some : (x : ℕ) → 0x8000_1000 ≤ x → x < 0x8000_3000 → is_some (made_image.byte_at x) ≡ true
unfolding image_byte
byte_some x low high = some_second _ (ram_byte (record { base = 0x8000_1000; size = 0x2000 } ∷ []) x)
    (ram_some x low high)

all_some : (addr len : ℕ) → 0x8000_1000 ≤ addr → addr + len ≤ 0x8000_3000 → has_bytes made_image addr len ≡ true
unfolding has_bytes
all_some addr zero low high = refl
all_some addr (suc len) low high =
    and_from (has_bytes made_image addr len) _ (all_some addr len low (omega (arith, high)))
    (byte_some (addr + len) (omega (arith, low)) (omega (arith, high)))

-- RAM is in the image
pub ram_held : (addr len : ℕ) → 0x8000_1000 ≤ addr → addr + len ≤ 0x8000_3000 → is_held made_image addr len ≡ true
ram_held addr len low high =
    and_from _ _ (le-leb (addr + len) (2 ^ 64) (omega (arith, high))) (all_some addr len low high)
