-- The program that every hart runs, and the image that holds it.
use Rattle.std.specs.Prelude.{ℕ, ◌+◌, ◌*◌, pos, negsuc, true, false, List, [], ◌∷◌, map, slice_index}
use Rattle.std.specs.Int.{w32, to_le_bytes}
use Rattle.std.specs.List.{flat_map}
use Rattle.rv_decode.specs.declared.instruction.Insn.{Insn}
use Rattle.rv_decode.specs.declared.instruction.Insn.TheVariants.{Jal, Load, Store, Fence, Amo}
use Rattle.rv_decode.specs.declared.operations.LoadOp.TheVariants.{Lw, Ld}
use Rattle.rv_decode.specs.declared.operations.StoreOp.TheVariants.{Sd}
use Rattle.rv_decode.specs.declared.operations.AmoOp.TheVariants as amo
use Rattle.rv_decode.specs.Listing.{encoding}
use Rattle.elf_image.specs.Flat.{flat_segments}
use Rattle.elf_image.specs.Images.{Loaded, loaded_of}

-- where the program begins, and a run
abbrev pub program_base : ℕ
program_base = 0x8000_0000

-- where RAM begins, and the counter that all harts share: x10
abbrev pub counter_addr : ℕ
counter_addr = 0x8000_1000

-- how many bytes of RAM there are
abbrev pub ram_size : ℕ
ram_size = 0x2000

-- where a hart has a number of its own, on a line of its own: x11
abbrev pub own_addr : ℕ → ℕ
own_addr hart = 0x8000_2000 + 64 * hart

-- the program, which goes round and round
abbrev pub program : List Insn
program =
    Load Ld 5 10 (pos 0)  -- ld x5,0(x10)
    ∷ Store Sd 11 5 (pos 0)  -- sd x5,0(x11)
    ∷ Load Lw 9 11 (pos 0)  -- lw x9,0(x11)
    ∷ Amo amo.Add true false false 6 10 12  -- amoadd.d x6,x12,(x10)
    ∷ Fence 0b0000 0b0011 0b0011 0 0  -- fence rw,rw
    ∷ Load Ld 8 11 (pos 0)  -- ld x8,0(x11)
    ∷ Jal 0 (negsuc 23)  -- jal x0,-24
    ∷ []

-- its words
abbrev pub program_words : List ℕ
program_words = map encoding program

-- the address of instruction k of the program, from 0
abbrev pub pc_of : ℕ → ℕ
pc_of k = program_base + 4 * k

-- its word
abbrev pub word_of : ℕ → ℕ
word_of k = slice_index program_words k

-- the words as the bytes of a flat file
abbrev pub program_bytes : List ℕ
program_bytes = flat_map (to_le_bytes w32) program_words

-- the image: the program, and RAM
abbrev pub made_image : Loaded
made_image =
    loaded_of
    (record {
      entry = program_base;
      segments = flat_segments program_bytes program_base;
      rams = record { base = counter_addr; size = ram_size } ∷ [];
    })
