-- What an instruction is to do: its kind and its bytes; and what a plain store stores.
use Rattle.std.proofs.Common.{ℕ, ◌+◌, ◌%◌, ◌^◌, ◌≤◌, ◌≡◌, ◌⊎◌, inl, inr, Bool, true, false, not, eqb, leb, ◌&&◌}
use Rattle.std.proofs.Common.{cond}
use Rattle.std.proofs.Common.{length, Option, Some, None, refl, sym, ap, subst, arith}
use Rattle.std.proofs.lemmas.Bool.{false≢true, and_parts, and_from, eqb-true, not-false, le-leb}
use Rattle.std.proofs.lemmas.List.{length-take-le}
use Rattle.std.specs.Int.{w64, to_le_bytes}
use Rattle.msg_frames.specs.declared.message.Piece.{Piece}
use Rattle.elf_image.specs.Images.{Loaded, word_at}
use Rattle.rv_decode.specs.declared.instruction.Insn.{Insn}
use Rattle.rv_decode.specs.declared.instruction.Insn.TheVariants.{Lui, Auipc, Jal, Jalr, Branch, Load, Store, AluImm}
use Rattle.rv_decode.specs.declared.instruction.Insn.TheVariants.{Alu, Fence, Ecall, Ebreak, Mret, Wfi, Csr, Lr, Sc}
use Rattle.rv_decode.specs.declared.instruction.Insn.TheVariants.{Amo}
use Rattle.rv_decode.specs.declared.operations.LoadOp.{LoadOp}
use Rattle.rv_decode.specs.declared.operations.LoadOp.TheVariants.{Lb, Lh, Lw, Ld, Lbu, Lhu, Lwu}
use Rattle.rv_decode.specs.declared.operations.StoreOp.{StoreOp}
use Rattle.rv_decode.specs.declared.operations.StoreOp.TheVariants.{Sb, Sh, Sw, Sd}
use Rattle.rv_decode.specs.Decoding.{decoding}
use Rattle.rv_decode.specs.Kinds.{is_load, is_store, is_lr, is_sc, is_amo}
use Rattle.rv_step.specs.declared.plan.Config.{Config}
use Rattle.rv_step.specs.declared.effect.Outside.{Outside}
use Rattle.rv_step.specs.CsrUse.{is_counter, is_legal_csr}
use Rattle.rv_step.specs.Harts.{HartState, x_of, plus}
use Rattle.rv_step.specs.Integers.{is_taken, without_low_bit}
use Rattle.rv_step.specs.Memory.{load_size, store_size, atomic_size, low_bytes}
use Rattle.rv_step.specs.Plans.{accessed, address_of, access_size, doing_of, doing_word, fault_cause, fault_of}
use Rattle.rv_step.specs.Plans.{illegal, is_held, has_bytes, jumps, misaligned_cause, must_align, plan_fetched, plan_of}
use Rattle.rv_step.specs.Promises.{is_plain, reads_counter}
use Rattle.rv_step.specs.Steps.{Doing, trap, plain, counter, load, store, lr, sc, amo, executed}
use Rattle.trace_model.specs.Extents.{is_extent}

-- an access of that kind, of some bytes
abbrev pub IsAccess : (Insn → Bool) → Insn → ℕ → ℕ → Type 0
IsAccess kind insn addr len = (kind insn ≡ true) × (is_extent addr len ≡ true)

-- what a hart is to do
abbrev pub IsPlanned : HartState → Doing → Type 0
IsPlanned hart (trap cause value) = Unit {0}
IsPlanned hart (plain insn) = is_plain insn ≡ true
IsPlanned hart (counter insn) = reads_counter insn ≡ true
IsPlanned hart (load insn addr len) = IsAccess is_load insn addr len
IsPlanned hart (store insn addr len) =
    IsAccess is_store insn addr len × (addr ≡ address_of hart insn) × (len ≡ access_size insn)
IsPlanned hart (lr insn addr len) = IsAccess is_lr insn addr len × (addr % len ≡ 0) × ((len ≡ 4) ⊎ (len ≡ 8))
IsPlanned hart (sc insn addr len) = IsAccess is_sc insn addr len
IsPlanned hart (amo insn addr len) = IsAccess is_amo insn addr len

-- ---- sizes

load_sized : (op : LoadOp) → (1 ≤ load_size op) × (load_size op ≤ 8)
load_sized Lb = (omega arith, omega arith)
load_sized Lh = (omega arith, omega arith)
load_sized Lw = (omega arith, omega arith)
load_sized Ld = (omega arith, omega arith)
load_sized Lbu = (omega arith, omega arith)
load_sized Lhu = (omega arith, omega arith)
load_sized Lwu = (omega arith, omega arith)

store_sized : (op : StoreOp) → (1 ≤ store_size op) × (store_size op ≤ 8)
store_sized Sb = (omega arith, omega arith)
store_sized Sh = (omega arith, omega arith)
store_sized Sw = (omega arith, omega arith)
store_sized Sd = (omega arith, omega arith)

atomic_sized : (wide : Bool) → (1 ≤ atomic_size wide) × (atomic_size wide ≤ 8)
atomic_sized true = (omega arith, omega arith)
atomic_sized false = (omega arith, omega arith)

atomic_is : (wide : Bool) → (atomic_size wide ≡ 4) ⊎ (atomic_size wide ≡ 8)
atomic_is true = inr refl
atomic_is false = inl refl

-- bytes in the image are an extent
held_extent : (image : Loaded) (addr len : ℕ) → (1 ≤ len) × (len ≤ 8) → is_held image addr len ≡ true
    → is_extent addr len ≡ true
held_extent image addr len sized held =
    and_from _ _ (and_from _ _ (le-leb 1 len sized.0) (le-leb len 8 sized.1))
    (and_parts (leb (addr + len) (2 ^ 64)) (has_bytes image addr len) held).0

-- ---- plans

-- a choice has what each of its sides has
choice : {X : Type 0} (P : X → Type 0) (test : Bool) (x y : X) → (test ≡ true → P x) → (test ≡ false → P y)
    → P (cond test x y)
choice P true x y first second = first refl
choice P false x y first second = second refl

-- no fault: the bytes are there, and aligned where they have to be
no_fault : (misaligned held : Bool) (m f : ℕ)
    → cond misaligned (Some m) (cond (not held) (Some f) None) ≡ None → (held ≡ true) × (misaligned ≡ false)
no_fault true held m f e = absurd (cc)
no_fault false true m f e = (refl, refl)
no_fault false false m f e = absurd (cc)

module _ (hart : HartState) (image : Loaded) (config : Config) where
  abbrev Planned : Doing → Type 0
  Planned d = IsPlanned hart d

  jumping : (insn : Insn) (target : ℕ) → is_plain insn ≡ true → Planned (jumps insn target)
  jumping insn target e = choice Planned (eqb (target % 4) 0) (plain insn) (trap _ target) (λ _. e) (λ _. tt)

  accessing : (fault : Option ℕ) (addr : ℕ) (d : Doing) → (fault ≡ None → Planned d) → Planned (accessed fault addr d)
  accessing None addr d there = there refl
  accessing (Some cause) addr d there = tt

  -- an access without a fault
  clean : (insn : Insn) → fault_of hart image config insn ≡ None
      → (is_held image (address_of hart insn) (access_size insn) ≡ true)
      × ((must_align config insn && not (eqb (address_of hart insn % access_size insn) 0)) ≡ false)
  clean insn e =
      no_fault (must_align config insn && not (eqb (address_of hart insn % access_size insn) 0))
      (is_held image (address_of hart insn) (access_size insn)) (misaligned_cause insn) (fault_cause insn) e

  held_of : (insn : Insn) → (1 ≤ access_size insn) × (access_size insn ≤ 8) → fault_of hart image config insn ≡ None
      → is_extent (address_of hart insn) (access_size insn) ≡ true
  held_of insn sized e = held_extent image (address_of hart insn) (access_size insn) sized (clean insn e).0

  doing : (word : ℕ) (insn : Insn) → Planned (doing_of hart image config word insn)
  doing word (Lui rd imm) = refl
  doing word (Auipc rd imm) = refl
  doing word (Jal rd imm) = jumping (Jal rd imm) (plus hart.pc imm) refl
  doing word (Jalr rd rs1 imm) = jumping (Jalr rd rs1 imm) (without_low_bit (plus (x_of hart rs1) imm)) refl
  doing word (Branch op rs1 rs2 imm) =
      choice Planned (is_taken op (x_of hart rs1) (x_of hart rs2)) (jumps (Branch op rs1 rs2 imm) (plus hart.pc imm))
      (plain (Branch op rs1 rs2 imm)) (λ _. jumping (Branch op rs1 rs2 imm) (plus hart.pc imm) refl) (λ _. refl)
  doing word (Load op rd rs1 imm) =
      accessing (fault_of hart image config (Load op rd rs1 imm)) (address_of hart (Load op rd rs1 imm)) _
      (λ e. (refl, held_of (Load op rd rs1 imm) (load_sized op) e))
  doing word (Store op rs1 rs2 imm) =
      accessing (fault_of hart image config (Store op rs1 rs2 imm)) (address_of hart (Store op rs1 rs2 imm)) _
      (λ e. ((refl, held_of (Store op rs1 rs2 imm) (store_sized op) e), refl, refl))
  doing word (AluImm op rd rs1 imm) = refl
  doing word (Alu op rd rs1 rs2) = refl
  doing word (Fence fm pred succ rd rs1) = refl
  doing word Ecall = tt
  doing word Ebreak = tt
  doing word Mret = refl
  doing word Wfi = refl
  doing word (Csr op rd source number) =
      choice Planned (not (is_legal_csr op source number)) (illegal config word) _ (λ _. tt)
      (λ _. choice Planned (is_counter number) (counter (Csr op rd source number)) (plain (Csr op rd source number))
      (λ e. e) (λ e. ap not e))
  doing word (Lr wide aq rl rd rs1) =
      accessing (fault_of hart image config (Lr wide aq rl rd rs1)) (x_of hart rs1) _
      (λ e. (
        (refl, held_of (Lr wide aq rl rd rs1) (atomic_sized wide) e),
        eqb-true _ 0 (not-false _ (clean (Lr wide aq rl rd rs1) e).1),
        atomic_is wide,
      ))
  doing word (Sc wide aq rl rd rs1 rs2) =
      accessing (fault_of hart image config (Sc wide aq rl rd rs1 rs2)) (x_of hart rs1) _
      (λ e. (refl, held_of (Sc wide aq rl rd rs1 rs2) (atomic_sized wide) e))
  doing word (Amo op wide aq rl rd rs1 rs2) =
      accessing (fault_of hart image config (Amo op wide aq rl rd rs1 rs2)) (x_of hart rs1) _
      (λ e. (refl, held_of (Amo op wide aq rl rd rs1 rs2) (atomic_sized wide) e))

  word_doing : (word : ℕ) (found : Option Insn) → Planned (doing_word hart image config word found)
  word_doing word None = tt
  word_doing word (Some insn) = doing word insn

  fetched : (found : Option ℕ) → Planned (plan_fetched hart image config found).doing
  fetched None = tt
  fetched (Some word) = word_doing word (decoding word)

  -- a hart's plan
  pub planned : IsPlanned hart (plan_of hart image config).doing
  planned = fetched (word_at image hart.pc)

-- ---- what a plain store stores

-- there is a piece, of just these bytes
pub record IsPieceOf (o : Option Piece) (addr len : ℕ) : Type 0 where
  pub piece : Piece
  pub is : o ≡ Some piece
  pub addr_is : piece.addr ≡ addr
  pub len_is : length piece.bytes ≡ len

eight : (value : ℕ) → length (to_le_bytes w64 value) ≡ 8
eight value = refl

pub store_piece : (hart : HartState) (outside : Outside) (insn : Insn) → is_store insn ≡ true
    → IsPieceOf (executed hart outside insn).effect.store (address_of hart insn) (access_size insn)
store_piece hart outside (Store op rs1 rs2 imm) e = record {
  piece = record { addr = plus (x_of hart rs1) imm; bytes = low_bytes (x_of hart rs2) (store_size op) };
  is = refl;
  addr_is = refl;
  len_is = length-take-le (store_size op) (to_le_bytes w64 (x_of hart rs2))
      (subst (λ (n : ℕ). store_size op ≤ n) (sym (eight (x_of hart rs2))) (store_sized op).1);
}
store_piece hart outside _ e = absurd (false≢true e)
