-- What a plan says of its instruction.
use Rattle.std.proofs.Common.{◌≡◌, ◌∙◌, ℕ, ◌+◌, ◌%◌, ◌^◌, ◌<◌, ◌==◌, Bool, true, false, ◌⊎◌, inl, inr, refl, sym, subst}
use Rattle.std.proofs.Common.{ap}
use Rattle.std.proofs.Common.{Option, Some, None, IfSome}
use Rattle.std.specs.Prelude.{◌&&◌, not, if◌then◌else◌}
use Rattle.std.proofs.lemmas.Bool.{and_parts, false≢true, eqb-true, not-false, leb-true, ltb-true}
use Rattle.tandem_base.specs.declared.extent.Extent.{Extent}
use Rattle.elf_image.specs.Images.{Loaded, Holds, word_at}
use Rattle.rv_decode.specs.Decoding.{decoding}
use Rattle.rv_decode.specs.Listing.{IsInsn}
use Rattle.rv_decode.specs.declared.instruction.Insn.{Insn}
use Rattle.rv_decode.specs.declared.instruction.Insn.TheVariants.{Lui, Auipc, Jal, Jalr, Branch, Load, Store, AluImm}
use Rattle.rv_decode.specs.declared.instruction.Insn.TheVariants.{Alu, Fence, Ecall, Ebreak, Mret, Wfi, Csr, Lr, Sc}
use Rattle.rv_decode.specs.declared.instruction.Insn.TheVariants.{Amo}
use Rattle.rv_decode.proofs.Only.{reads_what_it_encodes}
use Rattle.rv_step.specs.declared.plan.Config.{Config}
use Rattle.rv_step.specs.declared.plan.Plan.{Plan}
use Rattle.rv_step.specs.declared.plan.What.{What}
use Rattle.rv_step.specs.declared.plan.What.TheVariants as what
use Rattle.rv_step.specs.CsrUse.{is_counter, is_legal_csr}
use Rattle.rv_step.specs.Harts.{HartState, x_of, plus}
use Rattle.rv_step.specs.Integers.{is_taken, without_low_bit}
use Rattle.rv_step.specs.Plans.{PlanOf, accessed, address_of, access_size, doing_of, doing_seen}
use Rattle.rv_step.specs.Plans.{doing_word, fault_cause, fault_of, illegal, is_held, jumps, misaligned_cause}
use Rattle.rv_step.specs.Plans.{must_align}
use Rattle.rv_step.specs.Plans.{plan_fetched, plan_of, plan_seen}
use Rattle.rv_step.specs.Promises.{HasCsr, IsAlignedAtomic, IsOfKind, IsTarget, planned_extent, planned_insn}
use Rattle.rv_step.specs.Promises.{is_call, is_plain}
use Rattle.rv_step.specs.Promises.{reads_counter}
use Rattle.rv_decode.specs.Kinds.{is_load, is_store, is_lr, is_sc, is_amo}
use Rattle.rv_step.specs.Steps.{Doing, trap, plain, counter, load, store, lr, sc, amo}
use Rattle.rv_step.proofs.Held.{has_bytes-each}

-- the image has the bytes that are accessed
abbrev pub IsInImage : Loaded → Doing → Type 0
IsInImage image (trap cause value) = Unit {0}
IsInImage image (plain insn) = Unit {0}
IsInImage image (counter insn) = Unit {0}
IsInImage image (load insn addr len) = is_held image addr len ≡ true
IsInImage image (store insn addr len) = is_held image addr len ≡ true
IsInImage image (lr insn addr len) = is_held image addr len ≡ true
IsInImage image (sc insn addr len) = is_held image addr len ≡ true
IsInImage image (amo insn addr len) = is_held image addr len ≡ true

-- all that a plan promises of what is to do
pub record Promises (hart : HartState) (image : Loaded) (d : Doing) : Type 0 where
  pub fits : IfSome (planned_insn d) IsInsn
  pub kind : IsOfKind d
  pub held : IsInImage image d
  pub aligned : IsAlignedAtomic d
  pub csr : IfSome (planned_insn d) HasCsr
  pub target : IfSome (planned_insn d) (IsTarget hart)

-- what holds of the value in a Some
pub at_some : (P : Insn → Type 0) (o : Option Insn) (insn : Insn) → o ≡ Some insn → IfSome o P → P insn
at_some P o insn e holds = subst (λ (x : Option Insn). IfSome x P) e holds

-- a choice has what each of its sides has
choice : {X : Type 0} (P : X → Type 0) (test : Bool) (x y : X) → (test ≡ true → P x) → (test ≡ false → P y)
    → P (if test then x else y)
choice P true x y first second = first refl
choice P false x y first second = second refl

-- no fault: the bytes are there, and aligned where they have to be
no_fault : (misaligned held : Bool) (m f : ℕ)
    → (if misaligned then Some m else if not held then Some f else None) ≡ None → (held ≡ true) × (misaligned ≡ false)
no_fault true held m f e = absurd (cc)
no_fault false true m f e = (refl, refl)
no_fault false false m f e = absurd (cc)

module _ (hart : HartState) (image : Loaded) (config : Config) where
  Promised : Doing → Type 0
  Promised d = Promises hart image d

  traps : (cause value : ℕ) → Promises hart image (trap cause value)
  traps cause value = record { fits = tt; kind = tt; held = tt; aligned = tt; csr = tt; target = tt }

  plainly : (insn : Insn) → IsInsn insn → is_plain insn ≡ true → HasCsr insn → IsTarget hart insn
      → Promises hart image (plain insn)
  plainly insn fits kind csr target =
      record { fits = fits; kind = kind; held = tt; aligned = tt; csr = csr; target = target }

  jumping : (insn : Insn) (target : ℕ) → (target % 4 ≡ 0 → Promises hart image (plain insn))
      → Promises hart image (jumps insn target)
  jumping insn target even =
      choice (λ d. Promises hart image d) (target % 4 == 0) (plain insn) (trap _ target)
      (λ e. even (eqb-true (target % 4) 0 e)) (λ _. traps _ target)

  accessing : (fault : Option ℕ) (addr : ℕ) (d : Doing) → (fault ≡ None → Promises hart image d)
      → Promises hart image (accessed fault addr d)
  accessing None addr d there = there refl
  accessing (Some cause) addr d there = traps cause addr

  -- an access without a fault
  clean : (insn : Insn) → fault_of hart image config insn ≡ None
      → (is_held image (address_of hart insn) (access_size insn) ≡ true)
      × ((must_align config insn && not (address_of hart insn % access_size insn == 0)) ≡ false)
  clean insn e =
      no_fault (must_align config insn && not (address_of hart insn % access_size insn == 0))
      (is_held image (address_of hart insn) (access_size insn)) (misaligned_cause insn) (fault_cause insn) e

  doing : (word : ℕ) (insn : Insn) → IsInsn insn → Promises hart image (doing_of hart image config word insn)
  doing word (Lui rd imm) fits = plainly (Lui rd imm) fits refl tt tt
  doing word (Auipc rd imm) fits = plainly (Auipc rd imm) fits refl tt tt
  doing word (Jal rd imm) fits =
      jumping (Jal rd imm) (plus hart.pc imm) (λ even. plainly (Jal rd imm) fits refl tt even)
  doing word (Jalr rd rs1 imm) fits =
      jumping (Jalr rd rs1 imm) (without_low_bit (plus (x_of hart rs1) imm))
      (λ even. plainly (Jalr rd rs1 imm) fits refl tt even)
  doing word (Branch op rs1 rs2 imm) fits =
      choice (λ d. Promises hart image d) (is_taken op (x_of hart rs1) (x_of hart rs2))
      (jumps (Branch op rs1 rs2 imm) (plus hart.pc imm)) (plain (Branch op rs1 rs2 imm))
      (λ taken.
      jumping (Branch op rs1 rs2 imm) (plus hart.pc imm)
      (λ even. plainly (Branch op rs1 rs2 imm) fits refl tt (rw taken even)))
      (λ passed. plainly (Branch op rs1 rs2 imm) fits refl tt (rw passed tt))
  doing word (Load op rd rs1 imm) fits =
      accessing (fault_of hart image config (Load op rd rs1 imm)) (address_of hart (Load op rd rs1 imm)) _
      (λ e.
      let c = clean (Load op rd rs1 imm) e in
      record { fits = fits; kind = (refl, refl); held = c.0; aligned = tt; csr = tt; target = tt })
  doing word (Store op rs1 rs2 imm) fits =
      accessing (fault_of hart image config (Store op rs1 rs2 imm)) (address_of hart (Store op rs1 rs2 imm)) _
      (λ e.
      let c = clean (Store op rs1 rs2 imm) e in
      record { fits = fits; kind = (refl, refl); held = c.0; aligned = tt; csr = tt; target = tt })
  doing word (AluImm op rd rs1 imm) fits = plainly (AluImm op rd rs1 imm) fits refl tt tt
  doing word (Alu op rd rs1 rs2) fits = plainly (Alu op rd rs1 rs2) fits refl tt tt
  doing word (Fence fm pred succ rd rs1) fits = plainly (Fence fm pred succ rd rs1) fits refl tt tt
  doing word Ecall fits = traps _ 0
  doing word Ebreak fits = traps _ 0
  doing word Mret fits = plainly Mret fits refl tt tt
  doing word Wfi fits = plainly Wfi fits refl tt tt
  doing word (Csr op rd source number) fits =
      choice (λ d. Promises hart image d) (not (is_legal_csr op source number)) (illegal config word) _
      (λ _. traps _ _)
      (λ e.
      let csr : HasCsr (Csr op rd source number) = not-false _ e in
      choice (λ d. Promises hart image d) (is_counter number) (counter (Csr op rd source number))
      (plain (Csr op rd source number))
      (λ counts. record { fits = fits; kind = counts; held = tt; aligned = tt; csr = csr; target = tt })
      (λ holds. plainly (Csr op rd source number) fits (rw holds refl) csr tt))
  doing word (Lr wide aq rl rd rs1) fits =
      accessing (fault_of hart image config (Lr wide aq rl rd rs1)) (x_of hart rs1) _
      (λ e.
      let c = clean (Lr wide aq rl rd rs1) e in
      record {
        fits = fits;
        kind = (refl, refl);
        held = c.0;
        aligned = eqb-true _ 0 (not-false _ c.1);
        csr = tt;
        target = tt;
      })
  doing word (Sc wide aq rl rd rs1 rs2) fits =
      accessing (fault_of hart image config (Sc wide aq rl rd rs1 rs2)) (x_of hart rs1) _
      (λ e.
      let c = clean (Sc wide aq rl rd rs1 rs2) e in
      record {
        fits = fits;
        kind = (refl, refl);
        held = c.0;
        aligned = eqb-true _ 0 (not-false _ c.1);
        csr = tt;
        target = tt;
      })
  doing word (Amo op wide aq rl rd rs1 rs2) fits =
      accessing (fault_of hart image config (Amo op wide aq rl rd rs1 rs2)) (x_of hart rs1) _
      (λ e.
      let c = clean (Amo op wide aq rl rd rs1 rs2) e in
      record {
        fits = fits;
        kind = (refl, refl);
        held = c.0;
        aligned = eqb-true _ 0 (not-false _ c.1);
        csr = tt;
        target = tt;
      })

  word_doing : (word : ℕ) (found : Option Insn) → word < 2 ^ 32 → decoding word ≡ found
      → Promises hart image (doing_word hart image config word found)
  word_doing word None lt e = traps _ _
  word_doing word (Some insn) lt e = doing word insn ((reads_what_it_encodes word insn lt).0 e).fits

  fetched : (found : Option ℕ) (word : ℕ) (d : Doing)
      → record { word = word; doing = d } ≡ plan_fetched hart image config found → word < 2 ^ 32
      → Promises hart image d
  fetched None word d e lt = subst (λ (p : PlanOf). Promises hart image p.doing) (sym e) (traps _ _)
  fetched (Some w) word d e lt =
      let same : word ≡ w = ap (λ (p : PlanOf). p.word) e in
      subst (λ (p : PlanOf). Promises hart image p.doing) (sym e)
      (word_doing w (decoding w) (rw same at lt) refl)

  pub planned : (plan : Plan) → plan.word < 2 ^ 32 → plan_seen plan ≡ plan_of hart image config
      → Promises hart image (doing_seen plan.what)
  planned plan lt e = fetched (word_at image hart.pc) plan.word (doing_seen plan.what) e lt

-- the bytes of an access are in the image
held_bytes : (image : Loaded) (extent : Extent) → is_held image extent.addr extent.len ≡ true → Holds image extent
held_bytes image extent held x covers =
    let parts = and_parts _ _ held in
    let among = and_parts _ _ covers in
    has_bytes-each image extent.addr extent.len x parts.1 (leb-true extent.addr x among.0)
    (ltb-true x (extent.addr + extent.len) among.1)

pub extent_held : (image : Loaded) (w : What) → IsInImage image (doing_seen w) → IfSome (planned_extent w) (Holds image)
extent_held image (what.Trap cause value) held = tt
extent_held image (what.Plain insn) held = tt
extent_held image (what.Counter insn) held = tt
extent_held image (what.Load insn extent) held = held_bytes image extent held
extent_held image (what.Store insn extent) held = held_bytes image extent held
extent_held image (what.Lr insn extent) held = held_bytes image extent held
extent_held image (what.Sc insn extent) held = held_bytes image extent held
extent_held image (what.Amo insn extent) held = held_bytes image extent held

-- an instruction of some kind is no ECALL and no EBREAK, where those aren't of the kind
other_call : (kind : Insn → Bool) → kind Ecall ≡ false → kind Ebreak ≡ false → (insn : Insn) → kind insn ≡ true
    → is_call insn ≡ false
other_call kind ecall ebreak Ecall e = absurd (false≢true (sym ecall ∙ e))
other_call kind ecall ebreak Ebreak e = absurd (false≢true (sym ebreak ∙ e))
other_call kind ecall ebreak _ e = refl

pub no_call : (d : Doing) → IsOfKind d → IfSome (planned_insn d) (λ insn. is_call insn ≡ false)
no_call (trap cause value) kind = tt
no_call (plain insn) kind = other_call is_plain refl refl insn kind
no_call (counter insn) kind = other_call reads_counter refl refl insn kind
no_call (load insn addr len) kind = other_call is_load refl refl insn kind.0
no_call (store insn addr len) kind = other_call is_store refl refl insn kind.0
no_call (lr insn addr len) kind = other_call is_lr refl refl insn kind.0
no_call (sc insn addr len) kind = other_call is_sc refl refl insn kind.0
no_call (amo insn addr len) kind = other_call is_amo refl refl insn kind.0

-- the instruction of a plan, where it is found as one of these
pub seen : (w : What) (insn : Insn)
    → ((w ≡ what.Plain insn) ⊎ ((w ≡ what.Counter insn)
    ⊎ (((x : Extent) × (w ≡ what.Load insn x)) ⊎ (((x : Extent) × (w ≡ what.Store insn x))
    ⊎ (((x : Extent) × (w ≡ what.Lr insn x)) ⊎ (((x : Extent) × (w ≡ what.Sc insn x))
    ⊎ ((x : Extent) × (w ≡ what.Amo insn x))))))))
    → planned_insn (doing_seen w) ≡ Some insn
seen w insn (inl e) = rw e refl
seen w insn (inr (inl e)) = rw e refl
seen w insn (inr (inr (inl e))) = rw e.1 refl
seen w insn (inr (inr (inr (inl e)))) = rw e.1 refl
seen w insn (inr (inr (inr (inr (inl e))))) = rw e.1 refl
seen w insn (inr (inr (inr (inr (inr (inl e)))))) = rw e.1 refl
seen w insn (inr (inr (inr (inr (inr (inr e)))))) = rw e.1 refl
