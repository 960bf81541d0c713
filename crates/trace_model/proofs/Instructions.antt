-- What an instruction is, by what it is to do.
use Rattle.std.proofs.Common.{◌≡◌, Bool, true, false, ◌||◌, Some, None, refl}
use Rattle.std.proofs.lemmas.Bool.{false≢true}
use Rattle.rv_decode.specs.declared.instruction.Insn.{Insn}
use Rattle.rv_decode.specs.declared.instruction.Insn.TheVariants.{Load, Store, Csr, Lr, Sc, Amo}
use Rattle.rv_step.specs.Promises.{is_plain, reads_counter}
use Rattle.rvwmo_model.specs.declared.operations.OpKind.TheVariants as kind
use Rattle.rvwmo_model.specs.declared.operations.Ann.TheVariants as ann
use Rattle.rv_decode.specs.Kinds.{is_lr, is_sc, is_amo_or_sc}
use Rattle.rv_decode.specs.Kinds.{is_store}
use Rattle.growth_laws.specs.Kinds.{kind_of_insn}
use Rattle.rv_decode.specs.Kinds.{is_load, is_amo}
use Rattle.trace_model.specs.Retirements.{acquire_of, release_of}

-- an LR or an SC
abbrev pub reserves : Insn → Bool
reserves i = is_lr i || is_sc i

-- no operation, and no part in a reservation
pub record IsQuiet (i : Insn) : Type 0 where
  pub nothing : kind_of_insn i false ≡ None
  pub apart : reserves i ≡ false

pub plain_quiet : (i : Insn) → is_plain i ≡ true → IsQuiet i
plain_quiet (Load op rd rs1 imm) e = absurd (false≢true e)
plain_quiet (Store op rs1 rs2 imm) e = absurd (false≢true e)
plain_quiet (Lr wide aq rl rd rs1) e = absurd (false≢true e)
plain_quiet (Sc wide aq rl rd rs1 rs2) e = absurd (false≢true e)
plain_quiet (Amo op wide aq rl rd rs1 rs2) e = absurd (false≢true e)
plain_quiet _ e = record { nothing = refl; apart = refl }

pub counter_quiet : (i : Insn) → reads_counter i ≡ true → IsQuiet i
counter_quiet (Csr op rd source number) e = record { nothing = refl; apart = refl }
counter_quiet _ e = absurd (false≢true e)

-- a load
pub record IsLoad (i : Insn) : Type 0 where
  pub loads : kind_of_insn i false ≡ Some kind.Load
  pub no_lr : is_lr i ≡ false
  pub apart : reserves i ≡ false

pub load_kind : (i : Insn) → is_load i ≡ true → IsLoad i
load_kind (Load op rd rs1 imm) e = record { loads = refl; no_lr = refl; apart = refl }
load_kind _ e = absurd (false≢true e)

-- an LR
pub record IsLr (i : Insn) : Type 0 where
  pub loads : kind_of_insn i false ≡ Some kind.Load
  pub lr : is_lr i ≡ true

pub lr_kind : (i : Insn) → is_lr i ≡ true → IsLr i
lr_kind (Lr wide aq rl rd rs1) e = record { loads = refl; lr = refl }
lr_kind _ e = absurd (false≢true e)

-- a plain store
pub record IsStore (i : Insn) : Type 0 where
  pub stores : kind_of_insn i false ≡ Some kind.Store
  pub plain : is_store i ≡ true
  pub apart : reserves i ≡ false
  pub acquire : acquire_of i ≡ ann.None
  pub release : release_of i ≡ ann.None

pub store_kind : (i : Insn) → is_store i ≡ true → IsStore i
store_kind (Store op rs1 rs2 imm) e = record {
  stores = refl;
  plain = refl;
  apart = refl;
  acquire = refl;
  release =
      refl;
}
store_kind _ e = absurd (false≢true e)

-- an SC
pub record IsSc (i : Insn) : Type 0 where
  pub failed : kind_of_insn i false ≡ None
  pub stored : kind_of_insn i true ≡ Some kind.Store
  pub sc : is_sc i ≡ true
  pub atomic : is_amo_or_sc i ≡ true

pub sc_kind : (i : Insn) → is_sc i ≡ true → IsSc i
sc_kind (Sc wide aq rl rd rs1 rs2) e = record { failed = refl; stored = refl; sc = refl; atomic = refl }
sc_kind _ e = absurd (false≢true e)

-- an AMO
pub record IsAmo (i : Insn) : Type 0 where
  pub both : kind_of_insn i false ≡ Some kind.Both
  pub atomic : is_amo_or_sc i ≡ true
  pub no_sc : is_sc i ≡ false
  pub apart : reserves i ≡ false

pub amo_kind : (i : Insn) → is_amo i ≡ true → IsAmo i
amo_kind (Amo op wide aq rl rd rs1 rs2) e = record { both = refl; atomic = refl; no_sc = refl; apart = refl }
amo_kind _ e = absurd (false≢true e)
