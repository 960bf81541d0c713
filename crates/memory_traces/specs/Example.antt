-- Small traces that grow. One grows by each kind of growth, until a pair of rule 1 is broken; the other has an LR and
-- its SC, and a block that the reservation covers.
use Rattle.std.proofs.Common.{arith}
use Rattle.std.specs.Prelude.{ℕ, pos, ◌≢◌, List, [], ◌∷◌, true, false, None, Some}
use Rattle.std.specs.declared.option.Option.{Option}
use Rattle.tandem_base.specs.declared.extent.Extent.{Extent}
use Rattle.tandem_base.specs.declared.names.OpName.{OpName}
use Rattle.tandem_base.specs.declared.names.Place.{Place}
use Rattle.rv_decode.specs.declared.instruction.Insn.{Insn}
use Rattle.rv_decode.specs.declared.instruction.Insn.TheVariants as insn
use Rattle.rv_decode.specs.declared.operations.LoadOp.TheVariants.{Lw}
use Rattle.rv_decode.specs.declared.operations.StoreOp.TheVariants.{Sw}
use Rattle.rv_decode.specs.declared.operations.AmoOp.TheVariants.{Add}
use Rattle.rv_decode.specs.declared.operations.ImmOp.TheVariants.{Addi}
use Rattle.rvwmo_model.specs.declared.instructions.Retired.{Retired}
use Rattle.rvwmo_model.specs.declared.operations.Op.{Op}
use Rattle.rvwmo_model.specs.declared.operations.OpKind.{OpKind}
use Rattle.rvwmo_model.specs.declared.operations.OpKind.TheVariants as kind
use Rattle.rvwmo_model.specs.declared.operations.Ann.TheVariants as ann
use Rattle.rvwmo_model.specs.declared.preserved.Rule.TheVariants.{R1}
use Rattle.rvwmo_model.specs.declared.traces.Trace.{Trace}
use Rattle.rvwmo_model.specs.Sources.{origin}
use Rattle.rvwmo_model.specs.Rules.{Broken}
use Rattle.rvwmo_model.specs.Atomicity.{IsPair}
use Rattle.growth_laws.specs.Growth.{AddEarly, AddInsn, Performs}
use Rattle.growth_laws.specs.Laws.{nothing_yet}

-- an instruction that retired
abbrev pub retired_insn : ℕ → ℕ → Insn → Retired
retired_insn hart tag i = record { hart = hart; tag = tag; insn = i; stored = false }

-- two words of memory, of which the first isn't aligned: it may be stored in parts
abbrev pub word : Extent
word = record { addr = 4098; len = 4; sized = (omega arith, omega arith); within = omega arith }

-- the second
abbrev pub other_word : Extent
other_word = record { addr = 8192; len = 4; sized = (omega arith, omega arith); within = omega arith }

-- an operation of some bytes of a word
abbrev pub op : OpKind → OpName → Extent → ℕ → List ℕ → List ℕ → Option Place → Op
op k name extent mask got put place =
    record {
      name = name;
      kind = k;
      extent = extent;
      mask = mask;
      got = got;
      put = put;
      acquire = ann.None;
      release = ann.None;
      place = place;
    }

-- a name
abbrev pub name : ℕ → ℕ → ℕ → OpName
name hart tag part = record { hart = hart; tag = tag; part = part }

-- the place of what a message performs alone
abbrev pub place : ℕ → Option Place
place n = Some (record { time = n; message = n; insert = n })

-- the place of what the message 5 drains
abbrev pub drained_place : ℕ → Option Place
drained_place n = Some (record { time = 5; message = 5; insert = n })

-- the bytes of a small number
abbrev pub bytes : ℕ → List ℕ
bytes n = n ∷ 0 ∷ 0 ∷ 0 ∷ []

-- hart 0 stores 1 and then 2 to the word at 4098, and loads it; hart 1 has an AMO at 8192
abbrev pub first : Retired
first = retired_insn 0 1 (insn.Store Sw 10 12 (pos 0))

-- hart 0: the second store
abbrev pub second : Retired
second = retired_insn 0 2 (insn.Store Sw 10 11 (pos 0))

-- hart 0: the load
abbrev pub third : Retired
third = retired_insn 0 3 (insn.Load Lw 5 10 (pos 0))

-- hart 1: the AMO
abbrev pub other : Retired
other = retired_insn 1 1 (insn.Amo Add false false false 5 11 12)

-- the operation of the first store
abbrev pub first_store : Op
first_store = op kind.Store (name 0 1 0) word 15 (bytes 0) (bytes 1) None

-- the operation of the second store
abbrev pub second_store : Op
second_store = op kind.Store (name 0 2 0) word 15 (bytes 0) (bytes 2) None

-- the load reads the second store, which is not performed
abbrev pub load_of_word : Op
load_of_word = op kind.Load (name 0 3 0) word 15 (bytes 2) (bytes 0) (place 1)

-- the store of the AMO, before it retires
abbrev pub amo_early_store : Op
amo_early_store = op kind.Store (name 1 1 0) other_word 15 (bytes 0) (bytes 1) (place 2)

-- the operation of the AMO
abbrev pub amo_of_word : Op
amo_of_word = op kind.Both (name 1 1 0) other_word 15 (bytes 0) (bytes 1) (place 2)

-- one message performs the lower half of the second store, then the upper half
abbrev pub low : Op
low = op kind.Store (name 0 2 0) word 3 (bytes 0) (bytes 2) (drained_place 3)

-- what is left of it
abbrev pub left : Op
left = op kind.Store (name 0 2 2) word 12 (bytes 0) (bytes 0) None

-- the upper half
abbrev pub high : Op
high = op kind.Store (name 0 2 2) word 12 (bytes 0) (bytes 0) (drained_place 4)

-- a trace without blocks
abbrev pub trace : List Retired → List Op → List Op → Trace
trace insns ops early = record { insns = insns; ops = ops; early = early; granule = 0 }

-- the first store retires
abbrev pub t1 : Trace
t1 = trace (first ∷ []) (first_store ∷ []) []

-- the second store retires
abbrev pub t2 : Trace
t2 = trace (first ∷ second ∷ []) (first_store ∷ second_store ∷ []) []

-- the load retires
abbrev pub t3 : Trace
t3 = trace (first ∷ second ∷ third ∷ []) (first_store ∷ second_store ∷ load_of_word ∷ []) []

-- the store of the AMO is performed
abbrev pub t4 : Trace
t4 = trace (first ∷ second ∷ third ∷ []) (first_store ∷ second_store ∷ load_of_word ∷ []) (amo_early_store ∷ [])

-- the AMO retires
abbrev pub t5 : Trace
t5 = trace (first ∷ second ∷ third ∷ other ∷ []) (first_store ∷ second_store ∷ load_of_word ∷ amo_of_word ∷ []) []

-- the lower half of the second store is performed
abbrev pub t6 : Trace
t6 = trace (first ∷ second ∷ third ∷ other ∷ []) (first_store ∷ low ∷ left ∷ load_of_word ∷ amo_of_word ∷ []) []

-- the upper half is
abbrev pub t7 : Trace
t7 = trace (first ∷ second ∷ third ∷ other ∷ []) (first_store ∷ low ∷ high ∷ load_of_word ∷ amo_of_word ∷ []) []

-- each growth occurs; and after the last the load has another source, and a pair of rule 1 is broken
pub record EachGrowthOccurs : Type 0 where
  pub store : AddInsn (nothing_yet 0) t1 first (first_store ∷ [])
  pub younger : AddInsn t1 t2 second (second_store ∷ [])
  pub loads : AddInsn t2 t3 third (load_of_word ∷ [])
  pub performs_early : AddEarly t3 t4 amo_early_store
  pub atomic : AddInsn t4 t5 other (amo_of_word ∷ [])
  pub performed : Performs 0 t5 (high ∷ low ∷ []) t7
  pub source : origin t7 load_of_word 4098 ≢ origin t5 load_of_word 4098
  pub broken : Broken R1 t7 first_store low

-- ---- an LR and its SC

-- hart 0 reserves the word at 8192, adds, stores to it conditionally, and fails to do so again
abbrev pub reserve : Retired
reserve = retired_insn 0 1 (insn.Lr false false false 5 10)

-- the instruction without operations
abbrev pub addition : Retired
addition = retired_insn 0 2 (insn.AluImm Addi 6 5 (pos 1))

-- the SC that succeeds
abbrev pub success : Retired
success = record { hart = 0; tag = 3; insn = insn.Sc false false false 7 10 6; stored = true }

-- the SC that fails
abbrev pub failure : Retired
failure = retired_insn 0 4 (insn.Sc false false false 7 10 6)

-- the operation of the LR
abbrev pub lr_of_word : Op
lr_of_word = op kind.Load (name 0 1 0) other_word 15 (bytes 0) (bytes 0) (place 1)

-- the store of the SC, early and then its operation
abbrev pub conditional : Op
conditional = op kind.Store (name 0 3 0) other_word 15 (bytes 0) (bytes 1) (place 2)

-- a trace with blocks of 16 bytes
abbrev pub blocks : List Retired → List Op → List Op → Trace
blocks insns ops early = record { insns = insns; ops = ops; early = early; granule = 16 }

-- the LR retires
abbrev pub u1 : Trace
u1 = blocks (reserve ∷ []) (lr_of_word ∷ []) []

-- the addition retires
abbrev pub u2 : Trace
u2 = blocks (reserve ∷ addition ∷ []) (lr_of_word ∷ []) []

-- the store of the SC is performed
abbrev pub u3 : Trace
u3 = blocks (reserve ∷ addition ∷ []) (lr_of_word ∷ []) (conditional ∷ [])

-- the SC retires
abbrev pub u4 : Trace
u4 = blocks (reserve ∷ addition ∷ success ∷ []) (lr_of_word ∷ conditional ∷ []) []

-- the other SC retires
abbrev pub u5 : Trace
u5 = blocks (reserve ∷ addition ∷ success ∷ failure ∷ []) (lr_of_word ∷ conditional ∷ []) []

-- an LR, an instruction without operations, the early store of an SC, the SC with its pair, and a failed SC occur
pub record PairOccurs : Type 0 where
  pub reserves : AddInsn (nothing_yet 16) u1 reserve (lr_of_word ∷ [])
  pub nothing : AddInsn u1 u2 addition []
  pub performs_early : AddEarly u2 u3 conditional
  pub stores : AddInsn u3 u4 success (conditional ∷ [])
  pub pair : IsPair u4 lr_of_word conditional
  pub fails : AddInsn u4 u5 failure []
