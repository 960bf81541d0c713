-- What an instruction adds to the trace when it retires.
use Rattle.std.specs.Prelude.{ℕ, ◌+◌, ◌&&◌, List, [], ◌∷◌, replicate, Bool, true, false, None, Some}
use Rattle.std.specs.Prelude.{is_some}
use Rattle.std.specs.declared.option.Option.{Option}
use Rattle.tandem_base.specs.declared.extent.Extent.{Extent}
use Rattle.tandem_base.specs.declared.names.Place.{Place}
use Rattle.msg_frames.specs.declared.message.Head.{Head}
use Rattle.rv_decode.specs.declared.instruction.Insn.{Insn}
use Rattle.rv_decode.specs.declared.instruction.Insn.TheVariants.{Lr, Sc, Amo}
use Rattle.rv_step.specs.Steps.{Doing, trap, plain, counter, load, store, lr, sc, amo}
use Rattle.rvwmo_model.specs.declared.instructions.Retired.{Retired}
use Rattle.rvwmo_model.specs.declared.operations.Op.{Op}
use Rattle.rvwmo_model.specs.declared.operations.OpKind.{OpKind}
use Rattle.rvwmo_model.specs.declared.operations.OpKind.TheVariants as kind
use Rattle.rvwmo_model.specs.declared.operations.Ann.{Ann}
use Rattle.rvwmo_model.specs.declared.operations.Ann.TheVariants as ann
use Rattle.matching.specs.declared.reports.OpenReport.{OpenReport}
use Rattle.matching.specs.Reports.{early_of, counting, place_of_report, place_counted, bytes_counted}
use Rattle.trace_model.specs.Extents.{extent_of}
use Rattle.trace_model.specs.Groups.{Access, op_of, parts_of}
use Rattle.trace_model.specs.Entries.{MemoryUse, Fixed, Stores, Entry}

-- ---- annotations (8.1, 14.1)

-- an annotation, where there is one
abbrev pub rcsc_where : Bool → Ann
rcsc_where true = ann.Rcsc
rcsc_where false = ann.None

-- the operations of an instruction as acquires: by aq; on an SC, aq alone gives nothing
abbrev pub acquire_of : Insn → Ann
acquire_of (Lr wide aq rl rd rs1) = rcsc_where aq
acquire_of (Sc wide aq rl rd rs1 rs2) = rcsc_where (aq && rl)
acquire_of (Amo op wide aq rl rd rs1 rs2) = rcsc_where aq
acquire_of _ = ann.None

-- and as releases: by rl; on an LR, rl alone gives nothing
abbrev pub release_of : Insn → Ann
release_of (Lr wide aq rl rd rs1) = rcsc_where (aq && rl)
release_of (Sc wide aq rl rd rs1 rs2) = rcsc_where rl
release_of (Amo op wide aq rl rd rs1 rs2) = rcsc_where rl
release_of _ = ann.None

-- ---- accesses

-- the access of a load or LR
abbrev pub load_access : List OpenReport → Head → Insn → Extent → Access
load_access live head insn extent = record {
  hart = head.hart;
  tag = head.tag;
  kind = kind.Load;
  extent = extent;
  got = bytes_counted live head.tag extent.addr extent.len;
  put = replicate extent.len 0;
  acquire = acquire_of insn;
  release = release_of insn;
}

-- where byte k of an extent was loaded: at the place of the Read that counts
abbrev pub read_places : List OpenReport → ℕ → Extent → ℕ → Option Place
read_places live t extent k = place_counted (counting live t (extent.addr + k))

-- the operations of a load or LR: one for each Read that counts
abbrev pub load_ops : List OpenReport → Head → Insn → Extent → List Op
load_ops live head insn extent =
    parts_of (load_access live head insn extent) (read_places live head.tag extent)

-- the access of a plain store
abbrev pub store_access : Head → Insn → Extent → List ℕ → Access
store_access head insn extent put = record {
  hart = head.hart;
  tag = head.tag;
  kind = kind.Store;
  extent = extent;
  got = replicate extent.len 0;
  put = put;
  acquire = acquire_of insn;
  release = release_of insn;
}

-- the store of a Bypass over an extent, with what was loaded there
abbrev pub bypass_access : OpKind → Extent → List ℕ → Ann → Ann → OpenReport → Access
bypass_access k extent got acquire release r = record {
  hart = r.hart;
  tag = r.tag;
  kind = k;
  extent = extent;
  got = got;
  put = r.piece.bytes;
  acquire = acquire;
  release = release;
}

-- its operation: all bytes, at the place of the Bypass
abbrev pub bypass_op : OpKind → Extent → List ℕ → Ann → Ann → OpenReport → Op
bypass_op k extent got acquire release r =
    op_of (bypass_access k extent got acquire release r) (λ j. true) (Some (place_of_report r))

-- the operation of an AMO or SC: that of its Bypass, none where there is none
abbrev pub atomic_ops : OpKind → Extent → List ℕ → Ann → Ann → Option OpenReport → List Op
atomic_ops k extent got acquire release None = []
atomic_ops k extent got acquire release (Some r) = bypass_op k extent got acquire release r ∷ []

-- ---- entries

-- an instruction that retired; stored says that it is an SC that succeeded
abbrev pub retired : Head → Insn → Bool → Retired
retired head insn stored = record { hart = head.hart; tag = head.tag; insn = insn; stored = stored }

-- its entry
abbrev pub entry : Head → Insn → Bool → MemoryUse → Entry
entry head insn stored memory = record { insn = retired head insn stored; memory = memory }

-- the operation of an AMO: it loads what its Reads brought, and stores what its Bypass says
abbrev pub amo_ops : List OpenReport → List OpenReport → Head → Insn → Extent → List Op
amo_ops live early head insn extent =
    atomic_ops kind.Both extent (bytes_counted live head.tag extent.addr extent.len) (acquire_of insn) (release_of insn)
    (early_of early head.hart head.tag)

-- the operation of an SC that succeeded; none of one that failed
abbrev pub sc_ops : List OpenReport → Head → Insn → Extent → List Op
sc_ops early head insn extent =
    atomic_ops kind.Store extent (replicate extent.len 0) (acquire_of insn) (release_of insn)
    (early_of early head.hart head.tag)

-- the entry of an instruction that retires, by what it is to do, the live Reads of its hart, the early Bypasses, and
-- the bytes that a plain store stores; none where it traps
abbrev pub entry_of : List OpenReport → List OpenReport → Head → List ℕ → Doing → Option Entry
entry_of live early head put (trap cause value) = None
entry_of live early head put (plain insn) = Some (entry head insn false (Fixed []))
entry_of live early head put (counter insn) = Some (entry head insn false (Fixed []))
entry_of live early head put (load insn addr len) =
    Some (entry head insn false (Fixed (load_ops live head insn (extent_of addr len))))
entry_of live early head put (store insn addr len) =
    Some (entry head insn false (Stores (store_access head insn (extent_of addr len) put)))
entry_of live early head put (lr insn addr len) =
    Some (entry head insn false (Fixed (load_ops live head insn (extent_of addr len))))
entry_of live early head put (sc insn addr len) =
    Some (entry head insn (is_some (early_of early head.hart head.tag))
    (Fixed (sc_ops early head insn (extent_of addr len))))
entry_of live early head put (amo insn addr len) =
    Some (entry head insn false (Fixed (amo_ops live early head insn (extent_of addr len))))
