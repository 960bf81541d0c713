-- What the tables of a hart answer for a byte.
use Rattle.std.specs.Prelude.{ℕ, ◌+◌, List, Option, None, Some, if◌then◌else◌, slice_index_or}
use Rattle.std.specs.Option.{option_map}
use Rattle.tandem_base.specs.declared.mark.Mark.{Mark}
use Rattle.tandem_base.specs.declared.names.Origin.{Origin}
use Rattle.tandem_base.specs.declared.names.Position.{Position}
use Rattle.kept_ops.specs.declared.operation.KeptOp.{KeptOp}
use Rattle.kept_ops.specs.Marks.{over, other_than}
use Rattle.kept_ops.specs.Operations.{loads_at, stores_at, source_at}
use Rattle.kept_ops.specs.Tables.{KeptTable, marks_at}
use Rattle.store_buffer.specs.declared.store.Entry.{Entry}
use Rattle.store_buffer.specs.declared.store.Store.{Store}
use Rattle.store_buffer.specs.Stores.{store_of_tag}
use Rattle.window_laws.specs.declared.source.ByteSource.{ByteSource}
use Rattle.overlap_rules.specs.declared.asked.Question.{Question}
use Rattle.overlap_rules.specs.declared.asked.Question.TheVariants as question
use Rattle.overlap_rules.specs.Found.{later_found, found_over}

-- a kept operation as a mark
abbrev pub mark_of_op : KeptOp → Mark
mark_of_op o = record { name = o.name; place = o.place }

-- the same, where there is one
abbrev pub found_op : Option KeptOp → Option Mark
found_op o = option_map mark_of_op o

-- the same, where it is of an SC or AMO
abbrev pub atomic_op : Option KeptOp → Option Mark
atomic_op None = None
atomic_op (Some o) = if o.atomic then Some (mark_of_op o) else None

-- what a kept store depends on
abbrev pub kept_lead : Option KeptOp → Option Mark
kept_lead None = None
kept_lead (Some o) = o.lead

-- what a store that waits depends on
abbrev pub entry_lead : Option Entry → Option Mark
entry_lead None = None
entry_lead (Some e) = e.marks.lead

-- the last store to the byte at x that is kept, where it was performed after a place
abbrev pub kept_store : KeptTable → ℕ → Position → Option KeptOp
kept_store kept x place = over place (marks_at kept x).store

-- the last load of the byte at x that is kept since a store to it retired
abbrev pub kept_load : KeptTable → ℕ → Position → Option KeptOp
kept_load kept x place = over place (marks_at kept x).load

-- the last such load with another source
abbrev pub kept_other : KeptTable → ℕ → Option Origin → Position → Option KeptOp
kept_other kept x source place = over place (other_than x source (marks_at kept x).load (marks_at kept x).other)

-- rule 1 at the byte at x: the later of the last store and the last load
abbrev pub overlap_at : KeptOp → KeptTable → ℕ → Option Mark
overlap_at fresh kept x =
    if stores_at x fresh
    then later_found (found_op (kept_store kept x fresh.place)) (found_op (kept_load kept x fresh.place))
    else None

-- rule 2: the last load from elsewhere
abbrev pub elsewhere_at : KeptOp → KeptTable → ℕ → Option Mark
elsewhere_at fresh kept x =
    if loads_at x fresh then found_op (kept_other kept x (source_at x fresh) fresh.place) else None

-- where the source was performed, what is found; else nothing
abbrev pub if_performed : Option Position → Option Mark → Option Mark
if_performed None m = None
if_performed (Some place) m = m

-- rule 3: the last store, where the source was performed and it is of an SC or AMO
abbrev pub atomic_at : KeptOp → ByteSource → KeptTable → ℕ → Option Mark
atomic_at fresh from kept x =
    if loads_at x fresh then if_performed from.place (atomic_op (kept_store kept x fresh.place)) else None

-- what a source depends on: the last store, where the source was performed; else the store that waits under its tag
abbrev pub source_lead : Option Position → Option Origin → Position → List Store → KeptTable → ℕ → Option Mark
source_lead (Some p) writer after stores kept x = kept_lead (kept_store kept x after)
source_lead None None after stores kept x = None
source_lead None (Some w) after stores kept x = entry_lead (option_map (λ s. s.entry) (store_of_tag w.tag stores))

-- rule 12: that, where it was performed after the operation
abbrev pub lead_at : KeptOp → ByteSource → List Store → KeptTable → ℕ → Option Mark
lead_at fresh from stores kept x =
    if loads_at x fresh
    then found_over fresh.place (source_lead from.place from.writer fresh.place stores kept x)
    else None

-- the source of a byte of which there is none
abbrev pub unsourced : ByteSource
unsourced = record { writer = None; place = None; byte = 0 }

-- what byte k of the extent answers
abbrev pub answer_at : Question → KeptOp → List ByteSource → List Store → KeptTable → ℕ → Option Mark
answer_at question.Overlap fresh sources stores kept k = overlap_at fresh kept (fresh.extent.addr + k)
answer_at question.Load fresh sources stores kept k = elsewhere_at fresh kept (fresh.extent.addr + k)
answer_at question.Atomic fresh sources stores kept k =
    atomic_at fresh (slice_index_or sources k unsourced) kept (fresh.extent.addr + k)
answer_at question.Lead fresh sources stores kept k =
    lead_at fresh (slice_index_or sources k unsourced) stores kept (fresh.extent.addr + k)
