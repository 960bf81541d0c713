-- A test that only traces in form pass. It takes accesses of 4 and of 8 bytes.
use Rattle.std.specs.Prelude.{ℕ, ◌==◌, ◌&&◌, ◌||◌, not, nat_lt, is_some, List, [], ◌∷◌, ◌++◌, ◌%◌, length, Bool, true}
use Rattle.std.specs.Prelude.{false, None, Some, if◌then◌else◌}
use Rattle.std.specs.List.{list_any, list_all}
use Rattle.std.specs.declared.option.Option.{Option}
use Rattle.tandem_base.specs.declared.names.OpName.{OpName}
use Rattle.tandem_base.specs.declared.names.Place.{Place}
use Rattle.rvwmo_model.specs.declared.instructions.Retired.{Retired}
use Rattle.rvwmo_model.specs.declared.operations.Op.{Op}
use Rattle.rvwmo_model.specs.ProgramOrder.{insn_at, is_one}
use Rattle.rv_decode.specs.Kinds.{is_lr, is_sc}

-- each passes with all that stand after it
abbrev pub each_two : {X : Type 0} → (X → X → Bool) → List X → Bool
each_two p [] = true
each_two p (x ∷ xs) = list_all (p x) xs && each_two p xs

-- one passes, and no other
abbrev pub lone : {X : Type 0} → (X → Bool) → List X → Bool
lone p [] = false
lone p (x ∷ xs) = if p x then not (list_any p xs) else lone p xs

-- v is no older than w, where they are of one hart
abbrev pub follows : Retired → Retired → Bool
follows w v = not (v.hart == w.hart) || nat_lt w.tag v.tag

-- the names are the same
abbrev pub one_name : OpName → OpName → Bool
one_name m n = (m.hart == n.hart) && (m.tag == n.tag) && (m.part == n.part)

-- the places are the same
abbrev pub is_one_place : Place → Place → Bool
is_one_place p q = (p.time == q.time) && (p.message == q.message) && (p.insert == q.insert)

-- they have one place, or none and are of one instruction
abbrev pub clash : Option Place → Option Place → Bool → Bool
clash (Some p) (Some q) one = is_one_place p q
clash None None one = one
clash (Some p) None one = false
clash None (Some q) one = false

-- two operations with different names, that don't clash
abbrev pub apart : Op → Op → Bool
apart a b =
    not (one_name a.name b.name)
    && not (clash a.place b.place ((a.name.hart == b.name.hart) && (a.name.tag == b.name.tag)))

-- the instruction of an operation is in the list
abbrev pub is_named : List Retired → Op → Bool
is_named insns o = is_some (insn_at insns o.name.hart o.name.tag)

-- it has a place
abbrev pub is_performed : Op → Bool
is_performed o = is_some o.place

-- the mask fits an extent of 4 or 8 bytes
abbrev pub fits : ℕ → ℕ → Bool
fits mask len = if len == 4 then nat_lt mask 16 else ((len == 8) && nat_lt mask 256)

-- an operation is whole
abbrev pub whole : Op → Bool
whole o =
    nat_lt 0 o.mask && fits o.mask o.extent.len && (length o.got == o.extent.len) && (length o.put == o.extent.len)

-- o is an operation of w
abbrev pub is_of_insn : Retired → Op → Bool
is_of_insn w o = (o.name.hart == w.hart) && (o.name.tag == w.tag)

-- an LR, or an SC that stored
abbrev pub reserves : Retired → Bool
reserves w = is_lr w.insn || (is_sc w.insn && w.stored)

-- these have one operation
abbrev pub single : List Op → Retired → Bool
single ops w = not (reserves w) || lone (is_of_insn w) ops

-- no block, or one of 8, 16, 32 or 64 bytes
abbrev pub is_granule : ℕ → Bool
is_granule g = (g == 0) || (g == 8) || (g == 16) || (g == 32) || (g == 64)

-- where there is a block, the address of an operation of an LR is a multiple of its length
abbrev pub lr_is_aligned : ℕ → List Retired → Op → Bool
lr_is_aligned granule insns o =
    (granule == 0) || not (is_one is_lr (insn_at insns o.name.hart o.name.tag))
    || (o.extent.addr % o.extent.len == 0)

-- the trace of these is in form
abbrev pub in_form : ℕ → List Retired → List Op → List Op → Bool
in_form granule insns ops early =
    each_two follows insns && list_all (single ops) insns && list_all (is_named insns) ops
    && list_all is_performed early
    && (list_all whole (ops ++ early) && each_two apart (ops ++ early))
    && (is_granule granule && list_all (lr_is_aligned granule insns) ops)
