-- What is kept of an LR while a trace grows.
use Rattle.std.proofs.Common.{ℕ, ◌+◌, ◌<◌, ◌≡◌, inl, inr, true, Option, Some, None, option_map, sym}
use Rattle.std.proofs.Common.{ap, subst, ◌∙◌, arith}
use Rattle.std.proofs.lemmas.Bool.{both_ways, and_from}
use Rattle.std.proofs.lemmas.List.Elements.{Contains-append_left}
use Rattle.std.specs.List.{Contains}
use Rattle.tandem_base.specs.Extents.{Covers}
use Rattle.rv_decode.specs.Kinds.{is_lr}
use Rattle.rvwmo_model.specs.declared.operations.Op.{Op}
use Rattle.rvwmo_model.specs.declared.operations.OpKind.TheVariants as kind
use Rattle.rvwmo_model.specs.declared.traces.Trace.{Trace}
use Rattle.rvwmo_model.specs.InForm.{IsPlaced}
use Rattle.rvwmo_model.specs.Order.{kind_loads, op_loads, has_byte, reads, precedes, everything, standing}
use Rattle.rvwmo_model.specs.ProgramOrder.{insn_at, insn_of, is_one}
use Rattle.rvwmo_model.specs.Sources.{IsWriter, source}
use Rattle.rvwmo_model.proofs.Extents.{from_bounds}
use Rattle.rvwmo_model.proofs.Latest.{source_is}
use Rattle.rvwmo_model.proofs.Orders.{before_self}
use Rattle.rvwmo_model.proofs.Tested.{one_some}
use Rattle.growth_laws.specs.Kinds.{WellKinded}
use Rattle.growth_laws.specs.Laws.{SourceStays}
use Rattle.growth_laws.proofs.AddedOps.{lr_kind}
use Rattle.growth_laws.proofs.Facts.{load_placed, older_parts}
use Rattle.growth_laws.proofs.Places.{not_both, before_placed}
use Rattle.window_laws.specs.Tables.{untimed, source_told}
use Rattle.amo_pairing.specs.declared.reservation.Reservation.{Reservation}
use Rattle.amo_pairing.specs.Reservations.{IsOfOpenLr, IsOpenPairing}
use Rattle.amo_pairing.proofs.Opens.{SameOpens, open_on, open_back}

-- the instruction of the open LR's operation is an LR
pub lr_of : (t : Trace) (h : ℕ) (l : Op) → IsOfOpenLr t h l → is_one is_lr (insn_of t l) ≡ true
lr_of t h l o = subst (λ (g : ℕ). is_one is_lr (insn_at t.insns g l.name.tag) ≡ true) (sym o.hart) o.latest.lr

pub lr_loads : (t : Trace) (h : ℕ) (l : Op) → WellKinded t → IsOfOpenLr t h l → op_loads l ≡ true
lr_loads t h l k o =
    let w = one_some is_lr (insn_of t l) (lr_of t h l o) in
    let c : Some kind.Load ≡ Some l.kind = sym (lr_kind w.0.insn w.0.stored w.2) ∙ k.kinds l w.0 o.here w.1 in
    let same : kind.Load ≡ l.kind = cc in
    ap kind_loads (sym same)

-- it loads each byte of its extent
pub lr_reads : (t : Trace) (h : ℕ) (l : Op) (x : ℕ) → WellKinded t → IsOfOpenLr t h l → Covers l.extent x
    → reads x l ≡ true
lr_reads t h l x k o c = and_from (op_loads l) (has_byte x l) (lr_loads t h l k o) (o.whole x c)

pub lr_is_placed : (t : Trace) (h : ℕ) (l : Op) → WellKinded t → IsOfOpenLr t h l → IsPlaced l
lr_is_placed t h l k o = load_placed t l k o.here (lr_loads t h l k o)

-- byte n of it is one of its extent
pub byte_in : (l : Op) (n : ℕ) → n < l.extent.len → Covers l.extent (l.extent.addr + n)
byte_in l n less = from_bounds l.extent (l.extent.addr + n) (omega arith) (omega arith)

pub open_lr_on : (t t' : Trace) (h : ℕ) (l : Op) → SameOpens t t' h → Contains t'.ops l → IsOfOpenLr t h l
    → IsOfOpenLr t' h l
open_lr_on t t' h l s i o = record {
  here = i;
  hart = o.hart;
  latest = open_on t t' h l.name.tag s o.latest;
  aligned = o.aligned;
  whole = o.whole;
}

-- a source that stays is told alike
pub told_same : (initial : ℕ → ℕ) (t t' : Trace) (i : Op) (x : ℕ) → SourceStays t t' i x
    → source_told initial (source t' i x) x ≡ source_told initial (source t i x) x
told_same initial t t' i x s =
    let p = ap (option_map untimed) s.place in
    let b = s.byte initial in
    λ n. record { writer = s.store n; place = p n; byte = b n }

-- where instructions and sources stay, so does what is kept
pub pairing_kept : (initial : ℕ → ℕ) (t t' : Trace) (h : ℕ) → WellKinded t → SameOpens t t' h
    → ((l : Op) → Contains t.ops l → IsPlaced l → Contains t'.ops l)
    → ((l : Op) (x : ℕ) → IsOfOpenLr t h l → reads x l ≡ true
    → source_told initial (source t' l x) x ≡ source_told initial (source t l x) x)
    → (kept : Option Reservation) → IsOpenPairing initial t h kept → IsOpenPairing initial t' h kept
pairing_kept initial t t' h k s on told None none = λ j o. none j (open_back t t' h j s o)
pairing_kept initial t t' h k s on told (Some r) p =
    let l = p.0 in let o = p.1 in let a = p.2 in (
      l,
      open_lr_on t t' h l s (on l o.here (lr_is_placed t h l k o)) o,
      record {
        extent = a.extent;
        place = a.place;
        sources = λ n less. a.sources n less
            ∙ sym (told l (l.extent.addr + n) o (lr_reads t h l (l.extent.addr + n) k o (byte_in l n less)));
      },
    )

-- a source that isn't performed is of the hart
pub waiting_hart : (t : Trace) (l s : Op) (x : ℕ) → IsPlaced l → source t l x ≡ Some s → s.place ≡ None
    → s.name.hart ≡ l.name.hart
waiting_hart t l s x p e none = at (source_is t l x s e).0
  where
    early : precedes s l ≡ true → s.name.hart ≡ l.name.hart
    early q = absurd (not_both s (before_placed s l p q) none)

    at : IsWriter t l x s → s.name.hart ≡ l.name.hart
    at (inl w) = elim w.2 [ inl q ↦ early q | inr o ↦ (older_parts s l o).0 ]
    at (inr w) = early w.2

-- nothing that is there is above all that is there
pub above_none : (t : Trace) (m : Op) → Contains t.ops m → IsPlaced m
    → ((v : Op) → Contains (everything t) v → IsPlaced v → precedes v m ≡ true) → ⊥
above_none t m i p above =
    both_ways _ (before_self (standing m)) (above m (Contains-append_left t.ops t.early m i) p)
