-- What is answered where a message has performed stores.
use Rattle.std.specs.Prelude.{ℕ, ◌≡◌, ◌<◌, List, [], ◌∷◌, take, length, Bool, true, false, Option, None, Some}
use Rattle.std.specs.List.{Contains}
use Rattle.tandem_base.specs.Extents.{is_among}
use Rattle.rvwmo_model.specs.declared.operations.Op.{Op}
use Rattle.rvwmo_model.specs.declared.preserved.Rule.{Rule}
use Rattle.rvwmo_model.specs.declared.traces.Trace.{Trace}
use Rattle.rvwmo_model.specs.Order.{has_byte}
use Rattle.rvwmo_model.specs.ProgramOrder.{insn_at, is_one}
use Rattle.rvwmo_model.specs.Annotations.{is_annotated}
use Rattle.rvwmo_model.specs.Report.{number, IsReportedPair, AllOrdered}
use Rattle.rvwmo_model.specs.Legal.{Legal}
use Rattle.growth_laws.specs.Kinds.{WellKinded}
use Rattle.growth_laws.specs.Growth.{Performs}
use Rattle.window_laws.specs.Waiting.{AreWaiting}
use Rattle.rule_laws.specs.Fences.{storing, class_orders}
use Rattle.merge_buffer.specs.declared.waiting.Part.{Part}
use Rattle.store_buffer.specs.declared.store.Entry.{Entry}
use Rattle.store_buffer.specs.declared.store.Store.{Store}
use Rattle.store_buffer.specs.Stores.{StoreList, store_of_tag}
use Rattle.store_buffer.specs.Waiting.{AreRetired, waiting_bytes}
use Rattle.drain_rules.specs.declared.drain.BrokenPair.{BrokenPair}
use Rattle.drain_rules.specs.declared.worst.Worst.{Worst}
use Rattle.drain_rules.specs.Answers.{IsBrokenAt, IsLeastOf, drain_number, first_name, entry_under}

-- ---- by the lists

-- the answer names the pair of the least rule that is broken, of that the second operation of the least name, and of
-- that the latest first operation; none is where none is broken
abbrev pub IsDrainAnswer : ℕ → StoreList → List Part → Option BrokenPair → Type 0
IsDrainAnswer hart list parts None = (w : Worst) → IsBrokenAt hart list parts w → ⊥
IsDrainAnswer hart list parts (Some pair) = (w : Worst) × IsLeastOf (IsBrokenAt hart list parts) (Some w)
    × (pair.rule ≡ drain_number w.rule) × (pair.second ≡ w.second)
    × (first_name hart list (take w.index parts) w.bound ≡ Some pair.first)

-- ---- by the trace

-- a FENCE of hart h under the tag n orders stores before stores
abbrev pub FencesStores : Trace → ℕ → ℕ → Type 0
FencesStores t h n = is_one (class_orders storing storing) (insn_at t.insns h n) ≡ true

-- the tag is that of the latest FENCE of hart h before a tag that orders stores before stores, or there is none
abbrev pub IsFenceBefore : Trace → ℕ → ℕ → Option ℕ → Type 0
IsFenceBefore t h tag None = (n : ℕ) → n < tag → FencesStores t h n → ⊥
IsFenceBefore t h tag (Some f) = (f < tag) × FencesStores t h f
    × ((n : ℕ) → f < n → n < tag → FencesStores t h n → ⊥)

-- the operation n is the part p of a store of hart h with this entry
pub record IsPerformedAs (t : Trace) (h : ℕ) (n : Op) (p : Part) (e : Entry) : Type 0 where
  pub tag : n.name.tag ≡ p.tag
  pub bytes : (x : ℕ) → has_byte x n ≡ is_among p.piece.addr (length p.piece.bytes) x
  pub base : e.piece.addr ≡ n.extent.addr
  pub fence : IsFenceBefore t h p.tag e.marks.fence
  pub release : e.marks.release ≡ is_annotated n.release

-- the operations are these parts, one after the other, of stores that are there
abbrev pub ArePerformedAs : Trace → ℕ → StoreList → List Op → List Part → Type 0
ArePerformedAs t h list [] [] = Unit {0}
ArePerformedAs t h list [] (p ∷ ps) = ⊥
ArePerformedAs t h list (n ∷ ns) [] = ⊥
ArePerformedAs t h list (n ∷ ns) (p ∷ ps) =
    ((e : Entry) × (entry_under list p.tag ≡ Some e) × IsPerformedAs t h n p e) × ArePerformedAs t h list ns ps

-- each operation of hart h begins its access where its store does, if that is there
abbrev pub BeginAtStores : Trace → ℕ → List Store → Type 0
BeginAtStores t h stores = (v : Op) (s : Store) → Contains t.ops v → v.name.hart ≡ h
    → store_of_tag v.name.tag stores ≡ Some s → s.entry.piece.addr ≡ v.extent.addr

-- a message of the hart performs these operations, which are these parts; the trace before is legal, and the stores are
-- those of the hart in the trace after it
pub record IsDrained (initial : ℕ → ℕ) (t t' : Trace) (ops : List Op) (hart : ℕ) (parts : List Part)
    (list : StoreList) : Type 0 where
  pub kinded : WellKinded t
  pub legal : Legal initial t
  pub performs : Performs hart t ops t'
  pub told : ArePerformedAs t' hart list ops parts
  pub hart_is : list.hart ≡ hart
  pub retired : AreRetired list.stores
  pub waits : AreWaiting t' hart (waiting_bytes list.stores)
  pub begins : BeginAtStores t' hart list.stores

-- the pair that is reported in a trace is named, or none is broken
abbrev pub NamesPair : Trace → Option BrokenPair → Type 0
NamesPair t None = AllOrdered t
NamesPair t (Some pair) = (k : Rule) × (a : Op) × (b : Op) × IsReportedPair t k a b × (pair.rule ≡ number k)
    × (pair.first ≡ a.name) × (pair.second ≡ b.name)

-- whatever trace the stores stand for once these parts of them are performed, the answer names the pair that is
-- reported there
abbrev pub TellsDrain : ℕ → List Part → StoreList → Option BrokenPair → Type 0
TellsDrain hart parts list answer = (initial : ℕ → ℕ) (t t' : Trace) (ops : List Op)
    → IsDrained initial t t' ops hart parts list → NamesPair t' answer
