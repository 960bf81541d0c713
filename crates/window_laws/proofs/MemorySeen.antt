-- Captures of memory, and memory that nothing was stored to.
use Rattle.std.proofs.Common.{ℕ, ◌+◌, ◌<◌, ◌≤◌, ◌≡◌, ltb, Bool, true, false, cond, Option, Some, None, refl, sym}
use Rattle.std.proofs.Common.{ap, subst, ◌∙◌}
use Rattle.std.proofs.Common.{slice_index, slice_index_or, arith}
use Rattle.std.proofs.lemmas.Bool.{and_parts, lt-ltb}
use Rattle.tandem_base.specs.declared.extent.Extent.{Extent}
use Rattle.tandem_base.specs.declared.names.Place.{Place}
use Rattle.elf_image.specs.Images.{Loaded, initial_byte}
use Rattle.rvwmo_model.specs.declared.operations.Op.{Op}
use Rattle.rvwmo_model.specs.declared.traces.Trace.{Trace}
use Rattle.rvwmo_model.specs.Order.{op_stores, has_byte}
use Rattle.rvwmo_model.proofs.Membership.{nothing_in}
use Rattle.byte_memory.specs.declared.memory.Memory.{Memory}
use Rattle.byte_memory.specs.declared.writer.Cell.{Cell}
use Rattle.byte_memory.specs.declared.writer.Writer.{Writer}
use Rattle.byte_memory.specs.Captures.{crosses, capture_base, capture_size, block_base, captured}
use Rattle.byte_memory.specs.Memory.{Written, written_at, cell_over, cell_at}
use Rattle.growth_laws.specs.Laws.{nothing_yet}
use Rattle.window_laws.specs.Captures.{IsStored, IsStoredBefore, IsForeignOf, TellsLatest, TellsByte, TellsStores}
use Rattle.window_laws.specs.Captures.{IsMemoryOf}
use Rattle.window_laws.specs.CaptureLaws.{AllStoredBefore, CapturesAreTaken, MemoryStarts}
use Rattle.window_laws.proofs.ForeignSeen.{foreign_found}
use Rattle.window_laws.proofs.Stores.{GoOn, told_self, tells_stores_on, writer_hart}

-- all that is stored is stored before the place
stored_before : (t : Trace) (place : Place) (x : ℕ) → AllStoredBefore t place
    → GoOn x (IsStored t x) (IsStoredBefore t place x)
stored_before t place x all = record {
  on = λ w p. (w, (p.0, p.1, all w p.0 (and_parts (op_stores w) (has_byte x w) p.1).0 p.2), told_self x w);
  back = λ n q. (n, (q.0, q.1, (q.2.0, q.2.1)), told_self x n);
}

-- a cell of what is kept tells of the last store
cell_tells : (initial : ℕ → ℕ) (P : Op → Type 0) (x : ℕ) (was : Option Written) → TellsStores P x was
    → TellsByte initial P x (cell_over (initial x) was).last (cell_over (initial x) was).value
cell_tells initial P x None h = record { store = None; latest = h; told = refl; byte = refl }
cell_tells initial P x (Some was) h =
    record { store = Some h.store; latest = h.latest; told = sym h.told; byte = h.byte }

-- and of the last one of another hart than its
cell_foreign : (value : ℕ) (P : Op → Type 0) (x : ℕ) (was : Option Written) (w : Writer) → TellsStores P x was
    → (cell_over value was).last ≡ Some w → TellsLatest (IsForeignOf P w.hart) (cell_over value was).other
cell_foreign value P x None w h e = absurd (cc)
cell_foreign value P x (Some was) w h e =
    let same : was.last ≡ w = cc in
    subst (λ (hart : ℕ). TellsLatest (IsForeignOf P hart) was.other)
    (sym (writer_hart h.store was.last h.told) ∙ ap (λ (v : Writer). v.hart) same) h.foreign

captured_there : (memory : Memory) (image : Loaded) (extent : Extent) (k : ℕ) → k < capture_size extent
    → captured memory image extent k ≡ cell_at memory image (capture_base extent + k)
captured_there memory image extent k l =
    let e : ltb k (capture_size extent) ≡ true = lt-ltb k (capture_size extent) l in
    rw e refl

size_fits : (extent : Extent) → capture_size extent ≤ 8
size_fits extent = at (crosses extent)
  where
    at : (b : Bool) → cond b extent.len 8 ≤ 8
    at true = extent.sized.1
    at false = omega arith

module _ (image : Loaded) (t : Trace) (memory : Memory) (place : Place) (extent : Extent) (hm : IsMemoryOf t memory)
    (all : AllStoredBefore t place) where
  kept_before : (x : ℕ) → TellsStores (IsStoredBefore t place x) x (written_at memory x)
  kept_before x =
      tells_stores_on x (IsStored t x) (IsStoredBefore t place x) (written_at memory x)
      (stored_before t place x all) (hm x)

  byte_taken : (k : ℕ) (last : Option Writer) (value : ℕ) → k < capture_size extent
      → last ≡ (captured memory image extent k).last → value ≡ (captured memory image extent k).value
      → TellsByte (initial_byte image) (IsStoredBefore t place (capture_base extent + k)) (capture_base extent + k) last
      value
  byte_taken k last value l e f =
      let x = capture_base extent + k in
      let c = captured_there memory image extent k l in
      let h = cell_tells (initial_byte image) (IsStoredBefore t place x) x (written_at memory x) (kept_before x) in
      record {
        store = h.store;
        latest = h.latest;
        told = e ∙ ap (λ (z : Cell). z.last) c ∙ h.told;
        byte = f ∙ ap (λ (z : Cell). z.value) c ∙ h.byte;
      }

  other_taken : (k : ℕ) (last other : Option Writer) (w : Writer) → k < capture_size extent
      → last ≡ (captured memory image extent k).last → other ≡ (captured memory image extent k).other
      → last ≡ Some w
      → TellsLatest (IsForeignOf (IsStoredBefore t place (capture_base extent + k)) w.hart) other
  other_taken k last other w l e f g =
      let x = capture_base extent + k in
      let c = captured_there memory image extent k l in
      let h = cell_foreign (initial_byte image x) (IsStoredBefore t place x) x (written_at memory x) w (kept_before x)
      (sym (ap (λ (z : Cell). z.last) c) ∙ sym e ∙ g) in
      record { store = h.store; latest = h.latest; told = f ∙ ap (λ (z : Cell). z.other) c ∙ h.told }

pub captures_are_taken : CapturesAreTaken
captures_are_taken = record {
  loads = λ image t memory place extent capture hm all sees e. record {
    taken = e;
    base = sees.base;
    bytes = λ k l. (let m = size_fits extent in let small : k < 8 = omega arith in
        subst (λ (base : ℕ). TellsByte (initial_byte image) (IsStoredBefore t place (base + k)) (base + k)
        (slice_index_or capture.last k None) (slice_index capture.values k)) (sym sees.base)
        (byte_taken image t memory place extent hm all k (slice_index_or capture.last k None)
        (slice_index capture.values k) l (sees.last k small) (sees.value k small)));
  };
  stores = λ image t memory place extent hart block capture hm order all sees others finds e. record {
    seen = record {
      taken = e;
      base = sees.base;
      bytes = λ k l. (let m = size_fits extent in let small : k < 8 = omega arith in
          subst (λ (base : ℕ). TellsByte (initial_byte image) (IsStoredBefore t place (base + k)) (base + k)
          (slice_index_or capture.seen.last k None) (slice_index capture.seen.values k)) (sym sees.base)
          (byte_taken image t memory place extent hm all k (slice_index_or capture.seen.last k None)
          (slice_index capture.seen.values k) l (sees.last k small) (sees.value k small)));
    };
    other = λ k w l g. (let m = size_fits extent in let small : k < 8 = omega arith in
        subst (λ (base : ℕ). TellsLatest (IsForeignOf (IsStoredBefore t place (base + k)) w.hart)
        (slice_index_or capture.other k None)) (sym sees.base)
        (other_taken image t memory place extent hm all k (slice_index_or capture.seen.last k None)
        (slice_index_or capture.other k None) w l (sees.last k small) (others k small) g));
    foreign = foreign_found t memory place hart (block_base extent.addr block) block order
        (kept_before image t memory place extent hm all) capture.foreign finds;
  };
}

pub memory_starts : MemoryStarts
memory_starts granule memory none x =
    subst (λ (was : Option Written). TellsStores (IsStored (nothing_yet granule) x) x was) (sym (none x))
    (λ v p. nothing_in v p.0)
