-- What is chosen is the source.
use Rattle.std.proofs.Common.{ℕ, ◌+◌, ◌-◌, ◌<◌, ◌≡◌, true, List, Option, Some, None, refl, sym, ap, subst, ◌∙◌}
use Rattle.std.proofs.Common.{slice_index, slice_index_or, arith}
use Rattle.std.proofs.lemmas.Bool.{both_ways, and_from, and_parts}
use Rattle.std.proofs.lemmas.Bool.Decides.{nat_tests}
use Rattle.rvwmo_model.specs.declared.traces.Trace.{Trace}
use Rattle.byte_memory.specs.declared.capture.Capture.{Capture}
use Rattle.byte_memory.specs.Captures.{capture_size}
use Rattle.kept_ops.specs.declared.operation.KeptOp.{KeptOp}
use Rattle.kept_ops.specs.Marks.{IsLatestThat, passes_over}
use Rattle.kept_ops.specs.Operations.{stores_at, came_after}
use Rattle.kept_ops.specs.Tables.{KeptTable, KnowsLatest}
use Rattle.tandem_base.specs.declared.names.Position.{Position}
use Rattle.tandem_base.specs.Extents.{is_among}
use Rattle.tandem_base.specs.declared.extent.Extent.{Extent}
use Rattle.window_laws.specs.Captures.{IsStoredBefore, TellsByte, IsCaptureOf}
use Rattle.window_laws.specs.Waiting.{IsLatestWaiting}
use Rattle.window_laws.specs.ToldSources.{IsKeptAfter, IsLatestKept, waiting_source}
use Rattle.tandem_base.specs.declared.names.Place.{Place}
use Rattle.window_laws.proofs.ToldSources.{sources_are_told}
use Rattle.store_buffer.specs.declared.pending.Pending.{Pending}
use Rattle.store_buffer.specs.Stores.{StoreList}
use Rattle.store_buffer.specs.Waiting.{AreRetired, waiting_bytes, pending_in, IsGreatestWaiting}
use Rattle.store_buffer.proofs.WaitingBytes.{pending_is, pending_hart, waits_under}
use Rattle.reads_from.specs.Choice.{source_chosen, TellsSource}

-- the capture's byte at x
byte_seen : (initial : ℕ → ℕ) (t : Trace) (place : Place) (extent : Extent) (seen : Capture) (x : ℕ)
    → IsCaptureOf initial t place extent seen → is_among seen.base (capture_size extent) x ≡ true
    → TellsByte initial (IsStoredBefore t place x) x (slice_index_or seen.last (x - seen.base) None)
    (slice_index seen.values (x - seen.base))
byte_seen initial t place extent seen x h inside =
    let small : x - seen.base < capture_size extent = grind (arith, nat_tests, inside) in
    let there : seen.base + (x - seen.base) ≡ x = grind (arith, nat_tests, inside) in
    subst (λ (y : ℕ). TellsByte initial (IsStoredBefore t place y) y (slice_index_or seen.last (x - seen.base) None)
    (slice_index seen.values (x - seen.base))) there (h.bytes (x - seen.base) small)

-- what the table finds is the latest kept store after the place
module _ (ops : List KeptOp) (place : Position) (x : ℕ) where
  passes : (m : KeptOp) → IsKeptAfter ops place x m → passes_over (stores_at x) place m ≡ true
  passes m c = and_from (stores_at x m) (came_after place m) c.stores c.after

  pub none_kept : IsLatestThat (passes_over (stores_at x) place) ops None → (m : KeptOp) → IsKeptAfter ops place x m → ⊥
  none_kept h m c = both_ways _ (h m c.here) (passes m c)

  pub latest_kept : (m : KeptOp) → IsLatestThat (passes_over (stores_at x) place) ops (Some m)
      → IsLatestKept ops place x m
  latest_kept m h =
      let p = and_parts (stores_at x m) (came_after place m) h.1 in
      record {
        kept_after = record { here = h.0; stores = p.0; after = p.1 };
        latest = λ n c. h.2 n c.here (passes n c);
      }

-- by what waits
module _ (stores : StoreList) (table : KeptTable) (seen : Capture) (x : ℕ) where
  by_waiting : (waiting : Option Pending) (found : Option KeptOp) → pending_in stores.hart stores.stores x ≡ waiting
      → IsGreatestWaiting (waiting_bytes stores.stores) x waiting
      → ((loads : List KeptOp) → KnowsLatest table x loads
      → IsLatestThat (passes_over (stores_at x) seen.place) table.ops found)
      → TellsSource stores table seen x (source_chosen waiting found seen x)
  by_waiting (Some w) found q g latest initial t t' b a =
      let bytes = waiting_bytes stores.stores in
      let last : IsLatestWaiting bytes a.r.tag x w.tag w.byte = record {
        here = g.0;
        inside = waits_under a.r.tag w.tag x w.byte stores.stores a.before g.0;
        latest = λ k l m. g.1 k l;
      } in
      sym (sources_are_told.waiting initial t t' a.r b a.place x w.tag w.byte bytes a.kinded a.new a.waits last
      ∙ ap (λ (h : ℕ). waiting_source h w.tag w.byte)
      (sym (pending_hart stores.hart x stores.stores w q ∙ a.hart)))
  by_waiting None (Some m) q g latest initial t t' b a =
      sym (sources_are_told.kept initial t t' a.r b a.place a.oldest x (waiting_bytes stores.stores) table.ops m
      a.kinded a.new a.positioned a.since a.waits (λ tag l. g tag) a.keeps
      (subst (λ (p : Position). IsLatestKept table.ops p x m) a.captured.taken
      (latest_kept table.ops seen.place x m (latest a.loads a.knows))))
  by_waiting None None q g latest initial t t' b a =
      sym (sources_are_told.captured initial t t' a.r b a.place a.oldest x (waiting_bytes stores.stores) table.ops
      (slice_index_or seen.last (x - seen.base) None) (slice_index seen.values (x - seen.base)) a.kinded a.new
      a.positioned a.since a.waits (λ tag l. g tag) a.keeps
      (subst (λ (p : Position). (m : KeptOp) → IsKeptAfter table.ops p x m → ⊥) a.captured.taken
      (none_kept table.ops seen.place x (latest a.loads a.knows)))
      (byte_seen initial t a.place a.extent seen x a.captured a.inside))

  pub chosen_tells : AreRetired stores.stores → (found : Option KeptOp)
      → ((loads : List KeptOp) → KnowsLatest table x loads
      → IsLatestThat (passes_over (stores_at x) seen.place) table.ops found)
      → TellsSource stores table seen x (source_chosen (pending_in stores.hart stores.stores x) found seen x)
  chosen_tells retired found latest =
      by_waiting (pending_in stores.hart stores.stores x) found refl (pending_is stores.hart x stores.stores retired)
      latest
