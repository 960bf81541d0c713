-- What is kept of a made stream makes its operations those of the log, once all is performed.
use Rattle.std.proofs.Common.{ℕ, ◌≡◌, ◌+◌, ◌*◌, ◌<◌, List, [], ◌∷◌, map}
use Rattle.std.proofs.Common.{refl, ap, sym, subst, ◌∙◌, arith, inl, inr, Some, slice_index}
use Rattle.std.specs.List.{Contains}
use Rattle.std.proofs.lemmas.Bool.{both_ways}
use Rattle.msg_frames.specs.declared.message.Message.{Message}
use Rattle.matching.specs.Reports.{early}
use Rattle.matching.specs.Fates.{fate, place_of}
use Rattle.rvwmo_model.specs.declared.instructions.Retired.{Retired}
use Rattle.rvwmo_model.specs.declared.operations.Op.{Op}
use Rattle.rvwmo_model.specs.declared.traces.Trace.{Trace}
use Rattle.rvwmo_model.specs.Order.{kind_loads}
use Rattle.trace_model.specs.Entries.{Entry, MemoryUse, Places, byte_places, memory_ops, entry_ops, insns_of}
use Rattle.trace_model.specs.Traces.{entries, places, early_op, trace_of}
use Rattle.trace_model.proofs.Lists.{In, listed, contained, in_flat, from_flat, in_cases}
use Rattle.trace_gen.specs.declared.rounds.Progress.{Progress}
use Rattle.trace_gen.specs.Program.{made_image, own_addr}
use Rattle.trace_gen.specs.Rounds.{tag_of, bytes_of_number}
use Rattle.gen_order_laws.proofs.Logs as logs
use Rattle.gen_order_laws.proofs.Logs.{Perf, counter, forward, written, add, again, turn_of, turns_of, takes, order_of}
use Rattle.gen_order_laws.proofs.Logs.{order_bound, insn_of_access}
use Rattle.gen_order_laws.proofs.MadeOps.{IsOp, IsMade, IsMadeInsn, kind_of_access, addr_of_access, len_of_access}
use Rattle.gen_order_laws.proofs.MadeOps.{stored_of}
use Rattle.gen_order_laws.proofs.OpParts.{IsAccess, parts_are, part_there}
use Rattle.gen_order_laws.proofs.Entered.{IsFixedBy, IsStoredBy, IsOfLog, IsEntryOf, retired_by}
use Rattle.gen_order_laws.proofs.Growing.{insn_bound}
use Rattle.gen_order_laws.proofs.Kept.{IsKept}

insn_from : (es : List Entry) (w : Retired) → In w (insns_of es) → (e : Entry) × In e es × (w ≡ e.insn)
insn_from [] w i = absurd i
insn_from (e ∷ es) w i = elim (in_cases (insns_of es) (e.insn ∷ []) w i) [
  | inl j ↦ let r = insn_from es w j in (r.0, inr r.1, r.2)
  | inr j ↦ elim j [ inl q ↦ (e, inl refl, q) | inr none ↦ absurd none ]
]

module _ (harts c rounds : ℕ) (progress : ℕ → Progress) (before : List Message) (kept : IsKept harts c progress before)
    (turns : (h : ℕ) → h < harts → turns_of (progress h) ≡ 5 * rounds)
    (reached : (h : ℕ) → h < harts → retired_by (progress h) ≡ 7 * rounds) (quiet : early before ≡ []) where
  abbrev g : Places
  g = places before

  abbrev es : List Entry
  es = entries made_image before

  abbrev t : Trace
  t = trace_of made_image before

  in_rounds : (f : Perf) → In f kept.log → f.round < rounds
  in_rounds f i =
      let d = kept.logged.done f i in omega (arith, d, turns f.hart (kept.logged.hart f i))

  -- the operation of a store
  module _ (e : Entry) (f w : Perf) (i : In f kept.log) (j : In w kept.log) (by : IsStoredBy f e)
      (hart : w.hart ≡ f.hart)
      (round : w.round ≡ f.round) (access : w.access ≡ written) where
    store_access : IsAccess w by.access
    store_access = record {
      hart = by.hart ∙ sym hart;
      tag =
          by.tag ∙ ap (λ (r : ℕ). tag_of r 1) (sym round)
          ∙ ap (λ (a : logs.Access). tag_of w.round (insn_of_access a)) (sym access);
      kind = by.kind ∙ ap kind_of_access (sym access);
      acquire = by.acquire;
      release = by.release;
      addr = by.addr ∙ ap own_addr (sym hart) ∙ ap (λ (a : logs.Access). addr_of_access a w.hart) (sym access);
      len = by.len ∙ ap len_of_access (sym access);
      got = λ k lt l.
          absurd (both_ways (kind_loads (kind_of_access w.access))
          (ap (λ (a : logs.Access). kind_loads (kind_of_access a)) access) l);
      put = λ k lt s.
          by.put k
          ∙ ap (λ (y : ℕ). slice_index (bytes_of_number y) k)
          (kept.logged.alike f w i j (sym hart) (sym round) by.takes_it (ap takes access))
          ∙ ap (λ (a : logs.Access). slice_index (bytes_of_number (stored_of a w.value)) k) (sym access);
    }

    here : (k : ℕ) → k < by.access.extent.len → byte_places g by.access k ≡ Some w.place
    here k lt =
        ap (λ (x : ℕ). place_of (fate before x by.access.tag (by.access.extent.addr + k))) (by.hart ∙ sym hart)
        ∙ ap (λ (x : ℕ). place_of (fate before w.hart x (by.access.extent.addr + k)))
        (by.tag ∙ ap (λ (r : ℕ). tag_of r 1) (sym round))
        ∙ ap (λ (x : ℕ). place_of (fate before w.hart (tag_of w.round 1) (x + k))) (by.addr ∙ ap own_addr (sym hart))
        ∙ ap place_of (kept.written w j access k (omega (arith, lt, by.len)))

    store_are : (o : Op) → In o (entry_ops g e) → IsOp w o
    store_are o k =
        parts_are w by.access (byte_places g by.access) store_access here o
        (subst (λ (u : MemoryUse). In o (memory_ops g u)) by.is k)

    store_there : (o : Op) × In o (entry_ops g e)
    store_there =
        let part = part_there w by.access (byte_places g by.access) store_access here (omega (arith, by.len)) in
        (part.0, subst (λ (u : MemoryUse). In part.0 (memory_ops g u)) (sym by.is) part.1)

  abbrev store_of : (f : Perf) → In f kept.log → (w : Perf) × In w kept.log × (w.hart ≡ f.hart) × (w.round ≡ f.round)
      × (w.access ≡ written)
  store_of f i =
      let h = kept.logged.hart f i in
      kept.logged.there f.hart f.round written h (omega (arith, turns f.hart h, in_rounds f i))

  by_entry : (e : Entry) (o : Op) → In o (entry_ops g e) → IsOfLog kept.log e → (f : Perf) × In f kept.log × IsOp f o
  by_entry e o i (inl q) = absurd (subst (λ (u : MemoryUse). In o (memory_ops g u)) q i)
  by_entry e o i (inr (inl q)) =
      (q.0, q.1, q.2.all o (subst (λ (u : MemoryUse). In o (memory_ops g u)) q.2.is i))
  by_entry e o i (inr (inr q)) =
      let w = store_of q.0 q.1 in (w.0, w.1, store_are e q.0 w.0 q.1 w.1 q.2 w.2 w.3 w.4 o i)

  all_ops : (o : Op) → Contains t.ops o → (f : Perf) × In f kept.log × IsOp f o
  all_ops o i =
      let r = from_flat (entry_ops g) es o (listed t.ops o i) in
      by_entry r.0 o r.2 (kept.entered.known r.0 r.1)

  abbrev Has : Perf → Type 0
  Has f = (o : Op) × Contains t.ops o × IsOp f o

  from_entry : (f : Perf) (e : Entry) → In e es → ((o : Op) × In o (entry_ops g e) × IsOp f o) → Has f
  from_entry f e i o = (o.0, contained t.ops o.0 (in_flat (entry_ops g) es e o.0 i o.1), o.2)

  from_fixed : (f k : Perf) (e : Entry) → In f kept.log → In k kept.log → In e es → k.hart ≡ f.hart → k.round ≡ f.round
      → k.access ≡ f.access → IsFixedBy k e → Has f
  from_fixed f k e i j l hart round access by =
      let turn : turn_of k ≡ turn_of f =
      ap (λ (r : ℕ). 5 * r + order_of k.access) round ∙ ap (λ (a : logs.Access). 5 * f.round + order_of a) access in
      let same : k ≡ f = kept.logged.keyed k f j i hart turn in
      from_entry f e l (
        by.some.0,
        subst (λ (u : MemoryUse). In by.some.0 (memory_ops g u)) (sym by.is) by.some.1,
        subst (λ (x : Perf). IsOp x by.some.0) same (by.all by.some.0 by.some.1),
      )

  from_stored : (f k : Perf) (e : Entry) → In f kept.log → In k kept.log → In e es → k.hart ≡ f.hart → k.round ≡ f.round
      → f.access ≡ written → IsStoredBy k e → Has f
  from_stored f k e i j l hart round access by =
      let part = store_there e k f j i by (sym hart) (sym round) access in
      from_entry f e l (part.0, part.1, store_are e k f j i by (sym hart) (sym round) access part.0 part.1)

  by_access : (a : logs.Access) (f k : Perf) (e : Entry) → f.access ≡ a → In f kept.log → In k kept.log → In e es
      → k.hart ≡ f.hart → k.round ≡ f.round → IsEntryOf a k e → Has f
  by_access counter f k e q i j l hart round by = from_fixed f k e i j l hart round (by.0 ∙ sym q) by.1
  by_access forward f k e q i j l hart round by = from_fixed f k e i j l hart round (by.0 ∙ sym q) by.1
  by_access written f k e q i j l hart round by = from_stored f k e i j l hart round q by
  by_access add f k e q i j l hart round by = from_fixed f k e i j l hart round (by.0 ∙ sym q) by.1
  by_access again f k e q i j l hart round by = from_fixed f k e i j l hart round (by.0 ∙ sym q) by.1

  all_there : (f : Perf) → In f kept.log → Has f
  all_there f i =
      let h = kept.logged.hart f i in
      let r = kept.entered.there f.hart f.round f.access h
      (omega (arith, reached f.hart h, in_rounds f i, insn_bound f.access)) in
      by_access f.access f r.0 r.1 refl i r.2 r.3 r.4 r.5 r.6

  -- the operations are those of the log
  pub made_trace : IsMade kept.log t
  made_trace = record {
    early = ap (map early_op) quiet;
    ops = all_ops;
    there = all_there;
    insns = λ w i.
        let r = insn_from es w i in
        subst IsMadeInsn (sym r.2) (kept.entered.insns r.0 r.1);
  }
