-- Each entry is of its instruction.
use Rattle.std.proofs.Common.{ℕ, ◌+◌, ◌<◌, ◌≡◌, ◌≢◌, inl, inr, Bool, false, eqb, List, [], ◌∷◌, length}
use Rattle.std.proofs.Common.{Option, Some, None}
use Rattle.std.proofs.Common.{refl, sym, ap, subst, ◌∙◌}
use Rattle.std.proofs.lemmas.Bool.{and_parts, eqb-true}
use Rattle.std.proofs.lemmas.List.{length-replicate}
use Rattle.tandem_base.specs.declared.extent.Extent.{Extent}
use Rattle.msg_frames.specs.declared.message.Head.{Head}
use Rattle.msg_frames.specs.declared.message.Body.{Body}
use Rattle.msg_frames.specs.declared.message.Body.TheVariants as body
use Rattle.msg_frames.specs.declared.message.Message.{Message}
use Rattle.elf_image.specs.Images.{Loaded}
use Rattle.rv_decode.specs.declared.instruction.Insn.{Insn}
use Rattle.rv_step.specs.Steps.{Doing, trap, plain, counter, load, store, lr, sc, amo}
use Rattle.rvwmo_model.specs.declared.operations.Op.{Op}
use Rattle.rvwmo_model.specs.declared.operations.OpKind.{OpKind}
use Rattle.rvwmo_model.specs.declared.operations.Ann.{Ann}
use Rattle.rvwmo_model.specs.InForm.{IsPlaced, IsOf}
use Rattle.matching.specs.declared.reports.OpenReport.{OpenReport}
use Rattle.matching.specs.Reports.{is_report, counting, early_of, place_counted, place_of_report, live, early}
use Rattle.matching.specs.declared.run.Pair.{Pair}
use Rattle.matching.specs.Runs.{run_of, doing_at}
use Rattle.trace_model.specs.Extents.{extent_of}
use Rattle.trace_model.specs.Groups.{Access}
use Rattle.trace_model.specs.Entries.{Fixed, Stores, Entry}
use Rattle.trace_model.specs.Retirements.{load_access, read_places, load_ops, store_access}
use Rattle.trace_model.specs.Retirements.{bypass_op, atomic_ops, entry, entry_of}
use Rattle.trace_model.specs.Traces.{entry_in, entries, stored_at}
use Rattle.trace_model.proofs.Lists.{In, Pairs}
use Rattle.trace_model.proofs.Extents.{extent_is}
use Rattle.trace_model.proofs.Groups.{part_from}
use Rattle.trace_model.proofs.AreEntries.{IsEntry, parts_once}
use Rattle.trace_model.proofs.Early.{latest_in}
use Rattle.trace_model.proofs.Keys.{with_cases}
use Rattle.trace_model.proofs.Suits.{IsCounted, SuitsDoing, SuitsBody, Suited}

-- an entry whose operations stay
of_fixed : (e : Entry) (ops : List Op) → e.memory ≡ Fixed ops → ((v : Op) → In v ops → IsPlaced v × IsOf e.insn v)
    → Pairs (λ a b. a ≢ b) ops → IsEntry e
of_fixed e ops q each once = record {
  named = λ a r. let z : Fixed ops ≡ Stores a = sym q ∙ r in absurd (cc);
  sized = λ a r. let z : Fixed ops ≡ Stores a = sym q ∙ r in absurd (cc);
  placed = λ xs v r i. (each v (same xs v r i)).0;
  own = λ xs v r i. (each v (same xs v r i)).1;
  once = λ xs r. subst (λ (z : List Op). Pairs (λ a b. a ≢ b) z) (equal xs r) once;
}
  where
    equal : (xs : List Op) → e.memory ≡ Fixed xs → ops ≡ xs
    equal xs r = let z : Fixed ops ≡ Fixed xs = sym q ∙ r in cc

    same : (xs : List Op) (v : Op) → e.memory ≡ Fixed xs → In v xs → In v ops
    same xs v r i = subst (λ (z : List Op). In v z) (sym (equal xs r)) i

of_nothing : (e : Entry) → e.memory ≡ Fixed [] → IsEntry e
of_nothing e q = of_fixed e [] q (λ v i. absurd i) tt

-- the place of a byte that counts
pub counted_place : (live : List OpenReport) (t addr len : ℕ) (extent : Extent) → extent.addr ≡ addr → extent.len ≡ len
    → IsCounted live t addr len → (k : ℕ) → k < extent.len
    → (r : OpenReport) × (counting live t (extent.addr + k) ≡ Some r)
counted_place live t addr len extent a b counted k l =
    let r = counted k (subst (λ (z : ℕ). k < z) b l) in
    (r.0, ap (λ z. counting live t (z + k)) a ∙ r.1)

of_load : (live : List OpenReport) (head : Head) (insn : Insn) (stored : Bool) (extent : Extent)
    → ((k : ℕ) → k < extent.len → (r : OpenReport) × (counting live head.tag (extent.addr + k) ≡ Some r))
    → IsEntry (entry head insn stored (Fixed (load_ops live head insn extent)))
of_load live head insn stored extent counted =
    of_fixed (entry head insn stored (Fixed (load_ops live head insn extent))) (load_ops live head insn extent) refl
    each
    (parts_once (load_access live head insn extent) (read_places live head.tag extent) extent.len)
  where
    each : (v : Op) → In v (load_ops live head insn extent) → IsPlaced v
        × IsOf (entry head insn stored (Fixed (load_ops live head insn extent))).insn v
    each v i =
        let y = part_from (load_access live head insn extent) (read_places live head.tag extent) extent.len v i in
        let r = counted y.0 y.1 in (
          (place_of_report r.0, ap (λ (z : Op). z.place) y.2 ∙ ap place_counted r.1),
          (ap (λ (z : Op). z.name.hart) y.2, ap (λ (z : Op). z.name.tag) y.2),
        )

of_store : (head : Head) (insn : Insn) (extent : Extent) (put : List ℕ) → length put ≡ extent.len
    → IsEntry (entry head insn false (Stores (store_access head insn extent put)))
of_store head insn extent put s = record {
  named = λ a r. let z : store_access head insn extent put ≡ a = cc in
      (sym (ap (λ (w : Access). w.hart) z), sym (ap (λ (w : Access). w.tag) z));
  sized = λ a r. let z : store_access head insn extent put ≡ a = cc in
      subst (λ (w : Access). (length w.got ≡ w.extent.len) × (length w.put ≡ w.extent.len)) z
      (length-replicate extent.len 0, s);
  placed = λ xs v r i. absurd (cc);
  own = λ xs v r i. absurd (cc);
  once = λ xs r. absurd (cc);
}

-- the early Bypass of an instruction is of its hart and tag, and one of the early ones
pub early_key : (early : List OpenReport) (h t : ℕ) (r : OpenReport) → early_of early h t ≡ Some r
    → In r early × (r.hart ≡ h)
    × (r.tag ≡ t)
early_key early h t r e =
    let y = latest_in (is_report h t) early r e in
    let s = and_parts (eqb r.hart h) (eqb r.tag t) y.1 in
    (y.0, eqb-true _ _ s.0, eqb-true _ _ s.1)

of_atomic : (early : List OpenReport) (head : Head) (insn : Insn) (stored : Bool) (k : OpKind) (extent : Extent)
    (got : List ℕ) (aq rl : Ann)
    → IsEntry (entry head insn stored (Fixed (atomic_ops k extent got aq rl (early_of early head.hart head.tag))))
of_atomic early head insn stored k extent got aq rl = at (early_of early head.hart head.tag) refl
  where
    at : (o : Option OpenReport) → early_of early head.hart head.tag ≡ o
        → IsEntry (entry head insn stored (Fixed (atomic_ops k extent got aq rl o)))
    at None q = of_nothing _ refl
    at (Some r) q =
        let y = early_key early head.hart head.tag r q in
        of_fixed (entry head insn stored (Fixed (bypass_op k extent got aq rl r ∷ [])))
        (bypass_op k extent got aq rl r ∷ []) refl (each y.1 y.2) (λ v i. absurd i, tt)
      where
        each : r.hart ≡ head.hart → r.tag ≡ head.tag → (v : Op) → In v (bypass_op k extent got aq rl r ∷ [])
            → IsPlaced v × IsOf (entry head insn stored (Fixed (bypass_op k extent got aq rl r ∷ []))).insn v
        each a b v (inl e) = (
          (place_of_report r, ap (λ (z : Op). z.place) e),
          (ap (λ (z : Op). z.name.hart) e ∙ a, ap (λ (z : Op). z.name.tag) e ∙ b),
        )
        each a b v (inr i) = absurd i

is_entry : (f e : Entry) → Some f ≡ Some e → IsEntry f → IsEntry e
is_entry f e q k = subst IsEntry (let c : f ≡ e = cc in c) k

pub made_entry : (live early : List OpenReport) (pair : Option Pair) (head : Head) (put : List ℕ) (d : Doing)
    → SuitsDoing live early pair head put d → (e : Entry) → entry_of live early head put d ≡ Some e → IsEntry e
made_entry live early pair head put (trap cause value) s e q = absurd (cc)
made_entry live early pair head put (plain insn) s e q = is_entry _ e q (of_nothing _ refl)
made_entry live early pair head put (counter insn) s e q = is_entry _ e q (of_nothing _ refl)
made_entry live early pair head put (load insn addr len) s e q =
    let x = extent_is addr len s.0.sized in
    is_entry _ e q (of_load live head insn false (extent_of addr len)
    (counted_place live head.tag addr len (extent_of addr len) x.addr_is x.len_is s.0.counted))
made_entry live early pair head put (store insn addr len) s e q =
    let x = extent_is addr len s.0.sized in
    is_entry _ e q (of_store head insn (extent_of addr len) put (s.0.stored ∙ sym x.len_is))
made_entry live early pair head put (lr insn addr len) s e q =
    let x = extent_is addr len s.0.sized in
    is_entry _ e q (of_load live head insn false (extent_of addr len)
    (counted_place live head.tag addr len (extent_of addr len) x.addr_is x.len_is s.0.counted))
made_entry live early pair head put (sc insn addr len) s e q = is_entry _ e q (of_atomic early head insn _ _ _ _ _ _)
made_entry live early pair head put (amo insn addr len) s e q = is_entry _ e q (of_atomic early head insn _ _ _ _ _ _)

pub each_entry : (image : Loaded) (before : List Message) → Suited image before → (e : Entry)
    → In e (entries image before) → IsEntry e
each_entry image [] s e i = absurd i
each_entry image (m ∷ before) s e i = elim
    (with_cases (entry_in image before m.head m.body) (entries image before) e i) [
      | inl j ↦ each_entry image before s.0 e j
      | inr q ↦ at m.body s.2 q
    ]
  where
    at : (b : Body) → SuitsBody image before m.head b → entry_in image before m.head b ≡ Some e → IsEntry e
    at (body.Retire retire) s q = made_entry (live before m.head.hart) (early before)
        (run_of image before m.head.hart).pair m.head (stored_at image before m.head retire)
        (doing_at image before m.head.hart) s.doing e q
    at _ s q = absurd (cc)
