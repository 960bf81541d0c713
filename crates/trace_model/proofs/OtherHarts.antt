-- What is told of one hart stays at a message of another.
use Rattle.std.proofs.Common.{ℕ, zero, suc, ◌+◌, ◌≡◌, Bool, true, false, not, eqb, ◌&&◌, cond, List, []}
use Rattle.std.proofs.Common.{◌∷◌}
use Rattle.std.proofs.Common.{length, Option, Some, None, refl, sym, ap, subst, ◌∙◌}
use Rattle.std.specs.List.{filter, flat_map, cons_option}
use Rattle.std.proofs.lemmas.Bool.{both_ways, and_parts, eqb-true, eq-eqb}
use Rattle.std.proofs.lemmas.List.Elements.{filter-append}
use Rattle.tandem_base.specs.declared.names.Place.{Place}
use Rattle.msg_frames.specs.declared.message.Head.{Head}
use Rattle.msg_frames.specs.declared.message.Body.{Body}
use Rattle.msg_frames.specs.declared.message.Body.TheVariants as body
use Rattle.msg_frames.specs.declared.message.Message.{Message}
use Rattle.elf_image.specs.Images.{Loaded}
use Rattle.rv_step.specs.Steps.{Doing, trap, plain, counter, load, store, lr, sc, amo}
use Rattle.rvwmo_model.specs.declared.operations.Op.{Op}
use Rattle.matching.specs.declared.reports.OpenReport.{OpenReport}
use Rattle.matching.specs.declared.stores.Stored.{Stored}
use Rattle.matching.specs.declared.stores.Fate.{Fate}
use Rattle.matching.specs.Settings.{number_after}
use Rattle.matching.specs.Tags.{is_early}
use Rattle.matching.specs.Reports.{open_report_of, is_report, live_in, live, early_in, early, early_of}
use Rattle.matching.specs.Fates.{fate_in, fate, place_of}
use Rattle.matching.specs.Stores.{stores_in, retired_stores}
use Rattle.matching.specs.PartFaults.{fate_at}
use Rattle.matching.specs.EndFaults.{is_open_store}
use Rattle.matching.specs.Counts.{reads_of, stores_of}
use Rattle.matching.specs.Runs.{doing_at}
use Rattle.trace_model.specs.Extents.{extent_of}
use Rattle.tandem_base.specs.declared.extent.Extent.{Extent}
use Rattle.rvwmo_model.specs.declared.operations.OpKind.{OpKind}
use Rattle.rvwmo_model.specs.declared.operations.Ann.{Ann}
use Rattle.trace_model.specs.Groups.{Access, same_place, part_at, some_below, parts_below, parts_of}
use Rattle.trace_model.specs.Entries.{MemoryUse, Fixed, Stores, Entry, Places, byte_places, memory_ops, entry_ops}
use Rattle.trace_model.specs.Retirements.{load_access, read_places, store_access, bypass_op, atomic_ops, entry_of}
use Rattle.trace_model.specs.Traces.{entry_in, entries, places, stored_at, trace_of}
use Rattle.trace_model.specs.Kept.{is_kept, oldest_place, kept_of}
use Rattle.trace_model.proofs.Groups.{fun_ext}
use Rattle.trace_model.proofs.Early.{latest_in}

-- the members that pass p, of those that pass q, are all that pass p where each of these passes q
filter_within : {X : Type 0} (p q : X → Bool) (xs : List X) → ((x : X) → p x ≡ true → q x ≡ true)
    → filter p (filter q xs) ≡ filter p xs
filter_within p q [] in_q = refl
filter_within p q (x ∷ xs) in_q = at (p x) refl (q x) refl (filter_within p q xs in_q)
  where
    at : (b : Bool) → p x ≡ b → (c : Bool) → q x ≡ c → filter p (filter q xs) ≡ filter p xs
        → filter p (cond c (x ∷ filter q xs) (filter q xs)) ≡ cond b (x ∷ filter p xs) (filter p xs)
    at true e true f rec = rw e (ap (λ ys. x ∷ ys) rec)
    at true e false f rec = absurd (both_ways (q x) f (in_q x e))
    at false e true f rec = rw e rec
    at false e false f rec = rec

module _ (before : List Message) (head : Head) (h : ℕ) (other : eqb head.hart h ≡ false) where
  pub live_stays : (b : Body) → live_in (number_after before) (live before h) head b h ≡ live before h
  live_stays (body.Read piece) = rw other refl
  live_stays (body.Retire retire) = rw other refl
  live_stays body.Squash = rw other refl
  live_stays _ = refl

  pub fate_stays : (b : Body) (t x : ℕ) → fate_in before (fate before h t x) head b h t x ≡ fate before h t x
  fate_stays (body.Insert piece) t x = rw other refl
  fate_stays (body.Write write) t x = rw other refl
  fate_stays (body.Bypass piece) t x = rw other (at (is_early before head))
    where
      at : (c : Bool) → cond c (fate before h t x) (fate before h t x) ≡ fate before h t x
      at true = refl
      at false = refl
  fate_stays _ t x = refl

  -- the early Bypasses of the hart
  abbrev Own : OpenReport → Bool
  Own r = eqb r.hart h

  pub early_stays : (b : Body) → filter Own (early_in before (early before) head b) ≡ filter Own (early before)
  early_stays (body.Bypass piece) = at (is_early before head)
    where
      at : (c : Bool) → filter Own (cond c (open_report_of (number_after before) head piece ∷ early before)
          (early before))
          ≡ filter Own (early before)
      at true = rw other refl
      at false = refl
  early_stays (body.Retire retire) =
      filter_within Own (λ (r : OpenReport). not (is_report head.hart head.tag r)) (early before) (λ r e. apart r e)
    where
      apart : (r : OpenReport) → Own r ≡ true → not (is_report head.hart head.tag r) ≡ true
      apart r e = at (eqb r.hart head.hart) refl
        where
          at : (c : Bool) → eqb r.hart head.hart ≡ c → not (c && eqb r.tag head.tag) ≡ true
          at false q = refl
          at true q = absurd (both_ways (eqb head.hart h) other
              (eq-eqb head.hart h (sym (eqb-true r.hart head.hart q) ∙ eqb-true r.hart h e)))
  early_stays _ = refl

  pub stores_stay : (image : Loaded) (b : Body) → stores_in image before (retired_stores image before h) head b h
      ≡ retired_stores image before h
  stores_stay image (body.Retire retire) = rw other refl
  stores_stay image _ = refl

-- ---- the operations of other harts pass no test of a hart

module _ (h : ℕ) (p : Op → Bool) (own : (v : Op) → eqb v.name.hart h ≡ false → p v ≡ false) where
  no_parts : (a : Access) (f : ℕ → Option Place) (n : ℕ) → eqb a.hart h ≡ false → filter p (parts_below a f n) ≡ []
  no_parts a f zero e = refl
  no_parts a f (suc n) e = at (some_below (λ k. same_place (f k) (f n)) n) (no_parts a f n e)
    where
      at : (c : Bool) → filter p (parts_below a f n) ≡ []
          → filter p (cond c (parts_below a f n) (part_at a f (f n) ∷ parts_below a f n)) ≡ []
      at true rec = rec
      at false rec = rw (own (part_at a f (f n)) e) rec

  no_atomic : (k : OpKind) (extent : Extent) (got : List ℕ) (acquire release : Ann) (o : Option OpenReport)
      → ((r : OpenReport) → o ≡ Some r → eqb r.hart h ≡ false)
      → filter p (atomic_ops k extent got acquire release o) ≡ []
  no_atomic k extent got acquire release None e = refl
  no_atomic k extent got acquire release (Some r) e = rw (own (bypass_op k extent got acquire release r) (e r refl))
      refl

  -- two places of bytes that agree on the hart give its stores the same operations
  module _ (g g' : Places) (agree : (t x : ℕ) → g' h t x ≡ g h t x) where
    memory_same : (m : MemoryUse) → filter p (memory_ops g' m) ≡ filter p (memory_ops g m)
    memory_same (Fixed ops) = refl
    memory_same (Stores a) = at (eqb a.hart h) refl
      where
        same : (z t x : ℕ) → z ≡ h → g' z t x ≡ g z t x
        same z t x e = rw e (agree t x)

        at : (c : Bool) → eqb a.hart h ≡ c
            → filter p (parts_of a (byte_places g' a)) ≡ filter p (parts_of a (byte_places g a))
        at true e = ap (λ (f : ℕ → Option Place). filter p (parts_of a f)) (fun_ext (byte_places g' a) (byte_places g a)
            (λ k. same a.hart a.tag (a.extent.addr + k) (eqb-true a.hart h e)))
        at false e = no_parts a (byte_places g' a) a.extent.len e ∙ sym (no_parts a (byte_places g a) a.extent.len e)

    ops_same : (es : List Entry) → filter p (flat_map (entry_ops g') es) ≡ filter p (flat_map (entry_ops g) es)
    ops_same [] = refl
    ops_same (e ∷ es) =
        filter-append p (entry_ops g' e) (flat_map (entry_ops g') es)
        ∙ rw (memory_same e.memory, ops_same es) refl
        ∙ sym (filter-append p (entry_ops g e) (flat_map (entry_ops g) es))

  -- a Retire of another hart adds none
  module _ (head : Head) (other : eqb head.hart h ≡ false) where
    bypass_hart : (bs : List OpenReport) (r : OpenReport) → early_of bs head.hart head.tag ≡ Some r
        → eqb r.hart h ≡ false
    bypass_hart bs r e =
        let q = (latest_in (is_report head.hart head.tag) bs r e).1 in
        let s = eqb-true r.hart head.hart (and_parts (eqb r.hart head.hart) (eqb r.tag head.tag) q).0 in
        subst (λ (z : ℕ). eqb z h ≡ false) (sym s) other

    -- the entry, where there is one, has no operation that passes
    abbrev AddsNone : Places → Option Entry → Type 0
    AddsNone g o = (e : Entry) → o ≡ Some e → filter p (entry_ops g e) ≡ []

    none_of : (g : Places) (f : Entry) → filter p (entry_ops g f) ≡ [] → AddsNone g (Some f)
    none_of g f n e q = subst (λ (z : Entry). filter p (entry_ops g z) ≡ []) (let c : f ≡ e = cc in c) n

    new_none : (g : Places) (rs bs : List OpenReport) (put : List ℕ) (d : Doing)
        → AddsNone g (entry_of rs bs head put d)
    new_none g rs bs put (trap cause value) = λ e q. absurd (cc)
    new_none g rs bs put (plain insn) = none_of g _ refl
    new_none g rs bs put (counter insn) = none_of g _ refl
    new_none g rs bs put (load insn addr len) = none_of g _
        (no_parts (load_access rs head insn (extent_of addr len)) (read_places rs head.tag (extent_of addr len))
        (extent_of addr len).len other)
    new_none g rs bs put (store insn addr len) = none_of g _
        (no_parts (store_access head insn (extent_of addr len) put)
        (byte_places g (store_access head insn (extent_of addr len) put)) (extent_of addr len).len other)
    new_none g rs bs put (lr insn addr len) = none_of g _
        (no_parts (load_access rs head insn (extent_of addr len)) (read_places rs head.tag (extent_of addr len))
        (extent_of addr len).len other)
    new_none g rs bs put (sc insn addr len) = none_of g _
        (no_atomic _ _ _ _ _ (early_of bs head.hart head.tag) (λ r e. bypass_hart bs r e))
    new_none g rs bs put (amo insn addr len) = none_of g _
        (no_atomic _ _ _ _ _ (early_of bs head.hart head.tag) (λ r e. bypass_hart bs r e))

    in_none : (g : Places) (image : Loaded) (before : List Message) (b : Body)
        → AddsNone g (entry_in image before head b)
    in_none g image before (body.Retire retire) = new_none g (live before head.hart) (early before)
        (stored_at image before head retire) (doing_at image before head.hart)
    in_none g image before _ = λ e q. absurd (cc)

    with_none : (g : Places) (o : Option Entry) (es : List Entry) → AddsNone g o
        → filter p (flat_map (entry_ops g) (cons_option o es)) ≡ filter p (flat_map (entry_ops g) es)
    with_none g None es n = refl
    with_none g (Some e) es n =
        filter-append p (entry_ops g e) (flat_map (entry_ops g) es) ∙ rw (n e refl) refl

    -- so the operations that pass stay
    pub kept_stay : (image : Loaded) (before : List Message) (b : Body)
        → filter p (trace_of image (record { head = head; body = b } ∷ before)).ops
        ≡ filter p (trace_of image before).ops
    kept_stay image before b =
        with_none (places (record { head = head; body = b } ∷ before)) (entry_in image before head b)
        (entries image before)
        (in_none (places (record { head = head; body = b } ∷ before)) image before b)
        ∙ ops_same (places before) (places (record { head = head; body = b } ∷ before))
        (λ t x. ap place_of (fate_stays before head h other b t x)) (entries image before)

-- ---- the counts

kept_own : (h : ℕ) (q : Option Place) (v : Op) → eqb v.name.hart h ≡ false → is_kept h q v ≡ false
kept_own h None v e = refl
kept_own h (Some p) v e = rw e refl

module _ (image : Loaded) (before : List Message) (m : Message) (h : ℕ) (other : eqb m.head.hart h ≡ false) where
  pub reads_other : reads_of (m ∷ before) h ≡ reads_of before h
  reads_other = rw (live_stays before m.head h other m.body, early_stays before m.head h other m.body) refl

  fates_same : fate_at (m ∷ before) h ≡ fate_at before h
  fates_same = λ i s k. fate_stays before m.head h other m.body s.tag (s.piece.addr + k) i

  pub stores_other : stores_of image (m ∷ before) h ≡ stores_of image before h
  stores_other =
      ap (λ (f : Stored → ℕ → Fate). length (filter (λ (s : Stored). is_open_store f s) (retired_stores image
      (m ∷ before) h)))
      fates_same
      ∙ ap (λ (ss : List Stored). length (filter (λ (s : Stored). is_open_store (fate_at before h) s) ss))
      (stores_stay before m.head h other image m.body)

  oldest_same : oldest_place (m ∷ before) h ≡ oldest_place before h
  oldest_same = rw (live_stays before m.head h other m.body, early_stays before m.head h other m.body) refl

  pub kept_other : kept_of image (m ∷ before) h ≡ kept_of image before h
  kept_other =
      ap (λ (q : Option Place). length (filter (is_kept h q) (trace_of image (m ∷ before)).ops)) oldest_same
      ∙ ap length (kept_stay h (is_kept h (oldest_place before h)) (kept_own h (oldest_place before h)) m.head other
      image before m.body)
