-- The places of later instructions are of later messages, or of reports that are open now.
use Rattle.std.proofs.Common.{ℕ, ◌+◌, ◌<◌, ◌≡◌, ◌⊎◌, inl, inr, Bool, true, false, not, eqb, ltb, ◌&&◌, cond, List}
use Rattle.std.proofs.Common.{[]}
use Rattle.std.proofs.Common.{◌∷◌, ◌++◌, length, Option, Some, None, refl, sym, ap, subst, ◌∙◌, arith}
use Rattle.std.specs.List.{filter}
use Rattle.std.proofs.lemmas.Bool.{and_parts, eqb-true}
use Rattle.std.proofs.lemmas.List.{length-append}
use Rattle.tandem_base.specs.declared.extent.Extent.{Extent}
use Rattle.tandem_base.specs.declared.names.Place.{Place}
use Rattle.msg_frames.specs.declared.message.Head.{Head}
use Rattle.msg_frames.specs.declared.message.Body.{Body}
use Rattle.msg_frames.specs.declared.message.Body.TheVariants as body
use Rattle.msg_frames.specs.declared.message.Message.{Message}
use Rattle.elf_image.specs.Images.{Loaded}
use Rattle.rv_decode.specs.declared.instruction.Insn.{Insn}
use Rattle.rv_step.specs.Steps.{Doing, trap, plain, counter, load, store, lr, sc, amo}
use Rattle.rvwmo_model.specs.declared.operations.Op.{Op}
use Rattle.rvwmo_model.specs.declared.operations.OpKind.{OpKind}
use Rattle.rvwmo_model.specs.declared.operations.Ann.{Ann}
use Rattle.growth_laws.specs.Growth.{IsYounger}
use Rattle.matching.specs.declared.reports.OpenReport.{OpenReport}
use Rattle.matching.specs.declared.stores.Fate.{Fate}
use Rattle.matching.specs.declared.stores.Fate.TheVariants.{Nothing, Waiting, Done}
use Rattle.matching.specs.Settings.{number_after}
use Rattle.msg_frames.specs.Pieces.{has}
use Rattle.matching.specs.Pieces.{line_start}
use Rattle.matching.specs.Tags.{is_of, is_early}
use Rattle.matching.specs.Reports.{open_report_of, is_report, is_for, live_in}
use Rattle.matching.specs.Reports.{live, early_in, early, early_of, counting}
use Rattle.matching.specs.Reports.{place_of_report, place_counted}
use Rattle.matching.specs.Fates.{drained, fate_in, fate, place_of}
use Rattle.matching.specs.Runs.{doing_at}
use Rattle.trace_model.specs.Extents.{extent_of}
use Rattle.trace_model.specs.Entries.{Fixed, Entry}
use Rattle.trace_model.specs.Retirements.{load_access, read_places, load_ops, atomic_ops, amo_ops, sc_ops, entry_of}
use Rattle.trace_model.specs.Traces.{stored_at, entry_in, entries, places, trace_of}
use Rattle.trace_model.specs.LaterPlaces.{IsReported, IsOrigin, PlacesOfLater}
use Rattle.trace_model.proofs.Lists.{In, from_filter, listed, contained}
use Rattle.trace_model.proofs.Groups.{part_from}
use Rattle.trace_model.proofs.Entries.{Comes, is_fixed, is_stored, comes}
use Rattle.trace_model.proofs.Keys.{with_cases, new_key}
use Rattle.trace_model.proofs.Early.{latest_in}
use Rattle.trace_model.proofs.Past.{IsFixedAt}
use Rattle.trace_model.proofs.AreEntries.{AreEntries, insn_in}
use Rattle.trace_model.proofs.Suits.{Suited}
use Rattle.trace_model.proofs.Known.{owned}
use Rattle.trace_model.proofs.Growing.{are_entries}
use Rattle.trace_model.proofs.Cleaned.{suited}

-- ---- the operations of an instruction that retires

-- what P says of the places of its live Reads and of its early Bypass it says of its operations
module _ (P : Place → Type 0) (head : Head) (rs bs : List OpenReport)
    (live_p : (r : OpenReport) → In r rs → P (place_of_report r))
    (early_p : (r : OpenReport) → In r bs → r.hart ≡ head.hart → P (place_of_report r)) where
  counted_at : (x : ℕ) (q : Place) → place_counted (counting rs head.tag x) ≡ Some q → P q
  counted_at x q e = at (counting rs head.tag x) refl e
    where
      at : (o : Option OpenReport) → counting rs head.tag x ≡ o → place_counted o ≡ Some q → P q
      at None f e = absurd (cc)
      at (Some r) f e =
          subst P (let s : place_of_report r ≡ q = cc in s) (live_p r (latest_in (is_for head.tag x) rs r f).0)

  loads_at : (insn : Insn) (extent : Extent) → IsFixedAt P (Fixed (load_ops rs head insn extent))
  loads_at insn extent ops v q d i f =
      let l : ops ≡ load_ops rs head insn extent = cc in
      let y = part_from (load_access rs head insn extent) (read_places rs head.tag extent) extent.len v
      (subst (λ (z : List Op). In v z) l i) in
      counted_at (extent.addr + y.0) q (sym (ap (λ (z : Op). z.place) y.2) ∙ f)

  atomic_at : (k : OpKind) (extent : Extent) (got : List ℕ) (aq rl : Ann)
      → IsFixedAt P (Fixed (atomic_ops k extent got aq rl (early_of bs head.hart head.tag)))
  atomic_at k extent got aq rl ops v q d i f =
      let l : ops ≡ atomic_ops k extent got aq rl (early_of bs head.hart head.tag) = cc in
      at (early_of bs head.hart head.tag) refl (subst (λ (z : List Op). In v z) l i)
    where
      at : (o : Option OpenReport) → early_of bs head.hart head.tag ≡ o → In v (atomic_ops k extent got aq rl o) → P q
      at None s i = absurd i
      at (Some r) s (inr i) = absurd i
      at (Some r) s (inl e) =
          let z : Some (place_of_report r) ≡ Some q = sym (ap (λ (w : Op). w.place) e) ∙ f in
          let y = latest_in (is_report head.hart head.tag) bs r s in
          subst P (let c : place_of_report r ≡ q = cc in c)
          (early_p r y.0 (eqb-true _ _ (and_parts (eqb r.hart head.hart) (eqb r.tag head.tag) y.1).0))

  nothing_at : IsFixedAt P (Fixed [])
  nothing_at ops v q d i f = absurd (subst (λ (l : List Op). In v l) (let z : ops ≡ [] = cc in z) i)

  entry_at : (put : List ℕ) (d : Doing) (e : Entry) → entry_of rs bs head put d ≡ Some e → IsFixedAt P e.memory
  entry_at put (trap cause value) e s = absurd (cc)
  entry_at put (plain insn) e s = let m : Fixed [] ≡ e.memory = cc in subst (IsFixedAt P) m nothing_at
  entry_at put (counter insn) e s = let m : Fixed [] ≡ e.memory = cc in subst (IsFixedAt P) m nothing_at
  entry_at put (load insn addr len) e s =
      let m : Fixed (load_ops rs head insn (extent_of addr len)) ≡ e.memory = cc in
      subst (IsFixedAt P) m (loads_at insn (extent_of addr len))
  entry_at put (store insn addr len) e s = λ ops v q d i f. absurd (cc)
  entry_at put (lr insn addr len) e s =
      let m : Fixed (load_ops rs head insn (extent_of addr len)) ≡ e.memory = cc in
      subst (IsFixedAt P) m (loads_at insn (extent_of addr len))
  entry_at put (sc insn addr len) e s =
      let m : Fixed (sc_ops bs head insn (extent_of addr len)) ≡ e.memory = cc in
      subst (IsFixedAt P) m (atomic_at _ _ _ _ _)
  entry_at put (amo insn addr len) e s =
      let m : Fixed (amo_ops rs bs head insn (extent_of addr len)) ≡ e.memory = cc in
      subst (IsFixedAt P) m (atomic_at _ _ _ _ _)

-- ---- one message more

-- a live Read was live, or is this message
live_cases : (X : Type 0) (ms : List Message) (head : Head) (b : Body) (h : ℕ) (r : OpenReport)
    → (r.number ≡ number_after ms → X) → (In r (live ms h) → X)
    → In r (live_in (number_after ms) (live ms h) head b h) → X
live_cases X ms head (body.Read piece) h r new old i = at (eqb head.hart h) i
  where
    at : (d : Bool) → In r (cond d (open_report_of (number_after ms) head piece ∷ live ms h) (live ms h)) → X
    at true (inl e) = new (ap (λ (z : OpenReport). z.number) e)
    at true (inr j) = old j
    at false j = old j
live_cases X ms head (body.Retire retire) h r new old i = at (eqb head.hart h) i
  where
    at : (d : Bool) → In r (cond d (filter (λ (s : OpenReport). ltb head.tag s.tag) (live ms h)) (live ms h)) → X
    at true j = old (from_filter (λ (s : OpenReport). ltb head.tag s.tag) (live ms h) r j).0
    at false j = old j
live_cases X ms head body.Squash h r new old i = at (eqb head.hart h) i
  where
    at : (d : Bool) → In r (cond d (filter (λ (s : OpenReport). ltb s.tag head.tag) (live ms h)) (live ms h)) → X
    at true j = old (from_filter (λ (s : OpenReport). ltb s.tag head.tag) (live ms h) r j).0
    at false j = old j
live_cases X ms head b h r new old i = old i

-- an early Bypass was early, or is this message
early_cases : (X : Type 0) (ms : List Message) (head : Head) (b : Body) (r : OpenReport)
    → (r.number ≡ number_after ms → X) → (In r (early ms) → X) → In r (early_in ms (early ms) head b) → X
early_cases X ms head (body.Bypass piece) r new old i = at (is_early ms head) i
  where
    at : (d : Bool) → In r (cond d (open_report_of (number_after ms) head piece ∷ early ms) (early ms)) → X
    at true (inl e) = new (ap (λ (z : OpenReport). z.number) e)
    at true (inr j) = old j
    at false j = old j
early_cases X ms head (body.Retire retire) r new old i =
    old (from_filter (λ (s : OpenReport). not (is_report head.hart head.tag s)) (early ms) r i).0
early_cases X ms head b r new old i = old i

-- a byte that is performed was, or is by this message
done_cases : (X : Type 0) (ms : List Message) (head : Head) (b : Body) (h t x : ℕ) (q : Place)
    → (q.message ≡ number_after ms → X) → (fate ms h t x ≡ Done q → X)
    → fate_in ms (fate ms h t x) head b h t x ≡ Done q → X
done_cases X ms head (body.Insert piece) h t x q new old e = at (is_of head h t && has piece x) e
  where
    at : (d : Bool) → cond d (Waiting (number_after ms)) (fate ms h t x) ≡ Done q → X
    at true e = absurd (cc)
    at false e = old e
done_cases X ms head (body.Write write) h t x q new old e =
    at (eqb head.hart h && eqb write.line (line_start x)) (fate ms h t x) refl e
  where
    at : (d : Bool) (f : Fate) → fate ms h t x ≡ f → cond d (drained head.time (number_after ms) f) f ≡ Done q → X
    at false f s e = old (s ∙ e)
    at true Nothing s e = absurd (cc)
    at true (Waiting j) s e = new (ap (λ (p : Place). p.message)
        (let c : q ≡ record { time = head.time; message = number_after ms; insert = j } = cc in c))
    at true (Done p) s e = old (s ∙ e)
done_cases X ms head (body.Bypass piece) h t x q new old e = at (is_early ms head) (is_of head h t && has piece x) e
  where
    at : (c d : Bool) → cond c (fate ms h t x) (cond d
        (Done (record { time = head.time; message = number_after ms; insert = number_after ms })) (fate ms h t x))
        ≡ Done q
        → X
    at true d e = old e
    at false true e = new (ap (λ (p : Place). p.message)
        (let c : q ≡ record { time = head.time; message = number_after ms; insert = number_after ms } = cc in c))
    at false false e = old e
done_cases X ms head b h t x q new old e = old e

-- ---- many messages more

module _ (image : Loaded) (before : List Message) where
  longer : (later : List Message) → length before < number_after (later ++ before)
  longer later = let e = length-append later before in omega (arith, e)

  live_since : (later : List Message) (h : ℕ) (r : OpenReport) → In r (live (later ++ before) h)
      → (length before < r.number) ⊎ In r (live before h)
  live_since [] h r i = inr i
  live_since (m ∷ ls) h r i = live_cases _ (ls ++ before) m.head m.body h r
      (λ e. inl (let l = longer ls in omega (arith, l, e))) (live_since ls h r) i

  early_since : (later : List Message) (r : OpenReport) → In r (early (later ++ before))
      → (length before < r.number) ⊎ In r (early before)
  early_since [] r i = inr i
  early_since (m ∷ ls) r i = early_cases _ (ls ++ before) m.head m.body r
      (λ e. inl (let l = longer ls in omega (arith, l, e))) (early_since ls r) i

  done_since : (later : List Message) (h t x : ℕ) (q : Place) → fate (later ++ before) h t x ≡ Done q
      → (length before < q.message) ⊎ (fate before h t x ≡ Done q)
  done_since [] h t x q e = inr e
  done_since (m ∷ ls) h t x q e = done_cases _ (ls ++ before) m.head m.body h t x q
      (λ f. inl (let l = longer ls in omega (arith, l, f))) (done_since ls h t x q) e

  -- a place is one that the law allows
  abbrev Allowed : ℕ → Place → Type 0
  Allowed h q = (length before < q.message) ⊎ IsReported before h q

  new_at : (ls : List Message) (head : Head) (b : Body) (e : Entry) → entry_in image (ls ++ before) head b ≡ Some e
      → IsFixedAt (Allowed e.insn.hart) e.memory
  new_at ls head (body.Retire retire) e s =
      let k = new_key image (ls ++ before) head (body.Retire retire) e s in
      subst (λ (h : ℕ). IsFixedAt (Allowed h) e.memory) (sym k.0)
      (entry_at (Allowed head.hart) head (live (ls ++ before) head.hart) (early (ls ++ before)) of_live of_early
      (stored_at image (ls ++ before) head retire) (doing_at image (ls ++ before) head.hart) e s)
    where
      of_live : (r : OpenReport) → In r (live (ls ++ before) head.hart) → Allowed head.hart (place_of_report r)
      of_live r i = elim (live_since ls head.hart r i) [
        | inl l ↦ inl l
        | inr j ↦ inr (r, inl (contained _ r j), refl)
      ]

      of_early : (r : OpenReport) → In r (early (ls ++ before)) → r.hart ≡ head.hart
          → Allowed head.hart (place_of_report r)
      of_early r i own = elim (early_since ls r i) [
        | inl l ↦ inl l
        | inr j ↦ inr (r, inr (contained _ r j, own), refl)
      ]
  new_at ls head _ e s = absurd (cc)

  entry_since : (later : List Message) (e : Entry) → In e (entries image (later ++ before))
      → In e (entries image before) ⊎ IsFixedAt (Allowed e.insn.hart) e.memory
  entry_since [] e i = inl i
  entry_since (m ∷ ls) e i = elim (with_cases (entry_in image (ls ++ before) m.head m.body)
      (entries image (ls ++ before)) e i) [
        | inl j ↦ entry_since ls e j
        | inr s ↦ inr (new_at ls m.head m.body e s)
      ]

  suited_before : (later : List Message) → Suited image (later ++ before) → Suited image before
  suited_before [] s = s
  suited_before (m ∷ ls) s = suited_before ls s.0

  module _ (later : List Message) (s : Suited image (later ++ before)) (o : Op)
      (young : IsYounger (trace_of image before) o) where
    good : AreEntries (entries image (later ++ before))
    good = are_entries image (later ++ before) s

    -- its instruction is none of those before
    not_before : (e : Entry) → In e (entries image before) → e.insn.hart ≡ o.name.hart → e.insn.tag ≡ o.name.tag → ⊥
    not_before e i h t =
        let l = young e.insn (contained _ e.insn (insn_in (entries image before) e i)) h in
        omega (arith, l, t)

    of_fate : (h t x : ℕ) (f : Fate) → fate (later ++ before) h t x ≡ f → h ≡ o.name.hart → t ≡ o.name.tag
        → IsOrigin before o.name.hart (place_of f)
    of_fate h t x Nothing e a b = tt
    of_fate h t x (Waiting j) e a b = tt
    of_fate h t x (Done q) e a b = elim (done_since later h t x q e) [
      | inl l ↦ inl l
      | inr f ↦ elim (owned image before (suited_before later s) h t x) [
        | inl n ↦ let c : Nothing ≡ Done q = sym n ∙ f in absurd (cc)
        | inr y ↦
            let k = ((are_entries image before (suited_before later s)).each y.entry y.there).named y.access y.stores in
            absurd (not_before y.entry y.there (sym k.0 ∙ y.hart ∙ a) (sym k.1 ∙ y.tag ∙ b))
      ]
    ]

    of_entry : Comes (places (later ++ before)) (entries image (later ++ before)) o → IsOrigin before o.name.hart
        o.place
    of_entry (is_stored e a k i d l same) =
        subst (IsOrigin before o.name.hart) (sym (ap (λ (z : Op). z.place) same))
        (of_fate a.hart a.tag (a.extent.addr + k) (fate (later ++ before) a.hart a.tag (a.extent.addr + k)) refl
        (ap (λ (z : Op). z.name.hart) (sym same)) (ap (λ (z : Op). z.name.tag) (sym same)))
    of_entry (is_fixed e ops i d k) = at (entry_since later e i) o.place refl
      where
        own : (o.name.hart ≡ e.insn.hart) × (o.name.tag ≡ e.insn.tag)
        own = (good.each e i).own ops o d k

        at : In e (entries image before) ⊎ IsFixedAt (Allowed e.insn.hart) e.memory → (q : Option Place) → o.place ≡ q
            → IsOrigin before o.name.hart q
        at f None p = tt
        at (inl j) (Some q) p = absurd (not_before e j (sym own.0) (sym own.1))
        at (inr f) (Some q) p = subst (λ (h : ℕ). Allowed h q) (sym own.0) (f ops o q d k p)

pub places_of_later : PlacesOfLater
places_of_later image later before o clean i young =
    let s = suited image (later ++ before) clean in
    of_entry image before later s o young
    (comes (places (later ++ before)) (entries image (later ++ before)) o (listed _ o i))
