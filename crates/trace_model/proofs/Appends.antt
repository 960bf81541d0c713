-- What each message does to the completed trace.
use Rattle.std.proofs.Common.{ℕ, ◌+◌, ◌<◌, ◌≤◌, ◌≡◌, ◌≢◌, Bool, true, false, eqb, ◌&&◌, cond, List, [], ◌∷◌, map, Some}
use Rattle.std.proofs.Common.{None, refl, sym, subst, ◌∙◌}
use Rattle.std.proofs.lemmas.Bool.{both_ways, and_parts, and_from, eqb-true, eq-eqb}
use Rattle.tandem_base.specs.declared.names.Place.{Place}
use Rattle.msg_frames.specs.declared.message.Head.{Head}
use Rattle.msg_frames.specs.declared.message.Piece.{Piece}
use Rattle.msg_frames.specs.declared.message.LineWrite.{LineWrite}
use Rattle.msg_frames.specs.declared.message.Body.{Body}
use Rattle.msg_frames.specs.declared.message.Body.TheVariants as body
use Rattle.msg_frames.specs.declared.message.Message.{Message}
use Rattle.rvwmo_model.specs.declared.operations.Op.{Op}
use Rattle.rvwmo_model.specs.declared.traces.Trace.{Trace}
use Rattle.trace_model.proofs.Lists.{In}
use Rattle.rvwmo_model.specs.InForm.{AreRising}
use Rattle.growth_laws.specs.Growth.{Same, Performs, no_parts, more_parts}
use Rattle.std.specs.List.{AllPairs}
use Rattle.trace_model.specs.Groups.{Access}
use Rattle.matching.specs.declared.stores.Fate.{Fate}
use Rattle.matching.specs.declared.stores.Held.{Held}
use Rattle.matching.specs.declared.reports.OpenReport.{OpenReport}
use Rattle.matching.specs.declared.stores.Fate.TheVariants.{Nothing, Waiting, Done}
use Rattle.matching.specs.Settings.{number_after}
use Rattle.msg_frames.specs.Pieces.{has}
use Rattle.matching.specs.Pieces.{line_start}
use Rattle.matching.specs.Tags.{is_of, is_early}
use Rattle.matching.specs.Reports.{early}
use Rattle.matching.specs.Fates.{waiting, drained, fate, place_of}
use Rattle.trace_model.proofs.Fresh.{IsFreshAt, AreFresh}
use Rattle.trace_model.specs.Entries.{Entry, Stores, Places, built}
use Rattle.elf_image.specs.Images.{Loaded}
use Rattle.trace_model.specs.Traces.{entries, places, early_op, granule_of, trace_of}
use Rattle.trace_model.specs.Parts.{IsPartFor, ArePartsFor}
use Rattle.trace_model.proofs.AreEntries.{AreEntries}
use Rattle.trace_model.proofs.Performed.{Moves, IsBelow, IsStep, steps, members_self}
use Rattle.trace_model.proofs.Waits.{waits, held_one, held_line}
use Rattle.trace_model.proofs.Writes.{placed_in, numbered, IsStored, whole, numbered_in, in_numbered, no_number}
use Rattle.trace_model.proofs.Writes.{falling}

pub same_self : (t : Trace) → AreRising t.insns → AllPairs (λ a b. a ≢ b) t.ops → Same t t
same_self t rising once = record {
  keeps = record { insns = λ h k. refl; rising = rising; once = once; granule = refl };
  ops = members_self t.ops;
  early = members_self t.early;
}

one_part : (h k : ℕ) (t t' : Trace) (p : Place) (piece : Piece) → IsStep t t' h k p (has piece) → (o : Op)
    × Performs h t (o ∷ []) t' × IsPartFor h k p piece o
one_part h k t t' p piece s = (
  s.new,
  more_parts [] t t' s.old s.new s.rest no_parts s.hart s.performs,
  record { hart = s.hart; tag = s.tag; place = s.place; bytes = s.bytes },
)

module _ (image : Loaded) (before : List Message) (head : Head) where
  abbrev pub old : Trace
  old = trace_of image before

  abbrev pub new : Body → Trace
  new b = trace_of image (record { head = head; body = b } ∷ before)

  -- its instructions rise, and no operation stands twice
  abbrev IsSettled : Trace → Type 0
  IsSettled t = AreRising t.insns × AllPairs (λ a b. a ≢ b) t.ops

  pub read_same : (piece : Piece) → IsSettled old → Same old (new (body.Read piece))
  read_same piece settled = same_self old settled.0 settled.1

  pub squash_same : IsSettled old → Same old (new body.Squash)
  squash_same settled = same_self old settled.0 settled.1

  -- an Insert leaves the places of bytes
  insert_places : (piece : Piece) → IsFreshAt before head (body.Insert piece) → (h t x : ℕ)
      → places (record { head = head; body = body.Insert piece } ∷ before) h t x ≡ places before h t x
  insert_places piece fits h t x = at (is_of head h t && has piece x) refl
    where
      at : (c : Bool) → (is_of head h t && has piece x) ≡ c
          → place_of (cond c (Waiting (number_after before)) (fate before h t x)) ≡ place_of (fate before h t x)
      at true q =
          let r = and_parts (is_of head h t) (has piece x) q in
          let s = and_parts (eqb head.hart h) (eqb head.tag t) r.0 in
          let f : fate before h t x ≡ Nothing = subst (λ (z : ℕ). fate before z t x ≡ Nothing) (eqb-true _ _ s.0)
          (subst (λ (z : ℕ). fate before head.hart z x ≡ Nothing) (eqb-true _ _ s.1) (fits.0 x r.1)) in
          rw f refl
      at false q = refl

  places_ext : (g g' : Places) → ((h t x : ℕ) → g h t x ≡ g' h t x) → g ≡ g'
  places_ext g g' e = λ i h t x. e h t x i

  pub insert_same : (piece : Piece) → IsFreshAt before head (body.Insert piece) → IsSettled old
      → Same old (new (body.Insert piece))
  insert_same piece fits settled =
      subst (λ (g : Places). Same old (built (entries image before) g (map early_op (early before))
      (granule_of before))) (sym (places_ext _ (places before) (insert_places piece fits)))
      (same_self old settled.0 settled.1)

  abbrev here : Place
  here = record { time = head.time; message = number_after before; insert = number_after before }

  module _ (piece : Piece) (plain : is_early before head ≡ false) where
    abbrev after : Places
    after = places (record { head = head; body = body.Bypass piece } ∷ before)

    bypassed : (h t x : ℕ) (c : Bool) → (is_of head h t && has piece x) ≡ c → after h t x
        ≡ place_of (cond c (Done here) (fate before h t x))
    bypassed h t x c q = rw (plain, q) refl

    still_early : early (record { head = head; body = body.Bypass piece } ∷ before) ≡ early before
    still_early = rw plain refl

    -- a plain Bypass performs bytes of one store
    pub bypass_moves : (a : Access) → IsFreshAt before head (body.Bypass piece) → a.hart ≡ head.hart → a.tag ≡ head.tag
        → ((x : ℕ) → has piece x ≡ true → (a.extent.addr ≤ x) × (x < a.extent.addr + a.extent.len)) → (x : ℕ)
        × (has piece x ≡ true)
        → Moves (places before) after a here (has piece)
    bypass_moves a fits hart tag inside some = record {
      others = λ h t x ne. other h t x ne (is_of head h t && has piece x) refl;
      was = λ x p. rw (hart, tag, fits plain x p) refl;
      is = λ x p. bypassed a.hart a.tag x true (and_from _ _
          (and_from _ _ (eq-eqb _ _ (sym hart)) (eq-eqb _ _ (sym tag))) p);
      stays = λ x p. kept a.hart a.tag x p;
      inside = inside;
      some = some;
    }
      where
        other : (h t x : ℕ) → (h ≡ a.hart → t ≡ a.tag → ⊥) → (c : Bool) → (is_of head h t && has piece x) ≡ c
            → after h t x ≡ places before h t x
        other h t x ne true q =
            let r = and_parts (is_of head h t) (has piece x) q in
            let s = and_parts (eqb head.hart h) (eqb head.tag t) r.0 in
            absurd (ne (sym (eqb-true _ _ s.0) ∙ sym hart) (sym (eqb-true _ _ s.1) ∙ sym tag))
        other h t x ne false q = bypassed h t x false q

        kept : (h t x : ℕ) → has piece x ≡ false → after h t x ≡ places before h t x
        kept h t x p = at (is_of head h t && has piece x) refl
          where
            at : (c : Bool) → (is_of head h t && has piece x) ≡ c → after h t x ≡ places before h t x
            at true q = absurd (both_ways _ p (and_parts (is_of head h t) (has piece x) q).1)
            at false q = bypassed h t x false q

    pub bypass_grows : (e : Entry) (a : Access) → AreEntries (entries image before) → In e (entries image before)
        → e.memory ≡ Stores a → IsFreshAt before head (body.Bypass piece) → a.hart ≡ head.hart → a.tag ≡ head.tag
        → ((x : ℕ) → has piece x ≡ true → (a.extent.addr ≤ x) × (x < a.extent.addr + a.extent.len)) → (x : ℕ)
        × (has piece x ≡ true)
        → IsBelow old here → (o : Op) × Performs head.hart old (o ∷ []) (new (body.Bypass piece))
        × IsPartFor head.hart head.tag here piece o
    bypass_grows e a good there stores fits hart tag inside some below =
        let m = bypass_moves a fits hart tag inside some in
        let s = steps (entries image before) (map early_op (early before)) (granule_of before) (places before) after a
        here (has piece) e good there stores m below head.hart head.tag hart tag in
        one_part head.hart head.tag old (new (body.Bypass piece)) here piece
        (subst (λ (l : List OpenReport). IsStep old (built (entries image before) after (map early_op l)
        (granule_of before)) head.hart head.tag here (has piece)) (sym still_early) s)

  abbrev drained_at : ℕ → Place
  drained_at j = record { time = head.time; message = number_after before; insert = j }

  abbrev held_places : LineWrite → List Held → Places
  held_places write js h t x = placed_in head.time (number_after before) js (fate before h t x)

  -- a Write performs the Inserts of its line, one after the other
  write_places : (write : LineWrite) → AreFresh before → (h t x : ℕ) → placed_in head.time (number_after before)
      (waiting before head.hart write.line) (fate before h t x)
      ≡ places (record { head = head; body = body.Write write } ∷ before) h t x
  write_places write clean h t x = at (fate before h t x) refl (eqb head.hart h && eqb write.line (line_start x)) refl
    where
      at : (f : Fate) → fate before h t x ≡ f → (c : Bool) → (eqb head.hart h && eqb write.line (line_start x)) ≡ c
          → placed_in head.time (number_after before) (waiting before head.hart write.line) f
          ≡ place_of (cond c (drained head.time (number_after before) f) f)
      at Nothing q true r = refl
      at Nothing q false r = refl
      at (Done p) q true r = refl
      at (Done p) q false r = refl
      at (Waiting j) q true r =
          let s = and_parts (eqb head.hart h) (eqb write.line (line_start x)) r in
          let w = waits before clean h t x j q in
          let i : In w.0 (waiting before head.hart write.line) = subst (λ (z : ℕ). In w.0 (waiting before z write.line))
          (sym (eqb-true _ _ s.0)) (subst (λ (z : ℕ). In w.0 (waiting before h z)) (sym (eqb-true _ _ s.1)) w.1) in
          rw (in_numbered j (waiting before head.hart write.line) w.0 i w.2) refl
      at (Waiting j) q false r = on (numbered j (waiting before head.hart write.line)) refl
        where
          on : (d : Bool) → numbered j (waiting before head.hart write.line) ≡ d → cond d (Some (drained_at j)) None
              ≡ None
          on true d =
              let e = numbered_in j (waiting before head.hart write.line) d in
              let w = waits before clean h t x j q in
              let s = held_one before head.hart write.line h (line_start x) e.0 w.0 e.1 w.1 (e.2 ∙ sym w.2) in
              let l : line_start x ≡ write.line = held_line before clean head.hart write.line e.0 x e.1
              (subst (λ (z : Held). has z.piece x ≡ true) (sym s.1) w.4) in
              absurd (both_ways _ r (and_from _ _ (eq-eqb _ _ s.0) (eq-eqb _ _ (sym l))))
          on false d = refl

  none_placed : (h t x : ℕ) → placed_in head.time (number_after before) [] (fate before h t x) ≡ places before h t x
  none_placed h t x = at (fate before h t x)
    where
      at : (f : Fate) → placed_in head.time (number_after before) [] f ≡ place_of f
      at Nothing = refl
      at (Waiting j) = rw (no_number j) refl
      at (Done p) = refl

  abbrev with_places : Places → Trace
  with_places g = built (entries image before) g (map early_op (early before)) (granule_of before)

  pub write_grows : (write : LineWrite) → AreFresh before → AreEntries (entries image before)
      → ((e : Held) → In e (waiting before head.hart write.line) → IsStored (entries image before) head.hart e)
      → ((j : ℕ) → IsBelow old (record { time = head.time; message = number_after before; insert = j }))
      → (parts : List Op) × Performs head.hart old parts (new (body.Write write)) × ArePartsFor head.hart head.time
      (number_after before) (waiting before head.hart write.line) parts
  write_grows write clean good stored below =
      let from : held_places write [] ≡ places before = places_ext _ (places before) none_placed in
      let to : held_places write (waiting before head.hart write.line)
      ≡ places (record { head = head; body = body.Write write } ∷ before) =
      places_ext _ _ (write_places write clean) in
      let w = whole before clean (entries image before) (map early_op (early before)) (granule_of before) head.hart
      write.line head.time good stored
      (subst (λ (g : Places). (j : ℕ) → IsBelow (with_places g)
      (record { time = head.time; message = number_after before; insert = j })) (sym from) below)
      (falling before head.hart write.line) in
      subst (λ (g : Places). (parts : List Op) × Performs head.hart old parts (with_places g)
      × ArePartsFor head.hart head.time (number_after before) (waiting before head.hart write.line) parts) to
      (subst (λ (g : Places). (parts : List Op) × Performs head.hart (with_places g) parts
      (with_places (held_places write (waiting before head.hart write.line))) × ArePartsFor head.hart head.time
      (number_after before) (waiting before head.hart write.line) parts) from w)
