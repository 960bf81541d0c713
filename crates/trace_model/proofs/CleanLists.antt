-- The laws of the trace over clean lists.
use Rattle.std.proofs.Common.{◌<◌, ◌≤◌, ◌≡◌, inl, Bool, true, false, List, [], ◌∷◌, ◌++◌, length}
use Rattle.std.proofs.Common.{Option, Some, None, refl, arith}
use Rattle.msg_frames.specs.declared.message.OpenInfo.{OpenInfo}
use Rattle.msg_frames.specs.declared.message.Head.{Head}
use Rattle.msg_frames.specs.declared.message.Piece.{Piece}
use Rattle.msg_frames.specs.declared.message.Body.{Body}
use Rattle.msg_frames.specs.declared.message.Body.TheVariants as body
use Rattle.msg_frames.specs.declared.message.Message.{Message}
use Rattle.elf_image.specs.Images.{Loaded}
use Rattle.rvwmo_model.specs.declared.traces.Trace.{Trace}
use Rattle.growth_laws.specs.Kinds.{WellKinded}
use Rattle.growth_laws.specs.Growth.{Growth, grow_same, grow_early, grow_insn, grow_stores}
use Rattle.growth_laws.specs.Growth.{no_growth, more_growth}
use Rattle.growth_laws.proofs.Growths.{keeps_kinded}
use Rattle.growth_laws.proofs.Starts.{starts_well}
use Rattle.matching.specs.Settings.{last_time}
use Rattle.matching.specs.Tags.{is_early}
use Rattle.matching.specs.Matching.{IsClean}
use Rattle.trace_model.specs.Entries.{Entry, Places}
use Rattle.trace_model.specs.Growths.{GrownBy, BypassGrows}
use Rattle.trace_model.specs.Growths as growths
use Rattle.trace_model.specs.Traces.{entry_in, places, trace_of}
use Rattle.trace_model.specs.Laws.{ListsAreWellKinded, ListsGrow, OthersCount}
use Rattle.trace_model.proofs.OtherHarts.{reads_other, stores_other, kept_other}
use Rattle.trace_model.proofs.Suits.{SuitsBody, Suited}
use Rattle.trace_model.proofs.Cleaned.{suited}
use Rattle.trace_model.proofs.Growing.{still, inserts, writes, bypasses, early_bypasses, retires}

some_is_none : {X : Type 0} {x : X} → Some x ≡ None → ⊥
some_is_none {X} {x} e = absurd (cc)

-- an Open is no later message
no_open : (image : Loaded) (before : List Message) (head : Head) (info : OpenInfo)
    → IsClean image (record { head = head; body = body.Open info } ∷ before) → 0 < length before → ⊥
no_open image [] head info c l = omega (arith, l)
no_open image (last ∷ before) head info c l = absurd (some_is_none c.2)

module _ (image : Loaded) (before : List Message) (head : Head) where
  abbrev old : Trace
  old = trace_of image before

  abbrev new : Body → Trace
  new b = trace_of image (record { head = head; body = b } ∷ before)

  grows : (b : Body) → IsClean image (record { head = head; body = b } ∷ before) → 0 < length before
      → growths.MessageGrows image before head b old (new b)
  grows b c l = let s = suited image (record { head = head; body = b } ∷ before) c in at b c s.0 s.1 s.2
    where
      at : (b : Body) → IsClean image (record { head = head; body = b } ∷ before) → Suited image before
          → last_time before ≤ head.time → SuitsBody image before head b
          → growths.MessageGrows image before head b old (new b)
      at (body.Open info) c s time t = absurd (no_open image before head info c l)
      at (body.Poke poke) c s time t = still image before s head time
      at (body.Read piece) c s time t = still image before s head time
      at (body.Insert piece) c s time t = inserts image before s head time piece t
      at (body.Write write) c s time t = writes image before s head time write
      at (body.Bypass piece) c s time t = on (is_early before head) refl
        where
          on : (d : Bool) → is_early before head ≡ d → BypassGrows before head piece old (new (body.Bypass piece)) d
          on true q = early_bypasses image before s head time piece t q
          on false q = bypasses image before s head time piece t q
      at (body.Retire retire) c s time t = retires image before s head time retire t
      at body.Squash c s time t = still image before s head time
      at body.End c s time t = still image before s head time

  of_bypass : (piece : Piece) (t t' : Trace) (d : Bool) → BypassGrows before head piece t t' d → Growth t t'
  of_bypass piece t t' true g = grow_early _ g
  of_bypass piece t t' false g = grow_stores head.hart (g.0 ∷ []) g.1

  of_retire : (t t' : Trace) (g : Places) (o : Option Entry) → GrownBy t t' g o → Growth t t'
  of_retire t t' g None s = grow_same s
  of_retire t t' g (Some e) s = grow_insn _ _ s

  growth_of : (b : Body) (t t' : Trace) → growths.MessageGrows image before head b t t' → Growth t t'
  growth_of (body.Open info) t t' g = absurd g
  growth_of (body.Poke poke) t t' g = grow_same g
  growth_of (body.Read piece) t t' g = grow_same g
  growth_of (body.Insert piece) t t' g = grow_same g
  growth_of (body.Write write) t t' g = grow_stores head.hart g.0 g.1
  growth_of (body.Bypass piece) t t' g = of_bypass piece t t' (is_early before head) g
  growth_of (body.Retire retire) t t' g = of_retire t t' (places before)
      (entry_in image before head (body.Retire retire)) g
  growth_of body.Squash t t' g = grow_same g
  growth_of body.End t t' g = grow_same g

pub each_message_grows : growths.EachMessageGrows
each_message_grows image before m c l = grows image before m.head m.body c l

pub each_message_is_growth : growths.EachMessageIsGrowth
each_message_is_growth image before m c l = growth_of image before m.head m.body _ _
    (grows image before m.head m.body c l)

-- ---- well kinded

-- the first message is an Open without a granule, after which nothing is there
first_kinded : (image : Loaded) (m : Message) → IsClean image (m ∷ []) → WellKinded (trace_of image (m ∷ []))
first_kinded image m c = at m.body c
  where
    at : (b : Body) → IsClean image (record { head = m.head; body = b } ∷ [])
        → WellKinded (trace_of image (record { head = m.head; body = b } ∷ []))
    at (body.Open info) c = (starts_well (λ x. 0) info.granule (inl c.1.2.4)).kinded
    at (body.Poke poke) c = absurd (some_is_none c.2)
    at (body.Read piece) c = absurd (some_is_none c.2)
    at (body.Insert piece) c = absurd (some_is_none c.2)
    at (body.Write write) c = absurd (some_is_none c.2)
    at (body.Bypass piece) c = absurd (some_is_none c.2)
    at (body.Retire retire) c = absurd (some_is_none c.2)
    at body.Squash c = absurd (some_is_none c.2)
    at body.End c = absurd (some_is_none c.2)

pub lists_are_well_kinded : ListsAreWellKinded
lists_are_well_kinded image [] c l = absurd (omega (arith, l))
lists_are_well_kinded image (m ∷ []) c l = first_kinded image m c
lists_are_well_kinded image (m ∷ n ∷ before) c l =
    keeps_kinded _ _ (lists_are_well_kinded image (n ∷ before) c.0 (omega arith))
    (each_message_is_growth image (n ∷ before) m c (omega arith))

pub lists_grow : ListsGrow
lists_grow image [] before c l = no_growth (trace_of image before)
lists_grow image (m ∷ later) before c l =
    more_growth _ (trace_of image (later ++ before)) _ (lists_grow image later before c.0 l)
    (each_message_is_growth image (later ++ before) m c (some later))
  where
    some : (later : List Message) → 0 < length (later ++ before)
    some [] = l
    some (n ∷ later) = omega arith

-- ---- counts

pub others_count : OthersCount
others_count image before m h e = record {
  reads = reads_other image before m h e;
  stores = stores_other image before m h e;
  kept = kept_other image before m h e;
}
