-- Each Insert that a line holds is of a store that retired, and so is each byte with a fate.
use Rattle.std.proofs.Common.{ℕ, ◌≡◌, ◌⊎◌, inl, inr, Bool, true, false, eqb, ◌&&◌, cond, List, [], ◌∷◌}
use Rattle.std.proofs.Common.{Option, refl, ap, subst, ◌∙◌}
use Rattle.std.specs.List.{cons_option}
use Rattle.std.proofs.lemmas.Bool.{and_parts, eqb-true}
use Rattle.msg_frames.specs.declared.message.Head.{Head}
use Rattle.msg_frames.specs.declared.message.Piece.{Piece}
use Rattle.msg_frames.specs.declared.message.Body.{Body}
use Rattle.msg_frames.specs.declared.message.Body.TheVariants as body
use Rattle.msg_frames.specs.declared.message.Message.{Message}
use Rattle.elf_image.specs.Images.{Loaded}
use Rattle.trace_model.specs.Groups.{Access}
use Rattle.matching.specs.declared.stores.Fate.{Fate}
use Rattle.matching.specs.declared.stores.Held.{Held}
use Rattle.matching.specs.declared.stores.Fate.TheVariants.{Nothing, Done}
use Rattle.matching.specs.Settings.{number_after}
use Rattle.msg_frames.specs.Pieces.{has}
use Rattle.matching.specs.Pieces.{line_start}
use Rattle.matching.specs.Tags.{is_of, is_early}
use Rattle.matching.specs.Fates.{waiting, drained, fate_in, fate}
use Rattle.trace_model.proofs.Fresh.{AreFresh, IsFreshAt}
use Rattle.trace_model.specs.Entries.{Stores, Entry}
use Rattle.trace_model.specs.Traces.{entry_in, entries}
use Rattle.trace_model.proofs.Lists.{In}
use Rattle.trace_model.proofs.Suits.{IsKnown, SuitsBody, Suited}
use Rattle.trace_model.proofs.Past.{Timed}
use Rattle.trace_model.proofs.Keys.{with_more}
use Rattle.trace_model.proofs.Waits.{held_now}
use Rattle.trace_model.proofs.Writes.{IsStored}

pub timed : (image : Loaded) (before : List Message) → Suited image before → Timed before
timed image [] s = tt
timed image (m ∷ before) s = (timed image before s.0, s.1)

pub fits : (image : Loaded) (before : List Message) (head : Head) (b : Body) → SuitsBody image before head b
    → IsFreshAt before head b
fits image before head (body.Insert piece) s = (s.fresh, s.line)
fits image before head (body.Bypass piece) s = λ plain. (s.1 plain).fresh
fits image before head (body.Open info) s = tt
fits image before head (body.Poke poke) s = tt
fits image before head (body.Read piece) s = tt
fits image before head (body.Write write) s = tt
fits image before head (body.Retire retire) s = tt
fits image before head body.Squash s = tt
fits image before head body.End s = tt

pub clean : (image : Loaded) (before : List Message) → Suited image before → AreFresh before
clean image [] s = tt
clean image (m ∷ before) s = (clean image before s.0, fits image before m.head m.body s.2)

-- ---- each Insert that a line holds is of a store that retired

stored_more : (es : List Entry) (o : Option Entry) (h : ℕ) (e : Held) → IsStored es h e
    → IsStored (cons_option o es) h e
stored_more es o h e s = record {
  entry = s.entry;
  access = s.access;
  there = with_more o es s.entry s.there;
  stores =
      s.stores;
  hart = s.hart;
  tag = s.tag;
  inside = s.inside;
  some = s.some;
}

pub stored : (image : Loaded) (before : List Message) → Suited image before → (h l : ℕ) (e : Held)
    → In e (waiting before h l) → IsStored (entries image before) h e
stored image [] c h l e i = absurd i
stored image (m ∷ before) c h l e i = stored_more (entries image before) (entry_in image before m.head m.body) h e
    (elim (held_now before m.head m.body h l e i) [
      | inl n ↦ new (subst (λ (b : Body). SuitsBody image before m.head b) n.inserts c.2).known n.hart n.is
      | inr j ↦ stored image before c.0 h l e j
    ])
  where
    new : {piece : Piece} → IsKnown (entries image before) m.head piece → m.head.hart ≡ h → e
        ≡ record { number = number_after before; tag = m.head.tag; piece = piece } → IsStored (entries image before) h e
    new k hart s = rw s (record {
      entry = k.entry;
      access = k.access;
      there = k.there;
      stores = k.stores;
      hart =
          k.hart ∙ hart;
      tag = k.tag;
      inside = k.inside;
      some = k.some;
    })

-- ---- a byte with a fate is of a store that retired

pub record HasStore (es : List Entry) (h t : ℕ) : Type 0 where
  pub entry : Entry
  pub access : Access
  pub there : In entry es
  pub stores : entry.memory ≡ Stores access
  pub hart : access.hart ≡ h
  pub tag : access.tag ≡ t

abbrev IsNothing : Fate → Type 0
IsNothing f = f ≡ Nothing

of_known : (es : List Entry) (head : Head) (piece : Piece) (h t : ℕ) → IsKnown es head piece → head.hart ≡ h → head.tag
    ≡ t → HasStore es h t
of_known es head piece h t k a b = record {
  entry = k.entry;
  access = k.access;
  there = k.there;
  stores = k.stores;
  hart = k.hart ∙ a;
  tag = k.tag ∙ b;
}

module _ (image : Loaded) (before : List Message) (head : Head) (h t x : ℕ)
    (old : IsNothing (fate before h t x) ⊎ HasStore (entries image before) h t) where
  abbrev At : Body → Type 0
  At b = IsNothing (fate_in before (fate before h t x) head b h t x) ⊎ HasStore (entries image before) h t

  with_piece : (piece : Piece) (f : Fate) → IsKnown (entries image before) head piece → (c : Bool)
      → (is_of head h t && has piece x) ≡ c → IsNothing (cond c f (fate before h t x)) ⊎ HasStore (entries image before)
      h t
  with_piece piece f k true q = let s = and_parts (eqb head.hart h) (eqb head.tag t)
      (and_parts (is_of head h t) (has piece x) q).0 in
      inr (of_known (entries image before) head piece h t k (eqb-true _ _ s.0) (eqb-true _ _ s.1))
  with_piece piece f k false q = old

  owned_now : (b : Body) → SuitsBody image before head b → At b
  owned_now (body.Insert piece) k = with_piece piece _ k.known (is_of head h t && has piece x) refl
  owned_now (body.Write write) k = at (eqb head.hart h && eqb write.line (line_start x)) old
    where
      at : (c : Bool) → IsNothing (fate before h t x) ⊎ HasStore (entries image before) h t
          → IsNothing (cond c (drained head.time (number_after before) (fate before h t x)) (fate before h t x))
          ⊎ HasStore (entries image before) h t
      at c (inr s) = inr s
      at true (inl e) = inl (ap (drained head.time (number_after before)) e)
      at false (inl e) = inl e
  owned_now (body.Bypass piece) k = at (is_early before head) refl
    where
      at : (c : Bool) → is_early before head ≡ c → IsNothing
          (cond c (fate before h t x) (cond (is_of head h t && has piece x)
          (Done (record { time = head.time; message = number_after before; insert = number_after before }))
          (fate before h t x))) ⊎ HasStore (entries image before) h t
      at true q = old
      at false q = with_piece piece _ (k.1 q).known (is_of head h t && has piece x) refl
  owned_now _ k = old

has_more : (es : List Entry) (o : Option Entry) (h t : ℕ) → HasStore es h t → HasStore (cons_option o es) h t
has_more es o h t s = record {
  entry = s.entry;
  access = s.access;
  there = with_more o es s.entry s.there;
  stores =
      s.stores;
  hart = s.hart;
  tag = s.tag;
}

pub owned : (image : Loaded) (before : List Message) → Suited image before → (h t x : ℕ) → IsNothing (fate before h t x)
    ⊎ HasStore (entries image before) h t
owned image [] c h t x = inl refl
owned image (m ∷ before) c h t x = elim
    (owned_now image before m.head h t x (owned image before c.0 h t x) m.body c.2) [
      | inl e ↦ inl e
      | inr s ↦ inr (has_more (entries image before) (entry_in image before m.head m.body) h t s)
    ]
