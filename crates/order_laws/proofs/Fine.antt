-- From a legal trace a message gives a legal one exactly where nothing stands of what is asked at it.
use Rattle.std.proofs.Common.{ℕ, ◌≡◌, inl, Bool, true, false, cond, is_some, List, [], ◌∷◌, Option}
use Rattle.std.proofs.Common.{Some, None}
use Rattle.std.proofs.Common.{refl, sym, ap, ◌∙◌, arith}
use Rattle.msg_frames.specs.declared.message.Head.{Head}
use Rattle.msg_frames.specs.declared.message.Body.{Body}
use Rattle.msg_frames.specs.declared.message.Body.TheVariants as body
use Rattle.msg_frames.specs.declared.message.Message.{Message}
use Rattle.msg_frames.specs.declared.message.Retire.{Retire}
use Rattle.msg_frames.specs.declared.message.Piece.{Piece}
use Rattle.elf_image.specs.Images.{Loaded}
use Rattle.rvwmo_model.specs.declared.operations.Op.{Op}
use Rattle.rvwmo_model.specs.declared.traces.Trace.{Trace}
use Rattle.rvwmo_model.specs.InForm.{IsOf}
use Rattle.elf_image.specs.Images.{initial_byte}
use Rattle.rvwmo_model.specs.Last.{IsRetiring, IsFine}
use Rattle.rvwmo_model.specs.Legal.{Legal}
use Rattle.growth_laws.specs.Kinds.{WellKinded}
use Rattle.growth_laws.specs.Growth.{Same, Growth, grow_same, grow_early, grow_insn, grow_stores}
use Rattle.growth_laws.specs.Corollaries.{GrowsRight}
use Rattle.growth_laws.proofs.Right.{legal_where_right}
use Rattle.growth_laws.proofs.Starts.{starts_well}
use Rattle.matching.specs.Matching.{IsClean, stream_fault_of, retire_fault_of}
use Rattle.matching.specs.Tags.{is_early}
use Rattle.trace_model.specs.Entries.{Entry}
use Rattle.trace_model.specs.Growths as growths
use Rattle.trace_model.specs.Traces.{trace_of, entry_in, places}
use Rattle.trace_model.proofs.CleanLists.{lists_are_well_kinded, each_message_grows}
use Rattle.order_laws.specs.Prefixes.{IsLegal}
use Rattle.order_laws.specs.Retired.{retired_tag}
use Rattle.order_laws.proofs.Trapping.{both_none, IsEntryAt, own_entry, reports_no_trap}

-- a legal trace is fine
pub legal_fine : (initial : ℕ → ℕ) (t : Trace) (hart : ℕ) (tag : Option ℕ) → Legal initial t
    → IsFine initial t hart tag
legal_fine initial t hart tag l =
    record { right = λ x i w. l.valued i x w.1; ordered = l.ordered; atomic = λ r w p. l.atomic r w p.1 }

-- an operation of the entry of a Retire without a trap is one of the instruction that retires
pub retiring : (head : Head) (retire : Retire) (e : Entry) (o : Op) → retire.trap ≡ None → IsEntryAt head e
    → IsOf e.insn o → IsRetiring head.hart (retired_tag head (body.Retire retire)) o
retiring head retire e o t s mine = (
  mine.0 ∙ s.hart,
  ap (λ (z : Option ℕ). cond (is_some z) None (Some head.tag)) t ∙ ap (λ (k : ℕ). Some k) (sym (mine.1 ∙ s.tag)),
)

module _ (image : Loaded) (last : Message) (before : List Message) (head : Head)
    (legal : IsLegal image (last ∷ before)) where
  abbrev older : List Message
  older = last ∷ before

  abbrev old : Trace
  old = trace_of image older

  abbrev new : Body → Trace
  new b = trace_of image (record { head = head; body = b } ∷ older)

  abbrev Clean : Body → Type 0
  Clean b = IsClean image (record { head = head; body = b } ∷ older)

  abbrev Fine : Body → Type 0
  Fine b = IsFine (initial_byte image) (new b) head.hart (retired_tag head b)

  abbrev initial : ℕ → ℕ
  initial = initial_byte image

  pub kinded : (b : Body) → Clean b → WellKinded old
  kinded b c = lists_are_well_kinded image older c.0 (omega arith)

  -- a growth that adds what is right
  pub grown : (b : Body) → Clean b → (g : Growth old (new b)) → GrowsRight initial old (new b) g → Legal initial (new b)
  grown b c g r = (legal_where_right initial old (new b) g (kinded b c) legal).0 r

  pub same : (b : Body) → Clean b → Same old (new b) → Legal initial (new b)
  same b c s = grown b c (grow_same s) tt

  by_bypass : (piece : Piece) → Clean (body.Bypass piece) → Fine (body.Bypass piece) → (d : Bool)
      → growths.BypassGrows older head piece old (new (body.Bypass piece)) d → Legal initial (new (body.Bypass piece))
  by_bypass piece c f true g = grown (body.Bypass piece) c (grow_early _ g) tt
  by_bypass piece c f false g =
      grown (body.Bypass piece) c (grow_stores head.hart _ g.1) (λ k a b r m p. f.ordered k a b p)

  by_retire : (retire : Retire) → Clean (body.Retire retire) → Fine (body.Retire retire) → (o : Option Entry)
      → entry_in image older head (body.Retire retire) ≡ o
      → growths.GrownBy old (new (body.Retire retire)) (places older) o → Legal initial (new (body.Retire retire))
  by_retire retire c f None q s = same (body.Retire retire) c s
  by_retire retire c f (Some e) q s =
      let matches : retire_fault_of image older head retire ≡ None =
      (both_none (stream_fault_of older (record { head = head; body = body.Retire retire })) _ c.2).1 in
      let own = own_entry image older head retire e matches q in
      let no = reports_no_trap image older head retire e matches q in
      grown (body.Retire retire) c (grow_insn _ _ s) (record {
        ordered = λ k a b mine p. f.ordered k a b p;
        valued = λ i x mine v. f.right x i (retiring head retire e i no own mine, v);
        atomic = λ l w mine p. f.atomic l w (retiring head retire e w no own mine, p);
      })

  by_message : (b : Body) → Clean b → Fine b → growths.MessageGrows image older head b old (new b)
      → Legal initial (new b)
  by_message (body.Open info) c f g = absurd g
  by_message (body.Poke poke) c f g = same (body.Poke poke) c g
  by_message (body.Read piece) c f g = same (body.Read piece) c g
  by_message (body.Insert piece) c f g = same (body.Insert piece) c g
  by_message (body.Write write) c f g =
      grown (body.Write write) c (grow_stores head.hart g.0 g.1) (λ k a b r m p. f.ordered k a b p)
  by_message (body.Bypass piece) c f g = by_bypass piece c f (is_early older head) g
  by_message (body.Retire retire) c f g = by_retire retire c f (entry_in image older head (body.Retire retire)) refl g
  by_message body.Squash c f g = same body.Squash c g
  by_message body.End c f g = same body.End c g

-- the first message is an Open, after which nothing is there
pub first_legal : (image : Loaded) (head : Head) (b : Body) → IsClean image (record { head = head; body = b } ∷ [])
    → IsLegal image (record { head = head; body = b } ∷ [])
first_legal image head (body.Open info) c = (starts_well (initial_byte image) info.granule (inl c.1.2.4)).legal
first_legal image head (body.Poke poke) c = absurd (let e = c.2 in cc)
first_legal image head (body.Read piece) c = absurd (let e = c.2 in cc)
first_legal image head (body.Insert piece) c = absurd (let e = c.2 in cc)
first_legal image head (body.Write write) c = absurd (let e = c.2 in cc)
first_legal image head (body.Bypass piece) c = absurd (let e = c.2 in cc)
first_legal image head (body.Retire retire) c = absurd (let e = c.2 in cc)
first_legal image head body.Squash c = absurd (let e = c.2 in cc)
first_legal image head body.End c = absurd (let e = c.2 in cc)

-- a message at which nothing stands leaves a legal trace legal
pub fine_legal : (image : Loaded) (before : List Message) (m : Message) → IsClean image (m ∷ before)
    → IsLegal image before
    → IsFine (initial_byte image) (trace_of image (m ∷ before)) m.head.hart (retired_tag m.head m.body)
    → IsLegal image (m ∷ before)
fine_legal image [] m c l f = first_legal image m.head m.body c
fine_legal image (last ∷ before) m c l f =
    by_message image last before m.head l m.body c f (each_message_grows image (last ∷ before) m c (omega arith))
