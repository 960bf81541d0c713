-- Where a message breaks the order of memory.
use Rattle.std.proofs.Common.{ℕ, ◌<◌, ◌≡◌, inl, inr, Bool, true, false, cond, not, ◌||◌, is_some, List, [], ◌∷◌}
use Rattle.std.proofs.Common.{Option, Some, None, refl, sym, ap, subst, ◌∙◌, arith}
use Rattle.std.proofs.lemmas.Bool.{false≢true, or_right}
use Rattle.std.proofs.lemmas.Bool.Decides.{nat_tests}
use Rattle.tandem_base.specs.declared.names.Place.{Place}
use Rattle.msg_frames.specs.declared.message.Head.{Head}
use Rattle.msg_frames.specs.declared.message.Body.{Body}
use Rattle.msg_frames.specs.declared.message.Body.TheVariants as body
use Rattle.msg_frames.specs.declared.message.Message.{Message}
use Rattle.msg_frames.specs.declared.message.Piece.{Piece}
use Rattle.msg_frames.specs.declared.message.Retire.{Retire}
use Rattle.elf_image.specs.Images.{Loaded}
use Rattle.rvwmo_model.specs.declared.operations.Op.{Op}
use Rattle.rvwmo_model.specs.declared.preserved.Rule.{Rule}
use Rattle.rvwmo_model.specs.declared.traces.Trace.{Trace}
use Rattle.elf_image.specs.Images.{initial_byte}
use Rattle.rvwmo_model.specs.Last.{IsRetiring}
use Rattle.rvwmo_model.specs.Legal.{Legal}
use Rattle.rvwmo_model.specs.Order.{precedes, standing, standing_of, stands_before, performed}
use Rattle.rvwmo_model.specs.Rules.{Broken}
use Rattle.growth_laws.specs.Growth.{Same, Performs, grow_early}
use Rattle.growth_laws.specs.Laws.{IsLeastRule}
use Rattle.growth_laws.proofs.FaultSteps.{insn_breaks_its_own}
use Rattle.growth_laws.proofs.FaultStores.{stores_break_pairs}
use Rattle.matching.specs.declared.stores.Held.{Held}
use Rattle.matching.specs.Fates.{waiting}
use Rattle.matching.specs.Matching.{IsClean, stream_fault_of, retire_fault_of}
use Rattle.matching.specs.Settings.{number_after}
use Rattle.matching.specs.Tags.{is_early}
use Rattle.trace_model.specs.Entries.{Entry}
use Rattle.trace_model.specs.Growths as growths
use Rattle.trace_model.specs.Parts.{IsPartFor, ArePartsFor}
use Rattle.trace_model.specs.Traces.{trace_of, entry_in, places}
use Rattle.trace_model.proofs.CleanLists.{each_message_grows}
use Rattle.trace_model.proofs.Lists.{In, listed}
use Rattle.order_laws.specs.FaultLaws.{IsInsertedLater, IsBrokenBy}
use Rattle.order_laws.specs.FaultLaws.{OrderFaultsHavePlaces}
use Rattle.order_laws.specs.Prefixes.{IsLegal}
use Rattle.order_laws.specs.Retired.{retired_tag, performs_stores}
use Rattle.order_laws.proofs.Faultless.{order_legal, legal_order, faultless_legal}
use Rattle.order_laws.proofs.Fine.{first_legal, kinded, same, grown, retiring}
use Rattle.order_laws.proofs.Trapping.{both_none, IsEntryAt, own_entry, reports_no_trap}

-- ---- the places of what one message performs

-- o was performed by message n, at this time
record IsAt (time n : ℕ) (o : Op) : Type 0 where
  place : Place
  is : o.place ≡ Some place
  timed : place.time ≡ time
  message : place.message ≡ n

part_at : (h t time n j : ℕ) (piece : Piece) (o : Op)
    → IsPartFor h t (record { time = time; message = n; insert = j }) piece o → IsAt time n o
part_at h t time n j piece o p =
    record { place = record { time = time; message = n; insert = j }; is = p.place; timed = refl; message = refl }

parts_at : (h time n : ℕ) (held : List Held) (ops : List Op) → ArePartsFor h time n held ops → (o : Op) → In o ops
    → IsAt time n o
parts_at h time n [] [] a o i = absurd i
parts_at h time n [] (p ∷ ps) a o i = absurd a
parts_at h time n (e ∷ es) [] a o i = absurd i
parts_at h time n (e ∷ es) (p ∷ ps) a o (inl q) =
    subst (IsAt time n) (sym q) (part_at h e.tag time n e.number e.piece p a.0)
parts_at h time n (e ∷ es) (p ∷ ps) a o (inr j) = parts_at h time n es ps a.1 o j

later_insert : (p q : Place) → q.time ≡ p.time → q.message ≡ p.message
    → stands_before (performed q) (performed p) ≡ true
    → q.insert < p.insert
unfolding stands_before
later_insert p q t m e = grind (arith, nat_tests)

-- of two operations that one message performed the later has the later Insert
inserted_later : (time n : ℕ) (a b : Op) → IsAt time n a → IsAt time n b → precedes b a ≡ true → IsInsertedLater n a b
inserted_later time n a b p q e = record {
  first = p.place;
  second = q.place;
  first_at = p.is;
  second_at = q.is;
  one_message = p.message;
  later = later_insert p.place q.place (q.timed ∙ sym p.timed) (q.message ∙ sym p.message)
      (subst (λ (o : Option Place). stands_before (standing_of b.name o) (performed p.place) ≡ true) q.is
      (subst (λ (o : Option Place). stands_before (standing b) (standing_of a.name o) ≡ true) p.is e));
}

-- ---- by kinds

abbrev adds_order : List Message → Head → Body → Bool
adds_order before head b = is_some (retired_tag head b) || performs_stores before head b

-- what a message breaks, in the trace t
record Breaks (image : Loaded) (before : List Message) (head : Head) (b : Body) (t : Trace) : Type 0 where
  message : (k : Rule) (a c : Op) → Broken k t a c → adds_order before head b ≡ true
  retire : (k : Rule) (a c : Op) → is_some (retired_tag head b) ≡ true → Broken k t a c
      → IsRetiring head.hart (retired_tag head b) c
  stores : (k : Rule) (a c : Op) → performs_stores before head b ≡ true → IsLeastRule t k → Broken k t a c
      → IsBrokenBy t (number_after before) k a c

-- nothing is broken where the trace is legal
unbroken : (image : Loaded) (before : List Message) (head : Head) (b : Body) (t : Trace)
    → Legal (initial_byte image) t → Breaks image before head b t
unbroken image before head b t l = record {
  message = λ k a c p. absurd (l.ordered k a c p);
  retire = λ k a c s p. absurd (l.ordered k a c p);
  stores = λ k a c s least p. absurd (l.ordered k a c p);
}

module _ (image : Loaded) (last : Message) (before : List Message) (head : Head)
    (legal : IsLegal image (last ∷ before)) where
  abbrev older : List Message
  older = last ∷ before

  abbrev old : Trace
  old = trace_of image older

  abbrev new : Body → Trace
  new b = trace_of image (record { head = head; body = b } ∷ older)

  abbrev Clean : Body → Type 0
  Clean b = IsClean image (record { head = head; body = b } ∷ older)

  by_same : (b : Body) → Clean b → Same old (new b) → Breaks image older head b (new b)
  by_same b c s = unbroken image older head b (new b) (same image last before head legal b c s)

  -- stores that the message performs at its own time
  by_stores : (b : Body) → Clean b → performs_stores older head b ≡ true → retired_tag head b ≡ None → (h : ℕ)
      (parts : List Op) → Performs h old parts (new b)
      → ((o : Op) → In o parts → IsAt head.time (number_after older) o) → Breaks image older head b (new b)
  by_stores b c performs none h parts s at = record {
    message = λ k a d p. or_right (is_some (retired_tag head b)) (performs_stores older head b) performs;
    retire = λ k a d some p. absurd (false≢true (ap (λ (o : Option ℕ). is_some o) (sym none) ∙ some));
    stores = λ k a d some least p.
        let w = stores_break_pairs (initial_byte image) old (new b) h parts
        (kinded image last before head legal b c) legal s in
        let q = w.pair k a d least p in
        let second = at d (listed parts d q.second) in
        record {
          rule = w.rule k a d least p;
          second = (second.place, second.is, second.message);
          plain = q.plain;
          first = elim q.first [
            | inl e ↦ inl e
            | inr f ↦ inr
                (inserted_later head.time (number_after older) a d (at a (listed parts a f.0)) second f.1)
          ];
        };
  }

  by_bypass : (piece : Piece) → Clean (body.Bypass piece) → (d : Bool) → is_early older head ≡ d
      → growths.BypassGrows older head piece old (new (body.Bypass piece)) d
      → Breaks image older head (body.Bypass piece) (new (body.Bypass piece))
  by_bypass piece c true q g = unbroken image older head (body.Bypass piece) (new (body.Bypass piece))
      (grown image last before head legal (body.Bypass piece) c (grow_early _ g) tt)
  by_bypass piece c false q g = by_stores (body.Bypass piece) c (ap not q) refl head.hart (g.0 ∷ []) g.1
      (λ o i. elim i [
        | inl e ↦ subst (IsAt head.time (number_after older)) (sym e)
            (part_at head.hart head.tag head.time (number_after older) (number_after older) piece g.0 g.2)
        | inr j ↦ absurd j
      ])

  by_retire : (retire : Retire) → Clean (body.Retire retire) → (o : Option Entry)
      → entry_in image older head (body.Retire retire) ≡ o
      → growths.GrownBy old (new (body.Retire retire)) (places older) o
      → Breaks image older head (body.Retire retire) (new (body.Retire retire))
  by_retire retire c None q s = by_same (body.Retire retire) c s
  by_retire retire c (Some e) q s = record {
    message = λ k a d p. ap (λ (o : Option ℕ). is_some (cond (is_some o) None (Some head.tag)) || false) no;
    retire = λ k a d some p. retiring head retire e d no own
        ((insn_breaks_its_own (initial_byte image) old (new (body.Retire retire)) e.insn _
        (kinded image last before head legal (body.Retire retire) c) legal s).pairs k a d p);
    stores = λ k a d some least p. absurd (false≢true some);
  }
    where
      matches : retire_fault_of image older head retire ≡ None
      matches = (both_none (stream_fault_of older (record { head = head; body = body.Retire retire })) _ c.2).1

      own : IsEntryAt head e
      own = own_entry image older head retire e matches q

      no : retire.trap ≡ None
      no = reports_no_trap image older head retire e matches q

  breaks : (b : Body) → Clean b → growths.MessageGrows image older head b old (new b)
      → Breaks image older head b (new b)
  breaks (body.Open info) c g = absurd g
  breaks (body.Poke poke) c g = by_same (body.Poke poke) c g
  breaks (body.Read piece) c g = by_same (body.Read piece) c g
  breaks (body.Insert piece) c g = by_same (body.Insert piece) c g
  breaks (body.Write write) c g = by_stores (body.Write write) c refl refl head.hart g.0 g.1
      (parts_at head.hart head.time (number_after older) (waiting older head.hart write.line) g.0 g.2)
  breaks (body.Bypass piece) c g = by_bypass piece c (is_early older head) refl g
  breaks (body.Retire retire) c g = by_retire retire c (entry_in image older head (body.Retire retire)) refl g
  breaks body.Squash c g = by_same body.Squash c g
  breaks body.End c g = by_same body.End c g

message_breaks : (image : Loaded) (before : List Message) (m : Message) → IsClean image (m ∷ before)
    → IsLegal image before → Breaks image before m.head m.body (trace_of image (m ∷ before))
message_breaks image [] m c l =
    unbroken image [] m.head m.body (trace_of image (m ∷ [])) (first_legal image m.head m.body c)
message_breaks image (last ∷ before) m c l =
    breaks image last before m.head l m.body c (each_message_grows image (last ∷ before) m c (omega arith))

pub order_faults_have_places : OrderFaultsHavePlaces
order_faults_have_places image before m f c =
    let l = (faultless_legal image before f).1 in
    let b = message_breaks image before m c l in
    record {
      legal = (order_legal image before m c l, legal_order image before m c);
      message = λ k a d p. b.message k a d p;
      retire = λ k a d some p. b.retire k a d some p;
      stores = λ k a d some least p. b.stores k a d some least p;
    }
