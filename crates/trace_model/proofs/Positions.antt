-- The time of a place is that of its message, and so places are in the order of positions.
use Rattle.std.proofs.Common.{ℕ, ◌+◌, ◌<◌, ◌≤◌, ◌≡◌, inl, inr, List, []}
use Rattle.std.proofs.Common.{◌∷◌}
use Rattle.std.proofs.Common.{◌++◌, map, Some, refl, sym, ap, subst, ◌∙◌, arith}
use Rattle.std.proofs.lemmas.Bool.{cases_order}
use Rattle.std.proofs.lemmas.Bool.Decides.{nat_tests}
use Rattle.tandem_base.specs.declared.names.Place.{Place}
use Rattle.tandem_base.specs.Places.{earlier, comes_before}
use Rattle.msg_frames.specs.declared.message.Head.{Head}
use Rattle.msg_frames.specs.declared.message.Body.{Body}
use Rattle.msg_frames.specs.declared.message.Body.TheVariants as body
use Rattle.msg_frames.specs.declared.message.Message.{Message}
use Rattle.elf_image.specs.Images.{Loaded}
use Rattle.rvwmo_model.specs.declared.operations.Op.{Op}
use Rattle.matching.specs.declared.reports.OpenReport.{OpenReport}
use Rattle.matching.specs.declared.stores.Fate.TheVariants.{Done}
use Rattle.matching.specs.Settings.{number_after, last_time}
use Rattle.matching.specs.Reports.{live, early, place_of_report}
use Rattle.matching.specs.Fates.{fate}
use Rattle.trace_model.specs.Entries.{Entry}
use Rattle.trace_model.specs.Traces.{entries, places, early_op, trace_of}
use Rattle.trace_model.specs.FirstWrites.{IsMessage}
use Rattle.trace_model.specs.Positions.{IsPerformedAt, HasMessage, position_of, PlacesHaveMessages, PlacesAreOrdered}
use Rattle.trace_model.proofs.Lists.{In, in_cases, from_map, listed}
use Rattle.trace_model.proofs.Entries.{Comes, is_fixed, is_stored, comes}
use Rattle.trace_model.proofs.Facts.{fate_all, live_all, early_all}
use Rattle.trace_model.proofs.FirstWrites.{message, message_new, message_on, message_cases, message_in, message_one}
use Rattle.trace_model.proofs.FirstWrites.{message_none}
use Rattle.trace_model.proofs.Past.{Timed, IsFixedAt, entries_all, done_of}
use Rattle.trace_model.proofs.Known.{timed}
use Rattle.trace_model.proofs.Cleaned.{suited}

-- ---- the message of a place

message_more : (before : List Message) (m : Message) (q : Place) → HasMessage before q → HasMessage (m ∷ before) q
message_more before m q y = record {
  older = y.older;
  head = y.head;
  body = y.body;
  message = message_on m before q.message y.older y.head y.body y.message;
  timed = y.timed;
}

new_message : (before : List Message) (head : Head) (b : Body) (j : ℕ)
    → HasMessage (message head b ∷ before) (record { time = head.time; message = number_after before; insert = j })
new_message before head b j = record {
  older = before;
  head = head;
  body = b;
  message = message_new before head b;
  timed = refl;
}

fate_message : (before : List Message) (h t x : ℕ) (q : Place) → fate before h t x ≡ Done q → HasMessage before q
fate_message = fate_all HasMessage (record {
  on = message_more;
  drain = λ before head write j. new_message before head (body.Write write) j;
  bypass = λ before head piece. new_message before head (body.Bypass piece) (number_after before);
})

live_message : (before : List Message) (h : ℕ) (r : OpenReport) → In r (live before h)
    → HasMessage before (place_of_report r)
live_message = live_all (λ before h r. HasMessage before (place_of_report r)) (record {
  on = λ before m h r y. message_more before m (place_of_report r) y;
  read = λ before head piece. new_message before head (body.Read piece) (number_after before);
})

early_message : (before : List Message) (r : OpenReport) → In r (early before) → HasMessage before (place_of_report r)
early_message = early_all (λ before r. HasMessage before (place_of_report r)) (record {
  on = λ before m r y. message_more before m (place_of_report r) y;
  bypass = λ before head piece e. new_message before head (body.Bypass piece) (number_after before);
})

entries_message : (image : Loaded) (before : List Message) (e : Entry) → In e (entries image before)
    → IsFixedAt (HasMessage before) e.memory
entries_message = entries_all (λ before h t q. HasMessage before q) (record {
  on = λ before m h t q. message_more before m q;
  read = λ before h r i. live_message before h r i;
  bypass = λ before h t r i. early_message before r i;
})

pub has_message : (image : Loaded) (before : List Message) (v : Op) (q : Place) → IsPerformedAt image before v q
    → HasMessage before q
has_message image before v q y =
    elim (in_cases (trace_of image before).ops (map early_op (early before)) v (listed _ v y.there)) [
      | inl a ↦ of_entry (comes (places before) (entries image before) v a)
      | inr b ↦
          let z = from_map early_op (early before) v b in
          let s : Some (place_of_report z.0) ≡ Some q = sym (ap (λ (w : Op). w.place) z.2) ∙ y.place in
          subst (HasMessage before) (let c : place_of_report z.0 ≡ q = cc in c) (early_message before z.0 z.1)
    ]
  where
    of_entry : Comes (places before) (entries image before) v → HasMessage before q
    of_entry (is_fixed e ops i d h) = entries_message image before e i ops v q d h y.place
    of_entry (is_stored e a k i d l s) = fate_message before a.hart a.tag (a.extent.addr + k) q
        (done_of (fate before a.hart a.tag (a.extent.addr + k)) q (sym (ap (λ (z : Op). z.place) s) ∙ y.place))

pub places_have_messages : PlacesHaveMessages
places_have_messages image messages o p clean y = has_message image messages o p y

-- ---- time and numbers

-- no message is later than the newest
not_later : (ms : List Message) → Timed ms → (k : ℕ) (older : List Message) (head : Head) (b : Body)
    → IsMessage ms k older head b → head.time ≤ last_time ms
not_later [] t k older head b m = absurd (message_none k older head b m)
not_later (n ∷ ms) t k older head b m = elim (message_cases n ms k older head b m) [
  | inl q ↦ let s : n.head.time ≡ head.time = ap (λ (z : Message). z.head.time) q.0 in omega (arith, s)
  | inr i ↦ let l = not_later ms t.0 k older head b i in omega (arith, l, t.1)
]

-- time doesn't fall to any message
timed_at : (later : List Message) (past : List Message) (h : Head) (c : Body) → Timed (later ++ message h c ∷ past)
    → Timed past × (last_time past ≤ h.time)
timed_at [] past h c t = t
timed_at (y ∷ ys) past h c t = timed_at ys past h c t.0

module _ (messages : List Message) (t : Timed messages) where
  -- of two messages the later has no lower time
  time_up : (p q : Place) → HasMessage messages p → HasMessage messages q → p.message < q.message → p.time ≤ q.time
  time_up p q a b l =
      let m = message_in b.message.later p.message a.older a.head a.body q.message b.older b.head b.body
      b.message.number
      (subst (λ (z : List Message). IsMessage z p.message a.older a.head a.body) b.message.whole a.message) l in
      let u = timed_at b.message.later b.older b.head b.body (subst Timed b.message.whole t) in
      let d = not_later b.older u.0 p.message a.older a.head a.body m in
      let v = u.1 in
      omega (arith, d, v, a.timed, b.timed)

  -- two of one number have one time
  time_same : (p q : Place) → HasMessage messages p → HasMessage messages q → p.message ≡ q.message → p.time ≡ q.time
  time_same p q a b e =
      let m : IsMessage messages q.message a.older a.head a.body =
      subst (λ (z : ℕ). IsMessage messages z a.older a.head a.body) e a.message in
      let s = message_one b.message.later q.message a.older a.head a.body b.older b.head b.body b.message.number
      (subst (λ (z : List Message). IsMessage z q.message a.older a.head a.body) b.message.whole m) in
      sym a.timed ∙ ap (λ (z : Head). z.time) s.0 ∙ b.timed

before_is : (p q : Place) → p.message < q.message → p.time ≤ q.time
    → earlier p q ≡ comes_before (position_of p) (position_of q)
before_is p q l u = grind (arith, nat_tests)

after_is : (p q : Place) → q.message < p.message → q.time ≤ p.time
    → earlier p q ≡ comes_before (position_of p) (position_of q)
after_is p q l u = grind (arith, nat_tests)

same_is : (p q : Place) → p.message ≡ q.message → p.time ≡ q.time
    → earlier p q ≡ comes_before (position_of p) (position_of q)
same_is p q e u = grind (arith, nat_tests)

pub places_are_ordered : PlacesAreOrdered
places_are_ordered image messages v w p q clean y z =
    let t = timed image messages (suited image messages clean) in
    let a = has_message image messages v p y in
    let b = has_message image messages w q z in
    elim (cases_order p.message q.message) [
      | inl e ↦ same_is p q e (time_same messages t p q a b e)
      | inr o ↦ elim o [
        | inl l ↦ before_is p q l (time_up messages t p q a b l)
        | inr l ↦ after_is p q l (time_up messages t q p b a l)
      ]
    ]
