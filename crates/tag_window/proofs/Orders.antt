-- An order of reports, as some of them are dropped.
use Rattle.std.proofs.Common.{ℕ, zero, suc, ◌≡◌, ◌+◌, ◌<◌, ◌≤◌, ◌==◌, ◌&&◌, inl, inr, not, nat_lt, Bool, true}
use Rattle.std.proofs.Common.{false}
use Rattle.std.proofs.Common.{cond, List, [], ◌∷◌, ◌++◌, length, get_or, Option, None, Some, refl, sym, ap, ◌∙◌, subst}
use Rattle.std.proofs.Common.{arith, if◌then◌else◌}
use Rattle.std.specs.Option.{IfSome, option_to_list}
use Rattle.std.specs.VecDeque.{deque_capacity}
use Rattle.std.proofs.lemmas.List.{append-nil}
use Rattle.std.proofs.lemmas.Bool.{cases_eq, ne_eqb}
use Rattle.std.proofs.lemmas.Bool.Decides.{nat_tests}
use Rattle.slab.specs.Slab.{Slab, get, slab_len}
use Rattle.tag_window.specs.declared.links.Link.{Link}
use Rattle.tag_window.specs.declared.newest.Newest.{Newest}
use Rattle.tag_window.specs.declared.order.Arrival.{Arrival}
use Rattle.tag_window.specs.declared.order.TagOrder.{TagOrder}
use Rattle.tag_window.specs.Order.{is_live, live_of, live_reports, PlacesFall, StartsLive, EndsLive, arrivals_of_tag}
use Rattle.tag_window.specs.Order.{arrivals_without}
use Rattle.tag_window.specs.Order.{arrivals_above, arrivals_below, Freed, TagsRise, slot_under, AreKept, IsTagOrder}
use Rattle.tag_window.specs.Order.{IsTagChain}
use Rattle.tag_window.specs.Order.{HasTag, AllTagsFrom}
use Rattle.tag_window.proofs.Arrivals.{In, filter_on, filter_both, filter_all, in_filter, falls_filter, falls_front}
use Rattle.tag_window.proofs.Chains.{freed_kept, freed_live, has_head, head_has, tags_from}
use Rattle.tag_window.proofs.TagLists.{all_higher, under_empty, yes_at}

-- ---- the ends of the arrivals

same_get : (xs : List Arrival) (k : ℕ) (d e : Arrival) → k < length xs → get_or xs k d ≡ get_or xs k e
same_get [] k d e l = absurd (omega (arith, l))
same_get (x ∷ xs) zero d e l = refl
same_get (x ∷ xs) (suc k) d e l = same_get xs k d e (omega (arith, l))

module _ (at : ℕ → Option Link) where
  pub front_gone_live : (xs ys : List Arrival) (o : Option Arrival) (x : Arrival) → xs ≡ option_to_list o ++ ys
      → 0 < length xs → x ≡ get_or xs 0 x → is_live at x ≡ false → live_of at ys ≡ live_of at xs
  front_gone_live xs ys None x e l q g = ap (live_of at) (sym e)
  front_gone_live [] ys (Some a) x e l q g = absurd (omega (arith, l))
  front_gone_live (b ∷ bs) ys (Some a) x e l q g =
      let tail : bs ≡ ys = cc in
      ap (live_of at) (sym tail)
      ∙ sym (ap (λ (t : Bool). cond t (b ∷ live_of at bs) (live_of at bs))
      (subst (λ (y : Arrival). is_live at y ≡ false) q g))

  pub front_gone_falls : (xs ys : List Arrival) (o : Option Arrival) → xs ≡ option_to_list o ++ ys
      → PlacesFall xs → PlacesFall ys
  front_gone_falls xs ys None e f = subst PlacesFall e f
  front_gone_falls xs ys (Some a) e f =
      let g : PlacesFall (a ∷ ys) = subst PlacesFall e f in
      g.1

  without_last : (ys : List Arrival) (a : Arrival) → is_live at a ≡ false → live_of at (ys ++ a ∷ []) ≡ live_of at ys
  without_last [] a g = ap (λ (t : Bool). cond t (a ∷ []) []) g
  without_last (y ∷ ys) a g = ap (λ (zs : List Arrival). cond (is_live at y) (y ∷ zs) zs) (without_last ys a g)

  pub back_gone_live : (xs ys : List Arrival) (o : Option Arrival) (x : Arrival) (m : ℕ) → xs ≡ ys ++ option_to_list o
      → m < length xs → x ≡ get_or xs m x → IfSome o (λ y. y ≡ get_or xs m y) → is_live at x ≡ false
      → live_of at ys ≡ live_of at xs
  back_gone_live xs ys None x m e l q h g = ap (live_of at) (sym (e ∙ append-nil ys))
  back_gone_live xs ys (Some a) x m e l q h g =
      let same : x ≡ a = q ∙ same_get xs m x a l ∙ sym h in
      sym (ap (live_of at) e ∙ without_last ys a (subst (λ (y : Arrival). is_live at y ≡ false) same g))

  pub back_gone_falls : (xs ys : List Arrival) (o : Option Arrival) → xs ≡ ys ++ option_to_list o → PlacesFall xs
      → PlacesFall ys
  back_gone_falls xs ys o e f = falls_front ys (option_to_list o) (subst PlacesFall e f)

  starts_front : (ys zs : List Arrival) → StartsLive at (ys ++ zs) → StartsLive at ys
  starts_front [] zs s = tt
  starts_front (y ∷ ys) zs s = s

  pub back_gone_starts : (xs ys : List Arrival) (o : Option Arrival) → xs ≡ ys ++ option_to_list o → StartsLive at xs
      → StartsLive at ys
  back_gone_starts xs ys o e s = starts_front ys (option_to_list o) (subst (StartsLive at) e s)

  pub starts_empty : (xs : List Arrival) → length xs ≡ 0 → StartsLive at xs
  starts_empty [] e = tt
  starts_empty (x ∷ xs) e = absurd (omega (arith, e))

  pub starts_here : (xs : List Arrival) (x : Arrival) → 0 < length xs → x ≡ get_or xs 0 x → is_live at x ≡ true
      → StartsLive at xs
  starts_here [] x l q g = tt
  starts_here (y ∷ ys) x l q g = subst (λ (z : Arrival). is_live at z ≡ true) q g

  pub ends_empty : (xs : List Arrival) → length xs ≡ 0 → EndsLive at xs
  ends_empty xs e = λ bs a s. absurd (omega (arith, e, ap length s, longer bs a))
    where
      longer : (bs : List Arrival) (a : Arrival) → 0 < length (bs ++ a ∷ [])
      longer [] a = omega arith
      longer (b ∷ bs) a = omega arith

  pub ends_here : (xs : List Arrival) (x : Arrival) (m : ℕ) → m + 1 ≡ length xs → x ≡ get_or xs m x → is_live at x
      ≡ true
      → EndsLive at xs
  ends_here xs x m l q g = λ bs a s. (
      let size : length xs ≡ length bs + 1 = ap length s ∙ count bs a in
      let same : x ≡ a = q ∙ ap (λ (zs : List Arrival). get_or zs m x) s
      ∙ ap (λ (k : ℕ). get_or (bs ++ a ∷ []) k x) (omega (arith, l, size)) ∙ at_end bs a x in
      subst (λ (y : Arrival). is_live at y ≡ true) same g)
    where
      count : (bs : List Arrival) (a : Arrival) → length (bs ++ a ∷ []) ≡ length bs + 1
      count [] a = refl
      count (b ∷ bs) a = omega (arith, count bs a)

      at_end : (bs : List Arrival) (a d : Arrival) → get_or (bs ++ a ∷ []) (length bs) d ≡ a
      at_end [] a d = refl
      at_end (b ∷ bs) a d = at_end bs a d

  -- ---- a sweep

  pub live_twice : (xs : List Arrival) → live_of at (live_of at xs) ≡ live_of at xs
  live_twice xs = filter_all (is_live at) (live_of at xs) (λ a i. (in_filter (is_live at) xs a i).1)

  all_start : (xs : List Arrival) → ((a : Arrival) → In a xs → is_live at a ≡ true) → StartsLive at xs
  all_start [] h = tt
  all_start (x ∷ xs) h = h x (inl refl)

  end_in : (bs : List Arrival) (a : Arrival) → In a (bs ++ a ∷ [])
  end_in [] a = inl refl
  end_in (b ∷ bs) a = inr (end_in bs a)

  pub swept_starts : (xs : List Arrival) → StartsLive at (live_of at xs)
  swept_starts xs = all_start (live_of at xs) (λ a i. (in_filter (is_live at) xs a i).1)

  pub swept_ends : (xs : List Arrival) → EndsLive at (live_of at xs)
  swept_ends xs = λ bs a s. (in_filter (is_live at) xs a (subst (In a) (sym s) (end_in bs a))).1

pub swept_kept : (links : Slab Link) (arrivals : List Arrival) (newest : List Newest) → AreKept links arrivals newest
    → AreKept links (live_of (get links) arrivals) newest
swept_kept links arrivals newest k = record {
  falls = falls_filter (is_live (get links)) arrivals k.falls;
  rises = k.rises;
  chains = subst (λ (xs : List Arrival). (tag : ℕ)
      → IsTagChain (get links) (slot_under newest tag) (arrivals_of_tag tag xs))
      (sym (live_twice (get links) arrivals)) k.chains;
  count = ap length (live_twice (get links) arrivals) ∙ k.count;
}

-- an order whose arrivals were swept
pub swept_sound : (old new : TagOrder) → IsTagOrder old → new.arrivals.items ≡ live_reports old
    → deque_capacity new.arrivals ≡ deque_capacity old.arrivals → new.links ≡ old.links → new.newest ≡ old.newest
    → new.capacity ≡ old.capacity → IsTagOrder new × (live_reports new ≡ live_reports old)
swept_sound old new s e c l n k =
    let at = get old.links in
    let same : live_of (get new.links) new.arrivals.items ≡ live_reports old =
    ap (λ (x : Slab Link). live_of (get x) new.arrivals.items) l ∙ ap (live_of at) e
    ∙ live_twice at old.arrivals.items in
    let kept : AreKept new.links new.arrivals.items new.newest.items =
    subst (λ (x : Slab Link). AreKept x new.arrivals.items new.newest.items) (sym l)
    (subst (λ (xs : List Arrival). AreKept old.links xs new.newest.items) (sym e)
    (subst (λ (xs : List Newest). AreKept old.links (live_reports old) xs) (sym (ap (λ q. q.items) n))
    (swept_kept old.links old.arrivals.items old.newest.items s.kept))) in (
      record {
        kept = kept;
        starts = subst (λ (x : Slab Link). StartsLive (get x) new.arrivals.items) (sym l)
            (subst (StartsLive at) (sym e) (swept_starts at old.arrivals.items));
        ends = subst (λ (x : Slab Link). EndsLive (get x) new.arrivals.items) (sym l)
            (subst (EndsLive at) (sym e) (swept_ends at old.arrivals.items));
        links_room = omega (arith, s.links_room, k, ap (λ (x : Slab Link). x.capacity) l);
        arrivals_room = omega (arith, s.arrivals_room, k, c);
        newest_room = omega (arith, s.newest_room, k, ap deque_capacity n);
      },
      same,
    )

-- ---- dropping tags

-- some tags were dropped, of which the test keeps no report
pub record Dropping (keeps : List Arrival → List Arrival) (old now : TagOrder) : Type 0 where
  pub kept : AreKept now.links now.arrivals.items now.newest.items
  pub same : keeps (live_reports now) ≡ keeps (live_reports old)
  pub links : now.links.capacity ≡ old.links.capacity
  pub arrivals : deque_capacity now.arrivals ≡ deque_capacity old.arrivals
  pub newest : deque_capacity now.newest ≡ deque_capacity old.newest
  pub capacity : now.capacity ≡ old.capacity

pub dropping_begins : (keeps : List Arrival → List Arrival) (order : TagOrder) → IsTagOrder order
    → Dropping keeps order order
dropping_begins keeps order s = record {
  kept = s.kept;
  same = refl;
  links = refl;
  arrivals = refl;
  newest = refl;
  capacity = refl;
}

pub above_without : (bound tag : ℕ) (cs : List Arrival) → tag ≤ bound
    → arrivals_above bound (arrivals_without tag cs) ≡ arrivals_above bound cs
above_without bound tag cs l =
    filter_both (λ a. not (a.tag == tag)) (λ a. nat_lt bound a.tag) cs
    ∙ filter_on (λ a. not (a.tag == tag) && nat_lt bound a.tag) (λ a. nat_lt bound a.tag) cs
    (λ a i. grind (arith, nat_tests))

pub below_without : (bound tag : ℕ) (cs : List Arrival) → bound ≤ tag
    → arrivals_below bound (arrivals_without tag cs) ≡ arrivals_below bound cs
below_without bound tag cs l =
    filter_both (λ a. not (a.tag == tag)) (λ a. nat_lt a.tag bound) cs
    ∙ filter_on (λ a. not (a.tag == tag) && nat_lt a.tag bound) (λ a. nat_lt a.tag bound) cs
    (λ a i. grind (arith, nat_tests))

-- where no tag up to the bound has a head, all are above it
pub all_above : (links : Slab Link) (arrivals : List Arrival) (newest : List Newest) (bound : ℕ)
    → AreKept links arrivals newest → ((u : ℕ) → u ≤ bound → slot_under newest u ≡ None)
    → arrivals_above bound (live_of (get links) arrivals) ≡ live_of (get links) arrivals
all_above links arrivals newest bound k none =
    filter_all (λ a. nat_lt bound a.tag) (live_of (get links) arrivals) (λ a i. by a i (nat_lt bound a.tag) refl)
  where
    by : (a : Arrival) → In a (live_of (get links) arrivals) → (b : Bool) → nat_lt bound a.tag ≡ b
        → nat_lt bound a.tag ≡ true
    by a i true e = e
    by a i false e =
        let low : a.tag ≤ bound = grind (arith, nat_tests) in
        absurd (has_head links arrivals newest k a i (none a.tag low))

pub all_below : (links : Slab Link) (arrivals : List Arrival) (newest : List Newest) (bound : ℕ)
    → AreKept links arrivals newest → ((u : ℕ) → bound ≤ u → slot_under newest u ≡ None)
    → arrivals_below bound (live_of (get links) arrivals) ≡ live_of (get links) arrivals
all_below links arrivals newest bound k none =
    filter_all (λ a. nat_lt a.tag bound) (live_of (get links) arrivals) (λ a i. by a i (nat_lt a.tag bound) refl)
  where
    by : (a : Arrival) → In a (live_of (get links) arrivals) → (b : Bool) → nat_lt a.tag bound ≡ b
        → nat_lt a.tag bound ≡ true
    by a i true e = e
    by a i false e =
        let high : bound ≤ a.tag = grind (arith, nat_tests) in
        absurd (has_head links arrivals newest k a i (none a.tag high))

-- where a tag has no head, no report has it
pub none_of_tag : (links : Slab Link) (arrivals : List Arrival) (newest : List Newest) (tag : ℕ)
    → AreKept links arrivals newest → slot_under newest tag ≡ None
    → arrivals_without tag (live_of (get links) arrivals) ≡ live_of (get links) arrivals
none_of_tag links arrivals newest tag k none =
    filter_all (λ a. not (a.tag == tag)) (live_of (get links) arrivals) (λ a i. elim (cases_eq a.tag tag) [
      | inl e ↦ absurd (has_head links arrivals newest k a i (ap (slot_under newest) e ∙ none))
      | inr d ↦ ap not (ne_eqb a.tag tag d)
    ])

-- an order that was trimmed
pub trimmed : (old now new : TagOrder) → IsTagOrder old → AreKept now.links now.arrivals.items now.newest.items
    → now.links.capacity ≡ old.links.capacity → deque_capacity now.arrivals ≡ deque_capacity old.arrivals
    → deque_capacity now.newest ≡ deque_capacity old.newest → now.capacity ≡ old.capacity
    → live_reports new ≡ live_reports now → PlacesFall new.arrivals.items
    → StartsLive (get new.links) new.arrivals.items
    → EndsLive (get new.links) new.arrivals.items → deque_capacity new.arrivals ≡ deque_capacity now.arrivals
    → new.links ≡ now.links → new.newest ≡ now.newest → new.capacity ≡ now.capacity → IsTagOrder new
trimmed old now new s k lc ac nc cc' e f st en a l n c = record {
  kept = record {
    falls = f;
    rises = subst (λ q. TagsRise q.items) (sym n) k.rises;
    chains = subst (λ (xs : List Arrival). (tag : ℕ) → IsTagChain (get new.links) (slot_under new.newest.items tag)
        (arrivals_of_tag tag xs)) (sym e) (subst (λ q. (tag : ℕ) → IsTagChain (get new.links) (slot_under q.items tag)
        (arrivals_of_tag tag (live_reports now))) (sym n) (subst (λ (x : Slab Link). (tag : ℕ) → IsTagChain (get x)
        (slot_under now.newest.items tag) (arrivals_of_tag tag (live_reports now))) (sym l) k.chains));
    count = ap length e ∙ k.count ∙ ap slab_len (sym l);
  };
  starts = st;
  ends = en;
  links_room = omega (arith, s.links_room, lc, cc', c, ap (λ (x : Slab Link). x.capacity) l);
  arrivals_room = omega (arith, s.arrivals_room, ac, cc', c, a);
  newest_room = omega (arith, s.newest_room, nc, cc', c, ap deque_capacity n);
}

-- one more tag
pub dropping_goes : (keeps : List Arrival → List Arrival) (old now next : TagOrder) (tag slot : ℕ)
    → Dropping keeps old now → slot_under now.newest.items tag ≡ Some slot → TagsRise next.newest.items
    → ((u : ℕ) → slot_under next.newest.items u ≡ (if u == tag then None else slot_under now.newest.items u))
    → Freed (get now.links) (get next.links) (arrivals_of_tag tag (live_reports now))
    → slab_len next.links + length (arrivals_of_tag tag (live_reports now)) ≡ slab_len now.links
    → keeps (arrivals_without tag (live_reports now)) ≡ keeps (live_reports now) → next.arrivals ≡ now.arrivals
    → next.links.capacity ≡ now.links.capacity → deque_capacity next.newest ≡ deque_capacity now.newest
    → next.capacity ≡ now.capacity → Dropping keeps old next
dropping_goes keeps old now next tag slot d was rises slots freed counts same a l n c =
    let kept = freed_kept now.links next.links now.arrivals.items now.newest.items next.newest.items tag slot d.kept was
    rises slots freed counts in
    let less = freed_live now.links next.links now.arrivals.items now.newest.items next.newest.items tag slot d.kept was
    rises slots freed counts in
    record {
      kept = subst (λ q. AreKept next.links q.items next.newest.items) (sym a) kept;
      same = ap (λ q. keeps (live_of (get next.links) q.items)) a ∙ ap keeps less ∙ same ∙ d.same;
      links = l ∙ d.links;
      arrivals = ap deque_capacity a ∙ d.arrivals;
      newest = n ∙ d.newest;
      capacity = c ∙ d.capacity;
    }

-- ---- the lowest tag

module _ (order : TagOrder) (s : IsTagOrder order) where
  pub lowest_from : (x : Newest) (bound : ℕ) → 0 < length order.newest.items → x ≡ get_or order.newest.items 0 x
      → bound ≤ x.tag → AllTagsFrom bound (live_reports order)
  lowest_from x bound l e b = tags_from bound (live_reports order) (λ a i. by a i (nat_lt a.tag bound) refl)
    where
      by : (a : Arrival) → In a (live_reports order) → (t : Bool) → nat_lt a.tag bound ≡ t → bound ≤ a.tag
      by a i false q = grind (arith, nat_tests)
      by a i true q =
          let low : a.tag < bound = grind (arith, nat_tests) in
          absurd (has_head order.links order.arrivals.items order.newest.items s.kept a i
          (all_higher order.newest.items a.tag x s.kept.rises l e (omega (arith, low, b)) a.tag (omega arith)))

  pub none_from : (bound : ℕ) → length order.newest.items ≡ 0 → AllTagsFrom bound (live_reports order)
  none_from bound e = tags_from bound (live_reports order) (λ a i. absurd (has_head order.links order.arrivals.items
      order.newest.items s.kept a i (under_empty order.newest.items a.tag e)))

  pub first_has : (x : Newest) → 0 < length order.newest.items → x ≡ get_or order.newest.items 0 x
      → HasTag x.tag (live_reports order)
  first_has x l e = head_has order.links order.arrivals.items order.newest.items s.kept x.tag x.slot
      (by order.newest.items l e)
    where
      by : (xs : List Newest) → 0 < length xs → x ≡ get_or xs 0 x → slot_under xs x.tag ≡ Some x.slot
      by [] l e = absurd (omega (arith, l))
      by (y ∷ ys) l e = subst (λ (z : Newest). slot_under (z ∷ ys) x.tag ≡ Some x.slot) e
          (yes_at x.tag x.tag (Some x.slot) (slot_under ys x.tag) refl)
