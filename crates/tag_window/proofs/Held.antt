-- What the slots of an order hold.
use Rattle.std.proofs.Common.{ℕ, ◌≡◌, ◌+◌, ◌-◌, ◌<◌, ◌==◌, inl, inr, not, Bool}
use Rattle.std.proofs.Common.{true, false}
use Rattle.std.proofs.Common.{List, [], ◌∷◌, ◌++◌, length, map, get_or, Option, None, Some, is_some, refl, sym}
use Rattle.std.proofs.Common.{ap}
use Rattle.std.proofs.Common.{◌∙◌, subst, arith, if◌then◌else◌}
use Rattle.std.specs.Option.{option_map}
use Rattle.std.proofs.lemmas.List.{append-nil}
use Rattle.std.proofs.lemmas.List.Filters.{length-filter_both}
use Rattle.std.proofs.lemmas.Bool.{both_ways}
use Rattle.std.proofs.lemmas.Bool.Decides.{nat_tests}
use Rattle.slab.specs.Slab.{get}
use Rattle.tandem_base.specs.declared.names.Position.{Position}
use Rattle.tandem_base.specs.Places.{comes_before}
use Rattle.tandem_base.specs.Extents.{is_among}
use Rattle.tandem_base.specs.declared.extent.Extent.{Extent}
use Rattle.msg_frames.specs.Pieces.{has}
use Rattle.tag_window.specs.declared.order.Arrival.{Arrival}
use Rattle.tag_window.specs.declared.order.TagOrder.{TagOrder}
use Rattle.tag_window.specs.declared.reports.Read.{Read}
use Rattle.tag_window.specs.declared.reports.Early.{Early}
use Rattle.tag_window.specs.Order.{is_live, live_reports, arrivals_of_tag, AllBefore, PlacesFall, IsTagChain}
use Rattle.tag_window.specs.Order.{slot_under, IsTagOrder}
use Rattle.tag_window.specs.Order.{CameAt, NoneBefore, IsOldest}
use Rattle.tag_window.specs.Slots.{tagged, AreIn, AllWithin, AreLinked, slot_with, no_read, no_bypass, place_of_read}
use Rattle.tag_window.specs.Slots.{place_of_bypass, IsFirstWithout, IsFirstSame, earlier_position}
use Rattle.tag_window.specs.Windows.{newest_under, read_counting, places_of_reads, places_of_bypasses}
use Rattle.tag_window.specs.Windows.{AllEarlier, Among}
use Rattle.tag_window.specs.Windows.{NoneEarlier, IsEarliest, IsInPart, IsLowestMissing}
use Rattle.tag_window.proofs.Arrivals.{In, falls_filter, one_place, onwards}
use Rattle.tag_window.proofs.Slotted.{are_in_filter, within_of, newest_none, newest_some, counting_is}
use Rattle.tag_window.proofs.Chains.{chain_ends}

-- ---- places

pub read_places_are : (items : List Read) (cs : List Arrival) → AreIn place_of_read no_read items cs
    → places_of_reads (tagged no_read items cs) ≡ map (λ a. a.place) cs
read_places_are items [] h = refl
read_places_are items (a ∷ cs) h =
    ap (λ (p : Position). p ∷ places_of_reads (tagged no_read items cs)) h.1
    ∙ ap (λ (ps : List Position). a.place ∷ ps) (read_places_are items cs h.2)

pub bypass_places_are : (items : List Early) (cs : List Arrival) → AreIn place_of_bypass no_bypass items cs
    → places_of_bypasses (tagged no_bypass items cs) ≡ map (λ a. a.place) cs
bypass_places_are items [] h = refl
bypass_places_are items (a ∷ cs) h =
    ap (λ (p : Position). p ∷ places_of_bypasses (tagged no_bypass items cs)) h.1
    ∙ ap (λ (ps : List Position). a.place ∷ ps) (bypass_places_are items cs h.2)

pub before_places : (p : Position) (cs : List Arrival) → AllEarlier p (map (λ a. a.place) cs) → AllBefore p cs
before_places p [] h = tt
before_places p (a ∷ cs) h = (h.0, before_places p cs h.1)

among_of : (p : Position) (cs : List Arrival) → CameAt p cs → Among p (map (λ a. a.place) cs)
among_of p [] h = absurd h
among_of p (a ∷ cs) (inl e) = inl e
among_of p (a ∷ cs) (inr h) = inr (among_of p cs h)

none_of : (p : Position) (cs : List Arrival) → NoneBefore p cs → NoneEarlier p (map (λ a. a.place) cs)
none_of p [] h = tt
none_of p (a ∷ cs) h = (h.0, none_of p cs h.1)

among_left : (p : Position) (xs ys : List Position) → Among p xs → Among p (xs ++ ys)
among_left p [] ys h = absurd h
among_left p (x ∷ xs) ys (inl e) = inl e
among_left p (x ∷ xs) ys (inr h) = inr (among_left p xs ys h)

among_right : (p : Position) (xs ys : List Position) → Among p ys → Among p (xs ++ ys)
among_right p [] ys h = h
among_right p (x ∷ xs) ys h = inr (among_right p xs ys h)

none_both : (p : Position) (xs ys : List Position) → NoneEarlier p xs → NoneEarlier p ys → NoneEarlier p (xs ++ ys)
none_both p [] ys h k = k
none_both p (x ∷ xs) ys h k = (h.0, none_both p xs ys h.1 k)

-- what isn't before q isn't before what is before q
not_before : (p q x : Position) → comes_before p q ≡ true → comes_before x q ≡ false → comes_before x p ≡ false
not_before p q x e f = by (comes_before x p) refl
  where
    by : (b : Bool) → comes_before x p ≡ b → comes_before x p ≡ false
    by true g = absurd (both_ways (comes_before x q) f (onwards x p q g e))
    by false g = g

-- nor before what is not after q
not_after : (p q x : Position) → comes_before q p ≡ false → comes_before x q ≡ false → comes_before x p ≡ false
not_after p q x e f = grind (arith, nat_tests)

none_weaker : (p q : Position) (xs : List Position)
    → ((x : Position) → comes_before x q ≡ false → comes_before x p ≡ false) → NoneEarlier q xs → NoneEarlier p xs
none_weaker p q [] w h = tt
none_weaker p q (x ∷ xs) w h = (w x h.0, none_weaker p q xs w h.1)

pub earliest_of : (a b : Option Position) (xs ys : List Arrival) → IsOldest a xs → IsOldest b ys
    → IsEarliest (map (λ c. c.place) xs ++ map (λ c. c.place) ys) (earlier_position a b)
earliest_of None None xs ys h k =
    ap (λ (zs : List Arrival). map (λ c. c.place) zs ++ map (λ c. c.place) ys) h
    ∙ ap (λ (zs : List Arrival). map (λ c. c.place) zs) k
earliest_of None (Some q) xs ys h k =
    subst (λ (zs : List Arrival). IsEarliest (map (λ c. c.place) zs ++ map (λ c. c.place) ys) (Some q)) (sym h)
    (among_of q ys k.0, none_of q ys k.1)
earliest_of (Some p) None xs ys h k =
    subst (λ (zs : List Arrival). IsEarliest (map (λ c. c.place) xs ++ map (λ c. c.place) zs) (Some p)) (sym k)
    (subst (λ (ps : List Position). IsEarliest ps (Some p)) (sym (append-nil (map (λ c. c.place) xs)))
    (among_of p xs h.0, none_of p xs h.1))
earliest_of (Some p) (Some q) xs ys h k = by (comes_before q p) refl
  where
    by : (b : Bool) → comes_before q p ≡ b
        → IsEarliest (map (λ (c : Arrival). c.place) xs ++ map (λ (c : Arrival). c.place) ys)
        (if b then Some q else Some p)
    by true e = (
      among_right q (map (λ (c : Arrival). c.place) xs) (map (λ (c : Arrival). c.place) ys) (among_of q ys k.0),
      none_both q (map (λ (c : Arrival). c.place) xs) (map (λ (c : Arrival). c.place) ys)
          (none_weaker q p (map (λ (c : Arrival). c.place) xs) (λ x f. not_before q p x e f) (none_of p xs h.1))
          (none_of q ys k.1),
    )
    by false e = (
      among_left p (map (λ (c : Arrival). c.place) xs) (map (λ (c : Arrival). c.place) ys) (among_of p xs h.0),
      none_both p (map (λ (c : Arrival). c.place) xs) (map (λ (c : Arrival). c.place) ys) (none_of p xs h.1)
          (none_weaker p q (map (λ (c : Arrival). c.place) ys) (λ x f. not_after p q x e f) (none_of q ys k.1)),
    )

-- ---- one tag's reports

-- the newest report of a tag
pub record First (order : TagOrder) (size tag slot : ℕ) : Type 0 where
  pub first : Arrival
  pub rest : List Arrival
  pub is : arrivals_of_tag tag (live_reports order) ≡ first ∷ rest
  pub slot_is : first.slot ≡ slot
  pub inside : slot < size

module _ {T : Type 0} (place : T → Position) (none : T) (order : TagOrder) (items : List T) (s : IsTagOrder order)
    (h : AreIn place none items (live_reports order)) where
  mine_in : (tag : ℕ) → AreIn place none items (arrivals_of_tag tag (live_reports order))
  mine_in tag = are_in_filter place none (λ a. a.tag == tag) items (live_reports order) h

  pub first_of : (tag slot : ℕ) → slot_under order.newest.items tag ≡ Some slot → First order (length items) tag slot
  first_of tag slot e = by (arrivals_of_tag tag (live_reports order)) refl (s.kept.chains tag) (mine_in tag)
    where
      by : (cs : List Arrival) → arrivals_of_tag tag (live_reports order) ≡ cs
          → IsTagChain (get order.links) (slot_under order.newest.items tag) cs → AreIn place none items cs
          → First order (length items) tag slot
      by [] q c i =
          let no_one : None ≡ Some slot = sym c ∙ e in
          cc
      by (a ∷ cs) q c i =
          let one : Some a.slot ≡ Some slot = sym c.1 ∙ e in
          let at : a.slot ≡ slot = cc in
          record {
            first = a;
            rest = cs;
            is = q;
            slot_is = at;
            inside = subst (λ (k : ℕ). k < length items) at i.0;
          }

  pub newest_found : (tag slot : ℕ) → slot_under order.newest.items tag ≡ Some slot
      → Some (get_or items slot none) ≡ newest_under tag (tagged none items (live_reports order))
  newest_found tag slot e =
      let f = first_of tag slot e in
      sym (newest_some place none tag items (live_reports order) f.first f.rest f.is
      ∙ ap (λ (k : ℕ). Some (get_or items k none)) f.slot_is)

  pub newest_missing : (tag : ℕ) → slot_under order.newest.items tag ≡ None
      → None ≡ newest_under tag (tagged none items (live_reports order))
  newest_missing tag e =
      let empty = chain_ends (get order.links) (slot_under order.newest.items tag) (arrivals_of_tag tag
      (live_reports order))
      (s.kept.chains tag) e in
      sym (newest_none place none tag items (live_reports order) empty)

  pub linked : (tag : ℕ) (head : Option ℕ) → head ≡ slot_under order.newest.items tag
      → AreLinked order.links head (length items)
  linked tag head e =
      let both = length-filter_both (λ (a : Arrival). a.tag == tag) (λ a. not (a.tag == tag)) (λ a. refl)
      (live_reports order)
      in
      record {
        reports = arrivals_of_tag tag (live_reports order);
        chain = subst (λ (o : Option ℕ). IsTagChain (get order.links) o (arrivals_of_tag tag
            (live_reports order))) (sym e)
            (s.kept.chains tag);
        within = within_of place none items (arrivals_of_tag tag (live_reports order)) (mine_in tag);
        fits = omega (arith, both, s.kept.count);
      }

  pub chain_from : (tag : ℕ) (head : Option ℕ) → head ≡ slot_under order.newest.items tag
      → IsTagChain (get order.links) head (arrivals_of_tag tag (live_reports order))
  chain_from tag head e = subst (λ (o : Option ℕ). IsTagChain (get order.links) o (arrivals_of_tag tag
      (live_reports order))) (sym e)
      (s.kept.chains tag)

-- ---- the Reads that count

slot_inside : (x n : ℕ) (items : List Read) (cs : List Arrival) (slot : ℕ) → AllWithin n cs
    → Some slot ≡ slot_with x items cs → slot < n
slot_inside x n items [] slot w e = cc
slot_inside x n items (a ∷ cs) slot w e = by (has (get_or items a.slot no_read).piece x) e
    (λ q. slot_inside x n items cs slot w.1 q)
  where
    by : (b : Bool) → Some slot ≡ (if b then Some a.slot else slot_with x items cs)
        → (Some slot ≡ slot_with x items cs → slot < n) → slot < n
    by true q rest =
        let same : slot ≡ a.slot = cc in
        subst (λ (k : ℕ). k < n) (sym same) w.0
    by false q rest = rest q

-- the report in a slot that was found
in_slot : (x : ℕ) (items : List Read) (cs : List Arrival) (slot : ℕ) → Some slot ≡ slot_with x items cs
    → (a : Arrival) × In a cs × (a.slot ≡ slot)
in_slot x items [] slot e = cc
in_slot x items (a ∷ cs) slot e = by (has (get_or items a.slot no_read).piece x) e (λ q. in_slot x items cs slot q)
  where
    by : (b : Bool) → Some slot ≡ (if b then Some a.slot else slot_with x items cs)
        → (Some slot ≡ slot_with x items cs → (c : Arrival) × In c cs × (c.slot ≡ slot))
        → (c : Arrival) × In c (a ∷ cs) × (c.slot ≡ slot)
    by true q rest =
        let same : a.slot ≡ slot = cc in
        (a, inl refl, same)
    by false q rest =
        let r = rest q in
        (r.0, inr r.1, r.2)

place_in : (items : List Read) (cs : List Arrival) → AreIn place_of_read no_read items cs → (a : Arrival) → In a cs
    → place_of_read (get_or items a.slot no_read) ≡ a.place
place_in items [] h a i = absurd i
place_in items (b ∷ bs) h a (inl e) =
    subst (λ (c : Arrival). place_of_read (get_or items c.slot no_read) ≡ c.place) e h.1
place_in items (b ∷ bs) h a (inr i) = place_in items bs h.2 a i

inside_is : (extent : Extent) (at k : ℕ) → k < extent.len → at ≡ extent.addr + k → is_among extent.addr extent.len at
    ≡ true
inside_is extent at k l e = grind (arith, nat_tests)

module _ (order : TagOrder) (items : List Read) (s : IsTagOrder order) (h : AreIn place_of_read no_read items
    (live_reports order))
    (tag : ℕ) where
  mine : List Arrival
  mine = arrivals_of_tag tag (live_reports order)

  mine_are : AreIn place_of_read no_read items (arrivals_of_tag tag (live_reports order))
  mine_are = are_in_filter place_of_read no_read (λ a. a.tag == tag) items (live_reports order) h

  mine_fall : PlacesFall (arrivals_of_tag tag (live_reports order))
  mine_fall = falls_filter (λ a. a.tag == tag) (live_reports order)
      (falls_filter (is_live (get order.links)) order.arrivals.items s.kept.falls)

  pub found_inside : (x slot : ℕ) → Some slot ≡ slot_with x items (arrivals_of_tag tag (live_reports order))
      → slot < length items
  found_inside x slot e = slot_inside x (length items) items (arrivals_of_tag tag (live_reports order)) slot
      (within_of place_of_read no_read items (arrivals_of_tag tag (live_reports order)) mine_are) e

  pub counts_by : (x : ℕ) (o : Option ℕ) → o ≡ slot_with x items (arrivals_of_tag tag (live_reports order))
      → option_map (λ k. get_or items k no_read) o ≡ read_counting tag x (tagged no_read items (live_reports order))
  counts_by x o e =
      ap (option_map (λ k. get_or items k no_read)) e ∙ sym (counting_is tag x items (live_reports order))

  -- two slots that were found hold two Reads
  one_read : (x y k l : ℕ) → Some k ≡ slot_with x items (arrivals_of_tag tag (live_reports order))
      → Some l ≡ slot_with y items (arrivals_of_tag tag (live_reports order))
      → get_or items k no_read ≡ get_or items l no_read → k ≡ l
  one_read x y k l e f q =
      let a = in_slot x items (arrivals_of_tag tag (live_reports order)) k e in
      let b = in_slot y items (arrivals_of_tag tag (live_reports order)) l f in
      let p : place_of_read (get_or items k no_read) ≡ a.0.place =
      subst (λ (n : ℕ). place_of_read (get_or items n no_read) ≡ a.0.place) a.2
      (place_in items (arrivals_of_tag tag (live_reports order)) mine_are a.0 a.1) in
      let r : place_of_read (get_or items l no_read) ≡ b.0.place =
      subst (λ (n : ℕ). place_of_read (get_or items n no_read) ≡ b.0.place) b.2
      (place_in items (arrivals_of_tag tag (live_reports order)) mine_are b.0 b.1) in
      let one = one_place (arrivals_of_tag tag (live_reports order)) mine_fall a.0 b.0 a.1 b.1 (sym p
      ∙ ap place_of_read q ∙ r) in
      sym a.2 ∙ ap (λ (c : Arrival). c.slot) one ∙ b.2

  -- the same, where each was found
  one_slot : (x y : ℕ) (o p : Option ℕ) → o ≡ slot_with x items (arrivals_of_tag tag (live_reports order))
      → p ≡ slot_with y items (arrivals_of_tag tag (live_reports order)) → is_some o ≡ true → is_some p ≡ true
      → option_map (λ k. get_or items k no_read) o ≡ option_map (λ k. get_or items k no_read) p → o ≡ p
  one_slot x y None p e f l m q = cc
  one_slot x y (Some k) None e f l m q = cc
  one_slot x y (Some k) (Some l) e f _ _ q =
      let same : get_or items k no_read ≡ get_or items l no_read = cc in
      ap (λ (n : ℕ). Some n) (one_read x y k l e f same)

  mapped : (o : Option ℕ) → is_some (option_map (λ k. get_or items k no_read) o) ≡ is_some o
  mapped None = refl
  mapped (Some k) = refl

  pub part_of : (addr len k j : ℕ) (slots : List (Option ℕ))
      → ((i : ℕ) → i < len → get_or slots i None ≡ slot_with (addr + i) items (arrivals_of_tag tag
      (live_reports order)))
      → ((i : ℕ) → i < len → is_some (get_or slots i None) ≡ true)
      → k < len → IsFirstSame slots k j → IsInPart tag addr (tagged no_read items (live_reports order)) k j
  part_of addr len k j slots found whole l f =
      let here = found k l in
      let there = found j (omega (arith, l, f.upto)) in
      let mine_counts = counts_by (addr + k) (get_or slots k None) here in
      record {
        counts = ap is_some (sym mine_counts) ∙ mapped (get_or slots k None) ∙ whole k l;
        upto = f.upto;
        same = sym (counts_by (addr + j) (get_or slots j None) there)
            ∙ ap (option_map (λ n. get_or items n no_read)) f.same ∙ mine_counts;
        lowest = λ i m e. (
            let inside : i < len = omega (arith, l, m, f.upto) in
            let both = counts_by (addr + i) (get_or slots i None) (found i inside) ∙ e ∙ sym mine_counts in
            f.lowest i m (one_slot (addr + i) (addr + k) (get_or slots i None) (get_or slots k None)
            (found i inside) here (whole i inside) (whole k l) both));
      }

  -- where one slot has all bytes, they are one part
  pub whole_part : (addr len k slot : ℕ)
      → ((i : ℕ) → i < len → Some slot ≡ slot_with (addr + i) items (arrivals_of_tag tag (live_reports order)))
      → k < len → IsInPart tag addr (tagged no_read items (live_reports order)) k 0
  whole_part addr len k slot found l =
      let here = counts_by (addr + k) (Some slot) (found k l) in
      let zero_in : 0 < len = omega (arith, l) in
      record {
        counts = ap is_some (sym here);
        upto = omega arith;
        same = sym (counts_by (addr + 0) (Some slot) (found 0 zero_in)) ∙ here;
        lowest = λ i m. absurd (omega (arith, m));
      }

  pub lowest_missing : (extent : Extent) (k : ℕ) (slots : List (Option ℕ))
      → ((i : ℕ) → i < extent.len → get_or slots i None ≡ slot_with (extent.addr + i) items (arrivals_of_tag tag
      (live_reports order)))
      → IsFirstWithout slots extent.len k
      → IsLowestMissing tag extent (tagged no_read items (live_reports order)) (extent.addr + k)
  lowest_missing extent k slots found f = record {
    inside = inside_is extent (extent.addr + k) k f.inside refl;
    missing = sym (counts_by (extent.addr + k) None (sym f.without ∙ found k f.inside));
    lowest = λ x l m. (
        let i : x - extent.addr < k = omega (arith, l, m) in
        let inside : x - extent.addr < extent.len = omega (arith, i, f.inside) in
        let here = subst (λ (n : ℕ). get_or slots (x - extent.addr) None ≡ slot_with n items (arrivals_of_tag tag
        (live_reports order))) (omega (arith, l)) (found (x - extent.addr) inside) in
        ap is_some (sym (counts_by x (get_or slots (x - extent.addr) None) here))
        ∙ mapped (get_or slots (x - extent.addr) None) ∙ f.lowest (x - extent.addr) i);
  }
