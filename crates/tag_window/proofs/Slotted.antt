-- The reports in slots, as the slots' reports come and go.
use Rattle.std.proofs.Common.{ℕ, zero, suc, ◌≡◌, ◌≢◌, ◌<◌, ◌≤◌, ◌==◌, ◌&&◌, inl, inr, Bool, true}
use Rattle.std.proofs.Common.{false, cond, List, [], ◌∷◌, length, get_or, Option, None, Some, refl, sym, ap}
use Rattle.std.proofs.Common.{◌∙◌, arith, if◌then◌else◌}
use Rattle.std.specs.List.{filter}
use Rattle.std.specs.Option.{option_map}
use Rattle.tandem_base.specs.declared.names.Position.{Position}
use Rattle.tag_window.specs.declared.order.Arrival.{Arrival}
use Rattle.tag_window.specs.declared.reports.Read.{Read}
use Rattle.tag_window.specs.Order.{AllElsewhere, HasTag, AllTagsFrom, IsLowestTag}
use Rattle.tag_window.specs.Order.{arrivals_of_tag}
use Rattle.tag_window.specs.Slots.{tagged, AreIn, no_read, slot_with, AllWithin}
use Rattle.tag_window.specs.Windows.{Tagged, Has, AllFrom, IsLowestGiven, newest_under, read_counting}
use Rattle.msg_frames.specs.Pieces.{has}

module _ {T : Type 0} (place : T → Position) (none : T) where
  -- ---- the same reports by a test of their tags

  pub tagged_filter : (p : ℕ → Bool) (items : List T) (cs : List Arrival)
      → filter (λ x. p x.tag) (tagged none items cs) ≡ tagged none items (filter (λ a. p a.tag) cs)
  tagged_filter p items [] = refl
  tagged_filter p items (a ∷ cs) = by (p a.tag) (tagged_filter p items cs)
    where
      by : (b : Bool) → filter (λ x. p x.tag) (tagged none items cs) ≡ tagged none items (filter (λ x. p x.tag) cs)
          → cond b (record { tag = a.tag; item = get_or items a.slot none } ∷ filter (λ x. p x.tag)
          (tagged none items cs)) (filter (λ x. p x.tag) (tagged none items cs))
          ≡ tagged none items (cond b (a ∷ filter (λ x. p x.tag) cs) (filter (λ x. p x.tag) cs))
      by true rest = ap (λ (xs : List (Tagged T)). record { tag = a.tag; item = get_or items a.slot none } ∷ xs) rest
      by false rest = rest

  pub tagged_length : (items : List T) (cs : List Arrival) → length (tagged none items cs) ≡ length cs
  tagged_length items [] = refl
  tagged_length items (a ∷ cs) = ap suc (tagged_length items cs)

  pub are_in_filter : (p : Arrival → Bool) (items : List T) (cs : List Arrival) → AreIn place none items cs
      → AreIn place none items (filter p cs)
  are_in_filter p items [] h = tt
  are_in_filter p items (a ∷ cs) h = by (p a) (are_in_filter p items cs h.2)
    where
      by : (b : Bool) → AreIn place none items (filter p cs)
          → AreIn place none items (cond b (a ∷ filter p cs) (filter p cs))
      by true rest = (h.0, h.1, rest)
      by false rest = rest

  -- ---- one more report

  module _ (items new : List T) (slot : ℕ) (item : T) (there : get_or new slot none ≡ item)
      (others : (k : ℕ) → k ≢ slot → k < length items → get_or new k none ≡ get_or items k none)
      (grows : length items ≤ length new) (inside : slot < length new) where
    pub tagged_kept : (cs : List Arrival) → AllElsewhere slot cs → AreIn place none items cs
        → tagged none new cs ≡ tagged none items cs
    tagged_kept [] e h = refl
    tagged_kept (a ∷ cs) e h =
        ap (λ (x : T). record { tag = a.tag; item = x } ∷ tagged none new cs) (others a.slot e.0 h.0)
        ∙ ap (λ (xs : List (Tagged T)). record { tag = a.tag; item = get_or items a.slot none } ∷ xs)
        (tagged_kept cs e.1 h.2)

    pub are_in_kept : (cs : List Arrival) → AllElsewhere slot cs → AreIn place none items cs → AreIn place none new cs
    are_in_kept [] e h = tt
    are_in_kept (a ∷ cs) e h = (
      omega (arith, h.0, grows),
      ap place (others a.slot e.0 h.0) ∙ h.1,
      are_in_kept cs e.1 h.2,
    )

    pub tagged_more : (tag : ℕ) (at : Position) (cs : List Arrival) → AllElsewhere slot cs → AreIn place none items cs
        → tagged none new (record { tag = tag; slot = slot; place = at } ∷ cs)
        ≡ record { tag = tag; item = item } ∷ tagged none items cs
    tagged_more tag at cs e h =
        ap (λ (x : T). record { tag = tag; item = x } ∷ tagged none new cs) there
        ∙ ap (λ (xs : List (Tagged T)). record { tag = tag; item = item } ∷ xs) (tagged_kept cs e h)

    pub are_in_more : (tag : ℕ) (at : Position) (cs : List Arrival) → AllElsewhere slot cs → AreIn place none items cs
        → place item ≡ at → AreIn place none new (record { tag = tag; slot = slot; place = at } ∷ cs)
    are_in_more tag at cs e h p = (inside, ap place there ∙ p, are_in_kept cs e h)

  -- ---- tags

  has_tagged : (tag : ℕ) (items : List T) (cs : List Arrival) → HasTag tag cs → Has tag (tagged none items cs)
  has_tagged tag items [] h = absurd h
  has_tagged tag items (a ∷ cs) (inl e) = inl e
  has_tagged tag items (a ∷ cs) (inr h) = inr (has_tagged tag items cs h)

  from_tagged : (tag : ℕ) (items : List T) (cs : List Arrival) → AllTagsFrom tag cs → AllFrom tag (tagged none items cs)
  from_tagged tag items [] h = tt
  from_tagged tag items (a ∷ cs) h = (h.0, from_tagged tag items cs h.1)

  pub lowest_tagged : (bound : ℕ) (o : Option ℕ) (items : List T) (cs : List Arrival) → IsLowestTag bound o cs
      → IsLowestGiven bound o (tagged none items cs)
  lowest_tagged bound None items cs h = from_tagged bound items cs h
  lowest_tagged bound (Some tag) items cs h = (h.0, has_tagged tag items cs h.1, from_tagged tag items cs h.2)

  pub newest_none : (tag : ℕ) (items : List T) (cs : List Arrival) → arrivals_of_tag tag cs ≡ []
      → newest_under tag (tagged none items cs) ≡ None
  newest_none tag items [] e = refl
  newest_none tag items (a ∷ cs) e = by (a.tag == tag) e (λ h. newest_none tag items cs h)
    where
      by : (b : Bool) → cond b (a ∷ arrivals_of_tag tag cs) (arrivals_of_tag tag cs) ≡ []
          → (arrivals_of_tag tag cs ≡ [] → newest_under tag (tagged none items cs) ≡ None)
          → (if b then Some (get_or items a.slot none) else newest_under tag (tagged none items cs)) ≡ None
      by true h rest = cc
      by false h rest = rest h

  pub newest_some : (tag : ℕ) (items : List T) (cs : List Arrival) (b : Arrival) (bs : List Arrival)
      → arrivals_of_tag tag cs ≡ b ∷ bs → newest_under tag (tagged none items cs) ≡ Some (get_or items b.slot none)
  newest_some tag items [] b bs e = cc
  newest_some tag items (a ∷ cs) b bs e = by (a.tag == tag) e (λ h. newest_some tag items cs b bs h)
    where
      by : (t : Bool) → cond t (a ∷ arrivals_of_tag tag cs) (arrivals_of_tag tag cs) ≡ b ∷ bs
          → (arrivals_of_tag tag cs ≡ b ∷ bs
          → newest_under tag (tagged none items cs) ≡ Some (get_or items b.slot none))
          → (if t then Some (get_or items a.slot none) else newest_under tag (tagged none items cs))
          ≡ Some (get_or items b.slot none)
      by true h rest =
          let first : a ≡ b = cc in
          ap (λ (x : Arrival). Some (get_or items x.slot none)) first
      by false h rest = rest h

-- another default within the list
pub other_default : {T : Type 0} (xs : List T) (k : ℕ) (d e : T) → k < length xs → get_or xs k d ≡ get_or xs k e
other_default [] k d e l = absurd (omega (arith, l))
other_default (x ∷ xs) zero d e l = refl
other_default (x ∷ xs) (suc k) d e l = other_default xs k d e (omega (arith, l))

-- ---- the Reads that count

pub counting_is : (tag x : ℕ) (items : List Read) (cs : List Arrival) → read_counting tag x (tagged no_read items cs)
    ≡ option_map (λ s. get_or items s no_read) (slot_with x items (arrivals_of_tag tag cs))
counting_is tag x items [] = refl
counting_is tag x items (a ∷ cs) =
    by (a.tag == tag) (has (get_or items a.slot no_read).piece x) refl (counting_is tag x items cs)
  where
    by : (t b : Bool) → has (get_or items a.slot no_read).piece x ≡ b
        → read_counting tag x (tagged no_read items cs)
        ≡ option_map (λ s. get_or items s no_read) (slot_with x items (arrivals_of_tag tag cs))
        → (if t && b then Some (get_or items a.slot no_read) else read_counting tag x (tagged no_read items cs))
        ≡ option_map (λ s. get_or items s no_read) (slot_with x items (cond t (a ∷ arrivals_of_tag tag cs)
        (arrivals_of_tag tag cs)))
    by false b e rest = rest
    by true true e rest = sym (ap (λ (c : Bool). option_map (λ s. get_or items s no_read)
        (if c then Some a.slot else slot_with x items (arrivals_of_tag tag cs))) e)
    by true false e rest = rest
        ∙ sym (ap (λ (c : Bool). option_map (λ s. get_or items s no_read)
        (if c then Some a.slot else slot_with x items (arrivals_of_tag tag cs))) e)

pub within_of : {T : Type 0} (place : T → Position) (none : T) (items : List T) (cs : List Arrival)
    → AreIn place none items cs → AllWithin (length items) cs
within_of place none items [] h = tt
within_of place none items (a ∷ cs) h = (h.0, within_of place none items cs h.2)
