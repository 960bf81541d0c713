-- A search along linked Reads.
use Rattle.std.proofs.Common.{ℕ, ◌≡◌, ◌+◌, ◌<◌, ◌≤◌, Bool, true, false, List, [], ◌∷◌, length, get_or, set}
use Rattle.std.proofs.Common.{Option, None, inl, inr, is_some}
use Rattle.std.proofs.Common.{Some, refl, sym, ap, ◌∙◌, subst, arith, if◌then◌else◌, slice_index}
use Rattle.std.proofs.lemmas.Bool.{cases_eq}
use Rattle.std.proofs.lemmas.List.{get_or-set_same, get_or-set_other}
use Rattle.slab.specs.Slab.{Slab, get, slab_len}
use Rattle.tag_window.specs.declared.links.Link.{Link}
use Rattle.tag_window.specs.declared.order.Arrival.{Arrival}
use Rattle.tag_window.specs.declared.reports.Read.{Read}
use Rattle.tag_window.specs.Order.{IsTagChain}
use Rattle.tag_window.specs.Slots.{AllWithin, AreLinked, noted, slot_with, no_read}
use Rattle.std.specs.Option.{option_or}
use Rattle.msg_frames.specs.Pieces.{has}
use Rattle.tag_window.proofs.Chains.{step_of, chain_ends}

-- the search has come to `here`
pub record Found (at : ℕ → Option Link) (here : Option ℕ) (x : ℕ) (items : List Read) (full : List Arrival) : Type 0
  where
    pub rest : List Arrival
    pub chain : IsTagChain at here rest
    pub same : slot_with x items rest ≡ slot_with x items full

pub record Finding (at : ℕ → Option Link) (head here : Option ℕ) (x : ℕ) (items : List Read) (left : ℕ) : Type 0 where
  pub reports : List Arrival
  pub chain : IsTagChain at here reports
  pub within : AllWithin (length items) reports
  pub fits : length reports ≤ left
  pub found : (full : List Arrival) → IsTagChain at head full → Found at here x items full

pub finding_begins : (links : Slab Link) (head : Option ℕ) (x : ℕ) (items : List Read)
    → AreLinked links head (length items) → Finding (get links) head head x items (slab_len links)
finding_begins links head x items a = record {
  reports = a.reports;
  chain = a.chain;
  within = a.within;
  fits = a.fits;
  found = λ full c. record { rest = full; chain = c; same = refl };
}

module _ (at : ℕ → Option Link) (head here : Option ℕ) (x : ℕ) (items : List Read) (left : ℕ)
    (f : Finding at head here x items left) where
  pub finding_ends : here ≡ None → (full : List Arrival) → IsTagChain at head full → None ≡ slot_with x items full
  finding_ends e full c =
      let g = f.found full c in
      ap (slot_with x items) (sym (chain_ends at here g.rest g.chain e)) ∙ g.same

  -- no reports are left where no links are
  pub none_left : left ≡ 0 → here ≡ None
  none_left z = by f.reports f.chain f.fits
    where
      by : (cs : List Arrival) → IsTagChain at here cs → length cs ≤ left → here ≡ None
      by [] c l = c
      by (a ∷ cs) c l = absurd (omega (arith, z, l))

  module _ (slot : ℕ) (e : here ≡ Some slot) where
    pub slot_inside : slot < length items
    slot_inside = by f.reports f.chain f.within
      where
        by : (cs : List Arrival) → IsTagChain at here cs → AllWithin (length items) cs → slot < length items
        by [] c w =
            let no_one : None ≡ Some slot = sym c ∙ e in
            cc
        by (a ∷ cs) c w =
            let one : Some a.slot ≡ Some slot = sym c.1 ∙ e in
            let s : a.slot ≡ slot = cc in
            subst (λ (k : ℕ). k < length items) s w.0

    pub slot_linked : (link : Link) × (at slot ≡ Some link)
    slot_linked = by f.reports f.chain
      where
        by : (cs : List Arrival) → IsTagChain at here cs → (link : Link) × (at slot ≡ Some link)
        by [] c =
            let no_one : None ≡ Some slot = sym c ∙ e in
            cc
        by (a ∷ cs) c =
            let one : Some a.slot ≡ Some slot = sym c.1 ∙ e in
            let s : a.slot ≡ slot = cc in
            (c.0, subst (λ (k : ℕ). at k ≡ Some c.0) s c.2)

    module _ (link : Link) (there : at slot ≡ Some link) where
      pub finding_hits : has (get_or items slot no_read).piece x ≡ true → (full : List Arrival)
          → IsTagChain at head full → Some slot ≡ slot_with x items full
      finding_hits h full c =
          let g = f.found full c in
          let s = step_of at here slot link g.rest g.chain e there in
          let first : has (get_or items s.first.slot no_read).piece x ≡ true =
          subst (λ (k : ℕ). has (get_or items k no_read).piece x ≡ true) (sym s.slot_is) h in
          ap (λ (k : ℕ). Some k) (sym s.slot_is)
          ∙ sym (ap (λ (b : Bool). if b then Some s.first.slot else slot_with x items s.tail) first)
          ∙ ap (slot_with x items) (sym s.is) ∙ g.same

      pub finding_goes : has (get_or items slot no_read).piece x ≡ false → (fewer : ℕ) → fewer + 1 ≡ left
          → Finding at head link.older x items fewer
      finding_goes h fewer one =
          let s = step_of at here slot link f.reports f.chain e there in
          let w : AllWithin (length items) (s.first ∷ s.tail) = subst (AllWithin (length items)) s.is f.within in
          record {
            reports = s.tail;
            chain = s.chain;
            within = w.1;
            fits = omega (arith, f.fits, ap length s.is, one);
            found = λ full c. (
                let g = f.found full c in
                let t = step_of at here slot link g.rest g.chain e there in
                let first : has (get_or items t.first.slot no_read).piece x ≡ false =
                subst (λ (k : ℕ). has (get_or items k no_read).piece x ≡ false) (sym t.slot_is) h in
                record {
                  rest = t.tail;
                  chain = t.chain;
                  same = sym (ap (λ (b : Bool). if b then Some t.first.slot else slot_with x items t.tail) first)
                      ∙ ap (slot_with x items) (sym t.is) ∙ g.same;
                });
          }

-- one part alone
pub in_part_0 : (k : ℕ) → k < 8 → slice_index (0 ∷ 0 ∷ 0 ∷ 0 ∷ 0 ∷ 0 ∷ 0 ∷ 0 ∷ []) k ≡ 0
in_part_0 k l = grind arith

-- what is found in the first of the linked Reads
pub found_first : (at : ℕ → Option Link) (slot x : ℕ) (items : List Read) (cs : List Arrival)
    → IsTagChain at (Some slot) cs → has (get_or items slot no_read).piece x ≡ true → Some slot ≡ slot_with x items cs
found_first at slot x items [] c h = cc
found_first at slot x items (a ∷ cs) c h =
    let one : Some a.slot ≡ Some slot = sym c.1 in
    let s : slot ≡ a.slot = cc in
    subst (λ (n : ℕ). Some n ≡ slot_with x items (a ∷ cs)) (sym s)
    (sym (ap (λ (b : Bool). if b then Some a.slot else slot_with x items cs)
    (subst (λ (n : ℕ). has (get_or items n no_read).piece x ≡ true) s h)))

-- ---- a walk that notes the first slot of each byte

-- what was noted of the byte at x, and else what the rest has
pub record Noted (at : ℕ → Option Link) (here : Option ℕ) (x : ℕ) (items : List Read) (slot : Option ℕ)
    (full : List Arrival) : Type 0 where
  pub rest : List Arrival
  pub chain : IsTagChain at here rest
  pub same : option_or slot (slot_with x items rest) ≡ slot_with x items full

-- the walk has come to `here`, and noted these slots of so many bytes from addr up
pub record Walking (at : ℕ → Option Link) (head here : Option ℕ) (addr len : ℕ) (items : List Read) (left : ℕ)
    (slots : List (Option ℕ)) : Type 0 where
  pub reports : List Arrival
  pub chain : IsTagChain at here reports
  pub within : AllWithin (length items) reports
  pub fits : length reports ≤ left
  pub noted : (k : ℕ) → k < len → (full : List Arrival) → IsTagChain at head full
      → Noted at here (addr + k) items (get_or slots k None) full

pub walking_begins : (links : Slab Link) (head : Option ℕ) (addr len : ℕ) (items : List Read)
    (slots : List (Option ℕ)) → AreLinked links head (length items)
    → ((k : ℕ) → k < len → get_or slots k None ≡ None)
    → Walking (get links) head head addr len items (slab_len links) slots
walking_begins links head addr len items slots a none = record {
  reports = a.reports;
  chain = a.chain;
  within = a.within;
  fits = a.fits;
  noted = λ k l full c. record {
    rest = full;
    chain = c;
    same = ap (λ (o : Option ℕ). option_or o (slot_with (addr + k) items full)) (none k l);
  };
}

or_none : (o : Option ℕ) → option_or o None ≡ o
or_none None = refl
or_none (Some s) = refl

or_some : (o p : Option ℕ) → is_some o ≡ true → option_or o p ≡ o
or_some None p e = cc
or_some (Some s) p e = refl

-- a Read in front of the rest
or_noted : (b : Bool) (slot : ℕ) (o p : Option ℕ) → option_or (noted b slot o) p
    ≡ option_or o (if b then Some slot else p)
or_noted true slot None p = refl
or_noted false slot None p = refl
or_noted b slot (Some s) p = refl

module _ (at : ℕ → Option Link) (head here : Option ℕ) (addr len : ℕ) (items : List Read) (left : ℕ)
    (slots : List (Option ℕ)) (w : Walking at head here addr len items left slots) where
  -- the search for any one byte along the same links
  pub reached : Finding at here here 0 items left
  reached = record {
    reports = w.reports;
    chain = w.chain;
    within = w.within;
    fits = w.fits;
    found = λ full c. record { rest = full; chain = c; same = refl };
  }

  pub walking_ends : here ≡ None → (k : ℕ) → k < len → (full : List Arrival) → IsTagChain at head full
      → get_or slots k None ≡ slot_with (addr + k) items full
  walking_ends e k l full c =
      let g = w.noted k l full c in
      sym (or_none (get_or slots k None))
      ∙ ap (λ (cs : List Arrival). option_or (get_or slots k None) (slot_with (addr + k) items cs))
      (sym (chain_ends at here g.rest g.chain e)) ∙ g.same

  module _ (slot : ℕ) (e : here ≡ Some slot) (link : Link) (there : at slot ≡ Some link)
      (new : List (Option ℕ))
      (notes : (k : ℕ) → k < len → get_or new k None
      ≡ noted (has (get_or items slot no_read).piece (addr + k)) slot (get_or slots k None)) where
    pub walking_goes : (fewer : ℕ) → fewer + 1 ≡ left → Walking at head link.older addr len items fewer new
    walking_goes fewer one =
        let s = step_of at here slot link w.reports w.chain e there in
        let i : AllWithin (length items) (s.first ∷ s.tail) = subst (AllWithin (length items)) s.is w.within in
        record {
          reports = s.tail;
          chain = s.chain;
          within = i.1;
          fits = omega (arith, w.fits, ap length s.is, one);
          noted = λ k l full c. (
              let g = w.noted k l full c in
              let t = step_of at here slot link g.rest g.chain e there in
              let rest = slot_with (addr + k) items t.tail in
              let b = has (get_or items slot no_read).piece (addr + k) in
              let same : (if b then Some slot else rest) ≡ slot_with (addr + k) items g.rest =
              ap (λ (n : ℕ). if has (get_or items n no_read).piece (addr + k) then Some n else rest) (sym t.slot_is)
              ∙ ap (slot_with (addr + k) items) (sym t.is) in
              record {
                rest = t.tail;
                chain = t.chain;
                same = ap (λ (o : Option ℕ). option_or o rest) (notes k l)
                    ∙ or_noted b slot (get_or slots k None) rest
                    ∙ ap (option_or (get_or slots k None)) same ∙ g.same;
              });
        }

    -- the slots, once each has one
    pub walking_completed : ((k : ℕ) → k < len → is_some (get_or new k None) ≡ true) → (k : ℕ) → k < len
        → (full : List Arrival) → IsTagChain at head full
        → get_or new k None ≡ slot_with (addr + k) items full
    walking_completed h k l full c =
        let g = w.noted k l full c in
        let t = step_of at here slot link g.rest g.chain e there in
        let rest = slot_with (addr + k) items t.tail in
        let b = has (get_or items slot no_read).piece (addr + k) in
        let same : (if b then Some slot else rest) ≡ slot_with (addr + k) items g.rest =
        ap (λ (n : ℕ). if has (get_or items n no_read).piece (addr + k) then Some n else rest) (sym t.slot_is)
        ∙ ap (slot_with (addr + k) items) (sym t.is) in
        sym (or_some (get_or new k None) rest (h k l)) ∙ ap (λ (o : Option ℕ). option_or o rest) (notes k l)
        ∙ or_noted b slot (get_or slots k None) rest
        ∙ ap (option_or (get_or slots k None)) same ∙ g.same

-- the bytes up to k are noted
module _ (slots old : List (Option ℕ)) (k slot : ℕ) (has_at : ℕ → Bool) (first : Option ℕ)
    (above : (j : ℕ) → k ≤ j → get_or slots j None ≡ get_or old j None) where
  pub noted_more : k < length slots → first ≡ noted (has_at k) slot (get_or slots k None)
      → ((j : ℕ) → j < k → get_or slots j None ≡ noted (has_at j) slot (get_or old j None))
      → (j : ℕ) → j < k + 1 → get_or (set slots k first) j None ≡ noted (has_at j) slot (get_or old j None)
  noted_more l e below j m = elim (cases_eq j k) [
    | inl q ↦ subst (λ (n : ℕ). get_or (set slots k first) n None ≡ noted (has_at n) slot (get_or old n None)) (sym q)
        (get_or-set_same slots k first None l ∙ e ∙ ap (noted (has_at k) slot) (above k (omega arith)))
    | inr d ↦ get_or-set_other slots k j first None d ∙ below j (omega (arith, m, d))
  ]

  pub noted_above : (j : ℕ) → k + 1 ≤ j → get_or (set slots k first) j None ≡ get_or old j None
  noted_above j m = elim (cases_eq j k) [
    | inl q ↦ absurd (omega (arith, m, q))
    | inr d ↦ get_or-set_other slots k j first None d ∙ above j (omega (arith, m))
  ]

-- a number put at k
pub set_more : (P : ℕ → ℕ → Type 0) (xs : List ℕ) (k j : ℕ) → k < length xs → ((i : ℕ) → i < k → P i (get_or xs i 0))
    → P k j → (i : ℕ) → i < k + 1 → P i (get_or (set xs k j) i 0)
set_more P xs k j l h p i m = elim (cases_eq i k) [
  | inl e ↦ subst (λ (n : ℕ). P n (get_or (set xs k j) n 0)) (sym e) (subst (P k) (sym (get_or-set_same xs k j 0 l)) p)
  | inr d ↦ subst (P i) (sym (get_or-set_other xs k i j 0 d)) (h i (omega (arith, m, d)))
]
