-- Stores in their slots: what is found, and what a change leaves.
use Rattle.std.proofs.Common.{ℕ, suc, ◌≡◌, ◌≢◌, ◌+◌, ◌<◌, ◌≤◌, ◌⊎◌, ◌==◌, inl, inr, not, List, [], ◌∷◌, ◌++◌}
use Rattle.std.proofs.Common.{length}
use Rattle.std.proofs.Common.{get_or, set, Bool, true, false, Option, None, Some, IsSome, is_some, cond, count_by, refl}
use Rattle.std.proofs.Common.{sym, ap, subst, ◌∙◌, arith, if◌then◌else◌}
use Rattle.std.specs.List.{filter}
use Rattle.std.specs.Option.{option_map}
use Rattle.std.proofs.lemmas.Bool.Decides.{nat_tests}
use Rattle.std.proofs.lemmas.List.{get_or-set_same, get_or-set_other, get_or_past}
use Rattle.std.proofs.lemmas.List.Sums.{sum_by-cons, sum_by-append, sum_by-set}
use Rattle.slab.specs.Slab.{Slab, get, slab_len, values, with_value, Updates}
use Rattle.key_tree.specs.Entries.{KeyedEntries, number_at, number_of, put, with_key_taken}
use Rattle.store_buffer.specs.declared.store.ByteState.{ByteState}
use Rattle.store_buffer.specs.declared.store.Store.{Store}
use Rattle.store_buffer.specs.Store.{stays_open, with_states}
use Rattle.store_buffer.specs.Stores.{AllTagged, store_of_tag, open_stores, given_states, all_given}
use Rattle.store_buffer.specs.Slots.{newest_first, is_open_slot, is_done_slot, HasTagAt, AreSlotted, FitsMemory}
use Rattle.store_buffer.specs.Waiting.{AreRetired}
use Rattle.store_buffer.proofs.Finding.{retired_in}
use Rattle.store_buffer.proofs.Values.{map_values, filter_taken, filter_all}
use Rattle.store_buffer.proofs.Newest.{none_of_tag, store_of_slot, newest_map, newest_filter, one_newest, open_counted}
use Rattle.store_buffer.proofs.Newest.{each_tagged}

-- 1 where the test passes, else 0
abbrev one : Bool → ℕ
one b = cond b 1 0

-- how often a slot is listed
abbrev many : ℕ → List ℕ → ℕ
many i xs = count_by (λ (j : ℕ). j == i) xs

many_more : (i j : ℕ) (xs : List ℕ) → many i (xs ++ j ∷ []) ≡ many i xs + one (j == i)
many_more i j xs =
    let a = sum_by-append (λ (j : ℕ). one (j == i)) xs (j ∷ []) in
    let c = sum_by-cons (λ (j : ℕ). one (j == i)) j [] in
    omega (arith, a, c)

length_more : (i : ℕ) (xs : List ℕ) → length (xs ++ i ∷ []) ≡ length xs + 1
length_more i [] = refl
length_more i (x ∷ xs) = omega (arith, length_more i xs)

itself : (n : ℕ) → (n == n) ≡ true
itself n = grind (arith, nat_tests)

another : (m n : ℕ) → m ≢ n → (m == n) ≡ false
another m n d = grind (arith, nat_tests, d)

cases : (a b : ℕ) → (a ≡ b) ⊎ (a ≢ b)
cases a b = grind arith

pub there_is : (o : Option Store) (s : Store) → o ≡ Some s → IsSome o
there_is None s e = cc
there_is (Some t) s e = refl

pub within : (slots : List (Option Store)) (i : ℕ) (s : Store) → get_or slots i None ≡ Some s → i < length slots
within slots i s e = elim (below i (length slots)) [
  | inl l ↦ l
  | inr g ↦
      let none : None ≡ Some s = sym (get_or_past slots i None g) ∙ e in
      cc
]
  where
    below : (a b : ℕ) → (a < b) ⊎ (b ≤ a)
    below a b = grind arith

same_some : (o : Option ℕ) (i j : ℕ) → o ≡ Some i → o ≡ Some j → j ≡ i
same_some o i j e f = cc

same_store : (o : Option Store) (s t : Store) → o ≡ Some s → o ≡ Some t → s ≡ t
same_store o s t e f = cc

module _ (stores : Slab Store) (slots : KeyedEntries) (finished : List ℕ) (a : AreSlotted stores slots finished) where
  only_one : (i j : ℕ) (s t : Store) → get stores i ≡ Some s → get stores j ≡ Some t → t.tag ≡ s.tag → j ≡ i
  only_one i j s t e f q =
      let m : number_at slots s.tag ≡ Some j = subst (λ (n : ℕ). number_at slots n ≡ Some j) q (a.under j t f) in
      same_some (number_at slots s.tag) i j (a.under i s e) m

  -- their tags fall
  pub are_retired : AreRetired (newest_first (values stores))
  are_retired = retired_in stores.slots (λ i s e. (a.fits i s e).0) only_one

  pub is_there : (tag i : ℕ) → number_at slots tag ≡ Some i → IsSome (get stores i)
  is_there tag i n = there_is (get stores i) (a.leads tag i n).store (a.leads tag i n).there

  pub tag_is : (tag i : ℕ) (s : Store) → number_at slots tag ≡ Some i → get stores i ≡ Some s → s.tag ≡ tag
  tag_is tag i s n e =
      let h = a.leads tag i n in
      ap (λ (t : Store). t.tag) (same_store (get stores i) s h.store e h.there) ∙ h.is

  pub found : (tag i : ℕ) (s : Store) → number_at slots tag ≡ Some i → get stores i ≡ Some s
      → store_of_tag tag (newest_first (values stores)) ≡ Some s
  found tag i s n e =
      let is = tag_is tag i s n e in
      store_of_slot tag stores.slots i s e is (λ j t f g. only_one i j s t e f (g ∙ sym is))

  no_tag : (tag : ℕ) → number_at slots tag ≡ None → (i : ℕ) (s : Store) → get stores i ≡ Some s → s.tag ≢ tag
  no_tag tag n i s e q =
      let m : number_at slots tag ≡ Some i = subst (λ (t : ℕ). number_at slots t ≡ Some i) q (a.under i s e) in
      let no : None ≡ Some i = sym n ∙ m in
      cc

  pub missing : (tag : ℕ) → number_at slots tag ≡ None → store_of_tag tag (newest_first (values stores)) ≡ None
  missing tag n = none_of_tag tag stores.slots (no_tag tag n)

  kept_other : (tag : ℕ) (to : ByteState) (addr len : ℕ) (o : Option Store)
      → ((t : Store) → o ≡ Some t → t.tag ≢ tag) → o ≡ option_map (given_states tag to addr len) o
  kept_other tag to addr len None d = refl
  kept_other tag to addr len (Some t) d =
      ap (λ (b : Bool). Some (if b then with_states to addr len t else t)) (sym (another t.tag tag (d t refl)))

  keeps_tag : (tag : ℕ) (to : ByteState) (addr len : ℕ) (s : Store) → (given_states tag to addr len s).tag ≡ s.tag
  keeps_tag tag to addr len s = at (s.tag == tag)
    where
      at : (b : Bool) → (if b then with_states to addr len s else s).tag ≡ s.tag
      at true = refl
      at false = refl

  -- where no store has the tag, nothing is given_states
  pub given_none : (tag : ℕ) (to : ByteState) (addr len : ℕ) → number_at slots tag ≡ None
      → newest_first (values stores) ≡ all_given tag to addr len (newest_first (values stores))
  given_none tag to addr len n =
      ap newest_first (map_values (given_states tag to addr len) stores.slots stores.slots
      (λ k. kept_other tag to addr len (get stores k) (no_tag tag n k)))
      ∙ newest_map (given_states tag to addr len) (keeps_tag tag to addr len) (values stores)

  module _ (i : ℕ) (s : Store) (e : get stores i ≡ Some s) (to : ByteState) (addr len : ℕ) where
    abbrev v : Store
    v = with_states to addr len s

    abbrev after : Slab Store
    after = with_value stores i v

    here : get after i ≡ Some v
    here = get_or-set_same stores.slots i (Some v) None (within stores.slots i s e)

    others : (k : ℕ) → k ≢ i → get after k ≡ get stores k
    others k d = get_or-set_other stores.slots i k (Some v) None d

    pub given_values : newest_first (values after) ≡ all_given s.tag to addr len (newest_first (values stores))
    given_values =
        ap newest_first (map_values (given_states s.tag to addr len) stores.slots after.slots (λ k. at k (cases k i)))
        ∙ newest_map (given_states s.tag to addr len) (keeps_tag s.tag to addr len) (values stores)
      where
        mine : Some v ≡ option_map (given_states s.tag to addr len) (Some s)
        mine = ap (λ (b : Bool). Some (if b then v else s)) (sym (itself s.tag))

        at : (k : ℕ) → (k ≡ i) ⊎ (k ≢ i) → get after k ≡ option_map (given_states s.tag to addr len) (get stores k)
        at k (inl q) =
            subst (λ (j : ℕ). get after j ≡ option_map (given_states s.tag to addr len) (get stores j)) (sym q)
            (here ∙ mine ∙ ap (option_map (given_states s.tag to addr len)) (sym e))
        at k (inr d) = others k d
            ∙ kept_other s.tag to addr len (get stores k) (λ t f q. d (only_one i k s t e f q))

    -- what is in a slot after it was there before, perhaps with other states
    record Was (k : ℕ) (t : Store) : Type 0 where
      pub old : Store
      pub there : get stores k ≡ Some old
      pub tag : t.tag ≡ old.tag
      pub fits : FitsMemory old → FitsMemory t

    was : (k : ℕ) (t : Store) → get after k ≡ Some t → Was k t
    was k t f = at (cases k i)
      where
        at : (k ≡ i) ⊎ (k ≢ i) → Was k t
        at (inl q) =
            let is : v ≡ t = same_store (get after k) v t (subst (λ (j : ℕ). get after j ≡ Some v) (sym q) here) f in
            record {
              old = s;
              there = subst (λ (j : ℕ). get stores j ≡ Some s) (sym q) e;
              tag = ap (λ (u : Store). u.tag) (sym is);
              fits = λ l. subst FitsMemory is l;
            }
        at (inr d) = record { old = t; there = sym (others k d) ∙ f; tag = refl; fits = λ l. l }

    leads_after : (tag k : ℕ) → number_at slots tag ≡ Some k → HasTagAt after.slots tag k
    leads_after tag k n = at (cases k i)
      where
        h : HasTagAt stores.slots tag k
        h = a.leads tag k n

        at : (k ≡ i) ⊎ (k ≢ i) → HasTagAt after.slots tag k
        at (inl q) = record {
          store = v;
          there = subst (λ (j : ℕ). get after j ≡ Some v) (sym q) here;
          is = tag_is tag k s n (subst (λ (j : ℕ). get stores j ≡ Some s) (sym q) e);
        }
        at (inr d) = record { store = h.store; there = others k d ∙ h.there; is = h.is }

    under_after : (k : ℕ) (t : Store) → get after k ≡ Some t → number_at slots t.tag ≡ Some k
    under_after k t f =
        let w = was k t f in
        subst (λ (n : ℕ). number_at slots n ≡ Some k) (sym w.tag) (a.under k w.old w.there)

    fits_after : (k : ℕ) (t : Store) → get after k ≡ Some t → FitsMemory t
    fits_after k t f =
        let w = was k t f in
        w.fits (a.fits k w.old w.there)

    open_after : count_by is_open_slot after.slots + one (stays_open s)
        ≡ count_by is_open_slot stores.slots + one (stays_open v)
    open_after =
        let c = sum_by-set (λ (o : Option Store). one (is_open_slot o)) stores.slots i (Some v) None
        (within stores.slots i s e) in
        let is : one (is_open_slot (get stores i)) ≡ one (stays_open s) =
        ap (λ (o : Option Store). one (is_open_slot o)) e in
        omega (arith, c, is)

    pub as_many_after : slab_len after ≡ slab_len stores
    as_many_after =
        let c = sum_by-set (λ (o : Option Store). one (is_some o)) stores.slots i (Some v) None
        (within stores.slots i s e) in
        let is : one (is_some (get stores i)) ≡ 1 = ap (λ (o : Option Store). one (is_some o)) e in
        omega (arith, c, is)

    pub open_same : stays_open v ≡ stays_open s → count_by is_open_slot after.slots ≡ count_by is_open_slot stores.slots
    open_same q =
        let o = ap one q in
        omega (arith, open_after, o)

    pub given_same : stays_open v ≡ stays_open s → AreSlotted after slots finished
    given_same q = record {
      leads = leads_after;
      under = under_after;
      fits = fits_after;
      listed = λ k. at k (cases k i);
      as_many = omega (arith, a.as_many, open_same q, as_many_after);
    }
      where
        at : (k : ℕ) → (k ≡ i) ⊎ (k ≢ i) → many k finished ≡ one (is_done_slot (get after k))
        at k (inl r) = subst (λ (j : ℕ). many j finished ≡ one (is_done_slot (get after j))) (sym r)
            (a.listed i ∙ ap (λ (o : Option Store). one (is_done_slot o)) e ∙ ap (λ (b : Bool). one (not b)) (sym q)
            ∙ ap (λ (o : Option Store). one (is_done_slot o)) (sym here))
        at k (inr d) = a.listed k ∙ ap (λ (o : Option Store). one (is_done_slot o)) (sym (others k d))

    pub open_less : stays_open s ≡ true → stays_open v ≡ false
        → count_by is_open_slot after.slots + 1 ≡ count_by is_open_slot stores.slots
    open_less o d =
        let x : one (stays_open s) ≡ 1 = ap one o in
        let y : one (stays_open v) ≡ 0 = ap one d in
        omega (arith, open_after, x, y)

    pub given_done : stays_open s ≡ true → stays_open v ≡ false → AreSlotted after slots (finished ++ i ∷ [])
    given_done o d = record {
      leads = leads_after;
      under = under_after;
      fits = fits_after;
      listed = λ k. at k (cases k i);
      as_many =
          let l = length_more i finished in
          omega (arith, a.as_many, open_less o d, as_many_after, l);
    }
      where
        at : (k : ℕ) → (k ≡ i) ⊎ (k ≢ i) → many k (finished ++ i ∷ []) ≡ one (is_done_slot (get after k))
        at k (inl r) = subst (λ (j : ℕ). many j (finished ++ i ∷ []) ≡ one (is_done_slot (get after j))) (sym r) mine
          where
            mine : many i (finished ++ i ∷ []) ≡ one (is_done_slot (get after i))
            mine =
                let m = many_more i i finished in
                let x : one (i == i) ≡ 1 = ap one (itself i) in
                let y : one (is_done_slot (get stores i)) ≡ 0 =
                ap (λ (o : Option Store). one (is_done_slot o)) e ∙ ap (λ (b : Bool). one (not b)) o in
                let z : one (is_done_slot (get after i)) ≡ 1 =
                ap (λ (o : Option Store). one (is_done_slot o)) here ∙ ap (λ (b : Bool). one (not b)) d in
                omega (arith, m, x, y, z, a.listed i)
        at k (inr r) =
            let m = many_more k i finished in
            let x : one (i == k) ≡ 0 = ap one (another i k (λ q. r (sym q))) in
            let y : one (is_done_slot (get after k)) ≡ one (is_done_slot (get stores k)) =
            ap (λ (o : Option Store). one (is_done_slot o)) (others k r) in
            omega (arith, m, x, y, a.listed k)

  -- one that is listed is there, and finished
  record Listed (i : ℕ) : Type 0 where
    pub store : Store
    pub there : get stores i ≡ Some store
    pub closed : stays_open store ≡ false

  is_listed : (i : ℕ) (rest : List ℕ) → finished ≡ rest ++ i ∷ [] → Listed i
  is_listed i rest q = at (get stores i) refl
    where
      most : 1 ≤ one (is_done_slot (get stores i))
      most =
          let m = many_more i i rest in
          let x : one (i == i) ≡ 1 = ap one (itself i) in
          let y = ap (many i) q in
          omega (arith, m, x, y, a.listed i)

      by : (b : Bool) → 1 ≤ one (not b) → b ≡ false
      by true l = absurd (omega (arith, l))
      by false l = refl

      shut : (s : Store) → 1 ≤ one (not (stays_open s)) → stays_open s ≡ false
      shut s l = by (stays_open s) l

      at : (o : Option Store) → get stores i ≡ o → Listed i
      at None f =
          let n : one (is_done_slot (get stores i)) ≡ 0 = ap (λ (o : Option Store). one (is_done_slot o)) f in
          absurd (omega (arith, n, most))
      at (Some s) f =
          let n : one (is_done_slot (get stores i)) ≡ one (not (stays_open s)) =
          ap (λ (o : Option Store). one (is_done_slot o)) f in
          record { store = s; there = f; closed = shut s (omega (arith, n, most)) }

  pub listed_there : (i : ℕ) (rest : List ℕ) → finished ≡ rest ++ i ∷ [] → IsSome (get stores i)
  listed_there i rest q =
      let l = is_listed i rest q in
      there_is (get stores i) l.store l.there

  module _ (left : Slab Store) (fewer : KeyedEntries) (i : ℕ) (rest : List ℕ) (s : Store)
      (q : finished ≡ rest ++ i ∷ []) (e : get stores i ≡ Some s) (w : left.slots ≡ set stores.slots i None)
      (n : (tag : ℕ) → number_at fewer tag ≡ with_key_taken s.tag slots.entries tag)
      (l : slab_len left + 1 ≡ slab_len stores) where
    closed : stays_open s ≡ false
    closed =
        let x = is_listed i rest q in
        ap stays_open (same_store (get stores i) s x.store e x.there) ∙ x.closed

    gone : get left i ≡ None
    gone = ap (λ (xs : List (Option Store)). get_or xs i None) w
        ∙ get_or-set_same stores.slots i None None (within stores.slots i s e)

    stay : (k : ℕ) → k ≢ i → get left k ≡ get stores k
    stay k d = ap (λ (xs : List (Option Store)). get_or xs k None) w ∙ get_or-set_other stores.slots i k None None d

    still : (k : ℕ) (t : Store) → get left k ≡ Some t → (k ≢ i) × (get stores k ≡ Some t)
    still k t f = (away, sym (stay k away) ∙ f)
      where
        away : k ≢ i
        away r =
            let none : None ≡ Some t = sym gone ∙ subst (λ (j : ℕ). get left j ≡ Some t) r f in
            cc

    pub open_left : count_by is_open_slot left.slots ≡ count_by is_open_slot stores.slots
    open_left =
        let c = sum_by-set (λ (o : Option Store). one (is_open_slot o)) stores.slots i None None
        (within stores.slots i s e) in
        let x : one (is_open_slot (get stores i)) ≡ 0 =
        ap (λ (o : Option Store). one (is_open_slot o)) e ∙ ap one closed in
        let y = ap (λ (xs : List (Option Store)). count_by is_open_slot xs) w in
        omega (arith, c, x, y)

    pub values_left : open_stores (newest_first (values left)) ≡ open_stores (newest_first (values stores))
    values_left =
        sym (newest_filter stays_open (values left))
        ∙ ap newest_first (subst (λ (xs : List (Option Store)). filter stays_open (values (record left { slots = xs }))
        ≡ filter stays_open (values stores)) (sym w) (filter_taken stays_open stores.slots i s e closed))
        ∙ newest_filter stays_open (values stores)

    pub slotted_left : AreSlotted left fewer rest
    slotted_left = record {
      leads = λ tag k m. leads_left tag k m (cases tag s.tag);
      under = under_left;
      fits = λ k t f. a.fits k t (still k t f).1;
      listed = λ k. at k (cases k i);
      as_many =
          let x = length_more i rest in
          let y = ap length q in
          omega (arith, x, y, l, a.as_many, open_left);
    }
      where
        taken_other : (tag : ℕ) → tag ≢ s.tag → number_at fewer tag ≡ number_at slots tag
        taken_other tag d =
            n tag ∙ ap (λ (b : Bool). if b then None else number_of slots.entries tag) (another tag s.tag d)

        leads_left : (tag k : ℕ) → number_at fewer tag ≡ Some k → (tag ≡ s.tag) ⊎ (tag ≢ s.tag)
            → HasTagAt left.slots tag k
        leads_left tag k m (inl r) =
            let test : (tag == s.tag) ≡ true = ap (λ (x : ℕ). x == s.tag) r ∙ itself s.tag in
            let no : None ≡ Some k =
            sym (n tag ∙ ap (λ (b : Bool). if b then None else number_of slots.entries tag) test) ∙ m in
            cc
        leads_left tag k m (inr d) =
            let h = a.leads tag k (sym (taken_other tag d) ∙ m) in
            let away : k ≢ i = λ r. d (sym h.is ∙ ap (λ (t : Store). t.tag)
            (same_store (get stores k) h.store s h.there (subst (λ (j : ℕ). get stores j ≡ Some s) (sym r) e))) in
            record { store = h.store; there = stay k away ∙ h.there; is = h.is }

        under_left : (k : ℕ) (t : Store) → get left k ≡ Some t → number_at fewer t.tag ≡ Some k
        under_left k t f =
            let x = still k t f in
            taken_other t.tag (λ r. x.0 (only_one i k s t e x.1 r)) ∙ a.under k t x.1

        at : (k : ℕ) → (k ≡ i) ⊎ (k ≢ i) → many k rest ≡ one (is_done_slot (get left k))
        at k (inl r) = subst (λ (j : ℕ). many j rest ≡ one (is_done_slot (get left j))) (sym r) mine
          where
            mine : many i rest ≡ one (is_done_slot (get left i))
            mine =
                let m = many_more i i rest in
                let x : one (i == i) ≡ 1 = ap one (itself i) in
                let y = ap (many i) q in
                let z : one (is_done_slot (get stores i)) ≡ 1 =
                ap (λ (o : Option Store). one (is_done_slot o)) e ∙ ap (λ (b : Bool). one (not b)) closed in
                let u : one (is_done_slot (get left i)) ≡ 0 = ap (λ (o : Option Store). one (is_done_slot o)) gone in
                omega (arith, m, x, y, z, u, a.listed i)
        at k (inr d) =
            let m = many_more k i rest in
            let x : one (i == k) ≡ 0 = ap one (another i k (λ r. d (sym r))) in
            let y = ap (many k) q in
            let z : one (is_done_slot (get left k)) ≡ one (is_done_slot (get stores k)) =
            ap (λ (o : Option Store). one (is_done_slot o)) (stay k d) in
            omega (arith, m, x, y, z, a.listed k)

  -- where none is finished, all have an unperformed byte
  pub all_open : finished ≡ [] → newest_first (values stores) ≡ open_stores (newest_first (values stores))
  all_open q =
      sym (ap newest_first (filter_all stays_open stores.slots (λ k s e. by (stays_open s) (none k s e))))
      ∙ newest_filter stays_open (values stores)
    where
      none : (k : ℕ) (s : Store) → get stores k ≡ Some s → one (not (stays_open s)) ≡ 0
      none k s e =
          let x : one (is_done_slot (get stores k)) ≡ one (not (stays_open s)) =
          ap (λ (o : Option Store). one (is_done_slot o)) e in
          let y : many k finished ≡ 0 = ap (many k) q in
          omega (arith, x, y, a.listed k)

      by : (b : Bool) → one (not b) ≡ 0 → b ≡ true
      by true e = refl
      by false e = absurd (omega (arith, e))

  -- one store more, the newest
  module _ (more : Slab Store) (with_it : KeyedEntries) (i : ℕ) (s : Store) (none : get stores i ≡ None)
      (u : Updates stores more i (Some s)) (l : slab_len more ≡ slab_len stores + 1)
      (n : (tag : ℕ) → number_at with_it tag ≡ put s.tag i slots.entries tag)
      (newest : AllTagged s.tag (newest_first (values stores))) (opens : stays_open s ≡ true)
      (fits_it : FitsMemory s) where
    pub values_more : newest_first (values more) ≡ s ∷ newest_first (values stores)
    values_more = one_newest stores.slots more.slots i s none u.changed u.others newest

    pub open_more : count_by is_open_slot more.slots ≡ count_by is_open_slot stores.slots + 1
    open_more =
        let x = open_counted stores.slots in
        let y = open_counted more.slots in
        let z : length (open_stores (newest_first (values more)))
        ≡ suc (length (open_stores (newest_first (values stores)))) =
        ap (λ (ss : List Store). length (open_stores ss)) values_more
        ∙ ap (λ (b : Bool). length (cond b (s ∷ open_stores (newest_first (values stores)))
        (open_stores (newest_first (values stores))))) opens in
        omega (arith, x, y, z)

    before : (k : ℕ) (t : Store) → get more k ≡ Some t → k ≢ i → get stores k ≡ Some t
    before k t f d = sym (u.others k d) ∙ f

    apart : (k : ℕ) (t : Store) → get stores k ≡ Some t → t.tag ≢ s.tag
    apart k t f r =
        let x = each_tagged s.tag stores.slots newest k t f in
        omega (arith, x, r)

    put_other : (tag : ℕ) → tag ≢ s.tag → number_at with_it tag ≡ number_at slots tag
    put_other tag d =
        n tag ∙ ap (λ (b : Bool). if b then Some i else number_of slots.entries tag) (another tag s.tag d)

    put_same : (tag : ℕ) → tag ≡ s.tag → number_at with_it tag ≡ Some i
    put_same tag r =
        n tag ∙ ap (λ (b : Bool). if b then Some i else number_of slots.entries tag)
        (ap (λ (x : ℕ). x == s.tag) r ∙ itself s.tag)

    pub slotted_more : AreSlotted more with_it finished
    slotted_more = record {
      leads = λ tag k m. leads_more tag k m (cases tag s.tag);
      under = λ k t f. under_more k t f (cases k i);
      fits = λ k t f. fits_more k t f (cases k i);
      listed = λ k. at k (cases k i);
      as_many = omega (arith, l, a.as_many, open_more);
    }
      where
        leads_more : (tag k : ℕ) → number_at with_it tag ≡ Some k → (tag ≡ s.tag) ⊎ (tag ≢ s.tag)
            → HasTagAt more.slots tag k
        leads_more tag k m (inl r) = record {
          store = s;
          there = subst (λ (j : ℕ). get more j ≡ Some s) (same_some (number_at with_it tag) k i m (put_same tag r))
              u.changed;
          is = sym r;
        }
        leads_more tag k m (inr d) =
            let h = a.leads tag k (sym (put_other tag d) ∙ m) in
            let away : k ≢ i = λ r. (
            let no : None ≡ Some h.store = sym none ∙ subst (λ (j : ℕ). get stores j ≡ Some h.store) r h.there in
            cc) in
            record { store = h.store; there = u.others k away ∙ h.there; is = h.is }

        under_more : (k : ℕ) (t : Store) → get more k ≡ Some t → (k ≡ i) ⊎ (k ≢ i)
            → number_at with_it t.tag ≡ Some k
        under_more k t f (inl r) =
            let is : s ≡ t = same_store (get more i) s t u.changed (subst (λ (j : ℕ). get more j ≡ Some t) r f) in
            put_same t.tag (ap (λ (x : Store). x.tag) (sym is)) ∙ ap (λ (x : ℕ). Some x) (sym r)
        under_more k t f (inr d) =
            let x = before k t f d in
            put_other t.tag (apart k t x) ∙ a.under k t x

        fits_more : (k : ℕ) (t : Store) → get more k ≡ Some t → (k ≡ i) ⊎ (k ≢ i) → FitsMemory t
        fits_more k t f (inl r) =
            let is : s ≡ t = same_store (get more i) s t u.changed (subst (λ (j : ℕ). get more j ≡ Some t) r f) in
            subst FitsMemory is fits_it
        fits_more k t f (inr d) = a.fits k t (before k t f d)

        at : (k : ℕ) → (k ≡ i) ⊎ (k ≢ i) → many k finished ≡ one (is_done_slot (get more k))
        at k (inl r) = subst (λ (j : ℕ). many j finished ≡ one (is_done_slot (get more j))) (sym r)
            (a.listed i ∙ ap (λ (o : Option Store). one (is_done_slot o)) none
            ∙ ap (λ (b : Bool). one (not b)) (sym opens)
            ∙ ap (λ (o : Option Store). one (is_done_slot o)) (sym u.changed))
        at k (inr d) = a.listed k ∙ ap (λ (o : Option Store). one (is_done_slot o)) (sym (u.others k d))
