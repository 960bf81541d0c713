-- The stores that wait, as operations.
use Rattle.std.proofs.Common.{ℕ, zero, suc, ◌+◌, ◌-◌, ◌<◌, ◌≤◌, ◌≡◌, ◌⊎◌, inl, inr, Bool, true, false, ◌&&◌, ltb, leb}
use Rattle.std.proofs.Common.{eqb, cond, List, [], ◌∷◌, length, Option, Some, None, find, refl, sym, ap}
use Rattle.std.proofs.Common.{subst, ◌∙◌, arith}
use Rattle.std.specs.Option.{option_map, unwrap_or}
use Rattle.std.proofs.lemmas.Bool.{and_parts, and_from, both_ways, cases_order, eq-eqb, eqb-true, ne_eqb}
use Rattle.std.proofs.lemmas.Bool.{false_from_ne_true, ltb-true}
use Rattle.std.proofs.lemmas.Bool.Decides.{nat_tests}
use Rattle.tandem_base.specs.declared.names.OpName.{OpName}
use Rattle.tandem_base.specs.FirstFault.{◌or_else◌}
use Rattle.rvwmo_model.specs.declared.operations.Op.{Op}
use Rattle.rvwmo_model.specs.declared.operations.OpKind.TheVariants as kind
use Rattle.rvwmo_model.specs.declared.traces.Trace.{Trace}
use Rattle.rvwmo_model.specs.Order.{has_byte, kind_stores, put_at}
use Rattle.growth_laws.specs.Kinds.{WellKinded}
use Rattle.growth_laws.proofs.Facts.{plain_kind, some_byte_of}
use Rattle.window_laws.specs.Latest.{IsLatestIfAny}
use Rattle.window_laws.specs.Waiting.{IsWaiting}
use Rattle.rule_laws.specs.Own.{IsOwnWaiting}
use Rattle.rule_laws.proofs.Candidates.{latest_by_tag}
use Rattle.store_buffer.specs.declared.store.Store.{Store}
use Rattle.store_buffer.specs.Searches.{lowest_below}
use Rattle.store_buffer.specs.Store.{is_open_byte, lowest_open, stays_open}
use Rattle.store_buffer.specs.Stores.{StoreList, store_of_tag, AllTagged}
use Rattle.store_buffer.specs.Waiting.{AreRetired, waits_at, stored_byte, waiting_byte, waiting_bytes, waits_below}
use Rattle.store_buffer.specs.Waiting.{waiting_name, waiting_below}
use Rattle.store_buffer.proofs.Opens.{open_here, open_passes}
use Rattle.synchronization_rules.specs.Asked.{AreStoresWaiting}

-- ---- stores by their tags

of_less : (a b : ℕ) → a < b → ltb a b ≡ true
of_less a b l = grind (arith, nat_tests)

less_of : (a b : ℕ) → ltb a b ≡ true → a < b
less_of a b e = grind (arith, nat_tests)

under_bound : (bound tag : ℕ) (ss : List Store) (u : Store) → AllTagged bound ss → store_of_tag tag ss ≡ Some u
    → tag < bound
under_bound bound tag [] u a e = cc
under_bound bound tag (x ∷ ss) u a e = at (eqb x.tag tag) refl e (λ f. under_bound bound tag ss u a.1 f)
  where
    at : (c : Bool) → eqb x.tag tag ≡ c → cond c (Some x) (store_of_tag tag ss) ≡ Some u
        → (store_of_tag tag ss ≡ Some u → tag < bound) → tag < bound
    at true q f rec = (let i = eqb-true x.tag tag q in let l = a.0 in omega arith)
    at false q f rec = rec f

tag_is : (tag : ℕ) (ss : List Store) (u : Store) → store_of_tag tag ss ≡ Some u → u.tag ≡ tag
tag_is tag [] u e = cc
tag_is tag (x ∷ ss) u e = at (eqb x.tag tag) refl e (λ f. tag_is tag ss u f)
  where
    at : (c : Bool) → eqb x.tag tag ≡ c → cond c (Some x) (store_of_tag tag ss) ≡ Some u
        → (store_of_tag tag ss ≡ Some u → u.tag ≡ tag) → u.tag ≡ tag
    at true q f rec =
        let d : x ≡ u = cc in ap (λ (z : Store). z.tag) (sym d) ∙ eqb-true x.tag tag q
    at false q f rec = rec f

sized_at : (tag : ℕ) (ss : List Store) (u : Store) → AreRetired ss → store_of_tag tag ss ≡ Some u
    → length u.entry.piece.bytes ≤ 8
sized_at tag [] u r e = cc
sized_at tag (x ∷ ss) u r e = at (eqb x.tag tag) e (λ f. sized_at tag ss u r.2 f)
  where
    at : (c : Bool) → cond c (Some x) (store_of_tag tag ss) ≡ Some u
        → (store_of_tag tag ss ≡ Some u → length u.entry.piece.bytes ≤ 8) → length u.entry.piece.bytes ≤ 8
    at true f rec =
        let d : x ≡ u = cc in subst (λ (z : Store). length z.entry.piece.bytes ≤ 8) d r.0
    at false f rec = rec f

-- the first that passes is the one of the greatest tag
record FoundStore (test : Store → Bool) (ss : List Store) (s : Store) : Type 0 where
  under : store_of_tag s.tag ss ≡ Some s
  passes : test s ≡ true
  greatest : (tag : ℕ) (u : Store) → store_of_tag tag ss ≡ Some u → test u ≡ true → tag ≤ s.tag

first_tag : (x : Store) (ss : List Store) → store_of_tag x.tag (x ∷ ss) ≡ Some x
first_tag x ss = ap (λ (c : Bool). cond c (Some x) (store_of_tag x.tag ss)) (eq-eqb x.tag x.tag refl)

found_store : (test : Store → Bool) (ss : List Store) (s : Store) → AreRetired ss → find test ss ≡ Some s
    → FoundStore test ss s
found_store test [] s r e = cc
found_store test (x ∷ ss) s r e = at (test x) refl e (λ f. found_store test ss s r.2 f)
  where
    at : (c : Bool) → test x ≡ c → cond c (Some x) (find test ss) ≡ Some s
        → (find test ss ≡ Some s → FoundStore test ss s) → FoundStore test (x ∷ ss) s
    at true q f rec =
        let d : x ≡ s = cc in
        subst (λ (z : Store). FoundStore test (x ∷ ss) z) d
        (record {
          under = first_tag x ss;
          passes = q;
          greatest = λ tag u g p. most tag u (eqb x.tag tag) refl g;
        })
      where
        most : (tag : ℕ) (u : Store) (c : Bool) → eqb x.tag tag ≡ c
            → cond c (Some x) (store_of_tag tag ss) ≡ Some u → tag ≤ x.tag
        most tag u true z g = (let i = eqb-true x.tag tag z in omega arith)
        most tag u false z g = (let l = under_bound x.tag tag ss u r.1 g in omega arith)
    at false q f rec =
        let h = rec f in
        let l : s.tag < x.tag = under_bound x.tag s.tag ss s r.1 h.under in
        let n : eqb x.tag s.tag ≡ false = ne_eqb x.tag s.tag (λ i. omega arith) in
        record {
          under = ap (λ (c : Bool). cond c (Some x) (store_of_tag s.tag ss)) n ∙ h.under;
          passes = h.passes;
          greatest = λ tag u g p. most tag u h (eqb x.tag tag) refl g p;
        }
      where
        most : (tag : ℕ) (u : Store) → FoundStore test ss s → (c : Bool) → eqb x.tag tag ≡ c
            → cond c (Some x) (store_of_tag tag ss) ≡ Some u → test u ≡ true → tag ≤ s.tag
        most tag u h true z g p =
            let d : x ≡ u = cc in absurd (both_ways _ q (ap test d ∙ p))
        most tag u h false z g p = h.greatest tag u g p

found_none : (test : Store → Bool) (ss : List Store) → find test ss ≡ None → (tag : ℕ) (u : Store)
    → store_of_tag tag ss ≡ Some u → test u ≡ true → ⊥
found_none test [] e tag u g p = cc
found_none test (x ∷ ss) e tag u g p =
    at (test x) refl e (eqb x.tag tag) g (λ f h. found_none test ss f tag u h p)
  where
    at : (c : Bool) → test x ≡ c → cond c (Some x) (find test ss) ≡ None → (d : Bool)
        → cond d (Some x) (store_of_tag tag ss) ≡ Some u
        → (find test ss ≡ None → store_of_tag tag ss ≡ Some u → ⊥) → ⊥
    at true q f d h rec = cc
    at false q f true h rec = let z : x ≡ u = cc in both_ways _ q (ap test z ∙ p)
    at false q f false h rec = rec f h

-- ---- the lowest byte

none_lower : (p : ℕ → Bool) (n : ℕ) → ((j : ℕ) → j < n → p j ≡ false) → lowest_below p n ≡ None
none_lower p zero h = refl
none_lower p (suc n) h =
    ap (λ (o : Option ℕ). o or_else cond (p n) (Some n) None) (none_lower p n (λ j l. h j (omega arith)))
    ∙ ap (λ (c : Bool). cond c (Some n) None) (h n (omega arith))

lowest_is : (p : ℕ → Bool) (n k : ℕ) → k < n → p k ≡ true → ((j : ℕ) → j < k → p j ≡ false)
    → lowest_below p n ≡ Some k
lowest_is p zero k l e h = absurd (omega arith)
lowest_is p (suc n) k l e h = at (cases_order k n) (λ m. lowest_is p n k m e h)
  where
    at : (k ≡ n) ⊎ ((k < n) ⊎ (n < k)) → (k < n → lowest_below p n ≡ Some k) → lowest_below p (suc n) ≡ Some k
    at (inl q) rec =
        ap (λ (o : Option ℕ). o or_else cond (p n) (Some n) None)
        (none_lower p n (λ j m. h j (omega arith)))
        ∙ ap (λ (c : Bool). cond c (Some n) None) (subst (λ (j : ℕ). p j ≡ true) q e)
        ∙ ap (λ (j : ℕ). Some j) (sym q)
    at (inr (inl m)) rec = ap (λ (o : Option ℕ). o or_else cond (p n) (Some n) None) (rec m)
    at (inr (inr m)) rec = absurd (omega arith)

name_lowest : (s : Store) (k : ℕ) → k < 8 → is_open_byte s k ≡ true → ((j : ℕ) → j < k → is_open_byte s j ≡ false)
    → lowest_open s ≡ Some k
unfolding lowest_open
name_lowest s k l e h = lowest_is (is_open_byte s) 8 k l e h

byte_at : (s : Store) (k : ℕ) → waits_at (s.entry.piece.addr + k) s ≡ is_open_byte s k
byte_at s k =
    let e : s.entry.piece.addr + k - s.entry.piece.addr ≡ k = omega arith in
    let l : leb s.entry.piece.addr (s.entry.piece.addr + k) ≡ true = grind (arith, nat_tests) in
    ap (λ (c : Bool). c && is_open_byte s (s.entry.piece.addr + k - s.entry.piece.addr)) l
    ∙ ap (λ (j : ℕ). is_open_byte s j) e

-- ---- what waits

module _ (t : Trace) (h : ℕ) (stores : StoreList) (k : WellKinded t) (a : AreStoresWaiting t h stores) where
  abbrev ss : List Store
  ss = stores.stores

  op_of_store : (s : Store) (x : ℕ) → store_of_tag s.tag ss ≡ Some s → waits_at x s ≡ true
      → (v : Op) × IsWaiting t h x v × (v.name.tag ≡ s.tag)
  op_of_store s x u e =
      let f : waiting_bytes ss s.tag x ≡ Some (stored_byte s x) = ap (λ (o : Option Store). waiting_byte o x) u
      ∙ ap (λ (c : Bool). cond c (Some (stored_byte s x)) None) e in
      let v = a.waits.each s.tag x (stored_byte s x) f in (v.0, v.1, v.2)

  store_of_op : (v : Op) (x : ℕ) → IsWaiting t h x v
      → (s : Store) × (store_of_tag v.name.tag ss ≡ Some s) × (waits_at x s ≡ true)
  store_of_op v x i = at (store_of_tag v.name.tag ss) refl (a.waits.all v x i)
    where
      at : (o : Option Store) → store_of_tag v.name.tag ss ≡ o → waiting_byte o x ≡ Some (put_at v x)
          → (s : Store) × (store_of_tag v.name.tag ss ≡ Some s) × (waits_at x s ≡ true)
      at None q e = cc
      at (Some s) q e = (s, q, on (waits_at x s) refl e)
        where
          on : (c : Bool) → waits_at x s ≡ c → cond c (Some (stored_byte s x)) None ≡ Some (put_at v x)
              → waits_at x s ≡ true
          on true z f = z
          on false z f = cc

  is_waiting : (v : Op) (x : ℕ) → IsOwnWaiting t h v → has_byte x v ≡ true → IsWaiting t h x v
  is_waiting v x i b =
      let kind : v.kind ≡ kind.Store = plain_kind t v k i.0.0 (k.unperformed v i.0.0 i.1) in
      (i.0.0, i.0.1, i.1, and_from (kind_stores v.kind) (has_byte x v) (ap kind_stores kind) b)

  own_waiting : (v : Op) (x : ℕ) → IsWaiting t h x v → IsOwnWaiting t h v
  own_waiting v x i = ((i.0, i.1), i.2)

  byte_of : (v : Op) (x : ℕ) → IsWaiting t h x v → has_byte x v ≡ true
  byte_of v x i = (and_parts (kind_stores v.kind) (has_byte x v) i.3).1

  -- an operation that waits has just the bytes of its store that wait
  bytes_on : (v : Op) (s : Store) (x : ℕ) → IsOwnWaiting t h v → store_of_tag v.name.tag ss ≡ Some s
      → has_byte x v ≡ true → waits_at x s ≡ true
  bytes_on v s x i u b =
      let o = store_of_op v x (is_waiting v x i b) in
      let c : Some o.0 ≡ Some s = sym o.1 ∙ u in
      let d : o.0 ≡ s = cc in subst (λ (z : Store). waits_at x z ≡ true) d o.2

  bytes_back : (v : Op) (s : Store) (x : ℕ) → IsOwnWaiting t h v → store_of_tag s.tag ss ≡ Some s
      → v.name.tag ≡ s.tag → waits_at x s ≡ true → has_byte x v ≡ true
  bytes_back v s x i u e b =
      let o = op_of_store s x u b in
      let d : o.0 ≡ v = k.form.waiting o.0 v o.1.0 i.0.0 (o.1.1 ∙ sym i.0.1) (o.2 ∙ sym e) o.1.2 i.1 in
      subst (λ (z : Op). has_byte x z ≡ true) d (byte_of o.0 x o.1)

  -- the name of what waits of a store
  name_of : (v : Op) (s : Store) → IsOwnWaiting t h v → store_of_tag s.tag ss ≡ Some s → v.name.tag ≡ s.tag
      → waiting_name stores.hart s ≡ v.name
  name_of v s i u e =
      let u' : store_of_tag v.name.tag ss ≡ Some s = ap (λ (n : ℕ). store_of_tag n ss) e ∙ u in
      let base : s.entry.piece.addr ≡ v.extent.addr = sym (a.begins v s i u') in
      let named = k.parts v i.0.0 in
      let at : waits_at (s.entry.piece.addr + v.name.part) s ≡ true = bytes_on v s
      (s.entry.piece.addr + v.name.part) i u'
      (ap (λ (n : ℕ). has_byte (n + v.name.part) v) base ∙ named.here) in
      let is_open : is_open_byte s v.name.part ≡ true = sym (byte_at s v.name.part) ∙ at in
      let size = sized_at s.tag ss s a.retired u in
      let small : v.name.part < 8 =
      (let l = less_of v.name.part (length s.entry.piece.bytes)
      (and_parts (ltb v.name.part (length s.entry.piece.bytes)) _ is_open).0 in omega arith) in
      let low : lowest_open s ≡ Some v.name.part = name_lowest s v.name.part small is_open
      (λ j l. false_from_ne_true (is_open_byte s j)
      (λ q. let b = bytes_back v s (s.entry.piece.addr + j) i u e (byte_at s j ∙ q) in
      let m = named.lowest (s.entry.piece.addr + j) b in omega arith)) in
      let part : unwrap_or (lowest_open s) 0 ≡ v.name.part = ap (λ (o : Option ℕ). unwrap_or o 0) low in
      let own : stores.hart ≡ v.name.hart = a.hart ∙ sym i.0.1 in
      λ j. record { hart = own j; tag = sym e j; part = part j }

  -- v waits, of a store below a tag
  abbrev pub WaitsUnder : ℕ → Op → Type 0
  WaitsUnder below v = IsOwnWaiting t h v × (v.name.tag < below)

  passes_of : (below : ℕ) (v : Op) (s : Store) → WaitsUnder below v → store_of_tag v.name.tag ss ≡ Some s
      → waits_below below None s ≡ true
  passes_of below v s w u =
      let tag : s.tag ≡ v.name.tag = tag_is v.name.tag ss s u in
      let x = some_byte_of t v k w.0.0.0 in
      let at = bytes_on v s x.0 w.0 u x.1 in
      let b = and_parts (leb s.entry.piece.addr x.0) (is_open_byte s (x.0 - s.entry.piece.addr)) at in
      let size = sized_at v.name.tag ss s a.retired u in
      let l = less_of (x.0 - s.entry.piece.addr) (length s.entry.piece.bytes)
      (and_parts (ltb (x.0 - s.entry.piece.addr) (length s.entry.piece.bytes)) _ b.1).0 in
      and_from (ltb s.tag below) (stays_open s)
      (of_less s.tag below (subst (λ (n : ℕ). n < below) (sym tag) w.1))
      (open_here s (x.0 - s.entry.piece.addr) (omega arith) b.1)

  op_passing : (below : ℕ) (s : Store) → store_of_tag s.tag ss ≡ Some s → waits_below below None s ≡ true
      → (v : Op) × WaitsUnder below v × (v.name.tag ≡ s.tag)
  op_passing below s u q =
      let c = and_parts (ltb s.tag below) (stays_open s) q in
      let j = open_passes s c.1 in
      let o = op_of_store s (s.entry.piece.addr + j.k) u (byte_at s j.k ∙ j.passes) in (
        o.0,
        (
          own_waiting o.0 (s.entry.piece.addr + j.k) o.1,
          subst (λ (n : ℕ). n < below) (sym o.2) (less_of s.tag below c.0),
        ),
        o.2,
      )

  -- the store that the table names is the latest that waits below the tag
  pub waiting_found : (below : ℕ) → (first : Option Op) × IsLatestIfAny (WaitsUnder below) first
      × (waiting_below stores.hart ss below None ≡ option_map (λ (v : Op). v.name) first)
  waiting_found below = at (find (waits_below below None) ss) refl
    where
      store_there : (v : Op) → IsOwnWaiting t h v → (s : Store) × (store_of_tag v.name.tag ss ≡ Some s)
      store_there v i =
          let x = some_byte_of t v k i.0.0 in
          let o = store_of_op v x.0 (is_waiting v x.0 i x.1) in (o.0, o.1)

      at : (o : Option Store) → find (waits_below below None) ss ≡ o
          → (first : Option Op) × IsLatestIfAny (WaitsUnder below) first
          × (waiting_below stores.hart ss below None ≡ option_map (λ (v : Op). v.name) first)
      at None e = (
        None,
        λ v q.
            let s = store_there v q.0 in
            found_none (waits_below below None) ss e v.name.tag s.0 s.1 (passes_of below v s.0 q s.1),
        ap (λ (o : Option Store). option_map (waiting_name stores.hart) o) e,
      )
      at (Some s) e =
          let f = found_store (waits_below below None) ss s a.retired e in
          let v = op_passing below s f.under f.passes in (
            Some v.0,
            latest_by_tag (WaitsUnder below) h v.0 (λ u q. (q.0.1, q.0.0.1)) v.1
                (λ u q.
                let z = store_there u q.0 in
                let l = f.greatest u.name.tag z.0 z.1 (passes_of below u z.0 q z.1) in
                let d = v.2 in omega arith),
            ap (λ (o : Option Store). option_map (waiting_name stores.hart) o) e
                ∙ ap (λ (n : OpName). Some n) (name_of v.0 s v.1.0 f.under v.2),
          )
