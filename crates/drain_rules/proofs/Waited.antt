-- The stores that wait, as operations.
use Rattle.std.proofs.Common.{ℕ, zero, suc, ◌+◌, ◌-◌, ◌<◌, ◌≤◌, ◌≡◌, ◌⊎◌, inl, inr, Bool, true, false, ◌&&◌, ltb, leb}
use Rattle.std.proofs.Common.{eqb, cond, List, [], ◌∷◌, length, Option, Some, None, is_some, find, refl, sym, ap}
use Rattle.std.proofs.Common.{subst, ◌∙◌, arith}
use Rattle.std.specs.Option.{option_map, unwrap_or}
use Rattle.std.proofs.lemmas.Bool.{and_parts, and_from, both_ways, cases_order, eq-eqb, eqb-true, ne_eqb}
use Rattle.std.proofs.lemmas.Bool.Decides.{nat_tests}
use Rattle.std.specs.List.{Contains}
use Rattle.tandem_base.specs.declared.extent.Extent.{Extent}
use Rattle.tandem_base.specs.declared.names.OpName.{OpName}
use Rattle.tandem_base.specs.Extents.{is_among}
use Rattle.tandem_base.specs.FirstFault.{◌or_else◌}
use Rattle.rvwmo_model.specs.declared.operations.Op.{Op}
use Rattle.rvwmo_model.specs.declared.operations.OpKind.TheVariants as kind
use Rattle.rvwmo_model.specs.declared.traces.Trace.{Trace}
use Rattle.rvwmo_model.specs.Order.{has_byte, writes, kind_stores, put_at}
use Rattle.growth_laws.specs.Kinds.{WellKinded}
use Rattle.growth_laws.proofs.Facts.{plain_kind, some_byte_of}
use Rattle.window_laws.specs.Latest.{IsLatestIfAny}
use Rattle.window_laws.specs.Waiting.{IsWaiting, AreWaiting}
use Rattle.rule_laws.specs.Own.{IsOwnWaiting}
use Rattle.rule_laws.proofs.Candidates.{latest_by_tag}
use Rattle.store_buffer.specs.declared.store.Store.{Store}
use Rattle.store_buffer.specs.Searches.{lowest_below}
use Rattle.store_buffer.specs.Store.{is_open_byte, lowest_open, stays_open}
use Rattle.store_buffer.specs.Stores.{store_of_tag, AllTagged}
use Rattle.store_buffer.specs.Waiting.{AreRetired, waits_at, stored_byte, waiting_byte, waiting_bytes, waits_over}
use Rattle.store_buffer.specs.Waiting.{waits_below, waiting_name, waiting_below}
use Rattle.store_buffer.proofs.Opens.{Passes, passes_some, some_passes, open_here, open_passes}
use Rattle.drain_rules.specs.declared.bound.Bound.{Bound}
use Rattle.drain_rules.specs.Told.{BeginAtStores}
use Rattle.drain_rules.proofs.Bounds.{SharesWith, IsBounded}
use Rattle.drain_rules.proofs.Later.{among_of, of_among, less_of, of_less}

-- ---- stores by their tags

under_bound : (bound tag : ℕ) (ss : List Store) (u : Store) → AllTagged bound ss → store_of_tag tag ss ≡ Some u
    → tag < bound
under_bound bound tag [] u a e = cc
under_bound bound tag (x ∷ ss) u a e = at (eqb x.tag tag) refl e (λ f. under_bound bound tag ss u a.1 f)
  where
    at : (c : Bool) → eqb x.tag tag ≡ c → cond c (Some x) (store_of_tag tag ss) ≡ Some u
        → (store_of_tag tag ss ≡ Some u → tag < bound) → tag < bound
    at true q f rec = (let i = eqb-true x.tag tag q in let l = a.0 in omega arith)
    at false q f rec = rec f

tag_is : (tag : ℕ) (ss : List Store) (u : Store) → store_of_tag tag ss ≡ Some u → u.tag ≡ tag
tag_is tag [] u e = cc
tag_is tag (x ∷ ss) u e = at (eqb x.tag tag) refl e (λ f. tag_is tag ss u f)
  where
    at : (c : Bool) → eqb x.tag tag ≡ c → cond c (Some x) (store_of_tag tag ss) ≡ Some u
        → (store_of_tag tag ss ≡ Some u → u.tag ≡ tag) → u.tag ≡ tag
    at true q f rec =
        let d : x ≡ u = cc in ap (λ (z : Store). z.tag) (sym d) ∙ eqb-true x.tag tag q
    at false q f rec = rec f

sized_at : (tag : ℕ) (ss : List Store) (u : Store) → AreRetired ss → store_of_tag tag ss ≡ Some u
    → length u.entry.piece.bytes ≤ 8
sized_at tag [] u r e = cc
sized_at tag (x ∷ ss) u r e = at (eqb x.tag tag) e (λ f. sized_at tag ss u r.2 f)
  where
    at : (c : Bool) → cond c (Some x) (store_of_tag tag ss) ≡ Some u
        → (store_of_tag tag ss ≡ Some u → length u.entry.piece.bytes ≤ 8) → length u.entry.piece.bytes ≤ 8
    at true f rec =
        let d : x ≡ u = cc in subst (λ (z : Store). length z.entry.piece.bytes ≤ 8) d r.0
    at false f rec = rec f

-- the first that passes is the one of the greatest tag
pub record FoundStore (test : Store → Bool) (ss : List Store) (s : Store) : Type 0 where
  pub under : store_of_tag s.tag ss ≡ Some s
  pub passes : test s ≡ true
  pub greatest : (tag : ℕ) (u : Store) → store_of_tag tag ss ≡ Some u → test u ≡ true → tag ≤ s.tag

first_tag : (x : Store) (ss : List Store) → store_of_tag x.tag (x ∷ ss) ≡ Some x
first_tag x ss = ap (λ (c : Bool). cond c (Some x) (store_of_tag x.tag ss)) (eq-eqb x.tag x.tag refl)

found_store : (test : Store → Bool) (ss : List Store) (s : Store) → AreRetired ss → find test ss ≡ Some s
    → FoundStore test ss s
found_store test [] s r e = cc
found_store test (x ∷ ss) s r e = at (test x) refl e (λ f. found_store test ss s r.2 f)
  where
    at : (c : Bool) → test x ≡ c → cond c (Some x) (find test ss) ≡ Some s
        → (find test ss ≡ Some s → FoundStore test ss s) → FoundStore test (x ∷ ss) s
    at true q f rec =
        let d : x ≡ s = cc in
        subst (λ (z : Store). FoundStore test (x ∷ ss) z) d
        (record {
          under = first_tag x ss;
          passes = q;
          greatest = λ tag u g p. most tag u (eqb x.tag tag) refl g;
        })
      where
        most : (tag : ℕ) (u : Store) (c : Bool) → eqb x.tag tag ≡ c
            → cond c (Some x) (store_of_tag tag ss) ≡ Some u → tag ≤ x.tag
        most tag u true z g = (let i = eqb-true x.tag tag z in omega arith)
        most tag u false z g = (let l = under_bound x.tag tag ss u r.1 g in omega arith)
    at false q f rec =
        let h = rec f in
        let l : s.tag < x.tag = under_bound x.tag s.tag ss s r.1 h.under in
        let n : eqb x.tag s.tag ≡ false = ne_eqb x.tag s.tag (λ i. omega arith) in
        record {
          under = ap (λ (c : Bool). cond c (Some x) (store_of_tag s.tag ss)) n ∙ h.under;
          passes = h.passes;
          greatest = λ tag u g p. most tag u h (eqb x.tag tag) refl g p;
        }
      where
        most : (tag : ℕ) (u : Store) → FoundStore test ss s → (c : Bool) → eqb x.tag tag ≡ c
            → cond c (Some x) (store_of_tag tag ss) ≡ Some u → test u ≡ true → tag ≤ s.tag
        most tag u h true z g p =
            let d : x ≡ u = cc in absurd (both_ways _ q (ap test d ∙ p))
        most tag u h false z g p = h.greatest tag u g p

found_none : (test : Store → Bool) (ss : List Store) → find test ss ≡ None → (tag : ℕ) (u : Store)
    → store_of_tag tag ss ≡ Some u → test u ≡ true → ⊥
found_none test [] e tag u g p = cc
found_none test (x ∷ ss) e tag u g p =
    at (test x) refl e (eqb x.tag tag) g (λ f h. found_none test ss f tag u h p)
  where
    at : (c : Bool) → test x ≡ c → cond c (Some x) (find test ss) ≡ None → (d : Bool)
        → cond d (Some x) (store_of_tag tag ss) ≡ Some u
        → (find test ss ≡ None → store_of_tag tag ss ≡ Some u → ⊥) → ⊥
    at true q f d h rec = cc
    at false q f true h rec = let z : x ≡ u = cc in both_ways _ q (ap test z ∙ p)
    at false q f false h rec = rec f h

-- ---- the lowest byte

none_lower : (p : ℕ → Bool) (n : ℕ) → ((j : ℕ) → j < n → p j ≡ false) → lowest_below p n ≡ None
none_lower p zero h = refl
none_lower p (suc n) h =
    ap (λ (o : Option ℕ). o or_else cond (p n) (Some n) None) (none_lower p n (λ j l. h j (omega arith)))
    ∙ ap (λ (c : Bool). cond c (Some n) None) (h n (omega arith))

lowest_is : (p : ℕ → Bool) (n k : ℕ) → k < n → p k ≡ true → ((j : ℕ) → j < k → p j ≡ false)
    → lowest_below p n ≡ Some k
lowest_is p zero k l e h = absurd (omega arith)
lowest_is p (suc n) k l e h = at (cases_order k n) (λ m. lowest_is p n k m e h)
  where
    at : (k ≡ n) ⊎ ((k < n) ⊎ (n < k)) → (k < n → lowest_below p n ≡ Some k) → lowest_below p (suc n) ≡ Some k
    at (inl q) rec =
        ap (λ (o : Option ℕ). o or_else cond (p n) (Some n) None)
        (none_lower p n (λ j m. h j (omega arith)))
        ∙ ap (λ (c : Bool). cond c (Some n) None) (subst (λ (j : ℕ). p j ≡ true) q e)
        ∙ ap (λ (j : ℕ). Some j) (sym q)
    at (inr (inl m)) rec = ap (λ (o : Option ℕ). o or_else cond (p n) (Some n) None) (rec m)
    at (inr (inr m)) rec = absurd (omega arith)

name_lowest : (s : Store) (k : ℕ) → k < 8 → is_open_byte s k ≡ true → ((j : ℕ) → j < k → is_open_byte s j ≡ false)
    → lowest_open s ≡ Some k
unfolding lowest_open
name_lowest s k l e h = lowest_is (is_open_byte s) 8 k l e h

byte_at : (s : Store) (k : ℕ) → waits_at (s.entry.piece.addr + k) s ≡ is_open_byte s k
byte_at s k =
    let e : s.entry.piece.addr + k - s.entry.piece.addr ≡ k = omega arith in
    let l : leb s.entry.piece.addr (s.entry.piece.addr + k) ≡ true = grind (arith, nat_tests) in
    ap (λ (c : Bool). c && is_open_byte s (s.entry.piece.addr + k - s.entry.piece.addr)) l
    ∙ ap (λ (j : ℕ). is_open_byte s j) e

not_true : (c : Bool) → (c ≡ true → ⊥) → c ≡ false
not_true true h = absurd (h refl)
not_true false h = refl

-- ---- what waits

module _ (t : Trace) (h : ℕ) (ss : List Store) (k : WellKinded t) (r : AreRetired ss)
    (w : AreWaiting t h (waiting_bytes ss)) (begins : BeginAtStores t h ss) where
  op_of_store : (s : Store) (x : ℕ) → store_of_tag s.tag ss ≡ Some s → waits_at x s ≡ true
      → (v : Op) × IsWaiting t h x v × (v.name.tag ≡ s.tag)
  op_of_store s x u e =
      let f : waiting_bytes ss s.tag x ≡ Some (stored_byte s x) = ap (λ (o : Option Store). waiting_byte o x) u
      ∙ ap (λ (c : Bool). cond c (Some (stored_byte s x)) None) e in
      let v = w.each s.tag x (stored_byte s x) f in (v.0, v.1, v.2)

  store_of_op : (v : Op) (x : ℕ) → IsWaiting t h x v
      → (s : Store) × (store_of_tag v.name.tag ss ≡ Some s) × (waits_at x s ≡ true)
  store_of_op v x i = at (store_of_tag v.name.tag ss) refl (w.all v x i)
    where
      at : (o : Option Store) → store_of_tag v.name.tag ss ≡ o → waiting_byte o x ≡ Some (put_at v x)
          → (s : Store) × (store_of_tag v.name.tag ss ≡ Some s) × (waits_at x s ≡ true)
      at None q e = cc
      at (Some s) q e = (s, q, on (waits_at x s) refl e)
        where
          on : (c : Bool) → waits_at x s ≡ c → cond c (Some (stored_byte s x)) None ≡ Some (put_at v x)
              → waits_at x s ≡ true
          on true z f = z
          on false z f = cc

  is_waiting : (v : Op) (x : ℕ) → IsOwnWaiting t h v → has_byte x v ≡ true → IsWaiting t h x v
  is_waiting v x i b =
      let kind : v.kind ≡ kind.Store = plain_kind t v k i.0.0 (k.unperformed v i.0.0 i.1) in
      (i.0.0, i.0.1, i.1, and_from (kind_stores v.kind) (has_byte x v) (ap kind_stores kind) b)

  own_waiting : (v : Op) (x : ℕ) → IsWaiting t h x v → IsOwnWaiting t h v
  own_waiting v x i = ((i.0, i.1), i.2)

  byte_of : (v : Op) (x : ℕ) → IsWaiting t h x v → has_byte x v ≡ true
  byte_of v x i = (and_parts (kind_stores v.kind) (has_byte x v) i.3).1

  -- an own operation that waits has just the bytes of its store that wait
  bytes_on : (v : Op) (s : Store) (x : ℕ) → IsOwnWaiting t h v → store_of_tag v.name.tag ss ≡ Some s
      → has_byte x v ≡ true → waits_at x s ≡ true
  bytes_on v s x i u b =
      let o = store_of_op v x (is_waiting v x i b) in
      let c : Some o.0 ≡ Some s = sym o.1 ∙ u in
      let d : o.0 ≡ s = cc in subst (λ (z : Store). waits_at x z ≡ true) d o.2

  bytes_back : (v : Op) (s : Store) (x : ℕ) → IsOwnWaiting t h v → store_of_tag s.tag ss ≡ Some s
      → v.name.tag ≡ s.tag → waits_at x s ≡ true → has_byte x v ≡ true
  bytes_back v s x i u e b =
      let o = op_of_store s x u b in
      let d : o.0 ≡ v = k.form.waiting o.0 v o.1.0 i.0.0 (o.1.1 ∙ sym i.0.1) (o.2 ∙ sym e) o.1.2 i.1 in
      subst (λ (z : Op). has_byte x z ≡ true) d (byte_of o.0 x o.1)

  -- the name of what waits of a store
  name_of : (v : Op) (s : Store) → IsOwnWaiting t h v → store_of_tag s.tag ss ≡ Some s → v.name.tag ≡ s.tag
      → waiting_name h s ≡ v.name
  name_of v s i u e =
      let u' : store_of_tag v.name.tag ss ≡ Some s = ap (λ (n : ℕ). store_of_tag n ss) e ∙ u in
      let base : s.entry.piece.addr ≡ v.extent.addr = begins v s i.0.0 i.0.1 u' in
      let named = k.parts v i.0.0 in
      let at : waits_at (s.entry.piece.addr + v.name.part) s ≡ true = bytes_on v s
      (s.entry.piece.addr + v.name.part) i u'
      (ap (λ (n : ℕ). has_byte (n + v.name.part) v) base ∙ named.here) in
      let is_open : is_open_byte s v.name.part ≡ true = sym (byte_at s v.name.part) ∙ at in
      let size = sized_at s.tag ss s r u in
      let small : v.name.part < 8 =
      (let l = less_of v.name.part (length s.entry.piece.bytes)
      (and_parts (ltb v.name.part (length s.entry.piece.bytes)) _ is_open).0 in omega arith) in
      let low : lowest_open s ≡ Some v.name.part = name_lowest s v.name.part small is_open
      (λ j l. not_true (is_open_byte s j)
      (λ q. let b = bytes_back v s (s.entry.piece.addr + j) i u e (byte_at s j ∙ q) in
      let m = named.lowest (s.entry.piece.addr + j) b in omega arith)) in
      let part : unwrap_or (lowest_open s) 0 ≡ v.name.part = ap (λ (o : Option ℕ). unwrap_or o 0) low in
      let own = i.0.1 in
      λ j. record { hart = sym own j; tag = sym e j; part = part j }

  -- a bound has the operation where the store passes
  passes_of : (b : Bound) (v : Op) (s : Store) → IsOwnWaiting t h v → store_of_tag v.name.tag ss ≡ Some s
      → IsBounded b v → waits_below b.below b.over s ≡ true
  passes_of b v s i u q =
      let tag : s.tag ≡ v.name.tag = tag_is v.name.tag ss s u in
      and_from (ltb s.tag b.below) (waits_over b.over s)
      (of_less s.tag b.below (subst (λ (n : ℕ). n < b.below) (sym tag) q.0)) (over b.over q.1)
    where
      over : (o : Option Extent) → SharesWith o v → waits_over o s ≡ true
      over None p =
          let x = some_byte_of t v k i.0.0 in
          let at = bytes_on v s x.0 i u x.1 in
          let a = and_parts (leb s.entry.piece.addr x.0) (is_open_byte s (x.0 - s.entry.piece.addr)) at in
          let size = sized_at v.name.tag ss s r u in
          let l = less_of (x.0 - s.entry.piece.addr) (length s.entry.piece.bytes)
          (and_parts (ltb (x.0 - s.entry.piece.addr) (length s.entry.piece.bytes)) _ a.1).0 in
          open_here s (x.0 - s.entry.piece.addr) (omega arith) a.1
      over (Some e) p =
          let a = among_of e.addr e.len p.0 p.2 in
          let j : e.addr + (p.0 - e.addr) ≡ p.0 = (let l = a.0 in omega arith) in
          passes_some (λ n. waits_at (e.addr + n) s) e.len (p.0 - e.addr)
          (let l = a.0 in let m = a.1 in omega arith)
          (ap (λ (n : ℕ). waits_at n s) j ∙ bytes_on v s p.0 i u p.1)

  op_passing : (b : Bound) (s : Store) → store_of_tag s.tag ss ≡ Some s → waits_below b.below b.over s ≡ true
      → (v : Op) × IsOwnWaiting t h v × IsBounded b v × (v.name.tag ≡ s.tag)
  op_passing b s u q =
      let a = and_parts (ltb s.tag b.below) (waits_over b.over s) q in over b.over a.1 (less_of s.tag b.below a.0)
    where
      over : (o : Option Extent) → waits_over o s ≡ true → s.tag < b.below
          → (v : Op) × IsOwnWaiting t h v × ((v.name.tag < b.below) × SharesWith o v) × (v.name.tag ≡ s.tag)
      over None p l =
          let j = open_passes s p in
          let o = op_of_store s (s.entry.piece.addr + j.k) u (byte_at s j.k ∙ j.passes) in (
            o.0,
            own_waiting o.0 (s.entry.piece.addr + j.k) o.1,
            (subst (λ (n : ℕ). n < b.below) (sym o.2) l, tt),
            o.2,
          )
      over (Some e) p l =
          let j = some_passes (λ n. waits_at (e.addr + n) s) e.len p in
          let m = j.below in
          let o = op_of_store s (e.addr + j.k) u j.passes in (
            o.0,
            own_waiting o.0 (e.addr + j.k) o.1,
            (
              subst (λ (n : ℕ). n < b.below) (sym o.2) l,
              (
                e.addr + j.k,
                byte_of o.0 (e.addr + j.k) o.1,
                of_among e.addr e.len (e.addr + j.k) (omega arith) (omega arith),
              ),
            ),
            o.2,
          )

  -- the latest of those that wait which a bound has
  abbrev pub WaitsBounded : Bound → Op → Type 0
  WaitsBounded b v = IsOwnWaiting t h v × IsBounded b v

  pub waited_found : (b : Bound) → (first : Option Op) × IsLatestIfAny (WaitsBounded b) first
      × (waiting_below h ss b.below b.over ≡ option_map (λ (v : Op). v.name) first)
  waited_found b = at (find (waits_below b.below b.over) ss) refl
    where
      store_there : (v : Op) → IsOwnWaiting t h v → (s : Store) × (store_of_tag v.name.tag ss ≡ Some s)
      store_there v i =
          let x = some_byte_of t v k i.0.0 in
          let o = store_of_op v x.0 (is_waiting v x.0 i x.1) in (o.0, o.1)

      at : (o : Option Store) → find (waits_below b.below b.over) ss ≡ o
          → (first : Option Op) × IsLatestIfAny (WaitsBounded b) first
          × (waiting_below h ss b.below b.over ≡ option_map (λ (v : Op). v.name) first)
      at None e = (
        None,
        λ v q.
            let s = store_there v q.0 in
            found_none (waits_below b.below b.over) ss e v.name.tag s.0 s.1 (passes_of b v s.0 q.0 s.1 q.1),
        ap (λ (o : Option Store). option_map (waiting_name h) o) e,
      )
      at (Some s) e =
          let f = found_store (waits_below b.below b.over) ss s r e in
          let v = op_passing b s f.under f.passes in (
            Some v.0,
            latest_by_tag (WaitsBounded b) h v.0 (λ u q. (q.0.1, q.0.0.1)) (v.1, v.2)
                (λ u q.
                let z = store_there u q.0 in
                let l = f.greatest u.name.tag z.0 z.1 (passes_of b u z.0 q.0 z.1 q.1) in
                let d = v.3 in omega arith),
            ap (λ (o : Option Store). option_map (waiting_name h) o) e
                ∙ ap (λ (n : OpName). Some n) (name_of v.0 s v.1 f.under v.3),
          )
