-- The store that waits over the bytes of an operation, and its name.
use Rattle.std.proofs.Common.{ℕ, ◌+◌, ◌-◌, ◌<◌, ◌≤◌, ◌≡◌, ◌&&◌, Bool, true, false, cond, find, nat_lt, nat_le}
use Rattle.std.proofs.Common.{Option, Some, None, refl, sym, ap, subst, ◌∙◌, arith}
use Rattle.std.specs.Option.{unwrap_or}
use Rattle.std.proofs.lemmas.Bool.{and_parts, and_from}
use Rattle.std.proofs.lemmas.Bool.Decides.{nat_tests}
use Rattle.tandem_base.specs.declared.extent.Extent.{Extent}
use Rattle.tandem_base.specs.declared.names.OpName.{OpName}
use Rattle.tandem_base.specs.Extents.{is_among}
use Rattle.rvwmo_model.specs.declared.operations.Op.{Op}
use Rattle.rvwmo_model.specs.declared.traces.Trace.{Trace}
use Rattle.rvwmo_model.specs.Order.{op_stores, has_byte, put_at}
use Rattle.growth_laws.specs.Kinds.{WellKinded}
use Rattle.store_buffer.specs.declared.store.Store.{Store}
use Rattle.store_buffer.specs.Store.{is_open_byte, lowest_open}
use Rattle.store_buffer.specs.Stores.{StoreList, store_of_tag}
use Rattle.store_buffer.specs.Waiting.{waits_at, waits_below, waiting_byte, waiting_name, stored_byte}
use Rattle.store_buffer.proofs.Finding.{found_passes}
use Rattle.store_buffer.proofs.Opens.{Passes, passes_some, some_passes}
use Rattle.window_laws.specs.Waiting.{IsWaiting}
use Rattle.tandem_base.specs.declared.names.Place.{Place}
use Rattle.overlap_rules.specs.Questions.{AreStoresOf}
use Rattle.overlap_rules.proofs.FirstWaiting.{tag_of, found_of_tag, finds_newer, lowest_is}
use Rattle.overlap_rules.proofs.KeptLatest.{behind_base, byte_within}
use Rattle.overlap_rules.proofs.Naming.{distance_below}

open_at : (s : Store) (k : ℕ) → waits_at (s.entry.piece.addr + k) s ≡ is_open_byte s k
open_at s k =
    ap (λ (b : Bool). b && is_open_byte s (s.entry.piece.addr + k - s.entry.piece.addr)) (above s.entry.piece.addr k)
    ∙ ap (is_open_byte s) (back s.entry.piece.addr k)
  where
    above : (n m : ℕ) → nat_le n (n + m) ≡ true
    above n m = grind (arith, nat_tests)

    back : (n m : ℕ) → n + m - n ≡ m
    back n m = omega arith

waits_there : (s : Store) (x : ℕ) → waits_at x s ≡ true → waiting_byte (Some s) x ≡ Some (stored_byte s x)
waits_there s x e = ap (λ (b : Bool). cond b (Some (stored_byte s x)) None) e

there_waits : (s : Store) (x value : ℕ) → waiting_byte (Some s) x ≡ Some value → waits_at x s ≡ true
there_waits s x value e = at (waits_at x s) refl e
  where
    at : (b : Bool) → waits_at x s ≡ b → cond b (Some (stored_byte s x)) None ≡ Some value → waits_at x s ≡ true
    at true q f = q
    at false q f = absurd (cc)

abbrev made_name : ℕ → ℕ → ℕ → OpName
made_name h k n = record { hart = h; tag = k; part = n }

same_name : (h k n : ℕ) (name : OpName) → h ≡ name.hart → k ≡ name.tag → n ≡ name.part → made_name h k n ≡ name
same_name h k n name e f g =
    ap (λ (x : ℕ). made_name x k n) e ∙ ap (λ (x : ℕ). made_name name.hart x n) f
    ∙ ap (λ (x : ℕ). made_name name.hart name.tag x) g

module _ (t : Trace) (k : WellKinded t) (h : ℕ) (oldest : Place) (stores : StoreList)
    (a : AreStoresOf t h oldest stores) where
  -- the store under the tag of an operation that waits
  store_of : (v : Op) (x : ℕ) → IsWaiting t h x v
      → (s : Store) × (store_of_tag v.name.tag stores.stores ≡ Some s) × (waits_at x s ≡ true)
  store_of v x w = at (store_of_tag v.name.tag stores.stores) refl (a.waits.all v x w)
    where
      at : (o : Option Store) → store_of_tag v.name.tag stores.stores ≡ o → waiting_byte o x ≡ Some (put_at v x)
          → (s : Store) × (store_of_tag v.name.tag stores.stores ≡ Some s) × (waits_at x s ≡ true)
      at None e f = absurd (cc)
      at (Some s) e f = (s, e, there_waits s x (put_at v x) f)

  -- and the operation that waits of a store
  op_of : (s : Store) (x : ℕ) → store_of_tag s.tag stores.stores ≡ Some s → waits_at x s ≡ true
      → (v : Op) × IsWaiting t h x v × (v.name.tag ≡ s.tag)
  op_of s x e q =
      let w = a.waits.each s.tag x (stored_byte s x)
      (ap (λ (o : Option Store). waiting_byte o x) e ∙ waits_there s x q) in
      (w.0, w.1, w.2)

  -- its name
  pub named_waiting : (v : Op) (s : Store) (x : ℕ) → IsWaiting t h x v → v.name.tag ≡ s.tag
      → store_of_tag s.tag stores.stores ≡ Some s → waiting_name stores.hart s ≡ v.name
  unfolding lowest_open
  named_waiting v s x w e f =
      let part : lowest_open s ≡ Some v.name.part =
      lowest_is (is_open_byte s) 8 v.name.part small open_part (λ j q. least j q) in
      let p : unwrap_or (lowest_open s) 0 ≡ v.name.part = ap (λ (o : Option ℕ). unwrap_or o 0) part in
      same_name stores.hart s.tag (unwrap_or (lowest_open s) 0) v.name (a.hart ∙ sym w.1) (sym e) p
    where
      begins : v.extent.addr ≡ s.entry.piece.addr
      begins = a.begins v s ((w.0, w.1), w.2) (ap (λ (n : ℕ). store_of_tag n stores.stores) e ∙ f)

      stores_it : op_stores v ≡ true
      stores_it = (and_parts (op_stores v) (has_byte x v) w.3).0

      small : v.name.part < 8
      small =
          let l : v.extent.addr + v.name.part - v.extent.addr < v.extent.len =
          distance_below v.extent.addr v.extent.len (v.extent.addr + v.name.part)
          (byte_within (v.extent.addr + v.name.part) v (k.parts v w.0).here) in
          omega (arith, l, v.extent.sized.1)

      open_part : is_open_byte s v.name.part ≡ true
      open_part =
          let y : IsWaiting t h (v.extent.addr + v.name.part) v =
          (w.0, w.1, w.2, and_from _ _ stores_it (k.parts v w.0).here) in
          let z = store_of v (v.extent.addr + v.name.part) y in
          let same : z.0 ≡ s = (let c : Some z.0 ≡ Some s =
          sym z.1 ∙ ap (λ (n : ℕ). store_of_tag n stores.stores) e ∙ f in cc) in
          sym (open_at s v.name.part)
          ∙ ap (λ (n : ℕ). waits_at (n + v.name.part) s) (sym begins)
          ∙ subst (λ (u : Store). waits_at (v.extent.addr + v.name.part) u ≡ true) same z.2

      least : (j : ℕ) → is_open_byte s j ≡ true → v.name.part ≤ j
      least j q =
          let o = op_of s (s.entry.piece.addr + j) f (open_at s j ∙ q) in
          let same : o.0 ≡ v = k.form.waiting o.0 v o.1.0 w.0 (o.1.1 ∙ sym w.1) (o.2 ∙ sym e) o.1.2 w.2 in
          let b : has_byte (s.entry.piece.addr + j) v ≡ true =
          subst (λ (u : Op). has_byte (s.entry.piece.addr + j) u ≡ true) same
          (and_parts (op_stores o.0) (has_byte (s.entry.piece.addr + j) o.0) o.1.3).1 in
          let l : v.extent.addr + v.name.part ≤ s.entry.piece.addr + j =
          (k.parts v w.0).lowest (s.entry.piece.addr + j) b in
          omega (arith, l, begins)

  -- ---- the one of greatest tag below a bound at an extent

  module _ (below : ℕ) (extent : Extent) where
    abbrev pub is_over : Store → Bool
    is_over s = waits_below below (Some extent) s

    over_it : (s : Store) (x : ℕ) → s.tag < below → is_among extent.addr extent.len x ≡ true → waits_at x s ≡ true
        → is_over s ≡ true
    over_it s x l i q =
        and_from _ _ (less s.tag below l)
        (passes_some (λ n. waits_at (extent.addr + n) s) extent.len (x - extent.addr)
        (distance_below extent.addr extent.len x i)
        (ap (λ (y : ℕ). waits_at y s) (behind_base extent.addr extent.len x i) ∙ q))
      where
        less : (m n : ℕ) → m < n → nat_lt m n ≡ true
        less m n l = grind (arith, nat_tests)

    -- an operation that waits there is found, or a newer one
    pub found_newer : (v : Op) (x : ℕ) → IsWaiting t h x v → v.name.tag < below
        → is_among extent.addr extent.len x ≡ true
        → (s : Store) × (find is_over stores.stores ≡ Some s) × (v.name.tag ≤ s.tag)
    found_newer v x w l i =
        let z = store_of v x w in
        let n : z.0.tag ≡ v.name.tag = tag_of v.name.tag stores.stores z.0 z.1 in
        finds_newer is_over v.name.tag stores.stores z.0 a.retired z.1 (over_it z.0 x (omega (arith, l, n)) i z.2)

    -- what is found waits there
    pub found_waits : (s : Store) → find is_over stores.stores ≡ Some s
        → (v : Op) × (x : ℕ) × IsWaiting t h x v × (v.name.tag ≡ s.tag) × (is_among extent.addr extent.len x ≡ true)
        × (store_of_tag s.tag stores.stores ≡ Some s)
    found_waits s e =
        let p = found_passes is_over stores.stores s e in
        let f = found_of_tag is_over stores.stores s a.retired e in
        let q = and_parts (nat_lt s.tag below) _ p in
        let w : Passes (λ n. waits_at (extent.addr + n) s) extent.len =
        some_passes (λ n. waits_at (extent.addr + n) s) extent.len q.1 in
        let v = op_of s (extent.addr + w.k) f w.passes in
        (v.0, extent.addr + w.k, v.1, v.2, inside extent.addr extent.len w.k w.below, f)
      where
        inside : (base size n : ℕ) → n < size → is_among base size (base + n) ≡ true
        inside base size n l = grind (arith, nat_tests)
