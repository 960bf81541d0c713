-- Where the operations of a trace come from.
use Rattle.std.proofs.Common.{ℕ, ◌+◌, ◌-◌, ◌<◌, ◌≤◌, ◌≡◌, true, List, slice_index, Option, refl, sym}
use Rattle.std.proofs.Common.{ap, subst, ◌∙◌, arith}
use Rattle.std.specs.List.{flat_map}
use Rattle.tandem_base.specs.declared.names.Place.{Place}
use Rattle.rvwmo_model.specs.declared.operations.Op.{Op}
use Rattle.trace_model.proofs.Lists.{In}
use Rattle.rvwmo_model.specs.Order.{has_byte, put_at}
use Rattle.trace_model.proofs.Lists.{in_flat, from_flat}
use Rattle.trace_model.proofs.Groups.{InExtent}
use Rattle.trace_model.specs.Groups.{Access, same_place, part_at, parts_of}
use Rattle.trace_model.specs.Entries.{MemoryUse, Fixed, Stores, Entry, Places, byte_places, memory_ops, entry_ops}
use Rattle.trace_model.proofs.Groups.{same_is, same_self, part_in, part_from, covers_from, covers_parts, put_is}

-- v is an operation of one of the entries
pub data Comes (g : Places) (es : List Entry) (v : Op) : Type 0 where
  is_fixed : (e : Entry) (ops : List Op) → In e es → e.memory ≡ Fixed ops → In v ops → Comes g es v
  is_stored : (e : Entry) (c : Access) (k : ℕ) → In e es → e.memory ≡ Stores c → k < c.extent.len → v
      ≡ part_at c (byte_places g c) (byte_places g c k) → Comes g es v

module _ (g : Places) (es : List Entry) (v : Op) where
  pub comes : In v (flat_map (entry_ops g) es) → Comes g es v
  comes h = let r = from_flat (entry_ops g) es v h in at r.0 r.1 r.0.memory refl r.2
    where
      at : (e : Entry) → In e es → (d : MemoryUse) → e.memory ≡ d → In v (memory_ops g d) → Comes g es v
      at e i (Fixed ops) q h = is_fixed e ops i q h
      at e i (Stores c) q h = let r = part_from c (byte_places g c) c.extent.len v h in is_stored e c r.0 i q r.1 r.2

  pub goes : Comes g es v → In v (flat_map (entry_ops g) es)
  goes (is_fixed e ops i q h) = in_flat (entry_ops g) es e v i
      (subst (λ (d : MemoryUse). In v (memory_ops g d)) (sym q) h)
  goes (is_stored e c k i q l s) = in_flat (entry_ops g) es e v i
      (subst (λ (d : MemoryUse). In v (memory_ops g d)) (sym q)
      (subst (λ (z : Op). In z (parts_of c (byte_places g c))) (sym s) (part_in c (byte_places g c) c.extent.len k l)))

-- byte x is one of the bytes of a at q
module _ (g : Places) (a : Access) (q : Option Place) (x : ℕ) where
  pub key_back : a.extent.addr ≤ x → byte_places g a (x - a.extent.addr) ≡ g a.hart a.tag x
  key_back l = ap (g a.hart a.tag) (let z : a.extent.addr + (x - a.extent.addr) ≡ x = omega (arith, l) in z)

  pub covers_at : InExtent (part_at a (byte_places g a) q) x → g a.hart a.tag x ≡ q
      → has_byte x (part_at a (byte_places g a) q) ≡ true
  covers_at h e = covers_from a (λ k. same_place (byte_places g a k) q) q x h (rw (key_back h.0 ∙ e) (same_self q))

  pub at_covers : has_byte x (part_at a (byte_places g a) q) ≡ true → InExtent (part_at a (byte_places g a) q) x
      × (g a.hart a.tag x ≡ q)
  at_covers c = let r = covers_parts a (λ k. same_place (byte_places g a k) q) q x c in
      (r.0, sym (key_back r.0.0) ∙ same_is _ q r.1)

  pub put_at_part : has_byte x (part_at a (byte_places g a) q) ≡ true → put_at (part_at a (byte_places g a) q) x
      ≡ slice_index a.put (x - a.extent.addr)
  put_at_part c = put_is a (λ k. same_place (byte_places g a k) q) q x
      (covers_parts a (λ k. same_place (byte_places g a k) q) q x c).1
