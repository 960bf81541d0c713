-- The operation of an access whose bytes are all performed at one place.
use Rattle.std.proofs.Common.{ℕ, ◌≡◌, ◌+◌, ◌-◌, ◌<◌, Bool, true, ap, sym, subst, ◌∙◌}
use Rattle.std.proofs.Common.{arith, Some, slice_index}
use Rattle.std.specs.declared.option.Option.{Option}
use Rattle.tandem_base.specs.declared.names.Place.{Place}
use Rattle.rvwmo_model.specs.declared.operations.Op.{Op}
use Rattle.rvwmo_model.specs.declared.operations.Ann.TheVariants as ann
use Rattle.rvwmo_model.specs.Order.{kind_stores, kind_loads}
use Rattle.trace_model.specs.Groups.{op_of, parts_of, same_place, part_at}
use Rattle.trace_model.specs.declared.access.Access.{Access}
use Rattle.trace_model.proofs.Groups.{covers_from, covers_parts, masked_byte, part_from, part_in, same_self}
use Rattle.trace_model.proofs.Lists.{In}
use Rattle.trace_gen.specs.Rounds.{tag_of, bytes_of_number}
use Rattle.gen_order_laws.proofs.Logs.{Perf, insn_of_access}
use Rattle.gen_order_laws.proofs.MadeOps.{IsOp, kind_of_access, addr_of, len_of_access, stored_of}

-- an access of the trace is an access of the log
pub record IsAccess (f : Perf) (a : Access) : Type 0 where
  pub hart : a.hart ≡ f.hart
  pub tag : a.tag ≡ tag_of f.round (insn_of_access f.access)
  pub kind : a.kind ≡ kind_of_access f.access
  pub acquire : a.acquire ≡ ann.None
  pub release : a.release ≡ ann.None
  pub addr : a.extent.addr ≡ addr_of f
  pub len : a.extent.len ≡ len_of_access f.access
  pub got : (k : ℕ) → k < len_of_access f.access → kind_loads (kind_of_access f.access) ≡ true
      → slice_index a.got k ≡ slice_index (bytes_of_number f.value) k
  pub put : (k : ℕ) → k < len_of_access f.access → kind_stores (kind_of_access f.access) ≡ true
      → slice_index a.put k ≡ slice_index (bytes_of_number (stored_of f.access f.value)) k

-- all its bytes
pub whole_is : (f : Perf) (a : Access) (p : ℕ → Bool) (q : Option Place) → IsAccess f a
    → ((k : ℕ) → k < a.extent.len → p k ≡ true) → q ≡ Some f.place → IsOp f (op_of a p q)
whole_is f a p q is all place = record {
  hart = is.hart;
  tag = is.tag;
  kind = is.kind;
  acquire = is.acquire;
  release = is.release;
  place = place;
  addr = is.addr;
  within = λ x has.
      let b = (covers_parts a p q x has).0 in (omega (arith, b.0, is.addr), omega (arith, b.1, is.addr, is.len));
  covers = λ k lt.
      covers_from a p q (addr_of f + k) (omega (arith, is.addr), omega (arith, is.addr, is.len, lt))
      (all (addr_of f + k - a.extent.addr) (omega (arith, is.addr, is.len, lt)));
  got = λ k lt loads.
      masked_byte p 0 a.got k (all (0 + k) (omega (arith, is.len, lt)))
      ∙ is.got k lt (sym (ap kind_loads is.kind) ∙ loads);
  put = λ k lt stores.
      masked_byte p 0 a.put k (all (0 + k) (omega (arith, is.len, lt)))
      ∙ is.put k lt (sym (ap kind_stores is.kind) ∙ stores);
}

module _ (f : Perf) (a : Access) (places : ℕ → Option Place) (is : IsAccess f a)
    (here : (k : ℕ) → k < a.extent.len → places k ≡ Some f.place) where
  same_at : (k : ℕ) → k < a.extent.len → IsOp f (part_at a places (places k))
  same_at k lt =
      whole_is f a (λ j. same_place (places j) (places k)) (places k) is
      (λ j less.
      ap (λ (o : Option Place). same_place o (places k)) (here j less ∙ sym (here k lt)) ∙ same_self (places k))
      (here k lt)

  -- each of the operations is it
  pub parts_are : (o : Op) → In o (parts_of a places) → IsOp f o
  parts_are o i =
      let part = part_from a places a.extent.len o i in
      subst (IsOp f) (sym part.2) (same_at part.0 part.1)

  -- and there is one
  pub part_there : 0 < a.extent.len → (o : Op) × In o (parts_of a places)
  part_there some = (part_at a places (places 0), part_in a places a.extent.len 0 some)
