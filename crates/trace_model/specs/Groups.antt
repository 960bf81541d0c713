-- The bytes of one access of an instruction, grouped by where each was performed: each group is an operation.
use Rattle.std.specs.Prelude.{ℕ, zero, suc, ◌+◌, ◌*◌, ◌==◌, ◌&&◌, ◌||◌, List, [], ◌∷◌, Bool, true, false, None, Some}
use Rattle.std.specs.Prelude.{if◌then◌else◌}
use Rattle.std.specs.declared.option.Option.{Option}
use Rattle.tandem_base.specs.declared.names.Place.{Place}
use Rattle.rvwmo_model.specs.declared.operations.Op.{Op}
pub use Rattle.trace_model.specs.declared.access.Access.{Access}

-- bit i is set where k + i passes, for the n numbers from k up
abbrev pub mask_from : (ℕ → Bool) → ℕ → ℕ → ℕ
mask_from p k zero = 0
mask_from p k (suc n) = (if p k then 1 else 0) + 2 * mask_from p (suc k) n

-- the first that passes, of the n numbers from k up
abbrev pub first_from : (ℕ → Bool) → ℕ → ℕ → ℕ
first_from p k zero = k
first_from p k (suc n) = if p k then k else first_from p (suc k) n

-- the bytes whose numbers pass, the first byte having the number k; 0 for the others
abbrev pub masked_from : (ℕ → Bool) → ℕ → List ℕ → List ℕ
masked_from p k [] = []
masked_from p k (b ∷ bs) = (if p k then b else 0) ∷ masked_from p (suc k) bs

-- the operation of the bytes of an access that pass; its part is the lowest of them
abbrev pub op_of : Access → (ℕ → Bool) → Option Place → Op
op_of a p q =
    record {
      name = record { hart = a.hart; tag = a.tag; part = first_from p 0 a.extent.len };
      kind = a.kind;
      extent = a.extent;
      mask = mask_from p 0 a.extent.len;
      got = masked_from p 0 a.got;
      put = masked_from p 0 a.put;
      acquire = a.acquire;
      release = a.release;
      place = q;
    }

-- two bytes were performed at one place, or both were not
abbrev pub same_place : Option Place → Option Place → Bool
same_place None None = true
same_place None (Some q) = false
same_place (Some p) None = false
same_place (Some p) (Some q) = (p.time == q.time) && (p.message == q.message) && (p.insert == q.insert)

-- the operation of the bytes of an access that were performed at q, or were not performed, where f says where each was
abbrev pub part_at : Access → (ℕ → Option Place) → Option Place → Op
part_at a f q = op_of a (λ k. same_place (f k) q) q

-- one of the n numbers from 0 up passes
abbrev pub some_below : (ℕ → Bool) → ℕ → Bool
some_below p zero = false
some_below p (suc n) = some_below p n || p n

-- the operations of the first n bytes of an access: one for each place
abbrev pub parts_below : Access → (ℕ → Option Place) → ℕ → List Op
parts_below a f zero = []
parts_below a f (suc n) =
    if some_below (λ k. same_place (f k) (f n)) n then parts_below a f n
    else part_at a f (f n) ∷ parts_below a f n

-- the operations of an access, where f says where each of its bytes was performed
abbrev pub parts_of : Access → (ℕ → Option Place) → List Op
parts_of a f = parts_below a f a.extent.len
