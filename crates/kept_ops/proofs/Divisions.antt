-- Cells, and what is the same at all their bytes.
use Rattle.std.proofs.Common.{ℕ, zero, suc, ◌≡◌, ◌+◌, ◌-◌, ◌*◌, ◌/◌, ◌%◌, ◌^◌, ◌<◌, ◌≤◌, ◌==◌, ◌&&◌}
use Rattle.std.proofs.Common.{Bool, true, false, Option, None, Some, cond, refl, sym, ap, subst}
use Rattle.std.proofs.Common.{◌∙◌, arith}
use Rattle.std.proofs.lemmas.Bool.Decides.{nat_tests}
use Rattle.tandem_base.specs.declared.names.Origin.{Origin}
use Rattle.tandem_base.specs.Extents.{is_among}
use Rattle.kept_ops.specs.declared.byte_keys.ByteKeys.{ByteKeys}
use Rattle.kept_ops.specs.declared.division.Division.{Division}
use Rattle.kept_ops.specs.declared.division.Division.TheVariants.{Whole, Halves, Bytes}
use Rattle.kept_ops.specs.declared.operation.KeptOp.{KeptOp}
use Rattle.rvwmo_model.specs.Order.{kind_loads, kind_stores}
use Rattle.rvwmo_model.specs.Tests.{same_origin}
use Rattle.tandem_base.specs.Places.{comes_before}
use Rattle.kept_ops.specs.Divisions.{cell_size, IsEven}
use Rattle.kept_ops.specs.Doublewords.{op_at, keys_with, other_key, other_key_beside, later_key}
use Rattle.kept_ops.specs.Operations.{holds_byte, source_at, loads_at, stores_at}

-- ---- where cells are

pub cell_below : (d : Division) (k : ℕ) → k < 8 → k / cell_size d < 8 / cell_size d
cell_below Whole k l = omega (arith, l)
cell_below Halves k l = omega (arith, l)
cell_below Bytes k l = omega (arith, l)

-- a byte is in the cell that begins at the first byte of its cell
pub in_cell : (d : Division) (n k : ℕ)
    → (n * 8 + k / cell_size d * cell_size d) / cell_size d ≡ (n * 8 + k) / cell_size d
in_cell Whole n k = omega arith
in_cell Halves n k = omega arith
in_cell Bytes n k = omega arith

-- each cell has a byte
pub first_byte : (d : Division) (c : ℕ) → c < 8 / cell_size d
    → (k : ℕ) × (k < 8) × (k / cell_size d ≡ c)
first_byte Whole c l = (0, omega arith, omega (arith, l))
first_byte Halves c l = (c * 4, omega (arith, l), omega arith)
first_byte Bytes c l = (c, omega (arith, l), omega arith)

-- the bytes of a finer cell are those of a cell
finer_cell : (d e : Division) → cell_size d ≤ cell_size e → (x y : ℕ) → x / cell_size d ≡ y / cell_size d
    → x / cell_size e ≡ y / cell_size e
finer_cell Whole Whole l x y s = s
finer_cell Whole Halves l x y s = absurd (omega (arith, l))
finer_cell Whole Bytes l x y s = absurd (omega (arith, l))
finer_cell Halves Whole l x y s = omega (arith, s)
finer_cell Halves Halves l x y s = s
finer_cell Halves Bytes l x y s = absurd (omega (arith, l))
finer_cell Bytes Whole l x y s = ap (λ (n : ℕ). n / 8) (one x y s)
  where
    one : (x y : ℕ) → x / 1 ≡ y / 1 → x ≡ y
    one x y s = omega (arith, s)
finer_cell Bytes Halves l x y s = ap (λ (n : ℕ). n / 4) (one x y s)
  where
    one : (x y : ℕ) → x / 1 ≡ y / 1 → x ≡ y
    one x y s = omega (arith, s)
finer_cell Bytes Bytes l x y s = s

pub even_finer : (d e : Division) (o : KeptOp) → cell_size d ≤ cell_size e → IsEven e o → IsEven d o
even_finer d e o l h = record {
  holds = λ x y s. h.holds x y (finer_cell d e l x y s);
  source = λ x y s. h.source x y (finer_cell d e l x y s);
}

-- ---- what a cell's bytes have in common

-- marks, by whether the operation stores and loads, and by the key of the load from elsewhere
abbrev keys_by : (ℕ → Option KeptOp) → ℕ → KeptOp → ByteKeys → Bool → Bool → Option ℕ → ByteKeys
keys_by at key o keys stores loads other = record {
  store = cond stores (later_key at keys.store key o) keys.store;
  load = cond loads (later_key at keys.load key o) keys.load;
  other = cond loads other keys.other;
}

-- the marks after one operation more are the same at all bytes of a cell
pub with_even : (at : ℕ → Option KeptOp) (d : Division) (x y key : ℕ) (o : KeptOp) (keys : ByteKeys)
    → x / cell_size d ≡ y / cell_size d → IsEven d o
    → ((last : KeptOp) → op_at at keys.load ≡ Some last → IsEven d last)
    → keys_with at x key o keys ≡ keys_with at y key o keys
unfolding keys_with
with_even at d x y key o keys s e h =
    ap (λ (b : Bool). keys_by at key o keys (kind_stores o.kind && b) (kind_loads o.kind && b)
    (other_key at x keys.load keys.other key o)) (e.holds x y s)
    ∙ ap (λ (m : Option ℕ). keys_by at key o keys (stores_at y o) (loads_at y o) m) (other_even keys.load h)
  where
    beside : (m : Option KeptOp) (held : ℕ) → ((last : KeptOp) → m ≡ Some last → IsEven d last)
        → other_key_beside at x m held keys.other key o ≡ other_key_beside at y m held keys.other key o
    beside None held h = refl
    beside (Some last) held h =
        let a : source_at x last ≡ source_at y last = (h last refl).source x y s in
        ap (λ (p : Option Origin). cond (same_origin p (source_at x o)) keys.other
        (cond (comes_before last.place o.place) (Some held) (later_key at keys.other key o))) a
        ∙ ap (λ (p : Option Origin). cond (same_origin (source_at y last) p) keys.other
        (cond (comes_before last.place o.place) (Some held) (later_key at keys.other key o))) (e.source x y s)

    other_even : (load : Option ℕ) → ((last : KeptOp) → op_at at load ≡ Some last → IsEven d last)
        → other_key at x load keys.other key o ≡ other_key at y load keys.other key o
    other_even None h = refl
    other_even (Some held) h = beside (at held) held h

-- ---- which bytes are held

from_among : (a n x : ℕ) → is_among a n x ≡ true → (a ≤ x) × (x < a + n)
from_among a n x e = grind (arith, nat_tests, e)

-- a bit of the mask that has them all
bit_of_eight : (k : ℕ) → k < 8 → ((255 / 2 ^ k) % 2 == 1) ≡ true
bit_of_eight zero l = refl
bit_of_eight (suc zero) l = refl
bit_of_eight (suc (suc zero)) l = refl
bit_of_eight (suc (suc (suc zero))) l = refl
bit_of_eight (suc (suc (suc (suc zero)))) l = refl
bit_of_eight (suc (suc (suc (suc (suc zero))))) l = refl
bit_of_eight (suc (suc (suc (suc (suc (suc zero)))))) l = refl
bit_of_eight (suc (suc (suc (suc (suc (suc (suc zero))))))) l = refl
bit_of_eight (suc (suc (suc (suc (suc (suc (suc (suc k)))))))) l = absurd (omega (arith, l))

bit_of_four : (k : ℕ) → k < 4 → ((15 / 2 ^ k) % 2 == 1) ≡ true
bit_of_four zero l = refl
bit_of_four (suc zero) l = refl
bit_of_four (suc (suc zero)) l = refl
bit_of_four (suc (suc (suc zero))) l = refl
bit_of_four (suc (suc (suc (suc k)))) l = absurd (omega (arith, l))

all_held : (o : KeptOp) → ((k : ℕ) → k < o.extent.len → ((o.mask / 2 ^ k) % 2 == 1) ≡ true) → (x : ℕ)
    → holds_byte x o ≡ is_among o.extent.addr o.extent.len x
all_held o h x = by (is_among o.extent.addr o.extent.len x) refl
  where
    by : (b : Bool) → is_among o.extent.addr o.extent.len x ≡ b
        → (b && ((o.mask / 2 ^ (x - o.extent.addr)) % 2 == 1)) ≡ b
    by false e = refl
    by true e =
        let bounds = from_among o.extent.addr o.extent.len x e in
        h (x - o.extent.addr) (omega (arith, bounds.0, bounds.1))

pub holds_all_eight : (o : KeptOp) → o.mask ≡ 255 → (x : ℕ) → holds_byte x o ≡ is_among o.extent.addr o.extent.len x
holds_all_eight o e = all_held o (λ k l. subst (λ (m : ℕ). ((m / 2 ^ k) % 2 == 1) ≡ true) (sym e)
    (bit_of_eight k (omega (arith, l, o.extent.sized.1))))

pub holds_all_four : (o : KeptOp) → o.extent.len ≡ 4 → o.mask ≡ 15 → (x : ℕ)
    → holds_byte x o ≡ is_among o.extent.addr o.extent.len x
holds_all_four o n e = all_held o (λ k l. subst (λ (m : ℕ). ((m / 2 ^ k) % 2 == 1) ≡ true) (sym e)
    (bit_of_four k (omega (arith, l, n))))
