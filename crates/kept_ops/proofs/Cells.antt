-- The marks of the cells of a doubleword.
use Rattle.std.proofs.Common.{ℕ, ◌≡◌, ◌+◌, ◌*◌, ◌/◌, ◌<◌, ◌≤◌, ◌≢◌, ◌⊎◌, inl, inr, true, Option}
use Rattle.std.proofs.Common.{Some, sym, ap, subst, ◌∙◌, arith}
use Rattle.slab.specs.Slab.{Slab, get}
use Rattle.kept_ops.specs.declared.byte_keys.ByteKeys.{ByteKeys}
use Rattle.kept_ops.specs.declared.division.Division.{Division}
use Rattle.kept_ops.specs.declared.doubleword.Doubleword.{Doubleword}
use Rattle.kept_ops.specs.declared.operation.KeptOp.{KeptOp}
use Rattle.kept_ops.specs.Divisions.{cell_size, IsEven}
use Rattle.kept_ops.specs.Doublewords.{cell_keys, has_a_key, HasMark, keys_in, keys_with, op_at}
use Rattle.kept_ops.specs.Words.{AllMarked, AllMarkedBut}
use Rattle.kept_ops.proofs.Divisions.{cell_below, even_finer, first_byte, in_cell, with_even}

-- the loads that are marked at cells did the same at all bytes of a cell
abbrev pub AreEvenLoads : (ℕ → Option KeptOp) → Doubleword → Division → ℕ → Type 0
AreEvenLoads at word d count =
    (c : ℕ) → c < count → (o : KeptOp) → op_at at (cell_keys word c).load ≡ Some o → IsEven d o

one_later : (j i : ℕ) → j < i + 1 → (j < i) ⊎ (j ≡ i)
one_later j i l = grind (arith, l)

-- one cell more
pub loads_more : (at : ℕ → Option KeptOp) (word : Doubleword) (d here finer : Division) (i : ℕ)
    → cell_size finer ≤ cell_size d → cell_size finer ≤ cell_size here
    → ((o : KeptOp) → op_at at (cell_keys word i).load ≡ Some o → IsEven here o)
    → AreEvenLoads at word d i → AreEvenLoads at word finer (i + 1)
loads_more at word d here finer i l m h all = λ j k o e. elim (one_later j i k) [
  | inl below ↦ even_finer finer d o l (all j below o e)
  | inr same ↦ even_finer finer here o m
      (h o (subst (λ (n : ℕ). op_at at (cell_keys word n).load ≡ Some o) same e))
]

pub loads_all : (at : ℕ → Option KeptOp) (word : Doubleword) (d : Division) (i n m : ℕ) → m ≡ n → m ≤ i
    → AreEvenLoads at word d i → AreEvenLoads at word d n
loads_all at word d i n m e l all = λ j k o f. all j (omega (arith, e, l, k)) o f

-- what is marked at each cell is marked at each byte: of the doubleword as it was, as it is once it is divided, and as
-- it is then
pub marked : (at : ℕ → Option KeptOp) (was mid new : Doubleword) (d common : Division) (key : ℕ) (o : KeptOp)
    → IsEven d o → cell_size common ≤ cell_size d → AreEvenLoads at was common (8 / cell_size was.division)
    → mid.number ≡ was.number → mid.division ≡ common → ((k : ℕ) → k < 8 → keys_in mid k ≡ keys_in was k)
    → new.division ≡ mid.division
    → ((c : ℕ) → c < 8 / cell_size mid.division
    → cell_keys new c ≡ keys_with at (mid.number * 8 + c * cell_size mid.division) key o (cell_keys mid c))
    → (k : ℕ) → k < 8 → keys_in new k ≡ keys_with at (was.number * 8 + k) key o (keys_in was k)
marked at was mid new d common key o even finer loads number division same stays cells k l =
    ap (λ (e : Division). cell_keys new (k / cell_size e)) stays
    ∙ cells (k / cell_size mid.division) (cell_below mid.division k l)
    ∙ with_even at mid.division (mid.number * 8 + k / cell_size mid.division * cell_size mid.division)
    (mid.number * 8 + k) key o (keys_in mid k) (in_cell mid.division mid.number k) op_even load_even
    ∙ ap (λ (keys : ByteKeys). keys_with at (mid.number * 8 + k) key o keys) (same k l)
    ∙ ap (λ (n : ℕ). keys_with at (n * 8 + k) key o (keys_in was k)) number
  where
    op_even : IsEven mid.division o
    op_even = subst (λ (e : Division). IsEven e o) (sym division) (even_finer common d o finer even)

    load_even : (last : KeptOp) → op_at at (keys_in mid k).load ≡ Some last → IsEven mid.division last
    load_even last e = subst (λ (e : Division). IsEven e last) (sym division)
        (loads (k / cell_size was.division) (cell_below was.division k l) last
        (subst (λ (keys : ByteKeys). op_at at keys.load ≡ Some last) (same k l) e))

-- a cell with a mark has a byte with one
pub has_mark : (word : Doubleword) (c count : ℕ) → count ≡ 8 / cell_size word.division → c < count
    → has_a_key (cell_keys word c) ≡ true → HasMark word
has_mark word c count e l h =
    let b = first_byte word.division c (subst (λ (n : ℕ). c < n) e l) in
    (b.0, b.1, subst (λ (j : ℕ). has_a_key (cell_keys word j) ≡ true) (sym b.2) h)

same_or_not : (m n : ℕ) → (m ≡ n) ⊎ (m ≢ n)
same_or_not m n = grind arith

-- where the one that need not have a mark has one, all have
pub all_marked : (words : Slab Doubleword) (at : ℕ) (here : Doubleword) → AllMarkedBut words at
    → get words at ≡ Some here → HasMark here → AllMarked words
all_marked words at here all e h = λ i word f. elim (same_or_not i at) [
  | inl same ↦
      let one : Some here ≡ Some word = sym e ∙ subst (λ (j : ℕ). get words j ≡ Some word) same f in
      let it : here ≡ word = cc in
      subst (λ (w : Doubleword). HasMark w) it h
  | inr d ↦ all i word d f
]
