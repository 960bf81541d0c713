-- What waits on each line, as it changes.
use Rattle.std.proofs.Common.{ℕ, zero, suc, ◌≡◌, ◌≢◌, ◌+◌, ◌<◌, ◌≤◌, ◌==◌, inl, inr, Bool, List, []}
use Rattle.std.proofs.Common.{◌∷◌, length, Option, None, Some, refl, sym, ap, ◌∙◌, subst, arith, if◌then◌else◌}
use Rattle.std.proofs.lemmas.Bool.{cases_eq}
use Rattle.slab.specs.Slab.{Slab, get, slab_len}
use Rattle.key_tree.specs.Entries.{KeyedEntries, number_at, number_of, put, with_key_taken}
use Rattle.merge_buffer.specs.declared.waiting.Part.{Part}
use Rattle.merge_buffer.specs.declared.waiting.Waiting.{Waiting}
use Rattle.merge_buffer.specs.Parts.{line_of, AllBelow, IsWithinLine}
use Rattle.merge_buffer.specs.Chains.{IsChain, IsChained, AreChained, chain_of, parts_on}
use Rattle.merge_buffer.proofs.Room.{chain_fits}
use Rattle.merge_buffer.proofs.Equality.{same_line, other_line}
use Rattle.merge_buffer.proofs.Walks.{chain_kept, chain_apart}

-- the list of a chain
pub chain_of_is : (at : ℕ → Option Waiting) (n : ℕ) (head : Option ℕ) (ps : List Part) → IsChain at head ps
    → length ps ≤ n → chain_of n at head ≡ ps
chain_of_is at zero head [] c l = refl
chain_of_is at (suc n) head [] c l = ap (chain_of (suc n) at) c
chain_of_is at zero head (p ∷ ps) c l = absurd (omega (arith, l))
chain_of_is at (suc n) head (p ∷ ps) c l =
    let rest = chain_of_is at n c.1.before ps c.5 (omega (arith, l)) in
    ap (chain_of (suc n) at) c.2
    ∙ ap (λ (o : Option Waiting). elim o [ Some w ↦ w.part ∷ chain_of n at w.before | None ↦ [] ]) c.3
    ∙ ap (λ (x : Part). x ∷ chain_of n at c.1.before) c.4 ∙ ap (λ (xs : List Part). p ∷ xs) rest

pub parts_are : (n : ℕ) (waiting : Slab Waiting) (head : Option ℕ) (line : ℕ) (c : IsChained (get waiting) head line)
    → slab_len waiting ≤ n → chain_of n (get waiting) head ≡ c.parts
parts_are n waiting head line c l =
    let fits = chain_fits waiting.slots head c.parts c.chain c.falls in
    chain_of_is (get waiting) n head c.parts c.chain (omega (arith, fits))

-- one more
module _ (n : ℕ) (old new : Slab Waiting) (lines heads : KeyedEntries) (p : Part) (f : ℕ)
    (s : AreChained old lines) (vacant : get old f ≡ None)
    (there : get new f ≡ Some (record { part = p; before = number_at lines (line_of p) }))
    (others : (i : ℕ) → i ≢ f → get new i ≡ get old i) (len : slab_len new ≡ slab_len old + 1)
    (numbers : (q : ℕ) → number_at heads q ≡ put (line_of p) f lines.entries q)
    (room : slab_len old < n)
    (below : AllBelow p.number (parts_on n old lines (line_of p))) (within : IsWithinLine p.piece) where
  keep : (i : ℕ) (w : Waiting) → get old i ≡ Some w → get new i ≡ Some w
  keep i w e = elim (cases_eq i f) [
    | inl q ↦
        let none : None ≡ Some w = sym vacant ∙ subst (λ (x : ℕ). get old x ≡ Some w) q e in
        cc
    | inr d ↦ others i d ∙ e
  ]

  mine : IsChained (get old) (number_at lines (line_of p)) (line_of p)
  mine = s.chains (line_of p)

  mine_is : parts_on n old lines (line_of p) ≡ mine.parts
  mine_is = parts_are n old (number_at lines (line_of p)) (line_of p) mine (omega arith)

  head_mine : number_at heads (line_of p) ≡ Some f
  head_mine = numbers (line_of p)
      ∙ ap (λ (b : Bool). if b then Some f else number_of lines.entries (line_of p)) (same_line (line_of p))

  head_other : (line : ℕ) → line ≢ line_of p → number_at heads line ≡ number_at lines line
  head_other line d = numbers line
      ∙ ap (λ (b : Bool). if b then Some f else number_of lines.entries line) (other_line line (line_of p) d)

  grown : IsChained (get new) (number_at heads (line_of p)) (line_of p)
  grown = record {
    parts = p ∷ mine.parts;
    chain = (
      f,
      record { part = p; before = number_at lines (line_of p) },
      head_mine,
      there,
      refl,
      chain_kept (get old) (get new) (number_at lines (line_of p)) mine.parts keep mine.chain,
    );
    falls = (subst (λ (xs : List Part). AllBelow p.number xs) mine_is below, mine.falls);
    on = (refl, within, mine.on);
  }

  same : (line : ℕ) → line ≢ line_of p → IsChained (get new) (number_at heads line) line
  same line d =
      let c = s.chains line in
      record {
        parts = c.parts;
        chain = subst (λ (o : Option ℕ). IsChain (get new) o c.parts) (sym (head_other line d))
            (chain_kept (get old) (get new) (number_at lines line) c.parts keep c.chain);
        falls = c.falls;
        on = c.on;
      }

  pub chained_more : AreChained new heads
  chained_more = record {
    chains = λ line. elim (cases_eq line (line_of p)) [
      | inl e ↦ subst (λ (x : ℕ). IsChained (get new) (number_at heads x) x) (sym e) grown
      | inr d ↦ same line d
    ];
  }

  pub parts_more : (line : ℕ) → parts_on n new heads line
      ≡ (if line == line_of p then p ∷ parts_on n old lines line else parts_on n old lines line)
  unfolding grown same
  parts_more line = elim (cases_eq line (line_of p)) [
    | inl e ↦ subst
        (λ (x : ℕ). parts_on n new heads x
        ≡ (if x == line_of p then p ∷ parts_on n old lines x else parts_on n old lines x)) (sym e)
        (parts_are n new (number_at heads (line_of p)) (line_of p) grown (omega (arith, len))
        ∙ ap (λ (xs : List Part). p ∷ xs) (sym mine_is)
        ∙ ap (λ (b : Bool). if b then p ∷ parts_on n old lines (line_of p) else parts_on n old lines (line_of p))
        (sym (same_line (line_of p))))
    | inr d ↦
        parts_are n new (number_at heads line) line (same line d) (omega (arith, len))
        ∙ sym (parts_are n old (number_at lines line) line (s.chains line) (omega arith))
        ∙ ap (λ (b : Bool). if b then p ∷ parts_on n old lines line else parts_on n old lines line)
        (sym (other_line line (line_of p) d))
  ]

-- those of a line go
module _ (n : ℕ) (old new : Slab Waiting) (lines heads : KeyedEntries) (line : ℕ) (s : AreChained old lines)
    (len : slab_len new ≤ slab_len old) (room : slab_len old ≤ n)
    (keep : (i : ℕ) (w : Waiting) → get old i ≡ Some w → line_of w.part ≢ line → get new i ≡ Some w)
    (numbers : (q : ℕ) → number_at heads q ≡ with_key_taken line lines.entries q) where
  head_gone : number_at heads line ≡ None
  head_gone = numbers line
      ∙ ap (λ (b : Bool). if b then None else number_of lines.entries line) (same_line line)

  head_stays : (q : ℕ) → q ≢ line → number_at heads q ≡ number_at lines q
  head_stays q d = numbers q
      ∙ ap (λ (b : Bool). if b then None else number_of lines.entries q) (other_line q line d)

  empty : IsChained (get new) (number_at heads line) line
  empty = record { parts = []; chain = head_gone; falls = tt; on = tt }

  stays : (q : ℕ) → q ≢ line → IsChained (get new) (number_at heads q) q
  stays q d =
      let c = s.chains q in
      record {
        parts = c.parts;
        chain = subst (λ (o : Option ℕ). IsChain (get new) o c.parts) (sym (head_stays q d))
            (chain_apart (get old) (get new) (number_at lines q) c.parts q line d keep c.on c.chain);
        falls = c.falls;
        on = c.on;
      }

  pub chained_less : AreChained new heads
  chained_less = record {
    chains = λ q. elim (cases_eq q line) [
      | inl e ↦ subst (λ (x : ℕ). IsChained (get new) (number_at heads x) x) (sym e) empty
      | inr d ↦ stays q d
    ];
  }

  pub parts_less : (q : ℕ) → parts_on n new heads q ≡ (if q == line then [] else parts_on n old lines q)
  unfolding empty stays
  parts_less q = elim (cases_eq q line) [
    | inl e ↦ subst (λ (x : ℕ). parts_on n new heads x ≡ (if x == line then [] else parts_on n old lines x)) (sym e)
        (parts_are n new (number_at heads line) line empty (omega (arith, len))
        ∙ ap (λ (b : Bool). if b then [] else parts_on n old lines line) (sym (same_line line)))
    | inr d ↦
        parts_are n new (number_at heads q) q (stays q d) (omega (arith, len))
        ∙ sym (parts_are n old (number_at lines q) q (s.chains q) room)
        ∙ ap (λ (b : Bool). if b then [] else parts_on n old lines q) (sym (other_line q line d))
  ]
