-- There are at most as many lines as Inserts that wait.
use Rattle.std.proofs.Common.{ℕ, ◌≡◌, ◌≢◌, ◌+◌, ◌<◌, ◌≤◌, ◌⊎◌, inl, inr, Bool, List, [], ◌∷◌, length}
use Rattle.std.proofs.Common.{Option, None, Some, get_or, set, is_some, count_by, cond, sym, ap, ◌∙◌, subst, arith}
use Rattle.std.proofs.Common.{if◌then◌else◌}
use Rattle.std.proofs.lemmas.List.{get_or-set_other, get_or_past}
use Rattle.std.proofs.lemmas.List.Sums.{sum_by-set}
use Rattle.slab.specs.Slab.{Slab, get}
use Rattle.key_tree.specs.Entries.{KeyedEntries, number_at, number_of, AreDistinct}
use Rattle.merge_buffer.specs.declared.waiting.Part.{Part}
use Rattle.merge_buffer.specs.declared.waiting.Waiting.{Waiting}
use Rattle.merge_buffer.specs.Parts.{line_of, AllBelow, Falls, AllOn}
use Rattle.merge_buffer.specs.Chains.{IsChain, AreChained}
use Rattle.merge_buffer.proofs.Equality.{same_line, other_line}
use Rattle.merge_buffer.proofs.Walks.{chain_without}

-- under the key an entry of that line is there
pub record Leads (slots : List (Option Waiting)) (line i : ℕ) : Type 0 where
  pub entry : Waiting
  pub there : get_or slots i None ≡ Some entry
  pub line_is : line_of entry.part ≡ line

within : (slots : List (Option Waiting)) (i : ℕ) (w : Waiting) → get_or slots i None ≡ Some w → i < length slots
within slots i w e = elim (cases i (length slots)) [
  | inl l ↦ l
  | inr g ↦
      let none : None ≡ Some w = sym (get_or_past slots i None g) ∙ e in
      cc
]
  where
    cases : (a b : ℕ) → (a < b) ⊎ (b ≤ a)
    cases a b = grind arith

one_less : (slots : List (Option Waiting)) (i : ℕ) (w : Waiting) → get_or slots i None ≡ Some w
    → count_by is_some (set slots i None) + 1 ≡ count_by is_some slots
one_less slots i w e =
    let s = sum_by-set (λ (o : Option Waiting). cond (is_some o) 1 0) slots i None None (within slots i w e) in
    let one : ℕ = 1 in
    let o : cond (is_some (get_or slots i None)) one 0 ≡ one = ap (λ (o : Option Waiting). cond (is_some o) one 0) e in
    omega (arith, s, o)

pub lines_fit : (es : List (ℕ × ℕ)) (slots : List (Option Waiting)) → AreDistinct es
    → ((line i : ℕ) → number_of es line ≡ Some i → Leads slots line i) → length es ≤ count_by is_some slots
lines_fit [] slots d leads = omega arith
lines_fit (e ∷ es) slots d leads =
    let first = leads e.0 e.1 (ap (λ (b : Bool). if b then Some e.1 else number_of es e.0) (same_line e.0)) in
    let rest = lines_fit es (set slots e.1 None) d.1 (λ line i n. later first line i n) in
    omega (arith, rest, one_less slots e.1 first.entry first.there)
  where
    later : Leads slots e.0 e.1 → (line i : ℕ) → number_of es line ≡ Some i → Leads (set slots e.1 None) line i
    later first line i n =
        let away : e.0 ≢ line = λ s. (
        let none : None ≡ Some i = sym d.0 ∙ ap (number_of es) s ∙ n in
        cc) in
        let l = leads line i
        (ap (λ (b : Bool). if b then Some e.1 else number_of es line) (other_line e.0 line away) ∙ n) in
        let apart : i ≢ e.1 = λ s. (
        let same : Some l.entry ≡ Some first.entry = sym l.there
        ∙ subst (λ (x : ℕ). get_or slots x None ≡ Some first.entry) (sym s) first.there in
        let entry : l.entry ≡ first.entry = cc in
        away (sym first.line_is ∙ ap (λ (x : Waiting). line_of x.part) (sym entry) ∙ l.line_is)) in
        record {
          entry = l.entry;
          there = get_or-set_other slots e.1 i None None apart ∙ l.there;
          line_is = l.line_is;
        }

pub newest_leads : (waiting : Slab Waiting) (newest : KeyedEntries) → AreChained waiting newest
    → (line i : ℕ) → number_at newest line ≡ Some i → Leads waiting.slots line i
newest_leads waiting newest s line i n =
    let c = s.chains line in
    by c.parts c.chain c.on
  where
    by : (xs : List Part) → IsChain (get waiting) (number_at newest line) xs → AllOn line xs
        → Leads waiting.slots line i
    by [] c o =
        let none : None ≡ Some i = sym c ∙ n in
        cc
    by (p ∷ xs) c o =
        let same : Some c.0 ≡ Some i = sym c.2 ∙ n in
        let at : c.0 ≡ i = cc in
        record {
          entry = c.1;
          there = subst (λ (x : ℕ). get waiting x ≡ Some c.1) at c.3;
          line_is = ap line_of c.4 ∙ o.0;
        }

-- a chain is no longer than the entries are
pub chain_fits : (slots : List (Option Waiting)) (head : Option ℕ) (ps : List Part)
    → IsChain (λ i. get_or slots i None) head ps → Falls ps → length ps ≤ count_by is_some slots
chain_fits slots head [] c f = omega arith
chain_fits slots head (p ∷ ps) c f =
    let below : AllBelow c.1.part.number ps = subst (λ (x : Part). AllBelow x.number ps) (sym c.4) f.0 in
    let rest = chain_without (λ i. get_or slots i None) (λ i. get_or (set slots c.0 None) i None) c.0 c.1 c.1.before
    ps c.3
    (λ k d. get_or-set_other slots c.0 k None None d) below c.5 in
    let less = chain_fits (set slots c.0 None) c.1.before ps rest f.1 in
    omega (arith, less, one_less slots c.0 c.1 c.3)
