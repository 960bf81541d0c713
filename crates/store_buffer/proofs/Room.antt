-- How many stores there are.
use Rattle.std.proofs.Common.{ℕ, suc, ◌≡◌, ◌≢◌, ◌+◌, ◌<◌, ◌≤◌, ◌==◌, nat_lt, Bool, true, false, List, [], ◌∷◌, length}
use Rattle.std.proofs.Common.{Option, None, Some, get_or, set, is_some, count_by, cond, refl, sym, ap, ◌∙◌, subst}
use Rattle.std.proofs.Common.{arith}
use Rattle.std.proofs.Common.{if◌then◌else◌}
use Rattle.std.proofs.lemmas.Bool.Decides.{nat_tests}
use Rattle.std.proofs.lemmas.List.{get_or-set_other}
use Rattle.std.proofs.lemmas.List.Sums.{sum_by-set, sum_by-cons}
use Rattle.key_tree.specs.Entries.{number_of, AreDistinct}
use Rattle.tandem_base.specs.declared.room.Took.TheVariants.{Yes, Full}
use Rattle.tandem_base.specs.Room.{took}
use Rattle.store_buffer.specs.declared.store.Store.{Store}
use Rattle.store_buffer.specs.Slots.{put_newest, newest_first, is_open_slot, HasTagAt}
use Rattle.store_buffer.specs.Stores.{open_stores}
use Rattle.store_buffer.proofs.Newest.{open_counted}
use Rattle.store_buffer.proofs.Slotted.{within}
use Rattle.store_buffer.proofs.Values.{values_in}

one_less : (slots : List (Option Store)) (i : ℕ) (s : Store) → get_or slots i None ≡ Some s
    → count_by is_some (set slots i None) + 1 ≡ count_by is_some slots
one_less slots i s e =
    let c = sum_by-set (λ (o : Option Store). cond (is_some o) 1 0) slots i None None (within slots i s e) in
    let one : ℕ = 1 in
    let o : cond (is_some (get_or slots i None)) one 0 ≡ one = ap (λ (o : Option Store). cond (is_some o) one 0) e in
    omega (arith, c, o)

itself : (n : ℕ) → (n == n) ≡ true
itself n = grind (arith, nat_tests)

another : (m n : ℕ) → m ≢ n → (m == n) ≡ false
another m n d = grind (arith, nat_tests, d)

-- there are no more tags than stores
pub tags_fit : (es : List (ℕ × ℕ)) (slots : List (Option Store)) → AreDistinct es
    → ((tag i : ℕ) → number_of es tag ≡ Some i → HasTagAt slots tag i) → length es ≤ count_by is_some slots
tags_fit [] slots d leads = omega arith
tags_fit (e ∷ es) slots d leads =
    let first = leads e.0 e.1 (ap (λ (b : Bool). if b then Some e.1 else number_of es e.0) (itself e.0)) in
    let rest = tags_fit es (set slots e.1 None) d.1 (λ tag i n. later first tag i n) in
    omega (arith, rest, one_less slots e.1 first.store first.there)
  where
    later : HasTagAt slots e.0 e.1 → (tag i : ℕ) → number_of es tag ≡ Some i → HasTagAt (set slots e.1 None) tag i
    later first tag i n =
        let away : e.0 ≢ tag = λ s. (
        let none : None ≡ Some i = sym d.0 ∙ ap (number_of es) s ∙ n in
        cc) in
        let l = leads tag i (ap (λ (b : Bool). if b then Some e.1 else number_of es tag) (another e.0 tag away) ∙ n) in
        let apart : i ≢ e.1 = λ s. (
        let same : Some l.store ≡ Some first.store = sym l.there
        ∙ subst (λ (x : ℕ). get_or slots x None ≡ Some first.store) (sym s) first.there in
        let store : l.store ≡ first.store = cc in
        away (sym first.is ∙ ap (λ (x : Store). x.tag) (sym store) ∙ l.is)) in
        record {
          store = l.store;
          there = get_or-set_other slots e.1 i None None apart ∙ l.there;
          is = l.is;
        }

put_length : (s : Store) (ts : List Store) → length (put_newest s ts) ≡ suc (length ts)
put_length s [] = refl
put_length s (t ∷ ts) = at (nat_lt t.tag s.tag) (put_length s ts)
  where
    at : (b : Bool) → length (put_newest s ts) ≡ suc (length ts)
        → length (cond b (s ∷ t ∷ ts) (t ∷ put_newest s ts)) ≡ suc (length (t ∷ ts))
    at true r = refl
    at false r = ap suc r

pub all_counted : (slots : List (Option Store)) → length (newest_first (values_in slots)) ≡ count_by is_some slots
all_counted [] = refl
all_counted (None ∷ slots) =
    let e = sum_by-cons (λ (o : Option Store). cond (is_some o) 1 0) None slots in
    omega (arith, e, all_counted slots)
all_counted (Some s ∷ slots) =
    let e = sum_by-cons (λ (o : Option Store). cond (is_some o) 1 0) (Some s) slots in
    omega (arith, e, put_length s (newest_first (values_in slots)), all_counted slots)

-- where each has an unperformed byte, there are as many as have one
pub swept_counted : (slots : List (Option Store))
    → open_stores (newest_first (values_in slots)) ≡ newest_first (values_in slots)
    → count_by is_some slots ≡ count_by is_open_slot slots
swept_counted slots e = sym (all_counted slots) ∙ ap length (sym e) ∙ open_counted slots

pub took_full : (held capacity : ℕ) → held ≡ capacity → Full capacity ≡ took held capacity
took_full held capacity e =
    let test : (held == capacity) ≡ true = grind (arith, nat_tests, e) in
    sym (ap (λ (b : Bool). cond b (Full capacity) Yes) test)

pub took_yes : (held capacity : ℕ) → held ≢ capacity → Yes ≡ took held capacity
took_yes held capacity d =
    let test : (held == capacity) ≡ false = grind (arith, nat_tests, d) in
    sym (ap (λ (b : Bool). cond b (Full capacity) Yes) test)

-- a loop's measure falls
pub fewer : (b : Bool) (m n : ℕ) → (b ≡ true → m + 1 ≡ n) → m ≤ n → m + cond b 1 0 < n + 1
fewer true m n e l = omega (arith, e refl)
fewer false m n e l = omega arith
