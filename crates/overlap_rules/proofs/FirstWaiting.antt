-- Which store of a list waits below a tag at an extent.
use Rattle.std.proofs.Common.{ℕ, zero, suc, ◌<◌, ◌≤◌, ◌≡◌, ◌≢◌, ◌⊎◌, ◌==◌, inl, inr, Bool, true}
use Rattle.std.proofs.Common.{false, cond, List, [], ◌∷◌, find, Option, Some, None, refl, sym, ap, subst, ◌∙◌, arith}
use Rattle.std.proofs.Common.{if◌then◌else◌}
use Rattle.std.proofs.lemmas.Bool.{both_ways}
use Rattle.std.proofs.lemmas.Bool.Decides.{nat_tests}
use Rattle.tandem_base.specs.FirstFault.{◌or_else◌}
use Rattle.store_buffer.specs.declared.store.Store.{Store}
use Rattle.store_buffer.specs.Searches.{lowest_below}
use Rattle.store_buffer.specs.Stores.{AllTagged, store_of_tag}
use Rattle.store_buffer.specs.Waiting.{AreRetired}
use Rattle.store_buffer.proofs.Finding.{found_below}

-- ---- the store of a tag

same_number : (n : ℕ) → (n == n) ≡ true
same_number n = grind (arith, nat_tests)

other_number : (m n : ℕ) → m ≢ n → (m == n) ≡ false
other_number m n d = grind (arith, nat_tests)

-- a store that is found by its tag has it
pub tag_of : (tag : ℕ) (ss : List Store) (s : Store) → store_of_tag tag ss ≡ Some s → s.tag ≡ tag
tag_of tag [] s e = absurd (cc)
tag_of tag (z ∷ zs) s e = at (z.tag == tag) refl e (λ f. tag_of tag zs s f)
  where
    at : (c : Bool) → (z.tag == tag) ≡ c → cond c (Some z) (store_of_tag tag zs) ≡ Some s
        → (store_of_tag tag zs ≡ Some s → s.tag ≡ tag) → s.tag ≡ tag
    at true q f rec =
        let same : z ≡ s = cc in
        let n : z.tag ≡ tag = grind (arith, nat_tests, q) in
        sym (ap (λ (u : Store). u.tag) same) ∙ n
    at false q f rec = rec f

-- and is below a bound of all tags
pub tagged_below : (bound tag : ℕ) (ss : List Store) (s : Store) → AllTagged bound ss → store_of_tag tag ss ≡ Some s
    → tag < bound
tagged_below bound tag [] s a e = absurd (cc)
tagged_below bound tag (z ∷ zs) s a e = at (z.tag == tag) refl e (λ f. tagged_below bound tag zs s a.1 f)
  where
    at : (c : Bool) → (z.tag == tag) ≡ c → cond c (Some z) (store_of_tag tag zs) ≡ Some s
        → (store_of_tag tag zs ≡ Some s → tag < bound) → tag < bound
    at true q f rec =
        let n : z.tag ≡ tag = grind (arith, nat_tests, q) in
        let m : z.tag < bound = a.0 in
        omega (arith, m, n)
    at false q f rec = rec f

-- what a search finds is the store of its tag
pub found_of_tag : (p : Store → Bool) (ss : List Store) (s : Store) → AreRetired ss → find p ss ≡ Some s
    → store_of_tag s.tag ss ≡ Some s
found_of_tag p [] s a e = absurd (cc)
found_of_tag p (z ∷ zs) s a e = at (p z) refl e (λ f. found_of_tag p zs s a.2 f)
  where
    at : (c : Bool) → p z ≡ c → cond c (Some z) (find p zs) ≡ Some s
        → (find p zs ≡ Some s → store_of_tag s.tag zs ≡ Some s)
        → cond (z.tag == s.tag) (Some z) (store_of_tag s.tag zs) ≡ Some s
    at true q f rec =
        let same : z ≡ s = cc in
        ap (λ (c : Bool). cond c (Some z) (store_of_tag s.tag zs))
        (subst (λ (u : Store). (z.tag == u.tag) ≡ true) same (same_number z.tag)) ∙ f
    at false q f rec =
        let l : s.tag < z.tag = found_below p z.tag zs s a.1 f in
        let d : z.tag ≢ s.tag = λ g. absurd (omega (arith, l, g)) in
        ap (λ (c : Bool). cond c (Some z) (store_of_tag s.tag zs)) (other_number z.tag s.tag d) ∙ rec f

-- where the store of a tag passes, a search finds one of no lesser tag
pub finds_newer : (p : Store → Bool) (tag : ℕ) (ss : List Store) (u : Store) → AreRetired ss
    → store_of_tag tag ss ≡ Some u → p u ≡ true → (s : Store) × (find p ss ≡ Some s) × (tag ≤ s.tag)
finds_newer p tag [] u a e f = absurd (cc)
finds_newer p tag (z ∷ zs) u a e f =
    at (p z) refl (z.tag == tag) refl e (λ g. finds_newer p tag zs u a.2 g f)
  where
    at : (c : Bool) → p z ≡ c → (d : Bool) → (z.tag == tag) ≡ d → cond d (Some z) (store_of_tag tag zs) ≡ Some u
        → (store_of_tag tag zs ≡ Some u → (s : Store) × (find p zs ≡ Some s) × (tag ≤ s.tag))
        → (s : Store) × (cond c (Some z) (find p zs) ≡ Some s) × (tag ≤ s.tag)
    at true q true r g rec = (z, refl, (let n : z.tag ≡ tag = grind (arith, nat_tests, r) in omega (arith, n)))
    at true q false r g rec =
        let l : tag < z.tag = tagged_below z.tag tag zs u a.1 g in
        (z, refl, omega (arith, l))
    at false q true r g rec =
        let same : z ≡ u = cc in
        absurd (both_ways (p z) q (subst (λ (s : Store). p s ≡ true) (sym same) f))
    at false q false r g rec = rec g

-- ---- the lowest number that passes

none_below : (p : ℕ → Bool) (n : ℕ) → ((j : ℕ) → j < n → p j ≡ false) → lowest_below p n ≡ None
none_below p zero h = refl
none_below p (suc n) h =
    ap (λ (o : Option ℕ). o or_else (if p n then Some n else None)) (none_below p n (λ j l. h j (omega (arith, l))))
    ∙ ap (λ (b : Bool). if b then Some n else None) (h n (omega arith))

pub lowest_is : (p : ℕ → Bool) (n k : ℕ) → k < n → p k ≡ true → ((j : ℕ) → p j ≡ true → k ≤ j)
    → lowest_below p n ≡ Some k
lowest_is p zero k l e least = absurd (omega (arith, l))
lowest_is p (suc n) k l e least = elim (apart k n) [
  | inl same ↦ subst (λ (m : ℕ). lowest_below p (suc m) ≡ Some k) same
      (ap (λ (o : Option ℕ). o or_else (if p k then Some k else None)) (none_below p k under)
      ∙ ap (λ (b : Bool). if b then Some k else None) e)
  | inr d ↦ ap (λ (o : Option ℕ). o or_else (if p n then Some n else None))
      (lowest_is p n k (omega (arith, l, d)) e least)
]
  where
    apart : (a b : ℕ) → (a ≡ b) ⊎ (a ≢ b)
    apart a b = grind arith

    under : (j : ℕ) → j < k → p j ≡ false
    under j m = at (p j) refl
      where
        at : (b : Bool) → p j ≡ b → p j ≡ false
        at false q = q
        at true q = absurd (let h : k ≤ j = least j q in omega (arith, h, m))
