-- Bytes within one line.
use Rattle.std.proofs.Common.{ℕ, zero, suc, ◌+◌, ◌*◌, ◌/◌, ◌%◌, ◌<◌, ◌≤◌, ◌≡◌, Bool, true, false, ◌&&◌, ◌||◌, ltb, leb}
use Rattle.std.proofs.Common.{length, refl, sym, ap, ◌∙◌, arith}
use Rattle.std.proofs.lemmas.Bool.Decides.{nat_tests}
use Rattle.tandem_base.specs.Extents.{is_among}

-- one of the n bytes from k up is one of the m bytes from j up, by their places in a line
abbrev pub meet : ℕ → ℕ → ℕ → ℕ → Bool
meet j m k zero = false
meet j m k (suc n) = meet j m k n || is_among j m ((k + n) % 64)

small : (x : ℕ) → x < 64 → x % 64 ≡ x
small x l = omega arith

one_more : (j m k n : ℕ)
    → ((ltb 0 n && ltb 0 m && ltb k (j + m) && ltb j (k + n)) || is_among j m (k + n))
    ≡ (ltb 0 (suc n) && ltb 0 m && ltb k (j + m) && ltb j (k + suc n))
one_more j m k n = grind (arith, nat_tests)

pub meet_is : (j m k n : ℕ) → k + n ≤ 64
    → meet j m k n ≡ (ltb 0 n && ltb 0 m && ltb k (j + m) && ltb j (k + n))
meet_is j m k zero l = refl
meet_is j m k (suc n) l =
    ap (λ (b : Bool). b || is_among j m ((k + n) % 64)) (meet_is j m k n (omega arith))
    ∙ ap (λ (x : ℕ). (ltb 0 n && ltb 0 m && ltb k (j + m) && ltb j (k + n)) || is_among j m x)
    (small (k + n) (omega arith))
    ∙ one_more j m k n

moved : (l a b : ℕ) → ltb (l + a) (l + b) ≡ ltb a b
moved l a b = grind (arith, nat_tests)

-- two ranges of bytes of one line share a byte where their places in it do
pub meet_shares : (a n b m : ℕ) → a / 64 ≡ b / 64 → 0 < n → a % 64 + n ≤ 64
    → meet (b % 64) m (a % 64) n ≡ (ltb 0 m && ltb a (b + m) && ltb b (a + n))
meet_shares a n b m e l w =
    let d : a ≡ 64 * (a / 64) + a % 64 = omega arith in
    let f : b ≡ 64 * (a / 64) + b % 64 = omega arith in
    let p : ltb a (b + m) ≡ ltb (a % 64) (b % 64 + m) =
    ap (λ (x : ℕ). ltb x (b + m)) d ∙ ap (λ (x : ℕ). ltb (64 * (a / 64) + a % 64) x)
    (omega arith) ∙ moved (64 * (a / 64)) (a % 64) (b % 64 + m) in
    let q : ltb b (a + n) ≡ ltb (b % 64) (a % 64 + n) =
    ap (λ (x : ℕ). ltb x (a + n)) f ∙ ap (λ (x : ℕ). ltb (64 * (a / 64) + b % 64) x)
    (omega arith) ∙ moved (64 * (a / 64)) (b % 64) (a % 64 + n) in
    let z : ltb 0 n ≡ true = grind (arith, nat_tests) in
    meet_is (b % 64) m (a % 64) n w
    ∙ ap (λ (c : Bool). c && ltb 0 m && ltb (a % 64) (b % 64 + m) && ltb (b % 64) (a % 64 + n)) z
    ∙ ap (λ (c : Bool). ltb 0 m && c && ltb (b % 64) (a % 64 + n)) (sym p)
    ∙ ap (λ (c : Bool). ltb 0 m && ltb a (b + m) && c) (sym q)
