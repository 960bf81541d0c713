-- What is known of the counter that all harts share, by a log.
use Rattle.std.proofs.Common.{ℕ, ◌≡◌, ◌+◌, ◌<◌, ◌≤◌, ◌⊎◌, inl, inr, List, [], ◌∷◌, true, false, refl, ap, sym, ◌∙◌}
use Rattle.std.proofs.Common.{arith}
use Rattle.std.proofs.lemmas.Bool.{cases_order, both_ways}
use Rattle.trace_model.proofs.Lists.{In}
use Rattle.gen_order_laws.proofs.Logs.{Perf, counter, add, asks}

-- what is known of the counter, which is c
pub record IsCounted (log : List Perf) (c : ℕ) : Type 0 where
  pub below : (f : Perf) → In f log → f.access ≡ add → f.value < c
  pub most : (f : Perf) → In f log → asks f.access ≡ true → f.value ≤ c
  pub all : (v : ℕ) → v < c → (f : Perf) × In f log × (f.access ≡ add) × (f.value ≡ v)
  pub counts : (f g : Perf) → In f log → In g log → f.access ≡ add → asks g.access ≡ true
      → f.place.message < g.place.message → f.value < g.value
  pub counted : (f g : Perf) → In f log → In g log → f.access ≡ add → asks g.access ≡ true
      → g.place.message < f.place.message → g.value ≤ f.value

-- nothing is performed
pub nothing_counted : IsCounted [] 0
nothing_counted = record {
  below = λ f i. absurd i;
  most = λ f i. absurd i;
  all = λ v lt. absurd (omega (arith, lt));
  counts = λ f g i. absurd i;
  counted = λ f g i. absurd i;
}

-- an access that doesn't ask for it
pub counted_same : (log : List Perf) (c n : ℕ) (g : Perf) → IsCounted log c → asks g.access ≡ false
    → IsCounted (g ∷ log) c
counted_same log c n g is quiet = record {
  below = below;
  most = most;
  all = λ v lt. let f = is.all v lt in (f.0, inr f.1, f.2, f.3);
  counts = counts;
  counted = counted;
}
  where
    no_add : g.access ≡ add → ⊥
    no_add e = both_ways (asks g.access) quiet (ap asks e)

    below : (f : Perf) → In f (g ∷ log) → f.access ≡ add → f.value < c
    below f (inl e) a = absurd (no_add (sym (ap (λ (x : Perf). x.access) e) ∙ a))
    below f (inr i) a = is.below f i a

    most : (f : Perf) → In f (g ∷ log) → asks f.access ≡ true → f.value ≤ c
    most f (inl e) a = absurd (both_ways (asks g.access) quiet (sym (ap (λ (x : Perf). asks x.access) e) ∙ a))
    most f (inr i) a = is.most f i a

    counts : (f k : Perf) → In f (g ∷ log) → In k (g ∷ log) → f.access ≡ add → asks k.access ≡ true
        → f.place.message < k.place.message → f.value < k.value
    counts f k (inl e) j a b lt = absurd (no_add (sym (ap (λ (x : Perf). x.access) e) ∙ a))
    counts f k (inr i) (inl e) a b lt =
        absurd (both_ways (asks g.access) quiet (sym (ap (λ (x : Perf). asks x.access) e) ∙ b))
    counts f k (inr i) (inr j) a b lt = is.counts f k i j a b lt

    counted : (f k : Perf) → In f (g ∷ log) → In k (g ∷ log) → f.access ≡ add → asks k.access ≡ true
        → k.place.message < f.place.message → k.value ≤ f.value
    counted f k (inl e) j a b lt = absurd (no_add (sym (ap (λ (x : Perf). x.access) e) ∙ a))
    counted f k (inr i) (inl e) a b lt =
        absurd (both_ways (asks g.access) quiet (sym (ap (λ (x : Perf). asks x.access) e) ∙ b))
    counted f k (inr i) (inr j) a b lt = is.counted f k i j a b lt

module _ (log : List Perf) (c n : ℕ) (g : Perf) (is : IsCounted log c)
    (old : (f : Perf) → In f log → f.place.message ≤ n) (after : n < g.place.message) (value : g.value ≡ c) where
  abbrev Counts : Perf → Perf → Type 0
  Counts f k = f.access ≡ add → asks k.access ≡ true → f.place.message < k.place.message → f.value < k.value

  abbrev Counted : Perf → Perf → Type 0
  Counted f k = f.access ≡ add → asks k.access ≡ true → k.place.message < f.place.message → k.value ≤ f.value

  counts_more : (f k : Perf) → In f (g ∷ log) → In k (g ∷ log) → Counts f k
  counts_more f k (inl e) (inl q) a b lt =
      absurd (omega (arith, lt, ap (λ (x : Perf). x.place.message) e, ap (λ (x : Perf). x.place.message) q))
  counts_more f k (inl e) (inr j) a b lt =
      absurd (omega (arith, lt, ap (λ (x : Perf). x.place.message) e, old k j, after))
  counts_more f k (inr i) (inl q) a b lt =
      omega (arith, is.below f i a, value, ap (λ (x : Perf). x.value) q)
  counts_more f k (inr i) (inr j) a b lt = is.counts f k i j a b lt

  counted_more : (f k : Perf) → In f (g ∷ log) → In k (g ∷ log) → Counted f k
  counted_more f k (inl e) (inl q) a b lt = omega (arith, ap (λ (x : Perf). x.value) e, ap (λ (x : Perf). x.value) q)
  counted_more f k (inl e) (inr j) a b lt = omega (arith, is.most k j b, value, ap (λ (x : Perf). x.value) e)
  counted_more f k (inr i) (inl q) a b lt =
      absurd (omega (arith, lt, ap (λ (x : Perf). x.place.message) q, old f i, after))
  counted_more f k (inr i) (inr j) a b lt = is.counted f k i j a b lt

  -- the first load of a round reads it
  pub counted_read : g.access ≡ counter → IsCounted (g ∷ log) c
  counted_read reads = record {
    below = below;
    most = most;
    all = λ v lt. let f = is.all v lt in (f.0, inr f.1, f.2, f.3);
    counts = counts_more;
    counted = counted_more;
  }
    where
      differ : counter ≡ add → ⊥
      differ e = cc

      below : (f : Perf) → In f (g ∷ log) → f.access ≡ add → f.value < c
      below f (inl e) a = absurd (differ (sym reads ∙ sym (ap (λ (x : Perf). x.access) e) ∙ a))
      below f (inr i) a = is.below f i a

      most : (f : Perf) → In f (g ∷ log) → asks f.access ≡ true → f.value ≤ c
      most f (inl e) a = omega (arith, value, ap (λ (x : Perf). x.value) e)
      most f (inr i) a = is.most f i a

  -- the amoadd makes it one more
  pub counted_add : g.access ≡ add → IsCounted (g ∷ log) (c + 1)
  counted_add adds = record {
    below = below;
    most = most;
    all = all;
    counts = counts_more;
    counted = counted_more;
  }
    where
      below : (f : Perf) → In f (g ∷ log) → f.access ≡ add → f.value < c + 1
      below f (inl e) a = omega (arith, value, ap (λ (x : Perf). x.value) e)
      below f (inr i) a = omega (arith, is.below f i a)

      most : (f : Perf) → In f (g ∷ log) → asks f.access ≡ true → f.value ≤ c + 1
      most f (inl e) a = omega (arith, value, ap (λ (x : Perf). x.value) e)
      most f (inr i) a = omega (arith, is.most f i a)

      all : (v : ℕ) → v < c + 1 → (f : Perf) × In f (g ∷ log) × (f.access ≡ add) × (f.value ≡ v)
      all v lt = elim (cases_order v c) [
        | inl e ↦ (g, inl refl, adds, value ∙ sym e)
        | inr (inl less) ↦ let f = is.all v less in (f.0, inr f.1, f.2, f.3)
        | inr (inr more) ↦ absurd (omega (arith, lt, more))
      ]
