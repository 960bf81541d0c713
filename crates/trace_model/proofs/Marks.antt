-- Operations of marked bytes: the same marks give the same operation, and marks from the highest byte down.
use Rattle.std.proofs.Common.{ℕ, zero, suc, ◌+◌, ◌*◌, ◌-◌, ◌^◌, ◌≤◌, ◌<◌, ◌≡◌, Bool, false, cond, ◌||◌}
use Rattle.std.proofs.Common.{List, [], ◌∷◌, ◌++◌, length, take, get_or}
use Rattle.std.proofs.Common.{Option, refl, sym, ap, ◌∙◌, arith, append_assoc}
use Rattle.std.proofs.lemmas.List.{take_more, length-take}
use Rattle.std.proofs.Math.Nat.{pow-le-pow_right}
use Rattle.tandem_base.specs.declared.names.Place.{Place}
use Rattle.rvwmo_model.specs.declared.operations.Op.{Op}
use Rattle.trace_model.specs.Groups.{Access, mask_from, first_from, masked_from, op_of, same_place, part_at, some_below}
use Rattle.trace_model.specs.Groups.{parts_below}
use Rattle.trace_model.specs.Marks.{eight, HasAtMost}
use Rattle.trace_model.proofs.Groups.{mask_within, step_on}

-- ---- from the highest byte down

pub mask_down : (p : ℕ → Bool) (k len j mask : ℕ) → suc j ≡ k → k ≤ len → mask ≡ mask_from p k (len - k)
    → cond (p j) 1 0 + 2 * mask ≡ mask_from p j (len - j)
mask_down p k len j mask e h m =
    let d : len - j ≡ suc (len - k) = omega arith in
    ap (λ (z : ℕ). cond (p j) 1 0 + 2 * z) (m ∙ ap (λ (z : ℕ). mask_from p z (len - k)) (sym e))
    ∙ ap (mask_from p j) (sym d)

pub mask_small : (p : ℕ → Bool) (k n : ℕ) → n ≤ 7 → mask_from p k n < 128
mask_small p k n l =
    let w = mask_within p k n in
    let m : 2 ^ n ≤ 2 ^ 7 = pow-le-pow_right {n = 2} (omega arith) l in
    omega (arith, w, m)

pub first_down : (p : ℕ → Bool) (k len j first : ℕ) → suc j ≡ k → k ≤ len → first ≡ first_from p k (len - k)
    → cond (p j) j first ≡ first_from p j (len - j)
first_down p k len j first e h m =
    let d : len - j ≡ suc (len - k) = omega arith in
    ap (λ (z : ℕ). cond (p j) j z) (m ∙ ap (λ (z : ℕ). first_from p z (len - k)) (sym e))
    ∙ ap (first_from p j) (sym d)

-- ---- marked bytes, one more at the end

masked_append : (p : ℕ → Bool) (j : ℕ) (xs : List ℕ) (y : ℕ) → masked_from p j (xs ++ y ∷ [])
    ≡ masked_from p j xs ++ cond (p (j + length xs)) y 0 ∷ []
masked_append p j [] y =
    let e : j ≡ j + 0 = omega arith in ap (λ (i : ℕ). cond (p i) y 0 ∷ []) e
masked_append p j (x ∷ xs) y =
    ap (λ (r : List ℕ). cond (p j) x 0 ∷ r)
    (masked_append p (suc j) xs y
    ∙ ap (λ (i : ℕ). masked_from p (suc j) xs ++ cond (p i) y 0 ∷ []) (sym (step_on j (length xs))))

pub masked_more : (p : ℕ → Bool) (xs : List ℕ) (k v : ℕ) → k < length xs → v ≡ cond (p k) (get_or xs k 0) 0
    → masked_from p 0 (take (k + 1) xs) ≡ masked_from p 0 (take k xs) ++ v ∷ []
masked_more p xs k v l e =
    let n : 0 + length (take k xs) ≡ k = let m = length-take k xs in omega (arith, m) in
    ap (masked_from p 0) (take_more xs k 0 l)
    ∙ masked_append p 0 (take k xs) (get_or xs k 0)
    ∙ ap (λ (i : ℕ). masked_from p 0 (take k xs) ++ cond (p i) (get_or xs k 0) 0 ∷ []) n
    ∙ ap (λ (b : ℕ). masked_from p 0 (take k xs) ++ b ∷ []) (sym e)

-- ---- the same marks

module _ (p q : ℕ → Bool) where
  first_same : (k n : ℕ) → ((i : ℕ) → i < k + n → p i ≡ q i) → first_from p k n ≡ first_from q k n
  first_same k zero h = refl
  first_same k (suc n) h =
      ap (λ (b : Bool). cond b k (first_from p (suc k) n)) (h k (omega arith))
      ∙ ap (λ (r : ℕ). cond (q k) k r) (first_same (suc k) n (λ i l. h i (omega (arith, l))))

  mask_same : (k n : ℕ) → ((i : ℕ) → i < k + n → p i ≡ q i) → mask_from p k n ≡ mask_from q k n
  mask_same k zero h = refl
  mask_same k (suc n) h =
      ap (λ (b : Bool). cond b 1 0 + 2 * mask_from p (suc k) n) (h k (omega arith))
      ∙ ap (λ (r : ℕ). cond (q k) 1 0 + 2 * r) (mask_same (suc k) n (λ i l. h i (omega (arith, l))))

  masked_same : (k : ℕ) (bs : List ℕ) → ((i : ℕ) → i < k + length bs → p i ≡ q i) → masked_from p k bs
      ≡ masked_from q k bs
  masked_same k [] h = refl
  masked_same k (b ∷ bs) h =
      ap (λ (c : Bool). cond c b 0 ∷ masked_from p (suc k) bs) (h k (omega arith))
      ∙ ap (λ (r : List ℕ). cond (q k) b 0 ∷ r) (masked_same (suc k) bs (λ i l. h i (omega (arith, l))))

  some_same : (n : ℕ) → ((i : ℕ) → i < n → p i ≡ q i) → some_below p n ≡ some_below q n
  some_same zero h = refl
  some_same (suc n) h =
      ap (λ (b : Bool). b || p n) (some_same n (λ i l. h i (omega (arith, l))))
      ∙ ap (λ (b : Bool). some_below q n || b) (h n (omega arith))

pub op_same : (a : Access) (n : ℕ) (p q : ℕ → Bool) (x : Option Place) → HasAtMost a n
    → ((i : ℕ) → i < n → p i ≡ q i) → op_of a p x ≡ op_of a q x
op_same a n p q x w h =
    let f = first_same p q 0 a.extent.len (λ i l. h i (let m = w.len in omega (arith, l, m))) in
    let m = mask_same p q 0 a.extent.len (λ i l. h i (let m = w.len in omega (arith, l, m))) in
    let g = masked_same p q 0 a.got (λ i l. h i (let m = w.got in omega (arith, l, m))) in
    let s = masked_same p q 0 a.put (λ i l. h i (let m = w.put in omega (arith, l, m))) in
    λ i. record {
      name = record { hart = a.hart; tag = a.tag; part = f i };
      kind = a.kind;
      extent = a.extent;
      mask = m i;
      got = g i;
      put = s i;
      acquire = a.acquire;
      release = a.release;
      place = x;
    }

-- the operations of an access depend on the places of its bytes alone
module _ (a : Access) (n : ℕ) (f g : ℕ → Option Place) (w : HasAtMost a n) (h : (i : ℕ) → i < n → f i ≡ g i) where
  part_same : (x : Option Place) → part_at a f x ≡ part_at a g x
  part_same x =
      op_same a n (λ k. same_place (f k) x) (λ k. same_place (g k) x) x w
      (λ i l. ap (λ (y : Option Place). same_place y x) (h i l))

  pub parts_same : (m : ℕ) → m ≤ n → parts_below a f m ≡ parts_below a g m
  parts_same zero l = refl
  parts_same (suc m) l =
      let rest = parts_same m (omega (arith, l)) in
      let here : f m ≡ g m = h m (omega (arith, l)) in
      let known = some_same (λ k. same_place (f k) (g m)) (λ k. same_place (g k) (g m)) m
      (λ i s. ap (λ (y : Option Place). same_place y (g m)) (h i (omega (arith, l, s)))) in
      ap (λ (y : Option Place). cond (some_below (λ k. same_place (f k) y) m) (parts_below a f m)
      (part_at a f y ∷ parts_below a f m)) here
      ∙ ap (λ (b : Bool). cond b (parts_below a f m) (part_at a f (g m) ∷ parts_below a f m)) known
      ∙ ap (λ (o : Op). cond (some_below (λ k. same_place (g k) (g m)) m) (parts_below a f m)
      (o ∷ parts_below a f m)) (part_same (g m))
      ∙ ap (λ (r : List Op). cond (some_below (λ k. same_place (g k) (g m)) m) r (part_at a g (g m) ∷ r)) rest

-- one more operation, of the highest byte so far
pub one_more_part : (a : Access) (f : ℕ → Option Place) (n m : ℕ) (v : Op) (xs : List Op) → suc m ≡ n
    → some_below (λ k. same_place (f k) (f m)) m ≡ false → v ≡ part_at a f (f m)
    → (xs ++ v ∷ []) ++ parts_below a f m ≡ xs ++ parts_below a f n
one_more_part a f n m v xs e new is =
    append_assoc xs (v ∷ []) (parts_below a f m)
    ∙ ap (λ (o : Op). xs ++ o ∷ parts_below a f m) is
    ∙ ap (λ (b : Bool). xs ++ cond b (parts_below a f m) (part_at a f (f m) ∷ parts_below a f m)) (sym new)
    ∙ ap (λ (i : ℕ). xs ++ parts_below a f i) e

-- the first eight values of a function
pub eight_is : {A : Type 0} (f : ℕ → A) (d : A) (k : ℕ) → k < 8 → get_or (eight f) k d ≡ f k
eight_is f d zero l = refl
eight_is f d (suc zero) l = refl
eight_is f d (suc (suc zero)) l = refl
eight_is f d (suc (suc (suc zero))) l = refl
eight_is f d (suc (suc (suc (suc zero)))) l = refl
eight_is f d (suc (suc (suc (suc (suc zero))))) l = refl
eight_is f d (suc (suc (suc (suc (suc (suc zero)))))) l = refl
eight_is f d (suc (suc (suc (suc (suc (suc (suc zero))))))) l = refl
eight_is f d (suc (suc (suc (suc (suc (suc (suc (suc k)))))))) l = absurd (omega (arith, l))
