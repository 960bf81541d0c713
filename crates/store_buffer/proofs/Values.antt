-- The values in the slots of a slab.
use Rattle.std.proofs.Common.{ℕ, zero, suc, ◌≡◌, ◌≢◌, List, [], ◌∷◌, ◌++◌, length, map, get_or, set, Bool, true, false}
use Rattle.std.proofs.Common.{Option, None, Some, is_some, cond, count_by, filter_map, refl, sym, ap, subst, ◌∙◌, arith}
use Rattle.std.specs.List.{filter}
use Rattle.std.specs.Option.{option_map}
use Rattle.std.proofs.lemmas.List.Sums.{sum_by-cons}

module _ {T : Type 0} where
  -- the values, by rising key
  abbrev pub values_in : List (Option T) → List T
  values_in slots = filter_map (λ slot. slot) slots

  pub values_counted : (slots : List (Option T)) → length (values_in slots) ≡ count_by is_some slots
  values_counted [] = refl
  values_counted (None ∷ slots) =
      let e = sum_by-cons (λ (o : Option T). cond (is_some o) 1 0) None slots in
      omega (arith, e, values_counted slots)
  values_counted (Some v ∷ slots) =
      let e = sum_by-cons (λ (o : Option T). cond (is_some o) 1 0) (Some v) slots in
      omega (arith, e, values_counted slots)

  -- one that fails a test, and is taken away, wasn't among those that pass it
  pub filter_taken : (p : T → Bool) (slots : List (Option T)) (k : ℕ) (v : T) → get_or slots k None ≡ Some v
      → p v ≡ false → filter p (values_in (set slots k None)) ≡ filter p (values_in slots)
  filter_taken p [] k v e f = cc
  filter_taken p (s ∷ slots) zero v e f = at s e
    where
      at : (s : Option T) → s ≡ Some v → filter p (values_in slots) ≡ filter p (values_in (s ∷ slots))
      at None e = cc
      at (Some w) e =
          let same : w ≡ v = cc in
          let fails : p w ≡ false = subst (λ (x : T). p x ≡ false) (sym same) f in
          sym (ap (λ (b : Bool). cond b (w ∷ filter p (values_in slots)) (filter p (values_in slots))) fails)
  filter_taken p (None ∷ slots) (suc k) v e f = filter_taken p slots k v e f
  filter_taken p (Some w ∷ slots) (suc k) v e f =
      ap (λ (l : List T). cond (p w) (w ∷ l) l) (filter_taken p slots k v e f)

  -- where each passes a test, those that pass it are all of them
  pub filter_all : (p : T → Bool) (slots : List (Option T))
      → ((k : ℕ) (v : T) → get_or slots k None ≡ Some v → p v ≡ true) → filter p (values_in slots) ≡ values_in slots
  filter_all p [] all = refl
  filter_all p (None ∷ slots) all = filter_all p slots (λ k v e. all (suc k) v e)
  filter_all p (Some w ∷ slots) all =
      ap (λ (b : Bool). cond b (w ∷ filter p (values_in slots)) (filter p (values_in slots))) (all 0 w refl)
      ∙ ap (λ (l : List T). w ∷ l) (filter_all p slots (λ k v e. all (suc k) v e))

  no_values : (slots : List (Option T)) → ((k : ℕ) → get_or slots k None ≡ None) → values_in slots ≡ []
  no_values [] none = refl
  no_values (None ∷ slots) none = no_values slots (λ k. none (suc k))
  no_values (Some w ∷ slots) none =
      let no : Some w ≡ None = none 0 in
      cc

  same_values : (xs ys : List (Option T)) → ((k : ℕ) → get_or ys k None ≡ get_or xs k None)
      → values_in ys ≡ values_in xs
  same_values [] ys same = no_values ys same
  same_values (x ∷ xs) [] same = sym (no_values (x ∷ xs) (λ k. sym (same k)))
  same_values (None ∷ xs) (None ∷ ys) same = same_values xs ys (λ k. same (suc k))
  same_values (None ∷ xs) (Some w ∷ ys) same =
      let no : Some w ≡ None = same 0 in
      cc
  same_values (Some v ∷ xs) (None ∷ ys) same =
      let no : None ≡ Some v = same 0 in
      cc
  same_values (Some v ∷ xs) (Some w ∷ ys) same =
      let head : Some w ≡ Some v = same 0 in
      let one : w ≡ v = cc in
      let rest = same_values xs ys (λ k. same (suc k)) in
      cc

  -- a value at a key that had none is one more, at some place
  pub record Put (v : T) (old new : List T) : Type 0 where
    pub front : List T
    pub back : List T
    pub was : old ≡ front ++ back
    pub is : new ≡ front ++ v ∷ back

  pub put_value : (xs ys : List (Option T)) (k : ℕ) (v : T) → get_or xs k None ≡ None → get_or ys k None ≡ Some v
      → ((j : ℕ) → j ≢ k → get_or ys j None ≡ get_or xs j None) → Put v (values_in xs) (values_in ys)
  put_value xs [] k v n s same = cc
  put_value [] (y ∷ ys) zero v n s same = at y s
    where
      rest : values_in ys ≡ []
      rest = no_values ys (λ j. same (suc j) (λ e. absurd (omega (arith, e))))

      at : (y : Option T) → y ≡ Some v → Put v [] (values_in (y ∷ ys))
      at None e = cc
      at (Some w) e =
          let one : w ≡ v = cc in
          let none : values_in ys ≡ [] = rest in
          record {
            front = [];
            back = [];
            was = refl;
            is = ap (λ (l : List T). w ∷ l) none ∙ ap (λ (x : T). x ∷ []) one;
          }
  put_value [] (y ∷ ys) (suc k) v n s same =
      at y (same 0 (λ e. absurd (omega (arith, e))))
      (put_value [] ys k v refl s (λ j d. same (suc j) (λ e. d (omega (arith, e)))))
    where
      at : (y : Option T) → y ≡ None → Put v [] (values_in ys) → Put v [] (values_in (y ∷ ys))
      at None e put = put
      at (Some w) e put = cc
  put_value (x ∷ xs) (y ∷ ys) zero v n s same = at x y n s
    where
      rest : values_in ys ≡ values_in xs
      rest = same_values xs ys (λ j. same (suc j) (λ e. absurd (omega (arith, e))))

      at : (x y : Option T) → x ≡ None → y ≡ Some v → Put v (values_in (x ∷ xs)) (values_in (y ∷ ys))
      at (Some w) y n s = cc
      at None None n s = cc
      at None (Some w) n s =
          let one : w ≡ v = cc in
          record {
            front = [];
            back = values_in xs;
            was = refl;
            is = ap (λ (l : List T). w ∷ l) rest ∙ ap (λ (x : T). x ∷ values_in xs) one;
          }
  put_value (x ∷ xs) (y ∷ ys) (suc k) v n s same =
      at x y (same 0 (λ e. absurd (omega (arith, e))))
      (put_value xs ys k v n s (λ j d. same (suc j) (λ e. d (omega (arith, e)))))
    where
      at : (x y : Option T) → y ≡ x → Put v (values_in xs) (values_in ys)
          → Put v (values_in (x ∷ xs)) (values_in (y ∷ ys))
      at None None e put = put
      at None (Some w) e put = cc
      at (Some u) None e put = cc
      at (Some u) (Some w) e put =
          let one : w ≡ u = cc in
          record {
            front = u ∷ put.front;
            back = put.back;
            was = ap (λ (l : List T). u ∷ l) put.was;
            is = subst (λ (z : T). z ∷ values_in ys ≡ u ∷ (put.front ++ v ∷ put.back)) (sym one)
                (ap (λ (l : List T). u ∷ l) put.is);
          }

  -- each value changed
  pub map_values : (g : T → T) (xs ys : List (Option T))
      → ((k : ℕ) → get_or ys k None ≡ option_map g (get_or xs k None)) → values_in ys ≡ map g (values_in xs)
  map_values g [] ys each = no_values ys each
  map_values g (x ∷ xs) [] each = sym (none x xs each)
    where
      none : (x : Option T) (xs : List (Option T)) → ((k : ℕ) → None ≡ option_map g (get_or (x ∷ xs) k None))
          → map g (values_in (x ∷ xs)) ≡ []
      none None [] each = refl
      none None (y ∷ ys) each = none y ys (λ k. each (suc k))
      none (Some v) xs each =
          let no : None ≡ Some (g v) = each 0 in
          cc
  map_values g (None ∷ xs) (None ∷ ys) each = map_values g xs ys (λ k. each (suc k))
  map_values g (None ∷ xs) (Some w ∷ ys) each =
      let no : Some w ≡ None = each 0 in
      cc
  map_values g (Some v ∷ xs) (None ∷ ys) each =
      let no : None ≡ Some (g v) = each 0 in
      cc
  map_values g (Some v ∷ xs) (Some w ∷ ys) each =
      let head : Some w ≡ Some (g v) = each 0 in
      let one : w ≡ g v = cc in
      let rest = map_values g xs ys (λ k. each (suc k)) in
      ap (λ (x : T). x ∷ values_in ys) one ∙ ap (λ (l : List T). g v ∷ l) rest
