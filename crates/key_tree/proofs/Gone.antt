-- A key is taken away.
use Rattle.std.proofs.Common.{ℕ, ◌≡◌, ◌≢◌, ◌^◌, ◌%◌, inl, inr, List, Option, None, Some, sym, ap}
use Rattle.std.proofs.Common.{◌∙◌, subst}
use Rattle.std.proofs.lemmas.Bool.{cases_eq}
use Rattle.key_tree.specs.declared.node.Node.{Node}
use Rattle.key_tree.specs.Trees.{node_with_entry, Agree, IsSound, IsLeafBelow, AllBut}
use Rattle.key_tree.specs.Entries.{number_of, entries_of, with_key_taken}
use Rattle.key_tree.proofs.Growth.{tree_rekeyed, apart_rekeyed}
use Rattle.key_tree.proofs.Numbers.{at_of, taken_numbers}

same_node : (at : ℕ → Option Node) (i : ℕ) (n m : Node) → at i ≡ Some n → at i ≡ Some m → n ≡ m
same_node at i n m e f =
    let one : Some n ≡ Some m = sym e ∙ f in
    cc

none_of : (n : Node) (o : Option Node) → o ≡ None → o ≡ Some n → ⊥
none_of n o e f =
    let no_node : None ≡ Some n = sym e ∙ f in
    cc

module _ (xs mid : List (Option Node)) (root top : Option ℕ) (i j key : ℕ) (n m : Node)
    (sound : IsSound (at_of xs) root) (there : at_of xs i ≡ Some n) (is : n.key ≡ key)
    (leaf : IsLeafBelow (at_of xs) i j) (taken_node : at_of xs j ≡ Some m) (after : IsSound (at_of mid) top)
    (but : AllBut (at_of xs) (at_of mid) j) where
  -- the leaf had the key itself
  module _ (same : j ≡ i) where
    at_j : at_of xs j ≡ Some n
    at_j = subst (λ (x : ℕ). at_of xs x ≡ Some n) (sym same) there

    pub leaf_gone : (q : ℕ) → number_of (entries_of mid) q ≡ with_key_taken key (entries_of xs) q
    leaf_gone = taken_numbers xs mid sound.apart after.apart key
        (λ k x e d. (
        let away : k ≢ j = λ s. d (ap (λ (y : Node). y.key)
        (same_node (at_of xs) j x n (subst (λ (y : ℕ). at_of xs y ≡ Some x) s e) at_j) ∙ is) in
        let y = but.stay k x e away in
        record { i = k; n = y.0; there = y.1; key_is = y.2.key; number_is = y.2.number }))
        (λ k x e d. (
        let o = but.only k x e in
        record { i = k; n = o.0; there = o.1; key_is = sym o.2.key }))
        (λ k x e s. (
        let o = but.only k x e in
        let k_is : k ≡ j = sound.apart k j o.0 n o.1 at_j (sym o.2.key ∙ s ∙ sym is) in
        none_of x (at_of mid j) but.none (subst (λ (y : ℕ). at_of mid y ≡ Some x) k_is e)))

  -- the node gets the leaf's key
  module _ (ys : List (Option Node)) (differ : j ≢ i)
      (set : (y : Node) → at_of mid i ≡ Some y → at_of ys i ≡ Some (node_with_entry m.key m.number y))
      (others : (k : ℕ) → k ≢ i → at_of ys k ≡ at_of mid k) where
    record Held : Type 0 where
      y : Node
      mid_i : at_of mid i ≡ Some y
      now : at_of ys i ≡ Some (node_with_entry m.key m.number y)
      bits : Agree y.depth m.key y.key

    held : Held
    held =
        let s = but.stay i n there (λ e. differ (sym e)) in
        let node : leaf.node ≡ m = same_node (at_of xs) j leaf.node m leaf.there taken_node in
        record {
          y = s.0;
          mid_i = s.1;
          now = set s.0 s.1;
          bits = subst (λ (x : ℕ). m.key % 2 ^ x ≡ s.0.key % 2 ^ x) (sym s.2.deep)
              (ap (λ (x : Node). x.key % 2 ^ n.depth) (sym node) ∙ leaf.bits n there
              ∙ ap (λ (x : ℕ). x % 2 ^ n.depth) (sym s.2.key));
        }

    absent : (k : ℕ) (x : Node) → at_of mid k ≡ Some x → k ≢ i → x.key ≢ m.key
    absent k x e d s =
        let o = but.only k x e in
        let k_is : k ≡ j = sound.apart k j o.0 m o.1 taken_node (sym o.2.key ∙ s) in
        none_of x (at_of mid j) but.none (subst (λ (y : ℕ). at_of mid y ≡ Some x) k_is e)

    pub moved_sound : IsSound (at_of ys) top
    moved_sound = record {
      tree = tree_rekeyed (at_of mid) (at_of ys) top after.tree i held.y held.mid_i m.key m.number held.bits
          (sound.tree.fits j m taken_node) held.now others;
      apart = apart_rekeyed (at_of mid) (at_of ys) top after.tree i held.y held.mid_i m.key m.number held.bits
          (sound.tree.fits j m taken_node) held.now others after.apart absent;
    }

    pub moved_gone : (q : ℕ) → number_of (entries_of ys) q ≡ with_key_taken key (entries_of xs) q
    moved_gone = taken_numbers xs ys sound.apart moved_sound.apart key
        (λ k x e d. elim (cases_eq k j) [
          | inl s ↦
              let node : m ≡ x = same_node (at_of xs) j m x taken_node (subst (λ (y : ℕ). at_of xs y ≡ Some x) s e) in
              record {
                i = i;
                n = node_with_entry m.key m.number held.y;
                there = held.now;
                key_is = ap (λ (y : Node). y.key) node;
                number_is = ap (λ (y : Node). y.number) node;
              }
          | inr g ↦
              let away : k ≢ i = λ s. d (ap (λ (y : Node). y.key)
              (same_node (at_of xs) i x n (subst (λ (y : ℕ). at_of xs y ≡ Some x) s e) there) ∙ is) in
              let y = but.stay k x e g in
              record { i = k; n = y.0; there = others k away ∙ y.1; key_is = y.2.key; number_is = y.2.number }
        ])
        (λ k x e d. elim (cases_eq k i) [
          | inl s ↦
              let node : node_with_entry m.key m.number held.y ≡ x = same_node (at_of ys) i
              (node_with_entry m.key m.number held.y) x held.now (subst (λ (y : ℕ). at_of ys y ≡ Some x) s e) in
              record { i = j; n = m; there = taken_node; key_is = ap (λ (y : Node). y.key) node }
          | inr g ↦
              let o = but.only k x (sym (others k g) ∙ e) in
              record { i = k; n = o.0; there = o.1; key_is = sym o.2.key }
        ])
        (λ k x e s. elim (cases_eq k i) [
          | inl t ↦
              let node : node_with_entry m.key m.number held.y ≡ x = same_node (at_of ys) i
              (node_with_entry m.key m.number held.y) x held.now (subst (λ (y : ℕ). at_of ys y ≡ Some x) t e) in
              differ (sound.apart j i m n taken_node there (ap (λ (y : Node). y.key) node ∙ s ∙ sym is))
          | inr g ↦
              let o = but.only k x (sym (others k g) ∙ e) in
              g (sound.apart k i o.0 n o.1 there (sym o.2.key ∙ s ∙ sym is))
        ])
