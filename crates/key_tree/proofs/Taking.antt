-- A leaf is taken away.
use Rattle.std.proofs.Common.{ℕ, ◌≡◌, ◌≢◌, ◌-◌, ◌<◌, ◌≤◌, inl, inr, Bool, true, false, Option, None, Some}
use Rattle.std.proofs.Common.{IsSome, refl, sym, ap, ◌∙◌, subst, arith}
use Rattle.std.proofs.lemmas.Bool.{cases_eq}
use Rattle.key_tree.specs.declared.node.Node.{Node}
use Rattle.key_tree.specs.Trees.{side, with_child, Agree, Hangs, AreTree, IsSound, IsLeafBelow}
use Rattle.key_tree.specs.Trees.{SameEntry, AllBut}
use Rattle.key_tree.proofs.Growth.{tree_unlinked, apart_unlinked, tree_emptied, apart_emptied}
use Rattle.key_tree.proofs.Leaves.{Below, has_child}

same_node : (at : ℕ → Option Node) (i : ℕ) (n m : Node) → at i ≡ Some n → at i ≡ Some m → n ≡ m
same_node at i n m e f =
    let one : Some n ≡ Some m = sym e ∙ f in
    cc

entry_with : (s : Bool) (to : Option ℕ) (n : Node) → SameEntry n (with_child s to n)
entry_with true to n = record { key = refl; number = refl; deep = refl }
entry_with false to n = record { key = refl; number = refl; deep = refl }

module _ (at mid : ℕ → Option Node) (root : Option ℕ) (sound : IsSound at root) (j : ℕ) (m : Node)
    (leaf : IsLeafBelow at j j) (there : at j ≡ Some m) (gone : mid j ≡ None)
    (others : (k : ℕ) → k ≢ j → mid k ≡ at k) where
  node_is : leaf.node ≡ m
  node_is = same_node at j leaf.node m leaf.there there

  left : m.left ≡ None
  left = ap (λ (x : Node). x.left) (sym node_is) ∙ leaf.left

  right : m.right ≡ None
  right = ap (λ (x : Node). x.right) (sym node_is) ∙ leaf.right

  pub sound_emptied : m.parent ≡ None → IsSound mid None
  sound_emptied top = record {
    tree = tree_emptied at mid root sound.tree j m there left right top gone others;
    apart = apart_emptied at mid root sound.tree j m there left right top gone others;
  }

  pub all_but : AllBut at mid j
  all_but = record {
    stay = λ k n e d. (n, others k d ∙ e, record { key = refl; number = refl; deep = refl });
    only = λ k n e. elim (cases_eq k j) [
      | inl s ↦
          let none : None ≡ Some n = sym gone ∙ subst (λ (x : ℕ). mid x ≡ Some n) s e in
          cc
      | inr d ↦ (n, sym (others k d) ∙ e, record { key = refl; number = refl; deep = refl })
    ];
    none = gone;
  }

  module _ (p : ℕ) (up : m.parent ≡ Some p) where
    pub hang_of : Hangs at j m p
    hang_of = sound.tree.hangs j m p there up

    pub deep : 1 ≤ m.depth
    deep = omega (arith, hang_of.deeper)

    pub shallow : m.depth - 1 < 64
    shallow =
        let h = hang_of in
        let t : AreTree at = record { root = root; tree = sound.tree; apart = sound.apart } in
        let b : Below at p p h.from.depth = record {
          node = h.from;
          there = h.there;
          deep = refl;
          under = λ n e. (
            omega (arith, ap (λ (x : Node). x.depth) (same_node at p n h.from e h.there)),
            subst (λ (x : Node). Agree x.depth h.from.key x.key) (same_node at p h.from n h.there e) refl,
          );
        } in
        let l = has_child at p p h.from.depth t b (side h.from.depth m.key) j h.link in
        omega (arith, l, h.deeper)

    apart : p ≢ j
    apart s =
        let h = hang_of in
        let same = same_node at j h.from m (subst (λ (x : ℕ). at x ≡ Some h.from) s h.there) there in
        omega (arith, h.deeper, ap (λ (x : Node). x.depth) same)

    pub mid_there : mid p ≡ Some hang_of.from
    mid_there = others p apart ∙ hang_of.there

    pub is_there : IsSome (mid p)
    is_there = subst (λ (x : Option Node). IsSome x) (sym mid_there) refl

    module _ (new : ℕ → Option Node)
        (set : (n : Node) → mid p ≡ Some n → new p ≡ Some (with_child (side (m.depth - 1) m.key) None n))
        (rest : (k : ℕ) → k ≢ p → new k ≡ mid k) where
      cleared : new p ≡ Some (with_child (side hang_of.from.depth m.key) None hang_of.from)
      cleared = subst (λ (x : ℕ). new p ≡ Some (with_child (side x m.key) None hang_of.from))
          (omega (arith, hang_of.deeper)) (set hang_of.from mid_there)

      new_gone : new j ≡ None
      new_gone = rest j (λ s. apart (sym s)) ∙ gone

      new_others : (k : ℕ) → k ≢ p → k ≢ j → new k ≡ at k
      new_others k d g = rest k d ∙ others k g

      pub sound_unlinked : IsSound new root
      sound_unlinked = record {
        tree = tree_unlinked at new root sound.tree j p m there left right hang_of up cleared new_gone new_others;
        apart = apart_unlinked at new root sound.tree j p m there left right hang_of up cleared new_gone new_others
            sound.apart;
      }

      pub unlinked_but : AllBut at new j
      unlinked_but = record {
        stay = λ k n e d. elim (cases_eq k p) [
          | inl s ↦
              let same : hang_of.from ≡ n = same_node at p hang_of.from n hang_of.there
              (subst (λ (x : ℕ). at x ≡ Some n) s e) in
              subst (λ (n : Node). (m : Node) × (new k ≡ Some m) × SameEntry n m) same (
                with_child (side hang_of.from.depth m.key) None hang_of.from,
                subst (λ (x : ℕ). new x ≡ Some (with_child (side hang_of.from.depth m.key) None hang_of.from)) (sym s)
                    cleared,
                entry_with (side hang_of.from.depth m.key) None hang_of.from,
              )
          | inr g ↦ (n, new_others k g d ∙ e, record { key = refl; number = refl; deep = refl })
        ];
        only = λ k n e. elim (cases_eq k p) [
          | inl s ↦
              let same : with_child (side hang_of.from.depth m.key) None hang_of.from ≡ n = same_node new p
              (with_child (side hang_of.from.depth m.key) None hang_of.from) n cleared
              (subst (λ (x : ℕ). new x ≡ Some n) s e) in
              subst (λ (n : Node). (o : Node) × (at k ≡ Some o) × SameEntry o n) same (
                hang_of.from,
                subst (λ (x : ℕ). at x ≡ Some hang_of.from) (sym s) hang_of.there,
                entry_with (side hang_of.from.depth m.key) None hang_of.from,
              )
          | inr g ↦ elim (cases_eq k j) [
            | inl s ↦
                let none : None ≡ Some n = sym new_gone ∙ subst (λ (x : ℕ). new x ≡ Some n) s e in
                cc
            | inr d ↦ (n, sym (new_others k g d) ∙ e, record { key = refl; number = refl; deep = refl })
          ]
        ];
        none = new_gone;
      }
