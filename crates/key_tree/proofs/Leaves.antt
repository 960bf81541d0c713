-- The way down to a leaf.
use Rattle.std.proofs.Common.{ℕ, ◌≡◌, ◌+◌, ◌-◌, ◌^◌, ◌%◌, ◌<◌, ◌≤◌, ◌⊎◌, inl, inr}
use Rattle.std.proofs.Common.{Bool, true, false, Option, None, Some, refl, sym, ap, ◌∙◌}
use Rattle.std.proofs.Common.{subst, arith}
use Rattle.key_tree.specs.declared.node.Node.{Node}
use Rattle.key_tree.specs.Trees.{child, Agree, AreTree, IsLeafBelow, first_child}
use Rattle.key_tree.proofs.Ways.{agree_less, agree_all}

-- the node at i, this deep, is the one at `from` or stands below it
pub record Below (at : ℕ → Option Node) (from i depth : ℕ) : Type 0 where
  pub node : Node
  pub there : at i ≡ Some node
  pub deep : node.depth ≡ depth
  pub under : (n : Node) → at from ≡ Some n → (n.depth ≤ depth) × Agree n.depth node.key n.key

same_node : (at : ℕ → Option Node) (i : ℕ) (n m : Node) → at i ≡ Some n → at i ≡ Some m → n ≡ m
same_node at i n m e f =
    let one : Some n ≡ Some m = sym e ∙ f in
    cc

module _ (at : ℕ → Option Node) (from i depth : ℕ) (t : AreTree at) (b : Below at from i depth) where
  pub goes_down : (r : Bool) (c : ℕ) → child r b.node ≡ Some c → Below at from c (depth + 1)
  goes_down r c e =
      let l = t.tree.leads i b.node r c b.there e in
      let h = t.tree.hangs c l.to i l.there l.up in
      let node : h.from ≡ b.node = same_node at i h.from b.node h.there b.there in
      let d : h.from.depth ≡ depth = ap (λ (x : Node). x.depth) node ∙ b.deep in
      record {
        node = l.to;
        there = l.there;
        deep = h.deeper ∙ ap (λ (x : ℕ). x + 1) d;
        under = λ n f. (
            let u = b.under n f in (
              omega (arith, u.0),
              agree_less l.to.key b.node.key n.depth (depth - n.depth) depth (omega (arith, u.0))
                  (subst (λ (x : ℕ). Agree x l.to.key b.node.key) d
                  (h.bits ∙ ap (λ (x : Node). x.key % 2 ^ h.from.depth) node)) ∙ u.1,
            ));
      }

  pub has_child : (r : Bool) (c : ℕ) → child r b.node ≡ Some c → depth < 64
  has_child r c e = elim (cases depth) [
    | inl l ↦ l
    | inr g ↦
        let l = t.tree.leads i b.node r c b.there e in
        let h = t.tree.hangs c l.to i l.there l.up in
        let node : h.from ≡ b.node = same_node at i h.from b.node h.there b.there in
        let d : h.from.depth ≡ depth = ap (λ (x : Node). x.depth) node ∙ b.deep in
        let keys : l.to.key ≡ h.from.key = agree_all l.to.key h.from.key h.from.depth (t.tree.fits c l.to l.there)
        (t.tree.fits i h.from h.there) (omega (arith, d, g)) h.bits in
        let same : c ≡ i = t.apart c i l.to h.from l.there h.there keys in
        let one : l.to ≡ h.from = same_node at i l.to h.from (subst (λ (x : ℕ). at x ≡ Some l.to) same l.there)
        h.there in
        absurd (omega (arith, h.deeper, ap (λ (x : Node). x.depth) one))
  ]
    where
      cases : (d : ℕ) → (d < 64) ⊎ (64 ≤ d)
      cases d = grind arith

side_of : (n : Node) (c : ℕ) → first_child n ≡ Some c → (r : Bool) × (child r n ≡ Some c)
side_of n c e = by n.left refl
  where
    by : (o : Option ℕ) → n.left ≡ o → (r : Bool) × (child r n ≡ Some c)
    by None q = (true, sym (ap (λ (x : Option ℕ). elim x [ Some i ↦ Some i | None ↦ n.right ]) q) ∙ e)
    by (Some i) q = (false, q ∙ sym (ap (λ (x : Option ℕ). elim x [ Some i ↦ Some i | None ↦ n.right ]) q) ∙ e)

none_left : (n : Node) → first_child n ≡ None → (n.left ≡ None) × (n.right ≡ None)
none_left n e = by n.left refl
  where
    by : (o : Option ℕ) → n.left ≡ o → (n.left ≡ None) × (n.right ≡ None)
    by None q = (q, sym (ap (λ (x : Option ℕ). elim x [ Some i ↦ Some i | None ↦ n.right ]) q) ∙ e)
    by (Some i) q =
        let no : Some i ≡ None = sym (ap (λ (x : Option ℕ). elim x [ Some i ↦ Some i | None ↦ n.right ]) q) ∙ e in
        cc

-- the same of the node as it was looked up
module _ (at : ℕ → Option Node) (from i depth : ℕ) (t : AreTree at) (b : Below at from i depth) (n : Node)
    (there : at i ≡ Some n) where
  pub leaf_next : (c : ℕ) → first_child n ≡ Some c → Below at from c (depth + 1)
  leaf_next c e =
      let s = side_of n c e in
      goes_down at from i depth t b s.0 c
      (ap (λ (x : Node). child s.0 x) (same_node at i b.node n b.there there) ∙ s.1)

  pub leaf_room : (c : ℕ) → first_child n ≡ Some c → depth < 64
  leaf_room c e =
      let s = side_of n c e in
      has_child at from i depth t b s.0 c
      (ap (λ (x : Node). child s.0 x) (same_node at i b.node n b.there there) ∙ s.1)

  pub leaf_found : first_child n ≡ None → IsLeafBelow at from i
  leaf_found e =
      let s = none_left n e in
      record {
        node = n;
        there = there;
        left = s.0;
        right = s.1;
        bits = λ m f. (
            let u = (b.under m f).1 in
            ap (λ (x : Node). x.key % 2 ^ m.depth) (sym (same_node at i b.node n b.there there)) ∙ u);
      }
