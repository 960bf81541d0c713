-- What is done to a tree leaves a tree.
use Rattle.std.proofs.Common.{ℕ, zero, suc, ◌≡◌, ◌≢◌, ◌+◌, ◌^◌, ◌%◌, ◌<◌}
use Rattle.std.proofs.Common.{◌⊎◌, inl, inr, Bool, true, false, Option, None}
use Rattle.std.proofs.Common.{Some, refl, sym, ap, ◌∙◌, subst, arith}
use Rattle.std.proofs.lemmas.Bool.{cases_eq}
use Rattle.key_tree.specs.declared.node.Node.{Node}
use Rattle.key_tree.specs.Trees.{side, child, with_child, Agree, Hangs, IsChild, IsTree, AreApart}
use Rattle.key_tree.proofs.Ways.{agree_less, agree_side, parent_of, one_at, above}

-- the node has the same place in its tree
pub record Kept (n new : Node) : Type 0 where
  pub deep : new.depth ≡ n.depth
  pub up : new.parent ≡ n.parent
  pub bits : Agree n.depth new.key n.key

-- the nodes keep their places, but for leaves that are gone
module _ (at new : ℕ → Option Node) (root top : Option ℕ) (Gone : ℕ → Type 0) (tree : IsTree at root)
    (back : (k : ℕ) (m : Node) → new k ≡ Some m → (n : Node) × (at k ≡ Some n) × Kept n m
    × ((r : Bool) (x : ℕ) → child r m ≡ Some x → (child r n ≡ Some x) × (Gone x → ⊥)))
    (forth : (k : ℕ) (n : Node) → at k ≡ Some n → (Gone k → ⊥) → (m : Node) × (new k ≡ Some m) × Kept n m
    × ((r : Bool) (x : ℕ) → child r n ≡ Some x → (Gone x → ⊥) → child r m ≡ Some x))
    (leaf : (k : ℕ) (n : Node) (p : ℕ) → at k ≡ Some n → n.parent ≡ Some p → (Gone k → ⊥) → Gone p → ⊥)
    (stays : (k : ℕ) (m : Node) → new k ≡ Some m → Gone k → ⊥)
    (top_of : (i : ℕ) → top ≡ Some i → (root ≡ Some i) × (Gone i → ⊥))
    (top_is : (i : ℕ) → root ≡ Some i → (Gone i → ⊥) → top ≡ Some i)
    (fits : (k : ℕ) (m : Node) → new k ≡ Some m → m.key < 2 ^ 64) where
  pub tree_kept : IsTree new top
  tree_kept = record {
    begins = λ i e. (
        let t = top_of i e in
        let r = tree.begins i t.0 in
        let f = forth i r.node r.there t.1 in
        record { node = f.0; there = f.1; top = f.2.deep ∙ r.top; free = f.2.up ∙ r.free });
    rooted = λ i m e q. (
        let b = back i m e in
        top_is i (tree.rooted i b.0 b.1 (sym b.2.up ∙ q)) (stays i m e));
    hangs = λ i m p e q. (
        let b = back i m e in
        let up : b.0.parent ≡ Some p = sym b.2.up ∙ q in
        let h = tree.hangs i b.0 p b.1 up in
        let f = forth p h.from h.there (leaf i b.0 p b.1 up (stays i m e)) in
        let d : f.0.depth ≡ h.from.depth = f.2.deep in
        let less : Agree h.from.depth m.key b.0.key = agree_less m.key b.0.key h.from.depth 1 b.0.depth
        (omega (arith, h.deeper)) b.2.bits in
        let turn : side h.from.depth m.key ≡ side h.from.depth b.0.key = agree_side m.key b.0.key h.from.depth b.0.depth
        (omega (arith, h.deeper)) b.2.bits in
        record {
          from = f.0;
          there = f.1;
          deeper = omega (arith, b.2.deep, h.deeper, d);
          link = rw (d, turn) (f.3 (side h.from.depth b.0.key) i h.link (stays i m e));
          bits = rw d (less ∙ h.bits ∙ sym f.2.bits);
        });
    leads = λ i m r j e q. (
        let b = back i m e in
        let c = b.3 r j q in
        let t = tree.leads i b.0 r j b.1 c.0 in
        let f = forth j t.to t.there c.1 in
        let h = tree.hangs j t.to i t.there t.up in
        let one : Some h.from ≡ Some b.0 = sym h.there ∙ b.1 in
        let node : h.from ≡ b.0 = cc in
        let deeper : t.to.depth ≡ 1 + b.0.depth = omega (arith, h.deeper, ap (λ (x : Node). x.depth) node) in
        record {
          to = f.0;
          there = f.1;
          up = f.2.up ∙ t.up;
          bit = ap (λ (x : ℕ). side x f.0.key) b.2.deep
              ∙ agree_side f.0.key t.to.key b.0.depth t.to.depth deeper f.2.bits ∙ t.bit;
        });
    fits = fits;
  }

-- a node gets another key of the same bits above
module _ (at new : ℕ → Option Node) (root : Option ℕ) (tree : IsTree at root) (i : ℕ) (n : Node) (there : at i ≡ Some n)
    (key number : ℕ) (bits : Agree n.depth key n.key) (fit : key < 2 ^ 64)
    (now : new i ≡ Some (record n { key = key; number = number }))
    (others : (k : ℕ) → k ≢ i → new k ≡ at k) where
  pub tree_rekeyed : IsTree new root
  tree_rekeyed = tree_kept at new root root (λ _. ⊥) tree back forth (λ k n p e q g h. h) (λ k m e h. h)
      (λ i e. (e, λ h. h)) (λ i e g. e) fits
    where
      changed : Node
      changed = record n { key = key; number = number }

      back : (k : ℕ) (m : Node) → new k ≡ Some m → (n : Node) × (at k ≡ Some n) × Kept n m
          × ((r : Bool) (x : ℕ) → child r m ≡ Some x → (child r n ≡ Some x) × (⊥ → ⊥))
      back k m e = elim (cases_eq k i) [
        | inl s ↦
            let one : Some (record n { key = key; number = number }) ≡ Some m = sym now ∙ subst
            (λ (x : ℕ). new x ≡ Some m) s e in
            let node : record n { key = key; number = number } ≡ m = cc in
            subst
            (λ (m : Node). (n : Node) × (at k ≡ Some n) × Kept n m
            × ((r : Bool) (x : ℕ) → child r m ≡ Some x → (child r n ≡ Some x) × (⊥ → ⊥)))
            node (
              n,
              subst (λ (x : ℕ). at x ≡ Some n) (sym s) there,
              record { deep = refl; up = refl; bits = bits },
              λ r x q. (q, λ h. h),
            )
        | inr d ↦ (m, sym (others k d) ∙ e, record { deep = refl; up = refl; bits = refl }, λ r x q. (q, λ h. h))
      ]

      forth : (k : ℕ) (n : Node) → at k ≡ Some n → (⊥ → ⊥) → (m : Node) × (new k ≡ Some m) × Kept n m
          × ((r : Bool) (x : ℕ) → child r n ≡ Some x → (⊥ → ⊥) → child r m ≡ Some x)
      forth k m e g = elim (cases_eq k i) [
        | inl s ↦
            let one : Some n ≡ Some m = sym there ∙ subst (λ (x : ℕ). at x ≡ Some m) s e in
            let node : n ≡ m = cc in
            subst
            (λ (n : Node). (m : Node) × (new k ≡ Some m) × Kept n m
            × ((r : Bool) (x : ℕ) → child r n ≡ Some x → (⊥ → ⊥) → child r m ≡ Some x))
            node (
              record n { key = key; number = number },
              subst (λ (x : ℕ). new x ≡ Some (record n { key = key; number = number })) (sym s) now,
              record { deep = refl; up = refl; bits = bits },
              λ r x q h. q,
            )
        | inr d ↦ (m, others k d ∙ e, record { deep = refl; up = refl; bits = refl }, λ r x q h. q)
      ]

      fits : (k : ℕ) (m : Node) → new k ≡ Some m → m.key < 2 ^ 64
      fits k m e = elim (cases_eq k i) [
        | inl s ↦
            let one : Some (record n { key = key; number = number }) ≡ Some m = sym now ∙ subst
            (λ (x : ℕ). new x ≡ Some m) s e in
            let node : record n { key = key; number = number } ≡ m = cc in
            subst (λ (m : Node). m.key < 2 ^ 64) node fit
        | inr d ↦ tree.fits k m (sym (others k d) ∙ e)
      ]

  pub apart_rekeyed : AreApart at → ((k : ℕ) (m : Node) → at k ≡ Some m → k ≢ i → m.key ≢ key) → AreApart new
  apart_rekeyed apart absent a b x y e f s = elim (cases_eq a i) [
    | inl p ↦ elim (cases_eq b i) [
      | inl q ↦ p ∙ sym q
      | inr q ↦ absurd (absent b y (sym (others b q) ∙ f) q (sym s ∙ key_at a x p e))
    ]
    | inr p ↦ elim (cases_eq b i) [
      | inl q ↦ absurd (absent a x (sym (others a p) ∙ e) p (s ∙ key_at b y q f))
      | inr q ↦ apart a b x y (sym (others a p) ∙ e) (sym (others b q) ∙ f) s
    ]
  ]
    where
      key_at : (k : ℕ) (m : Node) → k ≡ i → new k ≡ Some m → m.key ≡ key
      key_at k m p e =
          let one : Some (record n { key = key; number = number }) ≡ Some m = sym now ∙ subst
          (λ (x : ℕ). new x ≡ Some m) p e in
          let node : record n { key = key; number = number } ≡ m = cc in
          ap (λ (x : Node). x.key) (sym node)

child_same : (s : Bool) (to : Option ℕ) (n : Node) → child s (with_child s to n) ≡ to
child_same true to n = refl
child_same false to n = refl

child_other : (s r : Bool) (to : Option ℕ) (n : Node) → r ≢ s → child r (with_child s to n) ≡ child r n
child_other true true to n d = absurd (d refl)
child_other true false to n d = refl
child_other false true to n d = refl
child_other false false to n d = absurd (d refl)

same_or : (r s : Bool) → (r ≡ s) ⊎ (r ≢ s)
same_or true true = inl refl
same_or true false = inr (λ e. cc)
same_or false true = inr (λ e. cc)
same_or false false = inl refl

kept_with : (s : Bool) (to : Option ℕ) (n : Node) → Kept n (with_child s to n)
kept_with true to n = record { deep = refl; up = refl; bits = refl }
kept_with false to n = record { deep = refl; up = refl; bits = refl }

key_with : (s : Bool) (to : Option ℕ) (n : Node) → (with_child s to n).key ≡ n.key
key_with true to n = refl
key_with false to n = refl

none_of : {A : Type 0} (x : A) (o : Option A) → o ≡ None → o ≡ Some x → ⊥
none_of x o e f =
    let no : None ≡ Some x = sym e ∙ f in
    cc

same_node : (at : ℕ → Option Node) (i : ℕ) (n m : Node) → at i ≡ Some n → at i ≡ Some m → n ≡ m
same_node at i n m e f =
    let one : Some n ≡ Some m = sym e ∙ f in
    cc

pub same_number : (i j : ℕ) (o : Option ℕ) → o ≡ Some i → o ≡ Some j → i ≡ j
same_number i j o e f =
    let one : Some i ≡ Some j = sym e ∙ f in
    cc

-- a leaf is taken from its parent
module _ (at new : ℕ → Option Node) (root : Option ℕ) (tree : IsTree at root) (j p : ℕ) (m : Node)
    (there : at j ≡ Some m) (left : m.left ≡ None) (right : m.right ≡ None) (h : Hangs at j m p)
    (up : m.parent ≡ Some p)
    (cleared : new p ≡ Some (with_child (side h.from.depth m.key) None h.from))
    (gone : new j ≡ None) (others : (k : ℕ) → k ≢ p → k ≢ j → new k ≡ at k) where
  turn : Bool
  turn = side h.from.depth m.key

  no_child : (r : Bool) (x : ℕ) → child r m ≡ Some x → ⊥
  no_child true x e = none_of x m.right right e
  no_child false x e = none_of x m.left left e

  p_there : (k : ℕ) (n : Node) → k ≡ p → at k ≡ Some n → n ≡ h.from
  p_there k n s e = same_node at p n h.from (subst (λ (x : ℕ). at x ≡ Some n) s e) h.there

  -- the parent's link is the only one to the leaf
  only : (k : ℕ) (n : Node) (r : Bool) → at k ≡ Some n → child r n ≡ Some j → (k ≡ p) × (r ≡ side h.from.depth m.key)
  only k n r e q =
      let t = tree.leads k n r j e q in
      let one : t.to ≡ m = same_node at j t.to m t.there there in
      let k_up : m.parent ≡ Some k = subst (λ (x : Node). x.parent ≡ Some k) one t.up in
      let s : k ≡ p = same_number k p m.parent k_up up in
      let node : n ≡ h.from = p_there k n s e in
      let bit : side n.depth m.key ≡ r = subst (λ (x : Node). side n.depth x.key ≡ r) one t.bit in
      (s, sym bit ∙ ap (λ (x : Node). side x.depth m.key) node)

  unlinked_back : (k : ℕ) (x : Node) → new k ≡ Some x → (n : Node) × (at k ≡ Some n) × Kept n x
      × ((r : Bool) (c : ℕ) → child r x ≡ Some c → (child r n ≡ Some c) × (c ≡ j → ⊥))
  unlinked_back k x e = elim (cases_eq k p) [
    | inl s ↦
        let node : with_child (side h.from.depth m.key) None h.from ≡ x = same_node new p
        (with_child (side h.from.depth m.key) None h.from) x cleared (subst (λ (y : ℕ). new y ≡ Some x) s e) in
        subst
        (λ (x : Node). (n : Node) × (at k ≡ Some n) × Kept n x
        × ((r : Bool) (c : ℕ) → child r x ≡ Some c → (child r n ≡ Some c) × (c ≡ j → ⊥)))
        node (
          h.from,
          subst (λ (y : ℕ). at y ≡ Some h.from) (sym s) h.there,
          kept_with (side h.from.depth m.key) None h.from,
          λ r c q. elim (same_or r (side h.from.depth m.key)) [
            | inl t ↦ absurd (none_of c (child r (with_child (side h.from.depth m.key) None h.from))
                (ap (λ (y : Bool). child y (with_child (side h.from.depth m.key) None h.from)) t
                ∙ child_same (side h.from.depth m.key) None h.from) q)
            | inr t ↦
                let was : child r h.from ≡ Some c = sym (child_other (side h.from.depth m.key) r None h.from t) ∙ q in
                (was, λ i. t (only p h.from r h.there (subst (λ (y : ℕ). child r h.from ≡ Some y) i was)).1)
          ],
        )
    | inr d ↦ elim (cases_eq k j) [
      | inl s ↦ absurd (none_of x (new j) gone (subst (λ (y : ℕ). new y ≡ Some x) s e))
      | inr g ↦
          let was : at k ≡ Some x = sym (others k d g) ∙ e in (
            x,
            was,
            record { deep = refl; up = refl; bits = refl },
            λ r c q. (q, λ i. d (only k x r was (subst (λ (y : ℕ). child r x ≡ Some y) i q)).0),
          )
    ]
  ]

  unlinked_forth : (k : ℕ) (n : Node) → at k ≡ Some n → (k ≡ j → ⊥) → (x : Node) × (new k ≡ Some x) × Kept n x
      × ((r : Bool) (c : ℕ) → child r n ≡ Some c → (c ≡ j → ⊥) → child r x ≡ Some c)
  unlinked_forth k n e g = elim (cases_eq k p) [
    | inl s ↦
        let node : h.from ≡ n = sym (p_there k n s e) in
        subst
        (λ (n : Node). (x : Node) × (new k ≡ Some x) × Kept n x
        × ((r : Bool) (c : ℕ) → child r n ≡ Some c → (c ≡ j → ⊥) → child r x ≡ Some c))
        node (
          with_child (side h.from.depth m.key) None h.from,
          subst (λ (y : ℕ). new y ≡ Some (with_child (side h.from.depth m.key) None h.from)) (sym s) cleared,
          kept_with (side h.from.depth m.key) None h.from,
          λ r c q i. elim (same_or r (side h.from.depth m.key)) [
            | inl t ↦ absurd (i (same_number c j (child r h.from) q
                (subst (λ (y : Bool). child y h.from ≡ Some j) (sym t) h.link)))
            | inr t ↦ child_other (side h.from.depth m.key) r None h.from t ∙ q
          ],
        )
    | inr d ↦ (n, others k d g ∙ e, record { deep = refl; up = refl; bits = refl }, λ r c q i. q)
  ]

  unlinked_key : (k : ℕ) (x : Node) → new k ≡ Some x → (n : Node) × (at k ≡ Some n) × (x.key ≡ n.key)
  unlinked_key k x e = elim (cases_eq k p) [
    | inl s ↦
        let node : with_child (side h.from.depth m.key) None h.from ≡ x = same_node new p
        (with_child (side h.from.depth m.key) None h.from) x cleared (subst (λ (y : ℕ). new y ≡ Some x) s e) in (
          h.from,
          subst (λ (y : ℕ). at y ≡ Some h.from) (sym s) h.there,
          ap (λ (y : Node). y.key) (sym node) ∙ key_with (side h.from.depth m.key) None h.from,
        )
    | inr d ↦ elim (cases_eq k j) [
      | inl s ↦ absurd (none_of x (new j) gone (subst (λ (y : ℕ). new y ≡ Some x) s e))
      | inr g ↦ (x, sym (others k d g) ∙ e, refl)
    ]
  ]

  pub tree_unlinked : IsTree new root
  tree_unlinked = tree_kept at new root root (λ k. k ≡ j) tree unlinked_back unlinked_forth
      (λ k n q e f g s. (
      let one : n ≡ n = refl in
      let t = tree.hangs k n q e f in
      no_child (side t.from.depth n.key) k
      (subst (λ (y : Node). child (side t.from.depth n.key) y ≡ Some k)
      (same_node at j t.from m (subst (λ (y : ℕ). at y ≡ Some t.from) s t.there) there) t.link)))
      (λ k x e s. none_of x (new j) gone (subst (λ (y : ℕ). new y ≡ Some x) s e))
      (λ i e. (
        e,
        λ s. (
            let r = tree.begins i e in
            let one : r.node ≡ m = same_node at j r.node m (subst (λ (y : ℕ). at y ≡ Some r.node) s r.there) there in
            none_of p m.parent (subst (λ (y : Node). y.parent ≡ None) one r.free) up),
      ))
      (λ i e g. e)
      (λ k x e. (let b = unlinked_key k x e in rw b.2 (tree.fits k b.0 b.1)))

  pub apart_unlinked : AreApart at → AreApart new
  apart_unlinked apart a b x y e f s =
      let u = unlinked_key a x e in
      let v = unlinked_key b y f in
      apart a b u.0 v.0 u.1 v.1 (sym u.2 ∙ s ∙ v.2)

-- the last node is taken
module _ (at new : ℕ → Option Node) (root : Option ℕ) (tree : IsTree at root) (j : ℕ) (m : Node)
    (there : at j ≡ Some m) (left : m.left ≡ None) (right : m.right ≡ None) (top : m.parent ≡ None)
    (gone : new j ≡ None) (others : (k : ℕ) → k ≢ j → new k ≡ at k) where
  only_one : (i : ℕ) (n : Node) → at i ≡ Some n → i ≡ j
  only_one i n e = by n.depth refl
    where
      root_j : root ≡ Some j
      root_j = tree.rooted j m there top

      m_deep : m.depth ≡ 0
      m_deep =
          let r = tree.begins j root_j in
          ap (λ (x : Node). x.depth) (same_node at j m r.node there r.there) ∙ r.top

      by : (d : ℕ) → n.depth ≡ d → i ≡ j
      by zero s = one_at at root tree zero i j n m e there s m_deep (grind arith)
      by (suc d) s =
          let r = above at root tree d 1 i n e (omega (arith, s)) in
          let p = parent_of at root tree r.0 r.1 zero r.2 (omega (arith, r.3)) in
          let same : p.0 ≡ j = one_at at root tree zero p.0 j p.1.from m p.1.there there
          (omega (arith, p.1.deeper, r.3))
          m_deep (grind arith) in
          let node : p.1.from ≡ m = same_node at j p.1.from m
          (subst (λ (x : ℕ). at x ≡ Some p.1.from) same p.1.there) there in
          absurd (no_child (side p.1.from.depth r.1.key) r.0
          (subst (λ (x : Node). child (side p.1.from.depth r.1.key) x ≡ Some r.0) node p.1.link))
        where
          no_child : (r : Bool) (x : ℕ) → child r m ≡ Some x → ⊥
          no_child true x e = none_of x m.right right e
          no_child false x e = none_of x m.left left e

  empty : (i : ℕ) (n : Node) → new i ≡ Some n → ⊥
  empty i n e = elim (cases_eq i j) [
    | inl s ↦ none_of n (new j) gone (subst (λ (x : ℕ). new x ≡ Some n) s e)
    | inr d ↦ d (only_one i n (sym (others i d) ∙ e))
  ]

  pub tree_emptied : IsTree new None
  tree_emptied = record {
    begins = λ i e. absurd (none_of i None refl e);
    rooted = λ i n e q. absurd (empty i n e);
    hangs = λ i n p e q. absurd (empty i n e);
    leads = λ i n r j e q. absurd (empty i n e);
    fits = λ i n e. absurd (empty i n e);
  }

  pub apart_emptied : AreApart new
  apart_emptied a b x y e f s = absurd (empty a x e)

-- without a root there is no node
module _ (at : ℕ → Option Node) (tree : IsTree at None) where
  pub none_yet : (d k : ℕ) (n : Node) → at k ≡ Some n → n.depth ≡ d → ⊥
  none_yet zero k n e s = by n.parent refl
    where
      by : (o : Option ℕ) → n.parent ≡ o → ⊥
      by None q = none_of k None refl (tree.rooted k n e q)
      by (Some p) q = absurd (omega (arith, (tree.hangs k n p e q).deeper, s))
  none_yet (suc d) k n e s =
      let p = parent_of at None tree k n d e s in
      none_yet d p.0 p.1.from p.1.there (omega (arith, p.1.deeper, s))

-- the first node of a tree
module _ (at new : ℕ → Option Node) (tree : IsTree at None) (f key number : ℕ) (fit : key < 2 ^ 64)
    (now : new f ≡ Some (record { key = key; number = number; depth = 0; parent = None; left = None; right = None }))
    (others : (k : ℕ) → k ≢ f → new k ≡ at k) where
  planted : Node
  planted = record { key = key; number = number; depth = 0; parent = None; left = None; right = None }

  only_f : (k : ℕ) (n : Node) → new k ≡ Some n
      → (k ≡ f) × (record { key = key; number = number; depth = 0; parent = None; left = None; right = None } ≡ n)
  only_f k n e = elim (cases_eq k f) [
    | inl s ↦ (
      s,
      same_node new f
          (record { key = key; number = number; depth = 0; parent = None; left = None; right = None }) n now
          (subst (λ (x : ℕ). new x ≡ Some n) s e),
    )
    | inr d ↦ absurd (none_yet at tree n.depth k n (sym (others k d) ∙ e) refl)
  ]

  pub tree_planted : IsTree new (Some f)
  tree_planted = record {
    begins = λ i e. (
        let s : f ≡ i = same_number f i (Some f) refl e in
        record {
          node = record { key = key; number = number; depth = 0; parent = None; left = None; right = None };
          there = subst (λ (x : ℕ). new x ≡ Some
              (record { key = key; number = number; depth = 0; parent = None; left = None; right = None })) s now;
          top = refl;
          free = refl;
        });
    rooted = λ i n e q. ap (λ (x : ℕ). Some x) (sym (only_f i n e).0);
    hangs = λ i n p e q. absurd (none_of p n.parent
        (ap (λ (x : Node). x.parent) (sym (only_f i n e).1)) q);
    leads = λ i n r j e q. absurd (no_child r j (subst (λ (x : Node). child r x ≡ Some j) (sym (only_f i n e).1) q));
    fits = λ i n e. subst (λ (x : Node). x.key < 2 ^ 64) (only_f i n e).1 fit;
  }
    where
      no_child : (r : Bool) (j : ℕ) → child r
          (record { key = key; number = number; depth = 0; parent = None; left = None; right = None }) ≡ Some j → ⊥
      no_child true j e = none_of j None refl e
      no_child false j e = none_of j None refl e

  pub apart_planted : AreApart new
  apart_planted a b x y e g s = (only_f a x e).0 ∙ sym (only_f b y g).0

-- a node is hung below another
module _ (at new : ℕ → Option Node) (root : Option ℕ) (tree : IsTree at root) (i f key number : ℕ) (n : Node)
    (there : at i ≡ Some n) (bits : Agree n.depth n.key key) (free : child (side n.depth key) n ≡ None)
    (vacant : at f ≡ None) (fit : key < 2 ^ 64)
    (linked : new i ≡ Some (with_child (side n.depth key) (Some f) n))
    (now : new f ≡ Some
    (record { key = key; number = number; depth = n.depth + 1; parent = Some i; left = None; right = None }))
    (others : (k : ℕ) → k ≢ i → k ≢ f → new k ≡ at k) where
  abbrev hung : Node
  hung = record { key = key; number = number; depth = n.depth + 1; parent = Some i; left = None; right = None }

  hung_forth : (k : ℕ) (m : Node) → at k ≡ Some m → (x : Node) × (new k ≡ Some x) × Kept m x
      × ((r : Bool) (c : ℕ) → child r m ≡ Some c → child r x ≡ Some c)
  hung_forth k m e = elim (cases_eq k i) [
    | inl s ↦
        let node : n ≡ m = same_node at i n m there (subst (λ (y : ℕ). at y ≡ Some m) s e) in
        subst
        (λ (m : Node). (x : Node) × (new k ≡ Some x) × Kept m x
        × ((r : Bool) (c : ℕ) → child r m ≡ Some c → child r x ≡ Some c))
        node (
          with_child (side n.depth key) (Some f) n,
          subst (λ (y : ℕ). new y ≡ Some (with_child (side n.depth key) (Some f) n)) (sym s) linked,
          kept_with (side n.depth key) (Some f) n,
          λ r c q. elim (same_or r (side n.depth key)) [
            | inl t ↦ absurd (none_of c (child r n) (ap (λ (y : Bool). child y n) t ∙ free) q)
            | inr t ↦ child_other (side n.depth key) r (Some f) n t ∙ q
          ],
        )
    | inr d ↦ elim (cases_eq k f) [
      | inl s ↦ absurd (none_of m (at f) vacant (subst (λ (y : ℕ). at y ≡ Some m) s e))
      | inr g ↦ (m, others k d g ∙ e, record { deep = refl; up = refl; bits = refl }, λ r c q. q)
    ]
  ]

  -- what a node was before
  record Was (k : ℕ) (x : Node) : Type 0 where
    old : Node
    here : at k ≡ Some old
    kept : Kept old x
    same : (r : Bool) (c : ℕ) → child r x ≡ Some c → (child r old ≡ Some c) ⊎ ((k ≡ i) × (old ≡ n)
        × (r ≡ side n.depth key) × (c ≡ f))

  hung_back : (k : ℕ) (x : Node) → new k ≡ Some x → ((k ≡ f) × (hung ≡ x)) ⊎ Was k x
  hung_back k x e = elim (cases_eq k f) [
    | inl s ↦ inl (s, same_node new f hung x now (subst (λ (y : ℕ). new y ≡ Some x) s e))
    | inr g ↦ elim (cases_eq k i) [
      | inl s ↦
          let node : with_child (side n.depth key) (Some f) n ≡ x = same_node new i
          (with_child (side n.depth key) (Some f) n) x linked (subst (λ (y : ℕ). new y ≡ Some x) s e) in
          inr (subst (λ (x : Node). Was k x) node (record {
            old = n;
            here = subst (λ (y : ℕ). at y ≡ Some n) (sym s) there;
            kept = kept_with (side n.depth key) (Some f) n;
            same = λ r c q. elim (same_or r (side n.depth key)) [
              | inl t ↦ inr (
                s,
                refl,
                t,
                same_number c f (child r (with_child (side n.depth key) (Some f) n)) q
                    (ap (λ (y : Bool). child y (with_child (side n.depth key) (Some f) n)) t
                    ∙ child_same (side n.depth key) (Some f) n),
              )
              | inr t ↦ inl (sym (child_other (side n.depth key) r (Some f) n t) ∙ q)
            ];
          }))
      | inr d ↦ inr (record {
        old = x;
        here = sym (others k d g) ∙ e;
        kept = record { deep = refl; up = refl; bits = refl };
        same = λ r c q. inl q;
      })
    ]
  ]

  hung_leaf : (r : Bool) (j : ℕ) → child r hung ≡ Some j → ⊥
  hung_leaf true j e = none_of j None refl e
  hung_leaf false j e = none_of j None refl e

  hung_hangs : (k : ℕ) (x : Node) (p : ℕ) → new k ≡ Some x → x.parent ≡ Some p → Hangs new k x p
  hung_hangs k x p e q = elim (hung_back k x e) [
    | inl b ↦
        let s : p ≡ i = same_number p i x.parent q (ap (λ (y : Node). y.parent) (sym b.1)) in
        subst (λ (y : ℕ). Hangs new k x y) (sym s) (subst (λ (y : Node). Hangs new k y i) b.1 (record {
          from = with_child (side n.depth key) (Some f) n;
          there = linked;
          deeper = ap (λ (y : ℕ). y + 1) (sym (kept_with (side n.depth key) (Some f) n).deep);
          link = ap (λ (y : ℕ). child (side y key) (with_child (side n.depth key) (Some f) n))
              (kept_with (side n.depth key) (Some f) n).deep
              ∙ child_same (side n.depth key) (Some f) n ∙ ap (λ (y : ℕ). Some y) (sym b.0);
          bits = subst (λ (y : ℕ). Agree y key (with_child (side n.depth key) (Some f) n).key)
              (sym (kept_with (side n.depth key) (Some f) n).deep)
              (sym bits ∙ ap (λ (y : ℕ). y % 2 ^ n.depth) (sym (key_with (side n.depth key) (Some f) n)));
        }))
    | inr w ↦
        let up : w.old.parent ≡ Some p = sym w.kept.up ∙ q in
        let h = tree.hangs k w.old p w.here up in
        let g = hung_forth p h.from h.there in
        let d : g.0.depth ≡ h.from.depth = g.2.deep in
        let less : Agree h.from.depth x.key w.old.key = agree_less x.key w.old.key h.from.depth 1 w.old.depth
        (omega (arith, h.deeper)) w.kept.bits in
        let turn : side h.from.depth x.key ≡ side h.from.depth w.old.key = agree_side x.key w.old.key h.from.depth
        w.old.depth (omega (arith, h.deeper)) w.kept.bits in
        record {
          from = g.0;
          there = g.1;
          deeper = omega (arith, w.kept.deep, h.deeper, d);
          link = rw (d, turn) (g.3 (side h.from.depth w.old.key) k h.link);
          bits = rw d (less ∙ h.bits ∙ sym g.2.bits);
        }
  ]

  hung_leads : (k : ℕ) (x : Node) (r : Bool) (c : ℕ) → new k ≡ Some x → child r x ≡ Some c → IsChild new k x r c
  hung_leads k x r c e q = elim (hung_back k x e) [
    | inl b ↦ absurd (hung_leaf r c (subst (λ (y : Node). child r y ≡ Some c) (sym b.1) q))
    | inr w ↦ elim (w.same r c q) [
      | inl o ↦
          let t = tree.leads k w.old r c w.here o in
          let g = hung_forth c t.to t.there in
          let h = tree.hangs c t.to k t.there t.up in
          let node : h.from ≡ w.old = same_node at k h.from w.old h.there w.here in
          let deeper : t.to.depth ≡ 1 + w.old.depth = omega (arith, h.deeper, ap (λ (y : Node). y.depth) node) in
          record {
            to = g.0;
            there = g.1;
            up = g.2.up ∙ t.up;
            bit = ap (λ (y : ℕ). side y g.0.key) w.kept.deep
                ∙ agree_side g.0.key t.to.key w.old.depth t.to.depth deeper g.2.bits ∙ t.bit;
          }
      | inr o ↦ record {
        to = hung;
        there = subst (λ (y : ℕ). new y ≡ Some hung) (sym o.3) now;
        up = ap (λ (y : ℕ). Some y) (sym o.0);
        bit = ap (λ (y : ℕ). side y key) (w.kept.deep ∙ ap (λ (y : Node). y.depth) o.1) ∙ sym o.2;
      }
    ]
  ]

  pub tree_hung : IsTree new root
  tree_hung = record {
    begins = λ r e. (
        let b = tree.begins r e in
        let g = hung_forth r b.node b.there in
        record { node = g.0; there = g.1; top = g.2.deep ∙ b.top; free = g.2.up ∙ b.free });
    rooted = λ k x e q. elim (hung_back k x e) [
      | inl b ↦ absurd (none_of i x.parent q (ap (λ (y : Node). y.parent) (sym b.1)))
      | inr w ↦ tree.rooted k w.old w.here (sym w.kept.up ∙ q)
    ];
    hangs = hung_hangs;
    leads = hung_leads;
    fits = λ k x e. elim (cases_eq k f) [
      | inl s ↦ subst (λ (y : Node). y.key < 2 ^ 64)
          (same_node new f hung x now (subst (λ (y : ℕ). new y ≡ Some x) s e)) fit
      | inr g ↦ elim (cases_eq k i) [
        | inl s ↦ subst (λ (y : Node). y.key < 2 ^ 64)
            (same_node new i (with_child (side n.depth key) (Some f) n) x linked
            (subst (λ (y : ℕ). new y ≡ Some x) s e))
            (subst (λ (y : ℕ). y < 2 ^ 64) (sym (key_with (side n.depth key) (Some f) n)) (tree.fits i n there))
        | inr d ↦ tree.fits k x (sym (others k d g) ∙ e)
      ]
    ];
  }

  hung_key : (k : ℕ) (x : Node) → new k ≡ Some x
      → ((k ≡ f) × (x.key ≡ key)) ⊎ ((o : Node) × (at k ≡ Some o) × (x.key ≡ o.key))
  hung_key k x e = elim (cases_eq k f) [
    | inl s ↦ inl (
      s,
      ap (λ (y : Node). y.key) (sym
          (same_node new f hung x now (subst (λ (y : ℕ). new y ≡ Some x) s e))),
    )
    | inr g ↦ elim (cases_eq k i) [
      | inl s ↦ inr (
        n,
        subst (λ (y : ℕ). at y ≡ Some n) (sym s) there,
        ap (λ (y : Node). y.key)
            (sym (same_node new i (with_child (side n.depth key) (Some f) n) x linked
            (subst (λ (y : ℕ). new y ≡ Some x) s e))) ∙ key_with (side n.depth key) (Some f) n,
      )
      | inr d ↦ inr (x, sym (others k d g) ∙ e, refl)
    ]
  ]

  pub apart_hung : AreApart at → ((k : ℕ) (m : Node) → at k ≡ Some m → m.key ≢ key) → AreApart new
  apart_hung apart absent a b x y e g s = elim (hung_key a x e) [
    | inl u ↦ elim (hung_key b y g) [
      | inl v ↦ u.0 ∙ sym v.0
      | inr v ↦ absurd (absent b v.0 v.1 (sym v.2 ∙ sym s ∙ u.1))
    ]
    | inr u ↦ elim (hung_key b y g) [
      | inl v ↦ absurd (absent a u.0 u.1 (sym u.2 ∙ s ∙ v.1))
      | inr v ↦ apart a b u.0 v.0 u.1 v.1 (sym u.2 ∙ s ∙ v.2)
    ]
  ]
