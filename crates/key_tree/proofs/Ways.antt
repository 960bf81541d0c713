-- The way of a key from the root.
use Rattle.std.proofs.Common.{ℕ, zero, suc, ◌≡◌, ◌≢◌, ◌+◌, ◌*◌, ◌^◌, ◌/◌, ◌%◌, ◌<◌, ◌≤◌, ◌==◌, inl, inr, Bool}
use Rattle.std.proofs.Common.{◌-◌, ◌⊎◌, Option, None, Some, refl, sym, ap, ◌∙◌, subst, arith}
use Rattle.std.proofs.lemmas.Bool.{cases_eq}
use Rattle.std.proofs.lemmas.Bool.Decides.{nat_tests}
use Rattle.std.proofs.lemmas.Nat.{mod-pow-add, mod_below}
use Rattle.std.proofs.Math.Pow.{mod-mod-pow, field}
use Rattle.key_tree.specs.declared.node.Node.{Node}
use Rattle.key_tree.specs.Trees.{side, child, Agree, Hangs, IsTree, Reached, WayEnds}

-- fewer bits
pub agree_less : (a b d k e : ℕ) → e ≡ k + d → Agree e a b → Agree d a b
agree_less a b d k e s h =
    let g : a % 2 ^ (k + d) ≡ b % 2 ^ (k + d) = subst (λ (x : ℕ). Agree x a b) s h in
    sym (mod-mod-pow a k d) ∙ ap (λ (x : ℕ). x % 2 ^ d) g ∙ mod-mod-pow b k d

-- the next bit
pub agree_side : (a b d e : ℕ) → e ≡ 1 + d → Agree e a b → side d a ≡ side d b
agree_side a b d e s h =
    let g : a % 2 ^ (1 + d) ≡ b % 2 ^ (1 + d) = subst (λ (x : ℕ). Agree x a b) s h in
    ap (λ (x : ℕ). x == 1) (sym (field a 1 d) ∙ ap (λ (x : ℕ). x / 2 ^ d) g ∙ field b 1 d)

bit_of : (x y : ℕ) → x < 2 → y < 2 → (x == 1) ≡ (y == 1) → x ≡ y
bit_of x y l m e = grind (arith, nat_tests)

pub agree_more : (a b d e : ℕ) → e ≡ 1 + d → Agree d a b → side d a ≡ side d b → Agree e a b
agree_more a b d e s h t =
    let bit : a / 2 ^ d % 2 ^ 1 ≡ b / 2 ^ d % 2 ^ 1 = bit_of (a / 2 ^ d % 2) (b / 2 ^ d % 2)
    (mod_below (a / 2 ^ d) 2 (omega arith)) (mod_below (b / 2 ^ d) 2 (omega arith)) t in
    let g : a % 2 ^ (1 + d) ≡ b % 2 ^ (1 + d) =
    mod-pow-add a 1 d
    ∙ ap (λ (x : ℕ). x * 2 ^ d + a % 2 ^ d) bit
    ∙ ap (λ (x : ℕ). (b / 2 ^ d % 2 ^ 1) * 2 ^ d + x) h
    ∙ sym (mod-pow-add b 1 d) in
    subst (λ (x : ℕ). Agree x a b) (sym s) g

-- all bits
pub agree_all : (a b d : ℕ) → a < 2 ^ 64 → b < 2 ^ 64 → 64 ≤ d → Agree d a b → a ≡ b
agree_all a b d l m s h =
    let g : Agree 64 a b = agree_less a b 64 (d - 64) d (omega arith) h in
    omega (arith, g)

module _ (at : ℕ → Option Node) (root : Option ℕ) (tree : IsTree at root) where
  pub parent_of : (i : ℕ) (n : Node) (d : ℕ) → at i ≡ Some n → n.depth ≡ suc d → (p : ℕ) × Hangs at i n p
  parent_of i n d e s = by n.parent refl
    where
      by : (o : Option ℕ) → n.parent ≡ o → (p : ℕ) × Hangs at i n p
      by None q =
          let r = tree.begins i (tree.rooted i n e q) in
          let same : Some n ≡ Some r.node = sym e ∙ r.there in
          let same_node : n ≡ r.node = cc in
          absurd (omega (arith, ap (λ (x : Node). x.depth) same_node, r.top, s))
      by (Some p) q = (p, tree.hangs i n p e q)

  -- there is one node at each depth of a way
  pub one_at : (d : ℕ) (i j : ℕ) (n m : Node) → at i ≡ Some n → at j ≡ Some m → n.depth ≡ d → m.depth ≡ d
      → Agree d n.key m.key → i ≡ j
  one_at zero i j n m e f s t h =
      let a = top i n e s in
      let b = top j m f t in
      let same : Some i ≡ Some j = sym a ∙ b in
      cc
    where
      top : (i : ℕ) (n : Node) → at i ≡ Some n → n.depth ≡ 0 → root ≡ Some i
      top i n e s = by n.parent refl
        where
          by : (o : Option ℕ) → n.parent ≡ o → root ≡ Some i
          by None q = tree.rooted i n e q
          by (Some p) q = absurd (omega (arith, (tree.hangs i n p e q).deeper, s))
  one_at (suc d) i j n m e f s t h =
      let p = parent_of i n d e s in
      let q = parent_of j m d f t in
      let dp : p.1.from.depth ≡ d = omega (arith, p.1.deeper, s) in
      let dq : q.1.from.depth ≡ d = omega (arith, q.1.deeper, t) in
      let less : Agree d n.key m.key = agree_less n.key m.key d 1 (suc d) (omega arith) h in
      let bp : Agree d n.key p.1.from.key = subst (λ (x : ℕ). Agree x n.key p.1.from.key) dp p.1.bits in
      let bq : Agree d m.key q.1.from.key = subst (λ (x : ℕ). Agree x m.key q.1.from.key) dq q.1.bits in
      let same : p.0 ≡ q.0 = one_at d p.0 q.0 p.1.from q.1.from p.1.there q.1.there dp dq (sym bp ∙ less ∙ bq) in
      let there : at p.0 ≡ Some q.1.from = subst (λ (x : ℕ). at x ≡ Some q.1.from) (sym same) q.1.there in
      let one : Some p.1.from ≡ Some q.1.from = sym p.1.there ∙ there in
      let node : p.1.from ≡ q.1.from = cc in
      let turn : side d n.key ≡ side d m.key = agree_side n.key m.key d (suc d) (omega arith) h in
      let lp : child (side d n.key) p.1.from ≡ Some i = subst (λ (x : ℕ). child (side x n.key) p.1.from ≡ Some i) dp
      p.1.link in
      let lq : child (side d m.key) q.1.from ≡ Some j = subst (λ (x : ℕ). child (side x m.key) q.1.from ≡ Some j) dq
      q.1.link in
      let both : Some i ≡ Some j = sym lp ∙ ap (λ (b : Bool). child b p.1.from) turn
      ∙ ap (λ (x : Node). child (side d m.key) x) node ∙ lq in
      cc

  -- above each node there is one at each lesser depth
  pub above : (k d j : ℕ) (m : Node) → at j ≡ Some m → m.depth ≡ k + d
      → (a : ℕ) × (n : Node) × (at a ≡ Some n) × (n.depth ≡ d) × Agree d n.key m.key
  above zero d j m e s = (j, m, e, omega arith, refl)
  above (suc k) d j m e s =
      let p = parent_of j m (k + d) e (omega arith) in
      let dp : p.1.from.depth ≡ k + d = omega (arith, p.1.deeper, s) in
      let r = above k d p.0 p.1.from p.1.there dp in
      let bits : Agree d m.key p.1.from.key = agree_less m.key p.1.from.key d k p.1.from.depth dp p.1.bits in
      (r.0, r.1, r.2, r.3, r.4 ∙ sym bits)

  -- a node with the key stands below the next on its way
  module _ (key i depth : ℕ) (here : Reached at key i depth) (other : here.node.key ≢ key) where
    pub below : (j : ℕ) (m : Node) → at j ≡ Some m → m.key ≡ key
        → (c : ℕ) × (child (side depth key) here.node ≡ Some c) × (depth + 1 ≤ m.depth)
    below j m e k = elim (cases_eq m.depth depth) [
      | inl s ↦ absurd (itself s)
      | inr s ↦ deeper (omega (arith, s, here.none_above j m e k))
    ]
      where
        itself : m.depth ≡ depth → ⊥
        itself s =
            let bits : Agree depth m.key here.node.key = rw k (sym here.bits) in
            let same : j ≡ i = one_at depth j i m here.node e here.there s here.deep bits in
            let there : at i ≡ Some m = subst (λ (x : ℕ). at x ≡ Some m) same e in
            let one : Some m ≡ Some here.node = sym there ∙ here.there in
            let node : m ≡ here.node = cc in
            other (sym (ap (λ (x : Node). x.key) node) ∙ k)

        deeper : depth + 1 ≤ m.depth → (c : ℕ) × (child (side depth key) here.node ≡ Some c) × (depth + 1 ≤ m.depth)
        deeper l =
            let r = above (m.depth - (depth + 1)) (depth + 1) j m e (omega arith) in
            let p = parent_of r.0 r.1 depth r.2 (omega (arith, r.3)) in
            let dp : p.1.from.depth ≡ depth = omega (arith, p.1.deeper, r.3) in
            let bits : Agree (depth + 1) r.1.key key = subst (λ (x : ℕ). Agree (depth + 1) r.1.key x) k r.4 in
            let less : Agree depth r.1.key key = agree_less r.1.key key depth 1 (depth + 1) (omega arith) bits in
            let up : Agree depth r.1.key p.1.from.key = subst (λ (x : ℕ). Agree x r.1.key p.1.from.key) dp p.1.bits in
            let same : p.0 ≡ i = one_at depth p.0 i p.1.from here.node p.1.there here.there dp here.deep
            (sym up ∙ less ∙ sym here.bits) in
            let there : at i ≡ Some p.1.from = subst (λ (x : ℕ). at x ≡ Some p.1.from) same p.1.there in
            let one : Some p.1.from ≡ Some here.node = sym there ∙ here.there in
            let node : p.1.from ≡ here.node = cc in
            let turn : side depth r.1.key ≡ side depth key = agree_side r.1.key key depth (depth + 1) (omega arith)
            bits in
            let link : child (side depth r.1.key) p.1.from ≡ Some r.0 = subst
            (λ (x : ℕ). child (side x r.1.key) p.1.from ≡ Some r.0) dp p.1.link in (
              r.0,
              sym (ap (λ (b : Bool). child b here.node) turn)
                  ∙ sym (ap (λ (x : Node). child (side depth r.1.key) x) node)
                  ∙ link,
              l,
            )

    -- the way ends: no node has the key
    pub ends : child (side depth key) here.node ≡ None → (j : ℕ) (m : Node) → at j ≡ Some m → m.key ≢ key
    ends none j m e k =
        let r = below j m e k in
        let no : None ≡ Some r.0 = sym none ∙ r.1 in
        cc

    -- the way goes on
    pub next : (c : ℕ) → child (side depth key) here.node ≡ Some c → Reached at key c (depth + 1)
    next c link =
        let l : child (side here.node.depth key) here.node ≡ Some c = rw here.deep link in
        let to = tree.leads i here.node (side here.node.depth key) c here.there l in
        let up = tree.hangs c to.to i to.there to.up in
        let one : Some up.from ≡ Some here.node = sym up.there ∙ here.there in
        let node : up.from ≡ here.node = cc in
        let d : up.from.depth ≡ depth = ap (λ (x : Node). x.depth) node ∙ here.deep in
        let bits : Agree depth to.to.key up.from.key = subst (λ (x : ℕ). Agree x to.to.key up.from.key) d up.bits in
        let less : Agree depth to.to.key key = bits ∙ ap (λ (x : Node). x.key % 2 ^ depth) node ∙ here.bits in
        let turn : side depth to.to.key ≡ side depth key = subst (λ (x : ℕ). side x to.to.key ≡ side x key) here.deep
        to.bit in
        record {
          node = to.to;
          there = to.there;
          deep = up.deeper ∙ ap (λ (x : ℕ). x + 1) d;
          bits = agree_more to.to.key key depth (depth + 1) (omega arith) less turn;
          none_above = λ j m e k. (below j m e k).2;
        }

    -- there are bits left
    pub room : key < 2 ^ 64 → depth < 64
    room k = elim (cases depth) [
      | inl l ↦ l
      | inr g ↦ absurd (other (agree_all here.node.key key depth (tree.fits i here.node here.there) k g here.bits))
    ]
      where
        cases : (d : ℕ) → (d < 64) ⊎ (64 ≤ d)
        cases d = grind arith

-- the same of the node as it was looked up
module _ (at : ℕ → Option Node) (root : Option ℕ) (tree : IsTree at root) (key i depth : ℕ)
    (here : Reached at key i depth) (n : Node) (there : at i ≡ Some n) where
  is_here : here.node ≡ n
  is_here =
      let one : Some here.node ≡ Some n = sym here.there ∙ there in
      cc

  pub way_found : n.key ≡ key → WayEnds at key i
  way_found e = record { depth = depth; way = here; ends = inl (ap (λ (x : Node). x.key) is_here ∙ e) }

  pub way_room : key < 2 ^ 64 → n.key ≢ key → depth < 64
  way_room k d = room at root tree key i depth here (λ e. d (ap (λ (x : Node). x.key) (sym is_here) ∙ e)) k

  pub way_ended : key < 2 ^ 64 → n.key ≢ key → child (side depth key) n ≡ None → WayEnds at key i
  way_ended k d e = record {
    depth = depth;
    way = here;
    ends = inr (record {
      shallow = way_room k d;
      free = ap (λ (x : Node). child (side depth key) x) is_here ∙ e;
      absent = ends at root tree key i depth here (λ e. d (ap (λ (x : Node). x.key) (sym is_here) ∙ e))
          (ap (λ (x : Node). child (side depth key) x) is_here ∙ e);
    });
  }

  pub way_next : (c : ℕ) → n.key ≢ key → child (side depth key) n ≡ Some c → Reached at key c (depth + 1)
  way_next c d e = next at root tree key i depth here (λ e. d (ap (λ (x : Node). x.key) (sym is_here) ∙ e)) c
      (ap (λ (x : Node). child (side depth key) x) is_here ∙ e)

pub way_begins : (at : ℕ → Option Node) (root key : ℕ) → IsTree at (Some root) → Reached at key root 0
way_begins at root key tree =
    let b = tree.begins root refl in
    record { node = b.node; there = b.there; deep = b.top; bits = grind arith; none_above = λ j m e k. omega arith }
