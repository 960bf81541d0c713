-- A number is put under a key.
use Rattle.std.proofs.Common.{ℕ, ◌≡◌, ◌≢◌, ◌+◌, ◌^◌, ◌%◌, ◌<◌, ◌≤◌, inl, inr, Bool, true, false, List, Option}
use Rattle.std.proofs.Common.{None, Some, is_some, if◌then◌else◌, refl, sym, ap, ◌∙◌, subst, arith}
use Rattle.std.proofs.lemmas.Bool.{cases_eq}
use Rattle.key_tree.specs.declared.node.Node.{Node}
use Rattle.key_tree.specs.Trees.{side, child, with_child, node_with_entry, hung_from, planted, IsSound, WayEnds}
use Rattle.key_tree.specs.Entries.{number_of, entries_of, put}
use Rattle.key_tree.proofs.Growth.{tree_planted, apart_planted, none_yet, tree_rekeyed}
use Rattle.key_tree.proofs.Growth.{apart_rekeyed, tree_hung, apart_hung}
use Rattle.key_tree.proofs.Numbers.{at_of, put_numbers, number_absent, number_is}

same_node : (at : ℕ → Option Node) (i : ℕ) (n m : Node) → at i ≡ Some n → at i ≡ Some m → n ≡ m
same_node at i n m e f =
    let one : Some n ≡ Some m = sym e ∙ f in
    cc

pub len_absent : (number : Option ℕ) (new old : ℕ) → number ≡ None → new ≡ old + 1
    → new ≡ (if is_some number then old else old + 1)
len_absent number new old e l = rw e l

pub len_there : (number : Option ℕ) (x new old : ℕ) → number ≡ Some x → new ≡ old
    → new ≡ (if is_some number then old else old + 1)
len_there number x new old e l = rw e l

-- the first
module _ (xs ys : List (Option Node)) (root : Option ℕ) (f key number : ℕ) (sound : IsSound (at_of xs) root)
    (none : root ≡ None) (vacant : at_of xs f ≡ None) (there : at_of ys f ≡ Some (planted key number))
    (others : (i : ℕ) → i ≢ f → at_of ys i ≡ at_of xs i) (fit : key < 2 ^ 64) where
  empty : IsSound (at_of xs) None
  empty = subst (λ (x : Option ℕ). IsSound (at_of xs) x) none sound

  pub planted_sound : IsSound (at_of ys) (Some f)
  planted_sound = record {
    tree = tree_planted (at_of xs) (at_of ys) empty.tree f key number fit there others;
    apart = apart_planted (at_of xs) (at_of ys) empty.tree f key number fit there others;
  }

  pub planted_numbers : (q : ℕ) → number_of (entries_of ys) q ≡ put key number (entries_of xs) q
  planted_numbers = put_numbers xs ys empty.apart planted_sound.apart key
      (λ i n e d. absurd (none_yet (at_of xs) empty.tree n.depth i n e refl))
      (λ i n e d. elim (cases_eq i f) [
        | inl s ↦
            let same : planted key number ≡ n = same_node (at_of ys) f (planted key number) n there
            (subst (λ (x : ℕ). at_of ys x ≡ Some n) s e) in
            absurd (d (ap (λ (x : Node). x.key) (sym same)))
        | inr g ↦ absurd (none_yet (at_of xs) empty.tree n.depth i n (sym (others i g) ∙ e) refl)
      ])
      number (record { i = f; n = planted key number; there = there; key_is = refl; number_is = refl })

  pub planted_absent : number_of (entries_of xs) key ≡ None
  planted_absent = number_absent xs key (λ i n e s. none_yet (at_of xs) empty.tree n.depth i n e refl)

-- in place of another
module _ (xs ys : List (Option Node)) (root : Option ℕ) (i key number : ℕ) (n : Node)
    (sound : IsSound (at_of xs) root) (there : at_of xs i ≡ Some n) (is : n.key ≡ key)
    (now : at_of ys i ≡ Some (node_with_entry key number n))
    (others : (k : ℕ) → k ≢ i → at_of ys k ≡ at_of xs k) (fit : key < 2 ^ 64) where
  pub set_sound : IsSound (at_of ys) root
  set_sound = record {
    tree = tree_rekeyed (at_of xs) (at_of ys) root sound.tree i n there key number
        (ap (λ (x : ℕ). x % 2 ^ n.depth) (sym is)) fit now others;
    apart = apart_rekeyed (at_of xs) (at_of ys) root sound.tree i n there key number
        (ap (λ (x : ℕ). x % 2 ^ n.depth) (sym is)) fit now others sound.apart
        (λ k m e d s. d (sound.apart k i m n e there (s ∙ sym is)));
  }

  pub set_numbers : (q : ℕ) → number_of (entries_of ys) q ≡ put key number (entries_of xs) q
  set_numbers = put_numbers xs ys sound.apart set_sound.apart key
      (λ k m e d. (
      let g : k ≢ i = λ s. d (ap (λ (x : Node). x.key) (same_node (at_of xs) i m n
      (subst (λ (x : ℕ). at_of xs x ≡ Some m) s e) there) ∙ is) in
      record { i = k; n = m; there = others k g ∙ e; key_is = refl; number_is = refl }))
      (λ k m e d. (
      let g : k ≢ i = λ s. d (ap (λ (x : Node). x.key) (same_node (at_of ys) i m (node_with_entry key number n)
      (subst (λ (x : ℕ). at_of ys x ≡ Some m) s e) now)) in
      record { i = k; n = m; there = sym (others k g) ∙ e; key_is = refl }))
      number (record { i = i; n = node_with_entry key number n; there = now; key_is = refl; number_is = refl })

  pub set_there : number_of (entries_of xs) key ≡ Some n.number
  set_there = number_is xs sound.apart key n.number
      (record { i = i; n = n; there = there; key_is = is; number_is = refl })

-- below the end of its way
module _ (xs ys : List (Option Node)) (root : Option ℕ) (i f key number : ℕ) (n : Node)
    (sound : IsSound (at_of xs) root) (end : WayEnds (at_of xs) key i) (there : at_of xs i ≡ Some n) (not : n.key ≢ key)
    (vacant : at_of xs f ≡ None) (now : at_of ys f ≡ Some (hung_from i n key number))
    (linked : at_of ys i ≡ Some (with_child (side n.depth key) (Some f) n))
    (others : (k : ℕ) → k ≢ i → k ≢ f → at_of ys k ≡ at_of xs k) (fit : key < 2 ^ 64) where
  same : end.way.node ≡ n
  same = same_node (at_of xs) i end.way.node n end.way.there there

  deep : n.depth ≡ end.depth
  deep = ap (λ (x : Node). x.depth) (sym same) ∙ end.way.deep

  record Facts : Type 0 where
    bits : n.key % 2 ^ n.depth ≡ key % 2 ^ n.depth
    free : child (side n.depth key) n ≡ None
    absent : (j : ℕ) (m : Node) → at_of xs j ≡ Some m → m.key ≢ key
    shallow : n.depth < 64

  facts : Facts
  facts = elim end.ends [
    | inl e ↦ absurd (not (ap (λ (x : Node). x.key) (sym same) ∙ e))
    | inr m ↦ record {
      bits = subst (λ (x : ℕ). n.key % 2 ^ x ≡ key % 2 ^ x) (sym deep)
          (ap (λ (x : Node). x.key % 2 ^ end.depth) (sym same) ∙ end.way.bits);
      free = subst (λ (x : ℕ). child (side x key) n ≡ None) (sym deep)
          (ap (λ (x : Node). child (side end.depth key) x) (sym same) ∙ m.free);
      absent = m.absent;
      shallow = subst (λ (x : ℕ). x < 64) (sym deep) m.shallow;
    }
  ]

  pub hung_sound : IsSound (at_of ys) root
  hung_sound = record {
    tree = tree_hung (at_of xs) (at_of ys) root sound.tree i f key number n there facts.bits facts.free vacant fit
        linked
        now others;
    apart = apart_hung (at_of xs) (at_of ys) root sound.tree i f key number n there facts.bits facts.free vacant fit
        linked now others sound.apart facts.absent;
  }

  linked_entry : (s : Bool) (to : Option ℕ) → ((with_child s to n).key ≡ n.key)
      × ((with_child s to n).number ≡ n.number)
  linked_entry true to = (refl, refl)
  linked_entry false to = (refl, refl)

  pub hung_numbers : (q : ℕ) → number_of (entries_of ys) q ≡ put key number (entries_of xs) q
  hung_numbers = put_numbers xs ys sound.apart hung_sound.apart key
      (λ k m e d. elim (cases_eq k i) [
        | inl s ↦
            let w = linked_entry (side n.depth key) (Some f) in
            let node : n ≡ m = same_node (at_of xs) i n m there (subst (λ (x : ℕ). at_of xs x ≡ Some m) s e) in
            record {
              i = i;
              n = with_child (side n.depth key) (Some f) n;
              there = linked;
              key_is = w.0 ∙ ap (λ (x : Node). x.key) node;
              number_is = w.1 ∙ ap (λ (x : Node). x.number) node;
            }
        | inr g ↦
            let away : k ≢ f = λ s. (
            let none : None ≡ Some m = sym vacant ∙ subst (λ (x : ℕ). at_of xs x ≡ Some m) s e in
            cc) in
            record { i = k; n = m; there = others k g away ∙ e; key_is = refl; number_is = refl }
      ])
      (λ k m e d. elim (cases_eq k f) [
        | inl s ↦
            let node : hung_from i n key number ≡ m = same_node (at_of ys) f (hung_from i n key number) m now
            (subst (λ (x : ℕ). at_of ys x ≡ Some m) s e) in
            absurd (d (ap (λ (x : Node). x.key) (sym node)))
        | inr g ↦ elim (cases_eq k i) [
          | inl s ↦
              let w = linked_entry (side n.depth key) (Some f) in
              let node : with_child (side n.depth key) (Some f) n ≡ m = same_node (at_of ys) i
              (with_child (side n.depth key) (Some f) n) m linked (subst (λ (x : ℕ). at_of ys x ≡ Some m) s e) in
              record { i = i; n = n; there = there; key_is = sym w.0 ∙ ap (λ (x : Node). x.key) node }
          | inr h ↦ record { i = k; n = m; there = sym (others k h g) ∙ e; key_is = refl }
        ]
      ])
      number (record { i = f; n = hung_from i n key number; there = now; key_is = refl; number_is = refl })

  pub hung_absent : number_of (entries_of xs) key ≡ None
  hung_absent = number_absent xs key facts.absent

pub hang_room : (xs : List (Option Node)) (i key : ℕ) (m : Node) → WayEnds (at_of xs) key i
    → at_of xs i ≡ Some m → m.key ≢ key → (n : Node) → at_of xs i ≡ Some n → n.depth < 64
hang_room xs i key m end there d n e = elim end.ends [
  | inl s ↦ absurd (d (ap (λ (x : Node). x.key) (same_node (at_of xs) i m end.way.node there end.way.there) ∙ s))
  | inr f ↦ subst (λ (x : ℕ). x < 64) (sym
      (ap (λ (x : Node). x.depth) (same_node (at_of xs) i n end.way.node e end.way.there) ∙ end.way.deep)) f.shallow
]

pub way_none : (xs : List (Option Node)) (root : Option ℕ) (i key : ℕ) (m : Node) → IsSound (at_of xs) root
    → WayEnds (at_of xs) key i → at_of xs i ≡ Some m → m.key ≢ key → number_of (entries_of xs) key ≡ None
way_none xs root i key m sound end there d = elim end.ends [
  | inl s ↦ absurd (d (ap (λ (x : Node). x.key) (same_node (at_of xs) i m end.way.node there end.way.there) ∙ s))
  | inr f ↦ number_absent xs key f.absent
]

pub root_none : (xs : List (Option Node)) (root : Option ℕ) (key : ℕ) → IsSound (at_of xs) root → root ≡ None
    → number_of (entries_of xs) key ≡ None
root_none xs root key sound none =
    let empty : IsSound (at_of xs) None = subst (λ (x : Option ℕ). IsSound (at_of xs) x) none sound in
    number_absent xs key (λ i n e s. none_yet (at_of xs) empty.tree n.depth i n e refl)

pub number_there : (xs : List (Option Node)) (root : Option ℕ) (i key : ℕ) (m : Node) → IsSound (at_of xs) root
    → at_of xs i ≡ Some m → ((n : Node) × (at_of xs i ≡ Some n) × (n.key ≡ key))
    → Some m.number ≡ number_of (entries_of xs) key
number_there xs root i key m sound e h =
    sym (number_is xs sound.apart key m.number (record {
      i = i;
      n = m;
      there = e;
      key_is = ap (λ (x : Node). x.key) (same_node (at_of xs) i m h.0 e h.1) ∙ h.2;
      number_is = refl;
    }))

pub len_within : (number : Option ℕ) (new old cap : ℕ) → new ≡ (if is_some number then old else old + 1) → old < cap
    → new ≤ cap
len_within None new old cap e l = omega (arith, e)
len_within (Some x) new old cap e l = omega (arith, e)
