-- Slots, and the keys of those that are vacant.
use Rattle.std.proofs.Common.{ℕ, ◌≡◌, ◌≢◌, ◌+◌, ◌<◌, ◌≤◌, ◌⊎◌, inl, inr, false, List, [], ◌∷◌, ◌++◌, length}
use Rattle.std.proofs.Common.{get_or, set, map, All, Option, None, Some, is_some, cond, count_by, refl, sym, ap, subst}
use Rattle.std.proofs.Common.{◌∙◌, arith}
use Rattle.std.proofs.Math.Seq.{get_or-append_seam}
use Rattle.std.proofs.lemmas.List.{get_or_append_left, get_or_past, get_or-set_same, get_or-set_other, length-append}
use Rattle.std.proofs.lemmas.List.{append-nil, length-map, length-set, map-append, map-set}
use Rattle.std.proofs.lemmas.List.Elements.{All-append, All-cons, All-nil}
use Rattle.std.proofs.lemmas.List.Quantifiers.{all_pairs_push}
use Rattle.std.proofs.lemmas.List.Sums.{sum_by-append, sum_by-set}
use Rattle.slab.specs.Slab.{Slab, Updates}
use Rattle.kept_ops.specs.declared.division.Division.{Division}
use Rattle.kept_ops.specs.declared.operation.KeptOp.{KeptOp}
use Rattle.kept_ops.specs.declared.ops.Node.{Node}
use Rattle.kept_ops.specs.Divisions.{IsEven}
use Rattle.kept_ops.specs.Ops.{AreEven, AreVacant, live_node, op_in}

same_or_not : (m n : ℕ) → (m ≡ n) ⊎ (m ≢ n)
same_or_not m n = grind arith

abbrev single : Option KeptOp → ℕ
single o = cond (is_some o) 1 0

-- what is there is inside
pub inside_slots : (slots : List (Option KeptOp)) (k : ℕ) (o : KeptOp) → get_or slots k None ≡ Some o → k < length slots
inside_slots slots k o e = elim (cases k (length slots)) [
  | inl l ↦ l
  | inr l ↦
      let no : None ≡ Some o = sym (get_or_past slots k None l) ∙ e in
      cc
]
  where
    cases : (i n : ℕ) → (i < n) ⊎ (n ≤ i)
    cases i n = grind arith

counted_set : (slots : List (Option KeptOp)) (k : ℕ) (v : Option KeptOp) → k < length slots
    → count_by is_some (set slots k v) + single (get_or slots k None) ≡ count_by is_some slots + single v
counted_set slots k v l = sum_by-set single slots k v None l

-- ---- a vacant slot is filled

module _ (slots : List (Option KeptOp)) (keys front : List ℕ) (k : ℕ) (o : KeptOp) (h : AreVacant slots keys)
    (e : keys ≡ front ++ k ∷ []) where
  apart_all : AreVacant slots (front ++ k ∷ [])
  apart_all = subst (λ (l : List ℕ). AreVacant slots l) e h

  longer : length (front ++ k ∷ []) ≡ length front + 1
  longer = length-append front (k ∷ [])

  last_is : get_or (front ++ k ∷ []) (length front) k ≡ k
  last_is = get_or-append_seam front k [] k

  pub last_below : k < length slots
  last_below = subst (λ (j : ℕ). j < length slots) last_is
      (apart_all.below (length front) k (omega (arith, longer)))

  pub last_empty : get_or slots k None ≡ None
  last_empty = subst (λ (j : ℕ). get_or slots j None ≡ None) last_is
      (apart_all.empty (length front) k (omega (arith, longer)))

  front_is : (i d : ℕ) → i < length front → get_or (front ++ k ∷ []) i d ≡ get_or front i d
  front_is i d l = get_or_append_left front (k ∷ []) d i l

  not_last : (i d : ℕ) → i < length front → get_or front i d ≢ k
  not_last i d l same =
      let last : get_or (front ++ k ∷ []) (length front) d ≡ k = get_or-append_seam front k [] d in
      apart_all.apart i (length front) d l (omega (arith, longer)) (front_is i d l ∙ same ∙ sym last)

  pub filled : AreVacant (set slots k (Some o)) front
  filled = record {
    empty = λ i d l. get_or-set_other slots k (get_or front i d) (Some o) None (not_last i d l)
        ∙ subst (λ (j : ℕ). get_or slots j None ≡ None) (front_is i d l)
        (apart_all.empty i d (omega (arith, longer, l)));
    below = λ i d l. (
        let was = subst (λ (j : ℕ). j < length slots) (front_is i d l)
        (apart_all.below i d (omega (arith, longer, l))) in
        omega (arith, was, length-set slots k (Some o))
        );
    apart = λ i j d l m same. apart_all.apart i j d l (omega (arith, longer, m))
        (front_is i d (omega (arith, l, m)) ∙ same ∙ sym (front_is j d m));
    counted =
        let n = counted_set slots k (Some o) last_below in
        let none : single (get_or slots k None) ≡ 0 = ap single last_empty in
        omega (arith, n, none, apart_all.counted, longer, length-set slots k (Some o));
  }

-- ---- a slot more

pub extended : (slots : List (Option KeptOp)) (keys : List ℕ) (o : KeptOp) → AreVacant slots keys
    → AreVacant (slots ++ Some o ∷ []) keys
extended slots keys o h = record {
  empty = λ i d l. get_or_append_left slots (Some o ∷ []) None (get_or keys i d) (h.below i d l) ∙ h.empty i d l;
  below = λ i d l. (
      let was = h.below i d l in
      omega (arith, was, length-append slots (Some o ∷ []))
      );
  apart = h.apart;
  counted =
      let n = sum_by-append single slots (Some o ∷ []) in
      let last : count_by is_some (Some o ∷ []) ≡ 1 = refl in
      omega (arith, n, last, h.counted, length-append slots (Some o ∷ []));
}

-- ---- a slot is given up

pub vacated : (slots : List (Option KeptOp)) (keys : List ℕ) (k : ℕ) (o : KeptOp) → get_or slots k None ≡ Some o
    → AreVacant slots keys → AreVacant (set slots k None) (keys ++ k ∷ [])
vacated slots keys k o e h = record {
  empty = All-append (λ (j : ℕ). get_or (set slots k None) j None ≡ None) keys (k ∷ [])
      (λ i d l. still (get_or keys i d) (h.empty i d l)) last_too;
  below = All-append (λ (j : ℕ). j < length (set slots k None)) keys (k ∷ []) (λ i d l. (
      let was = h.below i d l in
      omega (arith, was, length-set slots k None)
      )) (All-cons (λ (j : ℕ). j < length (set slots k None)) k [] (omega (arith, inside, length-set slots k None))
      (All-nil (λ (j : ℕ). j < length (set slots k None))));
  apart = all_pairs_push (λ (i j : ℕ). i ≢ j) keys k h.apart (λ i d l same. (
      let no : None ≡ Some o = sym (h.empty i d l) ∙ subst (λ (j : ℕ). get_or slots j None ≡ Some o) (sym same) e in
      cc
      ));
  counted =
      let n = counted_set slots k None inside in
      let some : single (get_or slots k None) ≡ 1 = ap single e in
      omega (arith, n, some, h.counted, length-append keys (k ∷ []), length-set slots k None);
}
  where
    inside : k < length slots
    inside = inside_slots slots k o e

    last_too : All (λ (j : ℕ). get_or (set slots k None) j None ≡ None) (k ∷ [])
    last_too = All-cons (λ (j : ℕ). get_or (set slots k None) j None ≡ None) k []
        (get_or-set_same slots k None None inside) (All-nil (λ (j : ℕ). get_or (set slots k None) j None ≡ None))

    still : (j : ℕ) → get_or slots j None ≡ None → get_or (set slots k None) j None ≡ None
    still j n = elim (same_or_not j k) [
      | inl same ↦ subst (λ (i : ℕ). get_or (set slots k None) i None ≡ None) (sym same)
          (get_or-set_same slots k None None inside)
      | inr d ↦ get_or-set_other slots k j None None d ∙ n
    ]

-- ---- the nodes

pub even_set : (nodes : List Node) (k : ℕ) (n : Node) → AreEven nodes → IsEven n.division n.op → AreEven (set nodes k n)
even_set nodes k n h e = λ i d l. elim (same_or_not i k) [
  | inl same ↦ subst (λ (m : Node). IsEven m.division m.op) (sym (here i d l same)) e
  | inr apart ↦ subst (λ (m : Node). IsEven m.division m.op) (sym (get_or-set_other nodes k i n d apart))
      (h i d (omega (arith, l, length-set nodes k n)))
]
  where
    here : (i : ℕ) (d : Node) → i < length (set nodes k n) → i ≡ k → get_or (set nodes k n) i d ≡ n
    here i d l same = subst (λ (j : ℕ). get_or (set nodes k n) j d ≡ n) (sym same)
        (get_or-set_same nodes k n d (omega (arith, l, same, length-set nodes k n)))

pub even_push : (nodes : List Node) (n : Node) → AreEven nodes → IsEven n.division n.op → AreEven (nodes ++ n ∷ [])
even_push nodes n h e = All-append (λ (m : Node). IsEven m.division m.op) nodes (n ∷ []) h
    (All-cons (λ (m : Node). IsEven m.division m.op) n [] e (All-nil (λ (m : Node). IsEven m.division m.op)))

-- the nodes, as they are seen
abbrev pub seen_as : List Node → ℕ → Slab KeptOp
seen_as nodes capacity = record { slots = map op_in nodes; vacant_key = 0; capacity = capacity }

module _ (nodes : List Node) (k : ℕ) (n : Node) where
  pub slots_set : map op_in (set nodes k n) ≡ set (map op_in nodes) k (op_in n)
  slots_set = map-set op_in nodes k n

  pub node_inside : k < length (map op_in nodes) → k < length nodes
  node_inside l = omega (arith, l, length-map nodes op_in)

  pub updated : (new : List Node) (capacity : ℕ) → k < length (map op_in nodes) → new ≡ set nodes k n
      → Updates (seen_as nodes capacity) (seen_as new capacity) k (op_in n)
  updated new capacity l e = record {
    changed = ap (λ (s : List (Option KeptOp)). get_or s k None) now
        ∙ get_or-set_same (map op_in nodes) k (op_in n) None l;
    others = λ j d. ap (λ (s : List (Option KeptOp)). get_or s j None) now
        ∙ get_or-set_other (map op_in nodes) k j (op_in n) None d;
  }
    where
      now : map op_in new ≡ set (map op_in nodes) k (op_in n)
      now = ap (λ (l : List Node). map op_in l) e ∙ slots_set

  pub one_more : (new : List Node) (o : KeptOp) → op_in n ≡ Some o → k < length (map op_in nodes)
      → get_or (map op_in nodes) k None ≡ None → new ≡ set nodes k n
      → count_by is_some (map op_in new) ≡ count_by is_some (map op_in nodes) + 1
  one_more new o is l empty e =
      let now = ap (λ (s : List (Option KeptOp)). count_by is_some s)
      (ap (λ (l : List Node). map op_in l) e ∙ slots_set) in
      let c = counted_set (map op_in nodes) k (op_in n) l in
      let none : single (get_or (map op_in nodes) k None) ≡ 0 = ap single empty in
      let some : single (op_in n) ≡ 1 = ap single is in
      omega (arith, now, c, none, some)

  pub one_fewer : (o : KeptOp) → op_in n ≡ None → get_or (map op_in nodes) k None ≡ Some o
      → count_by is_some (map op_in (set nodes k n)) + 1 ≡ count_by is_some (map op_in nodes)
  one_fewer o is there =
      let now = ap (λ (s : List (Option KeptOp)). count_by is_some s) slots_set in
      let c = counted_set (map op_in nodes) k (op_in n) (inside_slots (map op_in nodes) k o there) in
      let some : single (get_or (map op_in nodes) k None) ≡ 1 = ap single there in
      let none : single (op_in n) ≡ 0 = ap single is in
      omega (arith, now, c, none, some)

  pub nodes_emptied : (keys more : List ℕ) (o : KeptOp) → op_in n ≡ None → get_or (map op_in nodes) k None ≡ Some o
      → more ≡ keys ++ k ∷ [] → AreVacant (map op_in nodes) keys → AreVacant (map op_in (set nodes k n)) more
  nodes_emptied keys more o is there e h =
      subst (λ (l : List ℕ). AreVacant (map op_in (set nodes k n)) l) (sym e)
      (subst (λ (s : List (Option KeptOp)). AreVacant s (keys ++ k ∷ []))
      (sym (slots_set ∙ ap (λ (v : Option KeptOp). set (map op_in nodes) k v) is))
      (vacated (map op_in nodes) keys k o there h))

pub nodes_filled : (nodes new : List Node) (keys front : List ℕ) (k : ℕ) (o : KeptOp) (d : Division)
    → AreVacant (map op_in nodes) keys → keys ≡ front ++ k ∷ [] → new ≡ set nodes k (live_node o d)
    → AreVacant (map op_in new) front
nodes_filled nodes new keys front k o d h e f =
    subst (λ (s : List (Option KeptOp)). AreVacant s front)
    (sym (ap (λ (l : List Node). map op_in l) f ∙ slots_set nodes k (live_node o d)))
    (filled (map op_in nodes) keys front k o h e)

pub nodes_pushed : (nodes new : List Node) (keys left : List ℕ) (o : KeptOp) (d : Division)
    → AreVacant (map op_in nodes) keys → keys ≡ left ++ [] → new ≡ nodes ++ live_node o d ∷ []
    → AreVacant (map op_in new) left
nodes_pushed nodes new keys left o d h e f =
    subst (λ (s : List (Option KeptOp)). AreVacant s left)
    (sym (ap (λ (l : List Node). map op_in l) f ∙ map-append op_in nodes (live_node o d ∷ [])))
    (extended (map op_in nodes) left o (subst (λ (l : List ℕ). AreVacant (map op_in nodes) l) (e ∙ append-nil left) h))

pub even_emptied : (nodes : List Node) (k : ℕ) (r : Node) → AreEven nodes → k < length nodes → r ≡ get_or nodes k r
    → AreEven (set nodes k (record { op = r.op; division = r.division; live = false }))
even_emptied nodes k r h l e = even_set nodes k (record { op = r.op; division = r.division; live = false }) h
    (subst (λ (m : Node). IsEven m.division m.op) (sym e) (h k r l))
