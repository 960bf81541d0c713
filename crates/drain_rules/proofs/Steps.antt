-- The answer so far, part by part.
use Rattle.std.proofs.Common.{ℕ, zero, suc, ◌+◌, ◌^◌, ◌<◌, ◌≤◌, ◌≡◌, ◌⊎◌, inl, inr, Bool, true, false, ◌||◌, ltb, cond}
use Rattle.std.proofs.Common.{List, [], ◌∷◌, length, take, Option, Some, None, is_some, slice_get, find, refl, sym, ap}
use Rattle.std.proofs.Common.{subst, ◌∙◌, arith}
use Rattle.std.specs.Option.{option_map}
use Rattle.std.proofs.lemmas.Bool.{both_ways, cases_order}
use Rattle.std.proofs.lemmas.Option.{slice_get_within}
use Rattle.tandem_base.specs.declared.extent.Extent.{Extent}
use Rattle.tandem_base.specs.declared.names.OpName.{OpName}
use Rattle.tandem_base.specs.FirstFault.{◌or_else◌}
use denote.Struct.Props.{props}
use mathlib.Core.HLevel.{is_prop→PathP}
use Rattle.merge_buffer.specs.declared.waiting.Part.{Part}
use Rattle.merge_buffer.specs.Parts.{AllOn}
use Rattle.store_buffer.specs.declared.store.Entry.{Entry}
use Rattle.store_buffer.specs.Stores.{StoreList}
use Rattle.store_buffer.specs.Waiting.{waiting_below}
use Rattle.drain_rules.specs.declared.bound.Bound.{Bound}
use Rattle.drain_rules.specs.declared.rule.DrainRule.{DrainRule}
use Rattle.drain_rules.specs.declared.rule.DrainRule.TheVariants.{Overlap, Fence, Release}
use Rattle.drain_rules.specs.declared.seen.Seen.{Seen}
use Rattle.drain_rules.specs.declared.worst.Worst.{Worst}
use Rattle.drain_rules.specs.Answers.{AreOfOneLine, IsSized, HasBytesOf, IsOverlapBound, below_fence, IsBoundOf}
use Rattle.drain_rules.specs.Answers.{is_bounded}
use Rattle.drain_rules.specs.Answers.{entry_under, name_by, first_name, is_lesser, lesser_of, IsLeastOf, IsBrokenAt}
use Rattle.drain_rules.specs.Seen.{no_tag, byte_least, least_over, sees_first, Notes, seen_answer, IsBelowAll}
use Rattle.drain_rules.specs.Seen.{IsAnswerOf}
use Rattle.drain_rules.specs.Seen.{IsWorse}
use Rattle.drain_rules.proofs.Least.{lesser_same, least_same, least_both}
use Rattle.drain_rules.proofs.Noted.{HasSeen, all_on_at, seen_none, seen_more, asked_none, asked_line}
use Rattle.drain_rules.proofs.Somes.{some_in}

-- ---- a rule has one bound for a part

-- extents of one address and one length are one
same_extent : (a b : Extent) → a.addr ≡ b.addr → a.len ≡ b.len → a ≡ b
same_extent a b p q =
    let sized_prop : (n : ℕ) → IsProp ((1 ≤ n) × (n ≤ 8)) = λ n. hlevel props in
    let within_prop : (x n : ℕ) → IsProp (x + n ≤ 2 ^ 64) = λ x n. hlevel props in
    λ i. record {
      addr = p i;
      len = q i;
      sized = is_prop→PathP (λ j. (1 ≤ q j) × (q j ≤ 8)) (λ j. sized_prop (q j)) a.sized b.sized i;
      within = is_prop→PathP (λ j. p j + q j ≤ 2 ^ 64) (λ j. within_prop (p j) (q j)) a.within b.within i;
    }

same_bound : (a b : Bound) → a.below ≡ b.below → a.over ≡ b.over → a ≡ b
same_bound a b p q = λ i. record { below = p i; over = q i }

sized_of : (p : Part) (o : Option Extent) → HasBytesOf p.piece o → IsSized p.piece
sized_of p None h = absurd h
sized_of p (Some e) h =
    let s = e.sized in
    let w = e.within in
    (omega (arith, h.1, s.0), omega (arith, h.1, s.1), omega (arith, h.0, h.1, w))

same_over : (p : Part) (o u : Option Extent) → HasBytesOf p.piece o → HasBytesOf p.piece u → o ≡ u
same_over p None u h k = absurd h
same_over p (Some e) None h k = absurd k
same_over p (Some e) (Some f) h k =
    ap (λ (x : Extent). Some x) (same_extent e f (h.0 ∙ sym k.0) (h.1 ∙ sym k.1))

overlap_one : (p : Part) (a b : Option Bound) → IsOverlapBound p a → IsOverlapBound p b → a ≡ b
overlap_one p None None h k = refl
overlap_one p None (Some b) h k = absurd (h (sized_of p b.over k.1))
overlap_one p (Some a) None h k = absurd (k (sized_of p a.over h.1))
overlap_one p (Some a) (Some b) h k =
    ap (λ (x : Bound). Some x) (same_bound a b (h.0 ∙ sym k.0) (same_over p a.over b.over h.1 k.1))

bound_one : (k : DrainRule) (p : Part) (e : Option Entry) (a b : Option Bound) → IsBoundOf k p e a
    → IsBoundOf k p e b → a ≡ b
bound_one k p None a b h j = h ∙ sym j
bound_one Overlap p (Some e) a b h j = overlap_one p a b h j
bound_one Fence p (Some e) a b h j = h ∙ sym j
bound_one Release p (Some e) a b h j = h ∙ sym j

-- where it asks for bytes, they are those of the part
none_over : (b : Bound) (x : Extent) → b.over ≡ None → b.over ≡ Some x → ⊥
none_over b x e f = let c : None ≡ Some x = sym e ∙ f in cc

bound_bytes : (k : DrainRule) (p : Part) (e : Option Entry) (b : Bound) → IsBoundOf k p e (Some b) → (x : Extent)
    → b.over ≡ Some x → HasBytesOf p.piece (Some x)
bound_bytes k p None b h x f = absurd (cc)
bound_bytes Overlap p (Some e) b h x f = subst (λ (o : Option Extent). HasBytesOf p.piece o) f h.1
bound_bytes Fence p (Some e) b h x f = at e.marks.fence h
  where
    at : (o : Option ℕ) → Some b ≡ below_fence o → HasBytesOf p.piece (Some x)
    at None g = absurd (cc)
    at (Some n) g =
        let c : b ≡ record { below = n; over = None } = cc in
        absurd (none_over b x (ap (λ (z : Bound). z.over) c) f)
bound_bytes Release p (Some e) b h x f = at e.marks.release h
  where
    at : (o : Bool) → Some b ≡ cond o (Some (record { below = p.tag; over = None })) None
        → HasBytesOf p.piece (Some x)
    at false g = absurd (cc)
    at true g =
        let c : b ≡ record { below = p.tag; over = None } = cc in
        absurd (none_over b x (ap (λ (z : Bound). z.over) c) f)

-- ---- what is first is found

either_first : (w : Option OpName) (f : Part → OpName) (o : Option Part)
    → (is_some w || is_some o) ≡ is_some (w or_else option_map f o)
either_first None f None = refl
either_first None f (Some q) = refl
either_first (Some n) f o = refl

module _ (hart : ℕ) (list : StoreList) (parts : List Part) (line : AreOfOneLine parts) where
  -- the tags that were noted before part n are right, where they are asked for
  abbrev pub SeenBefore : ℕ → Seen → Type 0
  SeenBefore n seen = (n ≡ 0) ⊎ ((l : ℕ) × AllOn l parts) → HasSeen parts n seen

  -- a part before part n with a rule that is broken
  abbrev pub BrokenBefore : ℕ → Worst → Type 0
  BrokenBefore n w = IsBrokenAt hart list parts w × (w.index < n)

  found : (n : ℕ) (p : Part) (seen : Seen) → slice_get parts n ≡ Some p → SeenBefore n seen → (k : DrainRule)
      → (b : Bound) → IsBoundOf k p (entry_under list p.tag) (Some b) → b.below ≤ no_tag
      → sees_first list seen b ≡ is_some (first_name hart list (take n parts) b)
  found n p seen g s k b i l =
      ap (λ (c : Bool). is_some (waiting_below list.hart list.stores b.below b.over) || c) (asked line)
      ∙ either_first (waiting_below list.hart list.stores b.below b.over) (name_by hart list)
      (find (is_bounded b) (take n parts))
    where
      none : (m : ℕ) → m ≡ 0 → HasSeen parts m seen
          → ltb (least_over seen b.over) b.below ≡ some_in (is_bounded b) (take m parts)
      none zero e h = asked_none parts seen h b l
      none (suc m) e h = absurd (omega arith)

      asked : AreOfOneLine parts → ltb (least_over seen b.over) b.below ≡ some_in (is_bounded b) (take n parts)
      asked (inl few) =
          let w = slice_get_within parts n p g in
          let z : n ≡ 0 = omega arith in
          none n z (s (inl z))
      asked (inr a) =
          asked_line a.0 parts n p seen a.1 g (s (inr a)) b l
          (λ x f. bound_bytes k p (entry_under list p.tag) b i x f)

  abbrev AtRule : ℕ → DrainRule → Worst → Type 0
  AtRule n k w = IsBrokenAt hart list parts w × (w.index ≡ n) × (w.rule ≡ k)

  same_part : (n : ℕ) (p : Part) (w : Worst) → slice_get parts n ≡ Some p → (h : IsBrokenAt hart list parts w)
      → w.index ≡ n → h.part ≡ p
  same_part n p w g h e =
      let c : Some h.part ≡ Some p = sym h.here ∙ ap (λ (i : ℕ). slice_get parts i) e ∙ g in cc

  -- the answer of a rule for part n
  rule_least : (n : ℕ) (p : Part) (seen : Seen) → slice_get parts n ≡ Some p → SeenBefore n seen → (k : DrainRule)
      → (o : Option Worst)
      → IsAnswerOf list seen k n (name_by hart list p) p (entry_under list p.tag) o → IsLeastOf (AtRule n k) o
  rule_least n p seen g s k o a =
      subst (λ (z : Option Worst). IsLeastOf (AtRule n k) z) (sym a.3) (at a.0 a.1 a.2)
    where
      bound_at : (w : Worst) → AtRule n k w → IsBoundOf k p (entry_under list p.tag) (Some w.bound)
      bound_at w h =
          subst (λ (z : DrainRule). IsBoundOf z p (entry_under list p.tag) (Some w.bound)) h.2
          (subst (λ (q : Part). IsBoundOf w.rule q (entry_under list q.tag) (Some w.bound))
          (same_part n p w g h.0 h.1) h.0.bound)

      first_at : (w : Worst) → AtRule n k w → (b : Bound) → IsBoundOf k p (entry_under list p.tag) (Some b)
          → is_some (first_name hart list (take n parts) b) ≡ true
      first_at w h b i =
          let c : Some w.bound ≡ Some b = bound_one k p (entry_under list p.tag) (Some w.bound) (Some b)
          (bound_at w h) i in
          let d : w.bound ≡ b = cc in
          subst (λ (z : Bound). is_some (first_name hart list (take n parts) z) ≡ true) d
          (subst (λ (m : ℕ). is_some (first_name hart list (take m parts) w.bound) ≡ true) h.1 h.0.first)

      at : (b : Option Bound) → IsBoundOf k p (entry_under list p.tag) b → IsBelowAll b
          → IsLeastOf (AtRule n k) (seen_answer list seen k n (name_by hart list p) b)
      at None i l = λ w h.
          let c : Some w.bound ≡ None = bound_one k p (entry_under list p.tag) (Some w.bound) None (bound_at w h) i in
          cc
      at (Some b) i l = pick (sees_first list seen b) (found n p seen g s k b i l)
        where
          pick : (c : Bool) → c ≡ is_some (first_name hart list (take n parts) b)
              → IsLeastOf (AtRule n k) (cond c (Some (record {
                rule = k;
                index = n;
                second = name_by hart list p;
                bound = b;
              })) None)
          pick true e = (
            (record { part = p; here = g; named = refl; bound = i; first = sym e }, refl, refl),
            λ v h. lesser_same v (record { rule = k; index = n; second = name_by hart list p; bound = b }) h.2
                (h.0.named ∙ ap (λ (q : Part). name_by hart list q) (same_part n p v g h.0 h.1)),
          )
          pick false e = λ w h. both_ways _ (sym e) (first_at w h b i)

  -- before part n + 1
  of_more : (n : ℕ) (w : Worst)
      → ((BrokenBefore n w ⊎ AtRule n Overlap w) ⊎ AtRule n Fence w) ⊎ AtRule n Release w → BrokenBefore (suc n) w
  of_more n w (inl (inl (inl h))) = (h.0, (let l = h.1 in omega arith))
  of_more n w (inl (inl (inr h))) = (h.0, (let l = h.1 in omega arith))
  of_more n w (inl (inr h)) = (h.0, (let l = h.1 in omega arith))
  of_more n w (inr h) = (h.0, (let l = h.1 in omega arith))

  to_more : (n : ℕ) (w : Worst) → BrokenBefore (suc n) w
      → ((BrokenBefore n w ⊎ AtRule n Overlap w) ⊎ AtRule n Fence w) ⊎ AtRule n Release w
  to_more n w h = at (cases_order w.index n)
    where
      by : (k : DrainRule) → w.rule ≡ k → w.index ≡ n
          → ((BrokenBefore n w ⊎ AtRule n Overlap w) ⊎ AtRule n Fence w) ⊎ AtRule n Release w
      by Overlap e i = inl (inl (inr (h.0, i, e)))
      by Fence e i = inl (inr (h.0, i, e))
      by Release e i = inr (h.0, i, e)

      at : (w.index ≡ n) ⊎ ((w.index < n) ⊎ (n < w.index))
          → ((BrokenBefore n w ⊎ AtRule n Overlap w) ⊎ AtRule n Fence w) ⊎ AtRule n Release w
      at (inl e) = by w.rule refl e
      at (inr (inl l)) = inl (inl (inl (h.0, l)))
      at (inr (inr l)) = absurd (let m = h.1 in omega arith)

  pub worse_more : (n : ℕ) (p : Part) (seen : Seen) (worst answer : Option Worst) → slice_get parts n ≡ Some p
      → SeenBefore n seen → IsLeastOf (BrokenBefore n) worst → IsWorse worst n hart p seen list answer
      → IsLeastOf (BrokenBefore (suc n)) answer
  worse_more n p seen worst answer g s h w =
      subst (λ (z : Option Worst). IsLeastOf (BrokenBefore (suc n)) z) (sym w.6)
      (least_same (λ v. ((BrokenBefore n v ⊎ AtRule n Overlap v) ⊎ AtRule n Fence v) ⊎ AtRule n Release v)
      (BrokenBefore (suc n)) (lesser_of (lesser_of (lesser_of worst w.0) w.1) w.2) (of_more n) (to_more n)
      (least_both (λ v. (BrokenBefore n v ⊎ AtRule n Overlap v) ⊎ AtRule n Fence v) (AtRule n Release)
      (lesser_of (lesser_of worst w.0) w.1) w.2
      (least_both (λ v. BrokenBefore n v ⊎ AtRule n Overlap v) (AtRule n Fence) (lesser_of worst w.0) w.1
      (least_both (BrokenBefore n) (AtRule n Overlap) worst w.0 h (rule_least n p seen g s Overlap w.0 w.3))
      (rule_least n p seen g s Fence w.1 w.4)) (rule_least n p seen g s Release w.2 w.5)))

  pub noted_more : (n : ℕ) (p : Part) (old new : Seen) → slice_get parts n ≡ Some p → SeenBefore n old
      → Notes old new p → SeenBefore (suc n) new
  noted_more n p old new g s notes (inl e) = absurd (omega arith)
  noted_more n p old new g s notes (inr a) =
      seen_more parts n p old new g (all_on_at a.0 parts n p a.1 g).1 (s (inr a)) notes

-- ---- the loop

-- after n parts
pub record Progress (hart : ℕ) (list : StoreList) (parts : List Part) (n : ℕ) (tags : Seen) (answer : Option Worst)
    : Type 0 where
  pub seen : (n ≡ 0) ⊎ ((l : ℕ) × AllOn l parts) → HasSeen parts n tags
  pub worst : IsLeastOf (λ w. IsBrokenAt hart list parts w × (w.index < n)) answer

pub progress_none : (hart : ℕ) (list : StoreList) (parts : List Part) (tags : Seen) → tags.all ≡ no_tag
    → ((j : ℕ) → byte_least tags j ≡ no_tag) → Progress hart list parts 0 tags None
progress_none hart list parts tags e f = record {
  seen = λ d. seen_none parts tags e f;
  worst = λ w h. let l = h.1 in omega arith;
}

pub progress_more : (hart : ℕ) (list : StoreList) (parts : List Part) (n : ℕ) (p : Part) (old new : Seen)
    (worst answer : Option Worst) → AreOfOneLine parts → slice_get parts n ≡ Some p
    → Progress hart list parts n old worst → IsWorse worst n hart p old list answer → Notes old new p
    → Progress hart list parts (suc n) new answer
progress_more hart list parts n p old new worst answer line g h w notes = record {
  seen = noted_more hart list parts line n p old new g h.seen notes;
  worst = worse_more hart list parts line n p old worst answer g h.seen h.worst w;
}

pub progress_all : (hart : ℕ) (list : StoreList) (parts : List Part) (n : ℕ) (tags : Seen) (answer : Option Worst)
    → n ≡ length parts → Progress hart list parts n tags answer → IsLeastOf (IsBrokenAt hart list parts) answer
progress_all hart list parts n tags answer e h =
    least_same (λ w. IsBrokenAt hart list parts w × (w.index < n)) (IsBrokenAt hart list parts) answer (λ w d. d.0)
    (λ w d. (d, (let l = slice_get_within parts w.index d.part d.here in omega arith))) h.worst
