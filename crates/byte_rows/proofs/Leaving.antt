-- A place leaves its row.
use Rattle.std.proofs.Common.{ℕ, ◌≡◌, ◌≢◌, ◌<◌, inl, inr, Bool, true, false, Option, Some, None}
use Rattle.std.proofs.Common.{refl, sym, ap, ◌∙◌, subst, arith, if◌then◌else◌}
use Rattle.std.proofs.Common.{zero, suc, List, [], ◌∷◌, get_or, set, length}
use Rattle.std.proofs.lemmas.Bool.{cases_Bool}
use Rattle.std.proofs.lemmas.Bool.Decides.{nat_tests}
use Rattle.byte_rows.specs.declared.links.Link.{Link}
use Rattle.byte_rows.specs.declared.links.Ends.{Ends}
use Rattle.byte_rows.specs.Links.{row_mark, row_mark_at, is_place, is_none, with_older}
use Rattle.byte_rows.specs.Links.{with_newer, older, newer, any, IsEdge}
use Rattle.byte_rows.specs.Links.{IsRow, StaysElsewhere}
use Rattle.byte_rows.proofs.Rows.{IsStrict, AreApart, same_tag, seen_back, stays_edge, passes_edge, strict_older}
use Rattle.byte_rows.proofs.Rows.{strict_newer}

pub place_is : (o : Option ℕ) (j : ℕ) → is_place o j ≡ true → o ≡ Some j
place_is None j e = cc
place_is (Some i) j e =
    let s : i ≡ j = grind (arith, nat_tests) in
    ap (λ (x : ℕ). Some x) s

pub place_not : (o : Option ℕ) (j : ℕ) → is_place o j ≡ false → o ≢ Some j
place_not None j e s = cc
place_not (Some i) j e s =
    let t : i ≡ j = cc in
    let d : i ≢ j = grind (arith, nat_tests) in
    d t

abbrev pair_or : Option (ℕ × ℕ) → ℕ × ℕ → ℕ × ℕ
pair_or None d = d
pair_or (Some p) d = p

-- the place that has this mark
pub record Marked (o : Option Link) (row t : ℕ) : Type 0 where
  pub link : Link
  pub there : o ≡ Some link
  pub on : link.row ≡ row
  pub tag : link.tag ≡ t

pub marked : (o : Option Link) (row t : ℕ) → row_mark o ≡ Some (row, t) → Marked o row t
marked None row t e = cc
marked (Some m) row t e =
    let p : (m.row, m.tag) ≡ (row, t) = ap (λ (x : Option (ℕ × ℕ)). pair_or x (row, t)) e in
    record {
      link = m;
      there = refl;
      on = ap (λ (x : ℕ × ℕ). x.0) p;
      tag = ap (λ (x : ℕ × ℕ). x.1) p;
    }

pub mark_is : (o : Option Link) (m : Link) (row : ℕ) → o ≡ Some m → m.row ≡ row → row_mark o ≡ Some (row, m.tag)
mark_is o m row e r = ap row_mark e ∙ ap (λ (x : ℕ). Some (x, m.tag)) r

-- a link once those beside it were linked to each other
abbrev pub joined : Bool → Bool → Option ℕ → Option ℕ → Option Link → Option Link
joined a b back on o = if a then with_older back (if b then with_newer on o else o)
    else if b then with_newer on o else o

pub record Was (a b : Bool) (back on : Option ℕ) (o : Option Link) (now : Link) : Type 0 where
  pub link : Link
  pub there : o ≡ Some link
  pub row : now.row ≡ link.row
  pub tag : now.tag ≡ link.tag
  pub older : now.older ≡ (if a then back else link.older)
  pub newer : now.newer ≡ (if b then on else link.newer)

pub was : (a b : Bool) (back on : Option ℕ) (o : Option Link) (now : Link) → joined a b back on o ≡ Some now
    → Was a b back on o now
was true true back on None now e = cc
was true false back on None now e = cc
was false true back on None now e = cc
was false false back on None now e = cc
was true true back on (Some m) now e =
    let s : record m { older = back; newer = on } ≡ now = cc in
    subst (λ (x : Link). Was true true back on (Some m) x) s
    (record { link = m; there = refl; row = refl; tag = refl; older = refl; newer = refl })
was true false back on (Some m) now e =
    let s : record m { older = back } ≡ now = cc in
    subst (λ (x : Link). Was true false back on (Some m) x) s
    (record { link = m; there = refl; row = refl; tag = refl; older = refl; newer = refl })
was false true back on (Some m) now e =
    let s : record m { newer = on } ≡ now = cc in
    subst (λ (x : Link). Was false true back on (Some m) x) s
    (record { link = m; there = refl; row = refl; tag = refl; older = refl; newer = refl })
was false false back on (Some m) now e =
    let s : m ≡ now = cc in
    subst (λ (x : Link). Was false false back on (Some m) x) s
    (record { link = m; there = refl; row = refl; tag = refl; older = refl; newer = refl })

pub mark_joined : (a b : Bool) (back on : Option ℕ) (o : Option Link) → row_mark (joined a b back on o) ≡ row_mark o
mark_joined true true back on None = refl
mark_joined true false back on None = refl
mark_joined false true back on None = refl
mark_joined false false back on None = refl
mark_joined true true back on (Some m) = refl
mark_joined true false back on (Some m) = refl
mark_joined false true back on (Some m) = refl
mark_joined false false back on (Some m) = refl

-- seen from one side: own is the next place beyond the one that leaves, opposite that before it
module _ (less : ℕ → ℕ → Type 0) (strict : IsStrict less) (marks now : ℕ → Option (ℕ × ℕ)) (row i t : ℕ)
    (there : marks i ≡ Some (row, t)) (gone : now i ≡ None) (others : (j : ℕ) → j ≢ i → now j ≡ marks j)
    (apart : AreApart marks row) (back : IsStrict (λ a b. less b a)) (own opposite : Option ℕ)
    (own_is : IsEdge less marks row (λ u. less u t) own)
    (opposite_is : IsEdge (λ a b. less b a) marks row (λ u. less t u) opposite) where
  pub side : (j s : ℕ) → marks j ≡ Some (row, s) → (o : Option ℕ) → IsEdge less marks row (λ u. less u s) o
      → IsEdge less now row (λ u. less u s) (if is_place opposite j then own else o)
  side j s mj o e = elim (cases_Bool (is_place opposite j)) [
    | inl y ↦ (
        let w = place_is opposite j y in
        let oi : o ≡ Some i = seen_back (λ a b. less b a) back marks row apart i t j s there mj
        (subst (λ (x : Option ℕ). IsEdge (λ a b. less b a) marks row (λ u. less t u) x) w opposite_is) o e in
        let ei = subst (λ (x : Option ℕ). IsEdge less marks row (λ u. less u s) x) oi e in
        let ts = subst (λ (x : ℕ). less x s) (same_tag marks row i ei.0 t ei.1 there) ei.2 in
        subst (λ (b : Bool). IsEdge less now row (λ u. less u s) (if b then own else o)) (sym y)
        (passes_edge less strict marks now row i t there gone others apart (λ u. less u s) ei
        (λ u l. strict.along u t s l ts) own own_is))
    | inr n ↦ (
        let d : o ≢ Some i = λ oi. place_not opposite j n
        (seen_back less strict marks row apart j s i t mj there
        (subst (λ (x : Option ℕ). IsEdge less marks row (λ u. less u s) x) oi e) opposite opposite_is) in
        subst (λ (b : Bool). IsEdge less now row (λ u. less u s) (if b then own else o)) (sym n)
        (stays_edge less strict marks now row i t there gone others apart (λ u. less u s) o e d))
  ]

  at_end : (o : Option ℕ) → IsEdge less marks row any o → IsEdge (λ a b. less b a) marks row (λ u. less t u) None
      → o ≡ Some i
  at_end None e f = absurd (e i t there tt)
  at_end (Some k) e f = elim (strict.cases e.0 t) [
    | inl l ↦ absurd (e.3 i t there tt l)
    | inr (inl q) ↦ ap (λ (x : ℕ). Some x) (apart k i t (subst (λ (x : ℕ). marks k ≡ Some (row, x)) q e.1) there)
    | inr (inr g) ↦ absurd (f k e.0 e.1 g)
  ]

  by_opposite : (p : Option ℕ) → IsEdge (λ a b. less b a) marks row (λ u. less t u) p → (o : Option ℕ)
      → IsEdge less marks row any o → IsEdge less now row any (if is_none p then own else o)
  by_opposite None f o e =
      passes_edge less strict marks now row i t there gone others apart any
      (subst (λ (x : Option ℕ). IsEdge less marks row any x) (at_end o e f) e) (λ u l. tt) own own_is
  by_opposite (Some w) f o e = stays_edge less strict marks now row i t there gone others apart any o e
      (λ oi. (
      let ei = subst (λ (x : Option ℕ). IsEdge less marks row any x) oi e in
      absurd (ei.3 w f.0 f.1 tt (subst (λ (x : ℕ). less x f.0) (same_tag marks row i t ei.0 there ei.1) f.2))))

  pub end_side : (o : Option ℕ) → IsEdge less marks row any o
      → IsEdge less now row any (if is_none opposite then own else o)
  end_side = by_opposite opposite opposite_is

-- the links once a place has left
module _ (f g : ℕ → Option Link) (ends after : Ends) (row i : ℕ) (n : Link) (there : f i ≡ Some n) (on : n.row ≡ row)
    (sound : IsRow f row ends) (gone : g i ≡ None)
    (step : (j : ℕ) → j ≢ i → g j ≡ joined (is_place n.newer j) (is_place n.older j) n.older n.newer (f j))
    (newest : after.newest ≡ (if is_none n.newer then n.older else ends.newest))
    (oldest : after.oldest ≡ (if is_none n.older then n.newer else ends.oldest)) where
  abbrev marks : ℕ → Option (ℕ × ℕ)
  marks = row_mark_at f

  abbrev now : ℕ → Option (ℕ × ℕ)
  now = row_mark_at g

  mi : marks i ≡ Some (row, n.tag)
  mi = mark_is (f i) n row there on

  now_none : now i ≡ None
  now_none = ap row_mark gone

  pub left_others : (j : ℕ) → j ≢ i → row_mark_at g j ≡ row_mark_at f j
  left_others j d = ap row_mark (step j d)
      ∙ mark_joined (is_place n.newer j) (is_place n.older j) n.older n.newer (f j)

  not_i : (j : ℕ) (m : Link) → g j ≡ Some m → j ≢ i
  not_i j m e s =
      let none : None ≡ Some m = sym gone ∙ subst (λ (x : ℕ). g x ≡ Some m) s e in
      cc

  was_at : (j : ℕ) (m : Link) → g j ≡ Some m
      → Was (is_place n.newer j) (is_place n.older j) n.older n.newer (f j) m
  was_at j m e = was (is_place n.newer j) (is_place n.older j) n.older n.newer (f j) m
      (sym (step j (not_i j m e)) ∙ e)

  own_older : IsEdge older (row_mark_at f) row (λ u. older u n.tag) n.older
  own_older = sound.older_is i n there on

  own_newer : IsEdge newer (row_mark_at f) row (λ u. newer u n.tag) n.newer
  own_newer = sound.newer_is i n there on

  pub left_row : IsRow g row after
  left_row = record {
    apart = λ j k t e h. sound.apart j k t (same_before j t e) (same_before k t h);
    older_is = λ j m e r. (
        let w = was_at j m e in
        let wr = sym w.row ∙ r in
        subst (λ (x : Option ℕ). IsEdge older now row (λ u. older u m.tag) x) (sym w.older)
        (subst (λ (y : ℕ). IsEdge older now row (λ u. older u y)
        (if is_place n.newer j then n.older else w.link.older)) (sym w.tag)
        (side older strict_older marks now row i n.tag mi now_none left_others sound.apart strict_newer
        n.older n.newer own_older own_newer j w.link.tag (mark_is (f j) w.link row w.there wr) w.link.older
        (sound.older_is j w.link w.there wr))));
    newer_is = λ j m e r. (
        let w = was_at j m e in
        let wr = sym w.row ∙ r in
        subst (λ (x : Option ℕ). IsEdge newer now row (λ u. newer u m.tag) x) (sym w.newer)
        (subst (λ (y : ℕ). IsEdge newer now row (λ u. newer u y)
        (if is_place n.older j then n.newer else w.link.newer)) (sym w.tag)
        (side newer strict_newer marks now row i n.tag mi now_none left_others sound.apart strict_older
        n.newer n.older own_newer own_older j w.link.tag (mark_is (f j) w.link row w.there wr) w.link.newer
        (sound.newer_is j w.link w.there wr))));
    newest_is = subst (λ (x : Option ℕ). IsEdge older now row any x) (sym newest)
        (end_side older strict_older marks now row i n.tag mi now_none left_others sound.apart strict_newer
        n.older n.newer own_older own_newer ends.newest sound.newest_is);
    oldest_is = subst (λ (x : Option ℕ). IsEdge newer now row any x) (sym oldest)
        (end_side newer strict_newer marks now row i n.tag mi now_none left_others sound.apart strict_older
        n.newer n.older own_newer own_older ends.oldest sound.oldest_is);
  }
    where
      same_before : (j t : ℕ) → row_mark_at g j ≡ Some (row, t) → row_mark_at f j ≡ Some (row, t)
      same_before j t e = sym (left_others j (λ s. (
          let none : None ≡ Some (row, t) = sym now_none ∙ subst (λ (x : ℕ). row_mark_at g x ≡ Some (row, t)) s e in
          cc))) ∙ e

  beside : (less : ℕ → ℕ → Type 0) (passes : ℕ → Type 0) (o : Option ℕ) → IsEdge less (row_mark_at f) row passes o
      → (j : ℕ) (m : Link) → f j ≡ Some m → m.row ≢ row → is_place o j ≡ false
  beside less passes o e j m fj d = elim (cases_Bool (is_place o j)) [
    | inl y ↦ (
        let ej = subst (λ (x : Option ℕ). IsEdge less (row_mark_at f) row passes x) (place_is o j y) e in
        let k = marked (f j) row ej.0 ej.1 in
        let same : Some m ≡ Some k.link = sym fj ∙ k.there in
        let one : m ≡ k.link = cc in
        absurd (d (ap (λ (x : Link). x.row) one ∙ k.on)))
    | inr n ↦ n
  ]

  other_same : (j : ℕ) (m : Link) → f j ≡ Some m → m.row ≢ row → j ≢ i → g j ≡ f j
  other_same j m e d away = step j away
      ∙ ap (λ (a : Bool). joined a (is_place n.older j) n.older n.newer (f j))
      (beside newer (λ u. newer u n.tag) n.newer own_newer j m e d)
      ∙ ap (λ (b : Bool). joined false b n.older n.newer (f j))
      (beside older (λ u. older u n.tag) n.older own_older j m e d)

  pub left_elsewhere : StaysElsewhere f g row
  left_elsewhere = record {
    stay = λ j m e d. other_same j m e d (λ s. d (
        let same : Some n ≡ Some m = sym there ∙ subst (λ (x : ℕ). f x ≡ Some m) s e in
        let one : n ≡ m = cc in
        sym (ap (λ (x : Link). x.row) one) ∙ on)) ∙ e;
    back = λ j m e d. (
        let w = was_at j m e in
        sym (other_same j w.link w.there (λ s. d (w.row ∙ s)) (not_i j m e)) ∙ e);
  }

pub on_row : (o : Option Link) (n : Link) (row : ℕ) → o ≡ Some n → (m : Link) × (o ≡ Some m) × (m.row ≡ row)
    → n.row ≡ row
on_row o n row e m =
    let same : Some n ≡ Some m.0 = sym e ∙ m.1 in
    let one : n ≡ m.0 = cc in
    ap (λ (x : Link). x.row) one ∙ m.2

pub set_gone : (xs : List (Option Link)) (i : ℕ) → get_or (set xs i None) i None ≡ None
set_gone [] i = refl
set_gone (x ∷ xs) zero = refl
set_gone (x ∷ xs) (suc i) = set_gone xs i

pub within_now : (i : ℕ) (xs ys : List (Option Link)) → i < length xs → length ys ≡ length xs → i < length ys
within_now i xs ys l e = omega (arith, l, e)
