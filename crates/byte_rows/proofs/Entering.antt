-- A place begins to wait in a row, as its newest.
use Rattle.std.proofs.Common.{ℕ, ◌≡◌, ◌≢◌, ◌<◌, ◌⊎◌, inl, inr, Bool, false, Option, Some, None}
use Rattle.std.proofs.Common.{refl, sym, ap, ◌∙◌, subst, arith, if◌then◌else◌}
use Rattle.std.proofs.lemmas.Bool.{cases_eq, cases_Bool}
use Rattle.byte_rows.specs.declared.links.Link.{Link}
use Rattle.byte_rows.specs.declared.links.Ends.{Ends}
use Rattle.byte_rows.specs.Links.{row_mark, row_mark_at, is_place, is_none, with_newer}
use Rattle.byte_rows.specs.Links.{older, newer, any, IsEdge, IsRow}
use Rattle.byte_rows.proofs.Rows.{AreApart, same_tag, kept_edge, new_edge, was_or_is}
use Rattle.byte_rows.proofs.Leaving.{place_is, place_not, mark_is, Was, was, mark_joined}

last_is : (marks : ℕ → Option (ℕ × ℕ)) (row : ℕ) → AreApart marks row → (j s : ℕ) → marks j ≡ Some (row, s)
    → (o : Option ℕ) → IsEdge older marks row any o → IsEdge newer marks row (λ u. newer u s) None → o ≡ Some j
last_is marks row apart j s mj None e f = absurd (e j s mj tt)
last_is marks row apart j s mj (Some k) e f =
    let above : e.0 < s → ⊥ = λ l. e.3 j s mj tt l in
    let below : s < e.0 → ⊥ = λ l. f k e.0 e.1 l in
    let q : e.0 ≡ s = grind arith in
    ap (λ (x : ℕ). Some x) (apart k j s (subst (λ (x : ℕ). marks k ≡ Some (row, x)) q e.1) mj)

module _ (f g : ℕ → Option Link) (ends after : Ends) (row i t : ℕ) (vacant : f i ≡ None) (sound : IsRow f row ends)
    (top : (j u : ℕ) → row_mark_at f j ≡ Some (row, u) → u < t)
    (new : g i ≡ Some (record { row = row; tag = t; older = ends.newest; newer = None }))
    (step : (j : ℕ) → j ≢ i → g j ≡ (if is_place ends.newest j then with_newer (Some i) (f j) else f j))
    (newest : after.newest ≡ Some i)
    (oldest : after.oldest ≡ (if is_none ends.newest then Some i else ends.oldest)) where
  abbrev marks : ℕ → Option (ℕ × ℕ)
  marks = row_mark_at f

  abbrev now : ℕ → Option (ℕ × ℕ)
  now = row_mark_at g

  free : marks i ≡ None
  free = ap row_mark vacant

  there : now i ≡ Some (row, t)
  there = ap row_mark new

  same : (j : ℕ) → j ≢ i → now j ≡ marks j
  same j d = ap row_mark (step j d) ∙ mark_joined false (is_place ends.newest j) None (Some i) (f j)

  was_at : (j : ℕ) (m : Link) → g j ≡ Some m → j ≢ i → Was false (is_place ends.newest j) None (Some i) (f j) m
  was_at j m e d = was false (is_place ends.newest j) None (Some i) (f j) m (sym (step j d) ∙ e)

  below : (o : Option ℕ) → IsEdge older marks row any o → IsEdge older marks row (λ u. older u t) o
  below None e = λ j u m p. e j u m tt
  below (Some k) e = (e.0, e.1, top k e.0 e.1, λ j u m p l. e.3 j u m tt l)

  new_older : IsEdge older now row (λ u. older u t) ends.newest
  new_older = kept_edge older marks now row i t free there same (λ u. older u t) ends.newest
      (below ends.newest sound.newest_is) (λ l. absurd (omega (arith, l)))

  new_newer : IsEdge newer now row (λ u. newer u t) None
  new_newer = λ j u m p. elim (was_or_is newer marks now row i t free there same j u m) [
    | inl w ↦ (let l = top j u w in omega (arith, l, p))
    | inr q ↦ omega (arith, q.1, p)
  ]

  old_older : (j s : ℕ) → marks j ≡ Some (row, s) → (o : Option ℕ) → IsEdge older marks row (λ u. older u s) o
      → IsEdge older now row (λ u. older u s) o
  old_older j s mj o e = kept_edge older marks now row i t free there same (λ u. older u s) o e
      (λ l. (let h = top j s mj in absurd (omega (arith, l, h))))

  inside : (passes : ℕ → Type 0) (o : Option ℕ) → IsEdge newer marks row passes o → o ≢ None
      → (k s : ℕ) × (o ≡ Some k) × (marks k ≡ Some (row, s)) × (newer s t → ⊥)
  inside passes None e d = absurd (d refl)
  inside passes (Some k) e d = (k, e.0, refl, e.1, λ l. (let h = top k e.0 e.1 in omega (arith, l, h)))

  old_newer : (j s : ℕ) → marks j ≡ Some (row, s) → (o : Option ℕ) → IsEdge newer marks row (λ u. newer u s) o
      → IsEdge newer now row (λ u. newer u s) (if is_place ends.newest j then Some i else o)
  old_newer j s mj o e = elim (cases_Bool (is_place ends.newest j)) [
    | inl y ↦ (
        let en = subst (λ (x : Option ℕ). IsEdge older marks row any x) (place_is ends.newest j y) sound.newest_is in
        let q = same_tag marks row j en.0 s en.1 mj in
        subst (λ (b : Bool). IsEdge newer now row (λ u. newer u s) (if b then Some i else o)) (sym y)
        (new_edge newer marks now row i t free there same (λ u. newer u s) (top j s mj)
        (λ k u m p l. en.3 k u m tt (omega (arith, p, q))) (λ l. omega (arith, l))))
    | inr n ↦ subst (λ (b : Bool). IsEdge newer now row (λ u. newer u s) (if b then Some i else o)) (sym n)
        (kept_edge newer marks now row i t free there same (λ u. newer u s) o e
        (λ l. inside (λ u. newer u s) o e (λ z. place_not ends.newest j n
        (last_is marks row sound.apart j s mj ends.newest sound.newest_is
        (subst (λ (x : Option ℕ). IsEdge newer marks row (λ u. newer u s) x) z e)))))
  ]

  new_oldest : (o p : Option ℕ) → IsEdge older marks row any o → IsEdge newer marks row any p
      → IsEdge newer now row any (if is_none o then Some i else p)
  new_oldest None p e h = new_edge newer marks now row i t free there same any tt
      (λ k u m q l. e k u m tt) (λ l. omega (arith, l))
  new_oldest (Some k) p e h = kept_edge newer marks now row i t free there same any p h
      (λ q. inside any p h (λ z. (
      subst (λ (x : Option ℕ). IsEdge newer marks row any x) z h) k e.0 e.1 tt))

  same_link : (m : Link) → g i ≡ Some m → record { row = row; tag = t; older = ends.newest; newer = None } ≡ m
  same_link m e =
      let one : Some (record { row = row; tag = t; older = ends.newest; newer = None }) ≡ Some m = sym new ∙ e in
      cc

  pub entered_row : IsRow g row after
  entered_row = record {
    apart = λ j k u e h. both j k u (was_or_is older marks now row i t free there same j u e)
        (was_or_is older marks now row i t free there same k u h);
    older_is = λ j m e r. elim (cases_eq j i) [
      | inl s ↦ subst (λ (x : Link). IsEdge older now row (λ u. older u x.tag) x.older)
          (same_link m (subst (λ (x : ℕ). g x ≡ Some m) s e)) new_older
      | inr d ↦ (
          let w = was_at j m e d in
          let wr = sym w.row ∙ r in
          subst (λ (x : Option ℕ). IsEdge older now row (λ u. older u m.tag) x) (sym w.older)
          (subst (λ (y : ℕ). IsEdge older now row (λ u. older u y) w.link.older) (sym w.tag)
          (old_older j w.link.tag (mark_is (f j) w.link row w.there wr) w.link.older
          (sound.older_is j w.link w.there wr))))
    ];
    newer_is = λ j m e r. elim (cases_eq j i) [
      | inl s ↦ subst (λ (x : Link). IsEdge newer now row (λ u. newer u x.tag) x.newer)
          (same_link m (subst (λ (x : ℕ). g x ≡ Some m) s e)) new_newer
      | inr d ↦ (
          let w = was_at j m e d in
          let wr = sym w.row ∙ r in
          subst (λ (x : Option ℕ). IsEdge newer now row (λ u. newer u m.tag) x) (sym w.newer)
          (subst (λ (y : ℕ). IsEdge newer now row (λ u. newer u y)
          (if is_place ends.newest j then Some i else w.link.newer)) (sym w.tag)
          (old_newer j w.link.tag (mark_is (f j) w.link row w.there wr) w.link.newer
          (sound.newer_is j w.link w.there wr))))
    ];
    newest_is = subst (λ (x : Option ℕ). IsEdge older now row any x) (sym newest)
        (new_edge older marks now row i t free there same any tt
        (λ k u m p l. (let h = top k u m in omega (arith, l, h))) (λ l. omega (arith, l)));
    oldest_is = subst (λ (x : Option ℕ). IsEdge newer now row any x) (sym oldest)
        (new_oldest ends.newest ends.oldest sound.newest_is sound.oldest_is);
  }
    where
      both : (j k u : ℕ) → (marks j ≡ Some (row, u)) ⊎ ((j ≡ i) × (u ≡ t))
          → (marks k ≡ Some (row, u)) ⊎ ((k ≡ i) × (u ≡ t)) → j ≡ k
      both j k u (inl a) (inl b) = sound.apart j k u a b
      both j k u (inl a) (inr b) = (let h = top j u a in absurd (omega (arith, h, b.1)))
      both j k u (inr a) (inl b) = (let h = top k u b in absurd (omega (arith, h, a.1)))
      both j k u (inr a) (inr b) = a.0 ∙ sym b.0
