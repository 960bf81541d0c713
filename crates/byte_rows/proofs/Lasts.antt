-- The place of greatest tag below a bound, looked for from the newest back.
use Rattle.std.proofs.Common.{ℕ, zero, suc, ◌≡◌, ◌<◌, ◌≤◌, List, [], ◌∷◌, ◌++◌, Option, Some, None, IsSome, get_or}
use Rattle.std.proofs.Common.{refl, sym, ap, ◌∙◌, subst, arith}
use Rattle.byte_rows.specs.declared.links.Link.{Link}
use Rattle.byte_rows.specs.Links.{row_mark, row_mark_at, older, newer, any, IsEdge}
use Rattle.byte_rows.proofs.Rows.{same_tag}
use Rattle.byte_rows.proofs.Leaving.{marked}

-- no place beyond this one has a tag below the bound
abbrev pub IsBack : (ℕ → Option (ℕ × ℕ)) → ℕ → ℕ → Option ℕ → Type 0
IsBack marks row below None = (j u : ℕ) → marks j ≡ Some (row, u) → u < below → ⊥
IsBack marks row below (Some i) = (t : ℕ) × (marks i ≡ Some (row, t))
    × ((j u : ℕ) → marks j ≡ Some (row, u) → u < below → t < u → ⊥)

abbrev pub tag_after : Option (ℕ × ℕ) → ℕ
tag_after None = zero
tag_after (Some p) = suc p.1

abbrev pub distance : (ℕ → Option (ℕ × ℕ)) → Option ℕ → ℕ
distance marks None = zero
distance marks (Some i) = tag_after (marks i)

pub back_begins : (marks : ℕ → Option (ℕ × ℕ)) (row below : ℕ) (o : Option ℕ) → IsEdge older marks row any o
    → IsBack marks row below o
back_begins marks row below None e = λ j u m l. e j u m tt
back_begins marks row below (Some i) e = (e.0, e.1, λ j u m l g. e.3 j u m tt g)

pub is_some_link : (f : ℕ → Option Link) (row below i : ℕ) → IsBack (row_mark_at f) row below (Some i) → IsSome (f i)
is_some_link f row below i b =
    let k = marked (f i) row b.0 b.1 in
    rw k.there refl

module _ (f : ℕ → Option Link) (row below i : ℕ) (n : Link) (there : f i ≡ Some n)
    (back : IsBack (row_mark_at f) row below (Some i)) where
  pub row_here : n.row ≡ row
  row_here =
      let k = marked (f i) row back.0 back.1 in
      let same : Some n ≡ Some k.link = sym there ∙ k.there in
      let one : n ≡ k.link = cc in
      ap (λ (x : Link). x.row) one ∙ k.on

  tag_here : back.0 ≡ n.tag
  tag_here = same_tag (row_mark_at f) row i back.0 n.tag back.1 (ap row_mark there ∙ ap (λ (x : ℕ). Some
      (x, n.tag)) row_here)

  pub back_found : n.tag < below → IsEdge older (row_mark_at f) row (λ u. older u below) (Some i)
  back_found l = (
    back.0,
    back.1,
    omega (arith, tag_here, l),
    λ j u m p g. back.2 j u m p g,
  )

  pub back_goes : below ≤ n.tag → (o : Option ℕ) → IsEdge older (row_mark_at f) row (λ u. older u n.tag) o
      → IsBack (row_mark_at f) row below o
  back_goes l None e = λ j u m p. e j u m (omega (arith, l, p))
  back_goes l (Some k) e = (e.0, e.1, λ j u m p g. e.3 j u m (omega (arith, l, p)) g)

  pub back_falls : (o : Option ℕ) → IsEdge older (row_mark_at f) row (λ u. older u n.tag) o
      → distance (row_mark_at f) o < distance (row_mark_at f) (Some i)
  back_falls None e =
      let d : distance (row_mark_at f) (Some i) ≡ suc n.tag = ap (λ (x : Option Link). tag_after (row_mark x)) there in
      omega (arith, d)
  back_falls (Some k) e =
      let d : distance (row_mark_at f) (Some i) ≡ suc n.tag = ap (λ (x : Option Link). tag_after (row_mark x)) there in
      let h : distance (row_mark_at f) (Some k) ≡ suc e.0 = ap tag_after e.1 in
      omega (arith, d, h, e.2)

pub nothing_below : (marks : ℕ → Option (ℕ × ℕ)) (row below : ℕ) (o : Option ℕ) (t : ℕ) (i : ℕ)
    → o ≡ Some i → marks i ≡ Some (row, t) → below ≤ t → IsEdge newer marks row any o
    → (j u : ℕ) → marks j ≡ Some (row, u) → u < below → ⊥
nothing_below marks row below o t i s mi l e =
    let ei = subst (λ (x : Option ℕ). IsEdge newer marks row any x) s e in
    let q = same_tag marks row i ei.0 t ei.1 mi in
    λ j u m p. ei.3 j u m tt (omega (arith, q, l, p))

pub one_more : (xs : List (Option Link)) (j : ℕ) → get_or (xs ++ None ∷ []) j None ≡ get_or xs j None
one_more [] zero = refl
one_more [] (suc j) = refl
one_more (x ∷ xs) zero = refl
one_more (x ∷ xs) (suc j) = one_more xs j
