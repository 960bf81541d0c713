-- The latest operations of a list.
use Rattle.std.proofs.Common.{ℕ, ◌≡◌, ◌&&◌, ◌⊎◌, inl, inr, not, Bool, true, false, Option, None, Some, cond}
use Rattle.std.proofs.Common.{Contains}
use Rattle.std.proofs.Common.{List, ◌∷◌, refl, sym, ap, subst, ◌∙◌, arith}
use Rattle.std.proofs.lemmas.Bool.{both_ways}
use Rattle.std.proofs.lemmas.Bool.Decides.{nat_tests}
use Rattle.std.proofs.lemmas.List.Elements.{Contains-append_left, Contains-append_right, Contains-append_cases}
use Rattle.slab.proofs.SlabLemmas.{Contains-cons, Contains-cons_cases}
use Rattle.tandem_base.specs.declared.names.Origin.{Origin}
use Rattle.tandem_base.specs.declared.names.Position.{Position}
use Rattle.tandem_base.specs.Places.{comes_before}
use Rattle.rvwmo_model.specs.Tests.{same_origin}
use Rattle.kept_ops.specs.declared.operation.KeptOp.{KeptOp}
use Rattle.kept_ops.specs.Arrivals.{stays}
use Rattle.kept_ops.specs.Marks.{ByteMarks, later_op, other_with, marks_with}
use Rattle.kept_ops.specs.Marks.{IsLatestThat, is_other, AreLatest}
use Rattle.kept_ops.specs.Operations.{loads_at, stores_at, source_at}
use Rattle.kept_ops.specs.Tables.{IsWith}

not_itself : (p : Position) → comes_before p p ≡ false
not_itself p = grind (arith, nat_tests)

behind : (m o v : Position) → comes_before m o ≡ true → comes_before m v ≡ false → comes_before o v ≡ false
behind m o v p q = grind (arith, nat_tests, p, q)

pub stays_behind : (oldest : Option Position) (p q : Position) → stays oldest p ≡ true → comes_before q p ≡ false
    → stays oldest q ≡ true
stays_behind None p q s l = cc
stays_behind (Some o) p q s l = grind (arith, nat_tests, s, l)

-- what passes one test passes the other
pub swapped : (t u : KeptOp → Bool) (ops : List KeptOp) (m : Option KeptOp) → ((v : KeptOp) → t v ≡ u v)
    → IsLatestThat t ops m → IsLatestThat u ops m
swapped t u ops None e h = λ v i. sym (e v) ∙ h v i
swapped t u ops (Some m) e h = (h.0, sym (e m) ∙ h.1, λ v i q. h.2 v i (e v ∙ q))

-- ---- one operation more

module _ (o : KeptOp) (old new : List KeptOp) (w : IsWith o old new) where
  on : (v : KeptOp) → Contains old v → Contains new v
  on v i =
      let j = Contains-append_cases w.front w.back v (subst (λ (l : List KeptOp). Contains l v) w.was i) in
      subst (λ (l : List KeptOp). Contains l v) (sym w.is) (elim j [
        | inl f ↦ Contains-append_left w.front (o ∷ w.back) v f
        | inr b ↦ Contains-append_right w.front (o ∷ w.back) v (Contains-cons o v w.back b)
      ])

  is_there : Contains new o
  is_there = subst (λ (l : List KeptOp). Contains l o) (sym w.is)
      (Contains-append_right w.front (o ∷ w.back) o (0, omega arith, refl))

  back : (v : KeptOp) → Contains new v → (v ≡ o) ⊎ Contains old v
  back v i =
      let j = Contains-append_cases w.front (o ∷ w.back) v (subst (λ (l : List KeptOp). Contains l v) w.is i) in
      elim j [
        | inl f ↦ inr (subst (λ (l : List KeptOp). Contains l v) (sym w.was) (Contains-append_left w.front w.back v f))
        | inr b ↦ elim (Contains-cons_cases o v w.back b) [
          | inl s ↦ inl (sym s)
          | inr r ↦ inr (subst (λ (l : List KeptOp). Contains l v) (sym w.was)
              (Contains-append_right w.front w.back v r))
        ]
      ]

  pub latest_more : (test : KeptOp → Bool) (m : Option KeptOp) → test o ≡ true → IsLatestThat test old m
      → IsLatestThat test new (later_op m o)
  latest_more test None t h = (
    is_there,
    t,
    λ v i q. elim (back v i) [
      | inl s ↦ subst (λ (z : KeptOp). comes_before o.place z.place ≡ false) (sym s) (not_itself o.place)
      | inr j ↦ absurd (both_ways (test v) (h v j) q)
    ],
  )
  latest_more test (Some m) t h = by (comes_before m.place o.place) refl
    where
      by : (b : Bool) → comes_before m.place o.place ≡ b → IsLatestThat test new (cond b (Some o) (Some m))
      by true e = (
        is_there,
        t,
        λ v i q. elim (back v i) [
          | inl s ↦ subst (λ (z : KeptOp). comes_before o.place z.place ≡ false) (sym s) (not_itself o.place)
          | inr j ↦ behind m.place o.place v.place e (h.2 v j q)
        ],
      )
      by false e = (
        on m h.0,
        h.1,
        λ v i q. elim (back v i) [
          | inl s ↦ subst (λ (z : KeptOp). comes_before m.place z.place ≡ false) (sym s) e
          | inr j ↦ h.2 v j q
        ],
      )

  pub latest_same : (test : KeptOp → Bool) (m : Option KeptOp) → test o ≡ false → IsLatestThat test old m
      → IsLatestThat test new m
  latest_same test None t h = λ v i. elim (back v i) [
    | inl s ↦ subst (λ (z : KeptOp). test z ≡ false) (sym s) t
    | inr j ↦ h v j
  ]
  latest_same test (Some m) t h = (
    on m h.0,
    h.1,
    λ v i q. elim (back v i) [
      | inl s ↦ absurd (both_ways (test o) t (subst (λ (z : KeptOp). test z ≡ true) s q))
      | inr j ↦ h.2 v j q
    ],
  )

  latest_chosen : (test : KeptOp → Bool) (m : Option KeptOp) → IsLatestThat test old m → (b : Bool) → test o ≡ b
      → IsLatestThat test new (cond b (later_op m o) m)
  latest_chosen test m h true e = latest_more test m e h
  latest_chosen test m h false e = latest_same test m e h

same_itself : (a : Option Origin) → same_origin a a ≡ true
same_itself None = refl
same_itself (Some m) = grind (arith, nat_tests)

pub same_both : (a b c : Option Origin) → same_origin a b ≡ true → same_origin a c ≡ same_origin b c
same_both None None c e = refl
same_both None (Some n) c e = cc
same_both (Some m) None c e = cc
same_both (Some m) (Some n) None e = refl
same_both (Some m) (Some n) (Some p) e = grind (arith, nat_tests, e)

pub same_turned : (a b : Option Origin) → same_origin a b ≡ same_origin b a
same_turned None None = refl
same_turned None (Some n) = refl
same_turned (Some m) None = refl
same_turned (Some m) (Some n) = grind (arith, nat_tests)

-- b loads, and from elsewhere
pub elsewhere : (a b : Bool) → a ≡ true → b ≡ false → (a && not b) ≡ true
elsewhere true false p q = refl
elsewhere true true p q = cc
elsewhere false b p q = cc

not_elsewhere : (a b : Bool) → b ≡ true → (a && not b) ≡ false
not_elsewhere true true q = refl
not_elsewhere true false q = cc
not_elsewhere false b q = refl

pub neither : (a b : Bool) → a ≡ false → (a && b) ≡ false
neither true b q = cc
neither false b q = refl

pub and_left : (a b : Bool) → (a && b) ≡ true → a ≡ true
and_left true b e = refl
and_left false b e = e

no_other : (x : ℕ) (load : Option KeptOp) (o : KeptOp) → loads_at x o ≡ false → is_other x load o ≡ false
no_other x None o e = refl
no_other x (Some m) o e = neither (loads_at x o) (not (same_origin (source_at x m) (source_at x o))) e

module _ (x : ℕ) (o : KeptOp) (old new : List KeptOp) (w : IsWith o old new) where
  others_more : (load other : Option KeptOp) → loads_at x o ≡ true → IsLatestThat (loads_at x) old load
      → IsLatestThat (is_other x load) old other
      → IsLatestThat (is_other x (later_op load o)) new (other_with x o load other)
  others_more None (Some n) l h i = absurd (both_ways false refl i.1)
  others_more None None l h i = λ v j. elim (back o old new w v j) [
    | inl s ↦ subst (λ (z : KeptOp). is_other x (Some o) z ≡ false) (sym s)
        (not_elsewhere (loads_at x o) (same_origin (source_at x o) (source_at x o)) (same_itself (source_at x o)))
    | inr k ↦ neither (loads_at x v) (not (same_origin (source_at x o) (source_at x v))) (h v k)
  ]
  others_more (Some m) other l h i =
      by (same_origin (source_at x m) (source_at x o)) (comes_before m.place o.place) refl refl
    where
      by : (a b : Bool) → same_origin (source_at x m) (source_at x o) ≡ a → comes_before m.place o.place ≡ b
          → IsLatestThat (is_other x (cond b (Some o) (Some m))) new
          (cond a other (cond b (Some m) (later_op other o)))
      by true true e f =
          swapped (is_other x (Some m)) (is_other x (Some o)) new other
          (λ v. ap (λ (t : Bool). loads_at x v && not t) (same_both (source_at x m) (source_at x o) (source_at x v) e))
          (latest_same o old new w (is_other x (Some m)) other
          (not_elsewhere (loads_at x o) (same_origin (source_at x m) (source_at x o)) e) i)
      by true false e f =
          latest_same o old new w (is_other x (Some m)) other
          (not_elsewhere (loads_at x o) (same_origin (source_at x m) (source_at x o)) e) i
      by false true e f = (
        on o old new w m h.0,
        elsewhere (loads_at x m) (same_origin (source_at x o) (source_at x m)) h.1
            (same_turned (source_at x o) (source_at x m) ∙ e),
        λ v j q. elim (back o old new w v j) [
          | inl s ↦
              let none : is_other x (Some o) o ≡ false =
              not_elsewhere (loads_at x o) (same_origin (source_at x o) (source_at x o)) (same_itself (source_at x o))
              in
              absurd (both_ways (is_other x (Some o) o) none (subst (λ (z : KeptOp). is_other x (Some o) z ≡ true) s q))
          | inr k ↦ h.2 v k (and_left (loads_at x v) (not (same_origin (source_at x o) (source_at x v))) q)
        ],
      )
      by false false e f =
          latest_more o old new w (is_other x (Some m)) other
          (elsewhere (loads_at x o) (same_origin (source_at x m) (source_at x o)) l e) i

  others_chosen : (load other : Option KeptOp) → IsLatestThat (loads_at x) old load
      → IsLatestThat (is_other x load) old other
      → (b : Bool) → loads_at x o ≡ b
      → IsLatestThat (is_other x (cond b (later_op load o) load)) new (cond b (other_with x o load other) other)
  others_chosen load other h i true e = others_more load other e h i
  others_chosen load other h i false e = latest_same o old new w (is_other x load) other (no_other x load o e) i

pub latest_with : (x : ℕ) (o : KeptOp) (ops ops' since since' : List KeptOp) (marks : ByteMarks) → IsWith o ops ops'
    → IsWith o since since' → AreLatest x ops since marks → AreLatest x ops' since' (marks_with x o marks)
latest_with x o ops ops' since since' marks v w h = record {
  store = latest_chosen o ops ops' v (stores_at x) marks.store h.store (stores_at x o) refl;
  load = latest_chosen o since since' w (loads_at x) marks.load h.load (loads_at x o) refl;
  other = others_chosen x o since since' w marks.load marks.other h.load h.other (loads_at x o) refl;
}
