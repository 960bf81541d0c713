-- Slots that are linked under their tags, as reports come and go.
use Rattle.std.proofs.Common.{ℕ, ◌≡◌, ◌≢◌, ◌+◌, ◌<◌, ◌≤◌, ◌==◌, ◌&&◌, inl, inr, not, Bool, true, false}
use Rattle.std.proofs.Common.{cond, List, [], ◌∷◌, ◌++◌, length, Option, None, Some, IsSome, refl, sym, ap, ◌∙◌, subst}
use Rattle.std.proofs.Common.{arith, if◌then◌else◌}
use Rattle.std.proofs.lemmas.List.{append-nil, append_assoc}
use Rattle.std.proofs.lemmas.List.Filters.{length-filter_both}
use Rattle.std.proofs.lemmas.Bool.{cases_eq, both_ways, eqb-true, eq-eqb, ne_eqb}
use Rattle.std.proofs.lemmas.Bool.Decides.{nat_tests}
use Rattle.slab.specs.Slab.{Slab, get, slab_len}
use Rattle.tandem_base.specs.declared.names.Position.{Position}
use Rattle.tandem_base.specs.Places.{comes_before}
use Rattle.tag_window.specs.declared.links.Link.{Link}
use Rattle.tag_window.specs.declared.newest.Newest.{Newest}
use Rattle.tag_window.specs.declared.order.Arrival.{Arrival}
use Rattle.tag_window.specs.Order.{is_at, is_live, live_of, AllBefore, PlacesFall, AllElsewhere, StartsLive, EndsLive}
use Rattle.tag_window.specs.Order.{arrivals_of_tag}
use Rattle.tag_window.specs.Order.{arrivals_without, IsTagChain, IsTagChained, Freed, AreKept, TagsRise, slot_under}
use Rattle.tag_window.specs.Order.{AllTagsAbove}
use Rattle.tag_window.specs.Order.{HasTag, AllTagsFrom}
use Rattle.tag_window.proofs.Arrivals.{In, filter_on, filter_both, filter_none, in_filter, filter_in}
use Rattle.tag_window.proofs.Arrivals.{elsewhere_in, elsewhere_from, before_in, falls_filter, one_live, holds_of}
use Rattle.tag_window.proofs.Arrivals.{never_itself, same_self, apart_place, before_all}
use Rattle.tag_window.proofs.TagLists.{yes_at, no_at}

none_of : {A : Type 0} (x : A) (o : Option A) → o ≡ None → o ≡ Some x → ⊥
none_of x o e f =
    let no_one : None ≡ Some x = sym e ∙ f in
    cc

same_of : {A : Type 0} (x y : A) (o : Option A) → o ≡ Some x → o ≡ Some y → x ≡ y
same_of x y o e f =
    let one : Some x ≡ Some y = sym e ∙ f in
    cc

-- ---- along a chain

-- a chain is one list, as far as its slots go
pub chain_ends : (at : ℕ → Option Link) (head : Option ℕ) (cs : List Arrival) → IsTagChain at head cs → head ≡ None → cs
    ≡ []
chain_ends at head [] c e = refl
chain_ends at head (a ∷ cs) c e = absurd (none_of a.slot head e c.1)

pub chain_on : (at new : ℕ → Option Link) (head : Option ℕ) (cs : List Arrival)
    → ((a : Arrival) → In a cs → new a.slot ≡ at a.slot) → IsTagChain at head cs → IsTagChain new head cs
chain_on at new head [] h c = c
chain_on at new head (a ∷ cs) h c = (
  c.0,
  c.1,
  h a (inl refl) ∙ c.2,
  c.3,
  chain_on at new c.0.older cs (λ x i. h x (inr i)) c.4,
)

-- one step along it
pub record Steps (at : ℕ → Option Link) (slot : ℕ) (link : Link) (cs : List Arrival) : Type 0 where
  pub first : Arrival
  pub tail : List Arrival
  pub is : cs ≡ first ∷ tail
  pub slot_is : first.slot ≡ slot
  pub place : link.place ≡ first.place
  pub chain : IsTagChain at link.older tail

pub step_of : (at : ℕ → Option Link) (head : Option ℕ) (slot : ℕ) (link : Link) (cs : List Arrival)
    → IsTagChain at head cs → head ≡ Some slot → at slot ≡ Some link → Steps at slot link cs
step_of at head slot link [] c e there = absurd (none_of slot head c e)
step_of at head slot link (a ∷ cs) c e there =
    let s : a.slot ≡ slot = same_of a.slot slot head c.1 e in
    let l : c.0 ≡ link = same_of c.0 link (at slot) (subst (λ (x : ℕ). at x ≡ Some c.0) s c.2) there in
    record {
      first = a;
      tail = cs;
      is = refl;
      slot_is = s;
      place = subst (λ (x : Link). x.place ≡ a.place) l c.3;
      chain = subst (λ (x : Link). IsTagChain at x.older cs) l c.4;
    }

pub chain_some : (at : ℕ → Option Link) (slot : ℕ) (cs : List Arrival) → IsTagChain at (Some slot) cs → 0 < length cs
chain_some at slot [] c = cc
chain_some at slot (a ∷ cs) c = omega arith

pub there_is : (at : ℕ → Option Link) (head : Option ℕ) (slot : ℕ) (cs : List Arrival) → IsTagChain at head cs
    → head ≡ Some slot → IsSome (at slot)
there_is at head slot [] c e = absurd (none_of slot head c e)
there_is at head slot (a ∷ cs) c e =
    let s : a.slot ≡ slot = same_of a.slot slot head c.1 e in
    let there : at slot ≡ Some c.0 = subst (λ (x : ℕ). at x ≡ Some c.0) s c.2 in
    subst (λ (x : Option Link). IsSome x) (sym there) refl

-- the reports of a chain are in other slots than one that came later
pub others_elsewhere : (at : ℕ → Option Link) (slot : ℕ) (link : Link) (head : Option ℕ) (cs : List Arrival)
    → at slot ≡ Some link → AllBefore link.place cs → IsTagChain at head cs → AllElsewhere slot cs
others_elsewhere at slot link head [] there b c = tt
others_elsewhere at slot link head (a ∷ cs) there b c = (
  (λ s. (
      let l : c.0 ≡ link = same_of c.0 link (at slot) (subst (λ (x : ℕ). at x ≡ Some c.0) s c.2) there in
      let p : link.place ≡ a.place = ap (λ (x : Link). x.place) (sym l) ∙ c.3 in
      absurd (both_ways (comes_before a.place link.place)
      (subst (λ (q : Position). comes_before a.place q ≡ false) (sym p) (never_itself a.place)) b.0))),
  others_elsewhere at slot link c.0.older cs there b.1 c.4,
)

elsewhere_end : (slot : ℕ) (cs : List Arrival) (b : Arrival) → AllElsewhere slot cs → b.slot ≢ slot
    → AllElsewhere slot (cs ++ b ∷ [])
elsewhere_end slot [] b h d = (d, tt)
elsewhere_end slot (a ∷ cs) b h d = (h.0, elsewhere_end slot cs b h.1 d)

elsewhere_parts : (slot : ℕ) (cs : List Arrival) (b : Arrival) → AllElsewhere slot (cs ++ b ∷ [])
    → AllElsewhere slot cs × (b.slot ≢ slot)
elsewhere_parts slot [] b h = (tt, h.0)
elsewhere_parts slot (a ∷ cs) b h =
    let r = elsewhere_parts slot cs b h.1 in
    ((h.0, r.0), r.1)

-- ---- freeing a chain

-- it is freed as far as `here`
pub record Frees (old now : ℕ → Option Link) (here : Option ℕ) (full : List Arrival) (count left : ℕ) : Type 0 where
  pub done : List Arrival
  pub rest : List Arrival
  pub is : full ≡ done ++ rest
  pub chain : IsTagChain now here rest
  pub falls : PlacesFall rest
  pub freed : Freed old now done
  pub counts : left + length done ≡ count

pub record Freeing (old now : ℕ → Option Link) (head here : Option ℕ) (count left : ℕ) : Type 0 where
  pub rest : IsTagChained now here
  pub frees : (full : List Arrival) → IsTagChain old head full → PlacesFall full → Frees old now here full count left

pub freeing_begins : (at : ℕ → Option Link) (head : Option ℕ) (count : ℕ) → IsTagChained at head
    → Freeing at at head head count count
freeing_begins at head count c = record {
  rest = c;
  frees = λ full d f. record {
    done = [];
    rest = full;
    is = refl;
    chain = d;
    falls = f;
    freed = record { gone = λ slot link e. tt; stay = λ slot e. refl };
    counts = omega arith;
  };
}

module _ (old now : ℕ → Option Link) (head here : Option ℕ) (count left : ℕ)
    (m : Freeing old now head here count left) where
  pub freeing_ends : here ≡ None → (full : List Arrival) → IsTagChain old head full → PlacesFall full
      → Freed old now full × (left + length full ≡ count)
  freeing_ends e full c f =
      let r = m.frees full c f in
      let empty : r.rest ≡ [] = chain_ends now here r.rest r.chain e in
      let all : full ≡ r.done = r.is ∙ ap (λ (cs : List Arrival). r.done ++ cs) empty ∙ append-nil r.done in (
        subst (λ (cs : List Arrival). Freed old now cs) (sym all) r.freed,
        ap (λ (cs : List Arrival). left + length cs) all ∙ r.counts,
      )

  module _ (slot : ℕ) (link : Link) (e : here ≡ Some slot) (there : now slot ≡ Some link) (new : ℕ → Option Link)
      (gone : new slot ≡ None) (others : (k : ℕ) → k ≢ slot → new k ≡ now k) where
    -- the chain from the next slot
    next : (cs : List Arrival) → IsTagChain now here cs → PlacesFall cs → (s : Steps now slot link cs)
        × IsTagChain new link.older s.tail × PlacesFall s.tail
    next cs c f =
        let s = step_of now here slot link cs c e there in
        let g : PlacesFall (s.first ∷ s.tail) = subst PlacesFall s.is f in
        let b : AllBefore link.place s.tail = subst (λ (p : Position). AllBefore p s.tail) (sym s.place) g.0 in
        let apart = others_elsewhere now slot link link.older s.tail there b s.chain in (
          s,
          chain_on now new link.older s.tail (λ a i. others a.slot (elsewhere_in slot s.tail apart a i)) s.chain,
          g.1,
        )

    goes_on : (fewer : ℕ) → fewer + 1 ≡ left → (full : List Arrival) → IsTagChain old head full → PlacesFall full
        → Frees old new link.older full count fewer
    goes_on fewer one full c f =
        let r = m.frees full c f in
        let n = next r.rest r.chain r.falls in
        let s = n.0 in
        record {
          done = r.done ++ s.first ∷ [];
          rest = s.tail;
          is = r.is ∙ ap (λ (cs : List Arrival). r.done ++ cs) s.is ∙ sym (append_assoc r.done (s.first ∷ []) s.tail);
          chain = n.1;
          falls = n.2;
          freed = record {
            gone = λ k l q. (
                let away : k ≢ slot = λ t. none_of l (new k) (ap new t ∙ gone) q in
                elsewhere_end k r.done s.first (r.freed.gone k l (sym (others k away) ∙ q))
                (λ t. away (sym t ∙ s.slot_is)));
            stay = λ k h. (
                let parts = elsewhere_parts k r.done s.first h in
                others k (λ t. parts.1 (s.slot_is ∙ sym t)) ∙ r.freed.stay k parts.0);
          };
          counts = omega (arith, r.counts, one, length_end r.done s.first);
        }
      where
        length_end : (cs : List Arrival) (b : Arrival) → length (cs ++ b ∷ []) ≡ length cs + 1
        length_end [] b = refl
        length_end (a ∷ cs) b = omega (arith, length_end cs b)

    pub freeing_goes : (fewer : ℕ) → fewer + 1 ≡ left → Freeing old new head link.older count fewer
    freeing_goes fewer one =
        let n = next m.rest.reports m.rest.chain m.rest.falls in
        record {
          rest = record { reports = n.0.tail; chain = n.1; falls = n.2 };
          frees = λ full c f. goes_on fewer one full c f;
        }

-- ---- reports that were freed

module _ (at new : ℕ → Option Link) (arrivals : List Arrival) (falls : PlacesFall arrivals) (tag : ℕ)
    (freed : Freed at new (arrivals_of_tag tag (live_of at arrivals))) where
  -- the others' slots stay
  pub stays_apart : (a : Arrival) → In a (live_of at arrivals) → (a.tag == tag) ≡ false → new a.slot ≡ at a.slot
  stays_apart a i d = freed.stay a.slot (elsewhere_from a.slot (arrivals_of_tag tag (live_of at arrivals)) (λ b j s. (
      let k = in_filter (λ x. x.tag == tag) (live_of at arrivals) b j in
      let same : b ≡ a = one_live at arrivals falls b a k.0 i s in
      both_ways (a.tag == tag) d (subst (λ (x : Arrival). (x.tag == tag) ≡ true) same k.1))))

  still : (a : Arrival) → In a arrivals → is_live new a ≡ (is_live at a && not (a.tag == tag))
  still a i = by (is_live at a) refl (a.tag == tag) refl (new a.slot) refl
    where
      by : (l : Bool) → is_live at a ≡ l → (t : Bool) → (a.tag == tag) ≡ t → (o : Option Link) → new a.slot ≡ o
          → is_live new a ≡ (l && not t)
      by false e t h None n = ap (λ (x : Option Link). is_at x a.place) n
      by false e t h (Some link) n =
          let apart = freed.gone a.slot link n in
          ap (λ (x : Option Link). is_at x a.place) (freed.stay a.slot apart) ∙ e
      by true e true h None n = ap (λ (x : Option Link). is_at x a.place) n
      by true e true h (Some link) n =
          let apart = freed.gone a.slot link n in
          let here = filter_in (is_live at) arrivals a i e in
          let mine = filter_in (λ x. x.tag == tag) (live_of at arrivals) a here h in
          absurd (elsewhere_in a.slot (arrivals_of_tag tag (live_of at arrivals)) apart a mine refl)
      by true e false h o n =
          let here = filter_in (is_live at) arrivals a i e in
          ap (λ (x : Option Link). is_at x a.place) (stays_apart a here h) ∙ e

  pub live_without : live_of new arrivals ≡ arrivals_without tag (live_of at arrivals)
  live_without =
      filter_on (is_live new) (λ a. is_live at a && not (a.tag == tag)) arrivals still
      ∙ sym (filter_both (is_live at) (λ a. not (a.tag == tag)) arrivals)

-- those of another tag are among those without this one
pub tags_apart : (u tag : ℕ) (cs : List Arrival) → u ≢ tag
    → arrivals_of_tag u (arrivals_without tag cs) ≡ arrivals_of_tag u cs
tags_apart u tag cs d =
    filter_both (λ a. not (a.tag == tag)) (λ a. a.tag == u) cs
    ∙ filter_on (λ a. not (a.tag == tag) && (a.tag == u)) (λ a. a.tag == u) cs (λ a i. grind (arith, nat_tests))

pub tags_gone : (tag : ℕ) (cs : List Arrival) → arrivals_of_tag tag (arrivals_without tag cs) ≡ []
tags_gone tag cs =
    filter_both (λ a. not (a.tag == tag)) (λ a. a.tag == tag) cs
    ∙ filter_none (λ a. not (a.tag == tag) && (a.tag == tag)) cs (λ a i. grind (arith, nat_tests))

module _ (links new : Slab Link) (arrivals : List Arrival) (newest less : List Newest) (tag slot : ℕ)
    (kept : AreKept links arrivals newest) (was : slot_under newest tag ≡ Some slot) (rises : TagsRise less)
    (slots : (u : ℕ) → slot_under less u ≡ (if u == tag then None else slot_under newest u)) where
  pub freed_links : IsTagChain (get links) (Some slot) (arrivals_of_tag tag (live_of (get links) arrivals))
  freed_links = subst (λ (o : Option ℕ). IsTagChain (get links) o (arrivals_of_tag tag (live_of
      (get links) arrivals))) was
      (kept.chains tag)

  pub freed_falls : PlacesFall (arrivals_of_tag tag (live_of (get links) arrivals))
  freed_falls = falls_filter (λ a. a.tag == tag) (live_of (get links) arrivals)
      (falls_filter (is_live (get links)) arrivals kept.falls)

  pub freed_chain : IsTagChained (get links) (Some slot)
  freed_chain = record {
    reports = arrivals_of_tag tag (live_of (get links) arrivals);
    chain = freed_links;
    falls = freed_falls;
  }

  module _ (freed : Freed (get links) (get new) (arrivals_of_tag tag (live_of (get links) arrivals)))
      (counts : slab_len new + length (arrivals_of_tag tag (live_of (get links) arrivals)) ≡ slab_len links) where
    pub freed_live : live_of (get new) arrivals ≡ arrivals_without tag (live_of (get links) arrivals)
    freed_live = live_without (get links) (get new) arrivals kept.falls tag freed

    freed_chains : (u : ℕ) → IsTagChain (get new) (slot_under less u) (arrivals_of_tag u (live_of (get new) arrivals))
    freed_chains u = subst (λ (cs : List Arrival). IsTagChain (get new) (slot_under less u) (arrivals_of_tag u cs))
        (sym freed_live)
        (elim (cases_eq u tag) [
          | inl e ↦
              let none : slot_under less u ≡ None = slots u ∙ yes_at u tag None (slot_under newest u) e in
              let empty : arrivals_of_tag u (arrivals_without tag (live_of (get links) arrivals)) ≡ [] =
              ap (λ (x : ℕ). arrivals_of_tag x (arrivals_without tag (live_of (get links) arrivals))) e
              ∙ tags_gone tag (live_of (get links) arrivals) in
              subst (λ (cs : List Arrival). IsTagChain (get new) (slot_under less u) cs) (sym empty) none
          | inr d ↦
              let head : slot_under less u ≡ slot_under newest u = slots u ∙ no_at u tag None (slot_under newest u) d in
              let same = tags_apart u tag (live_of (get links) arrivals) d in
              subst (λ (cs : List Arrival). IsTagChain (get new) (slot_under less u) cs) (sym same)
              (subst (λ (o : Option ℕ). IsTagChain (get new) o (arrivals_of_tag u (live_of (get links) arrivals)))
              (sym head)
              (chain_on (get links) (get new) (slot_under newest u) (arrivals_of_tag u (live_of (get links) arrivals))
              (λ a i. (
              let k = in_filter (λ x. x.tag == u) (live_of (get links) arrivals) a i in
              let t : a.tag ≡ u = eqb-true a.tag u k.1 in
              stays_apart (get links) (get new) arrivals kept.falls tag freed a k.0
              (ne_eqb a.tag tag (λ q. d (sym t ∙ q))))) (kept.chains u)))
        ])

    pub freed_kept : AreKept new arrivals less
    freed_kept =
        let both = length-filter_both (λ (a : Arrival). a.tag == tag) (λ a. not (a.tag == tag)) (λ a. refl)
        (live_of (get links) arrivals) in
        record {
          falls = kept.falls;
          rises = rises;
          chains = freed_chains;
          count = omega (arith, ap length freed_live, both, counts, kept.count);
        }

-- ---- one more

module _ (links new : Slab Link) (arrivals : List Arrival) (newest more : List Newest) (tag slot : ℕ)
    (place : Position) (kept : AreKept links arrivals newest) (starts : StartsLive (get links) arrivals)
    (later : AllBefore place (live_of (get links) arrivals)) (vacant : get links slot ≡ None)
    (there : get new slot ≡ Some (record { place = place; older = slot_under newest tag }))
    (others : (k : ℕ) → k ≢ slot → get new k ≡ get links k) (count : slab_len new ≡ slab_len links + 1)
    (rises : TagsRise more)
    (slots : (u : ℕ) → slot_under more u ≡ (if u == tag then Some slot else slot_under newest u)) where
  came : Arrival
  came = record { tag = tag; slot = slot; place = place }

  before : AllBefore place arrivals
  before = before_all (get links) arrivals place kept.falls starts later

  mine : is_live (get new) came ≡ true
  unfolding came
  mine = ap (λ (o : Option Link). is_at o place) there ∙ same_self place

  still_here : (a : Arrival) → In a arrivals → is_live (get new) a ≡ is_live (get links) a
  still_here a i = elim (cases_eq a.slot slot) [
    | inl e ↦
        ap (λ (k : ℕ). is_at (get new k) a.place) e
        ∙ ap (λ (o : Option Link). is_at o a.place) there
        ∙ apart_place place a.place (before_in place arrivals before a i)
        ∙ sym (ap (λ (k : ℕ). is_at (get links k) a.place) e ∙ ap (λ (o : Option Link). is_at o a.place) vacant)
    | inr d ↦ ap (λ (o : Option Link). is_at o a.place) (others a.slot d)
  ]

  pub added_live : live_of (get new) (record { tag = tag; slot = slot; place = place } ∷ arrivals)
      ≡ record { tag = tag; slot = slot; place = place } ∷ live_of (get links) arrivals
  unfolding came
  added_live =
      ap (λ (b : Bool). cond b (came ∷ live_of (get new) arrivals) (live_of (get new) arrivals)) mine
      ∙ ap (λ (cs : List Arrival). came ∷ cs)
      (filter_on (is_live (get new)) (is_live (get links)) arrivals still_here)

  pub added_elsewhere : AllElsewhere slot (live_of (get links) arrivals)
  added_elsewhere = elsewhere_from slot (live_of (get links) arrivals) (λ a i s. (
      let h = holds_of (get links) a (in_filter (is_live (get links)) arrivals a i).1 in
      none_of h.link (get links slot) vacant (subst (λ (k : ℕ). get links k ≡ Some h.link) s h.there)))

  kept_chain : (u : ℕ) → IsTagChain (get new) (slot_under newest u) (arrivals_of_tag u (live_of (get links) arrivals))
  kept_chain u = chain_on (get links) (get new) (slot_under newest u) (arrivals_of_tag u (live_of (get links) arrivals))
      (λ a i. others a.slot (elsewhere_in slot (live_of (get links) arrivals) added_elsewhere a
      (in_filter (λ x. x.tag == u) (live_of (get links) arrivals) a i).0)) (kept.chains u)

  added_chains : (u : ℕ) → IsTagChain (get new) (slot_under more u) (arrivals_of_tag u (came ∷ live_of
      (get links) arrivals))
  unfolding came
  added_chains u = elim (cases_eq u tag) [
    | inl e ↦
        let head : slot_under more u ≡ Some slot = slots u ∙ yes_at u tag (Some slot) (slot_under newest u) e in
        let rest : IsTagChain (get new) (slot_under newest tag) (arrivals_of_tag u (live_of (get links) arrivals)) =
        subst (λ (x : ℕ). IsTagChain (get new) (slot_under newest x) (arrivals_of_tag u (live_of
        (get links) arrivals))) e
        (kept_chain u) in
        let all : IsTagChain (get new) (slot_under more u) (came ∷ arrivals_of_tag u (live_of (get links) arrivals)) =
        (record { place = place; older = slot_under newest tag }, head, there, refl, rest) in
        subst (λ (b : Bool). IsTagChain (get new) (slot_under more u)
        (cond b (came ∷ arrivals_of_tag u (live_of (get links) arrivals)) (arrivals_of_tag u (live_of
        (get links) arrivals))))
        (sym (eq-eqb tag u (sym e))) all
    | inr d ↦
        let head : slot_under more u ≡ slot_under newest u = slots u
        ∙ no_at u tag (Some slot) (slot_under newest u) d in
        let all : IsTagChain (get new) (slot_under more u) (arrivals_of_tag u (live_of (get links) arrivals)) =
        subst (λ (o : Option ℕ). IsTagChain (get new) o (arrivals_of_tag u (live_of (get links) arrivals))) (sym head)
        (kept_chain u) in
        subst (λ (b : Bool). IsTagChain (get new) (slot_under more u)
        (cond b (came ∷ arrivals_of_tag u (live_of (get links) arrivals)) (arrivals_of_tag u (live_of
        (get links) arrivals))))
        (sym (ne_eqb tag u (λ q. d (sym q)))) all
  ]

  pub added_kept : AreKept new (record { tag = tag; slot = slot; place = place } ∷ arrivals) more
  unfolding came
  added_kept = record {
    falls = (before, kept.falls);
    rises = rises;
    chains = λ u. subst (λ (cs : List Arrival). IsTagChain (get new) (slot_under more u) (arrivals_of_tag u cs))
        (sym added_live)
        (added_chains u);
    count = omega (arith, ap length added_live, kept.count, count);
  }

  pub added_starts : StartsLive (get new) (record { tag = tag; slot = slot; place = place } ∷ arrivals)
  unfolding came mine
  added_starts = mine

  pub added_ends : EndsLive (get links) arrivals
      → EndsLive (get new) (record { tag = tag; slot = slot; place = place } ∷ arrivals)
  unfolding came
  added_ends ends = λ bs a e. by bs a e
    where
      last_in : (bs : List Arrival) (a : Arrival) → In a (bs ++ a ∷ [])
      last_in [] a = inl refl
      last_in (b ∷ bs) a = inr (last_in bs a)

      by : (bs : List Arrival) (a : Arrival) → came ∷ arrivals ≡ bs ++ a ∷ [] → is_live (get new) a ≡ true
      by [] a e =
          let same : came ≡ a = cc in
          subst (λ (x : Arrival). is_live (get new) x ≡ true) same mine
      by (b ∷ bs) a e =
          let tail : arrivals ≡ bs ++ a ∷ [] = cc in
          still_here a (subst (In a) (sym tail) (last_in bs a)) ∙ ends bs a tail

-- ---- heads and tags

-- one that is there has a head
pub has_head : (links : Slab Link) (arrivals : List Arrival) (newest : List Newest) → AreKept links arrivals newest
    → (a : Arrival) → In a (live_of (get links) arrivals) → slot_under newest a.tag ≡ None → ⊥
has_head links arrivals newest kept a i none =
    let mine = filter_in (λ x. x.tag == a.tag) (live_of (get links) arrivals) a i (eq-eqb a.tag a.tag refl) in
    let empty = chain_ends (get links) (slot_under newest a.tag) (arrivals_of_tag a.tag (live_of (get links) arrivals))
    (kept.chains a.tag) none in
    subst (λ (cs : List Arrival). In a cs) empty mine

tag_in : (cs : List Arrival) (a : Arrival) → In a cs → HasTag a.tag cs
tag_in [] a i = absurd i
tag_in (b ∷ bs) a (inl s) = inl (ap (λ (x : Arrival). x.tag) s)
tag_in (b ∷ bs) a (inr i) = inr (tag_in bs a i)

-- and a head has one that is there
pub head_has : (links : Slab Link) (arrivals : List Arrival) (newest : List Newest) → AreKept links arrivals newest
    → (tag slot : ℕ) → slot_under newest tag ≡ Some slot → HasTag tag (live_of (get links) arrivals)
head_has links arrivals newest kept tag slot e =
    by (arrivals_of_tag tag (live_of (get links) arrivals)) refl (kept.chains tag)
  where
    by : (cs : List Arrival) → arrivals_of_tag tag (live_of (get links) arrivals) ≡ cs
        → IsTagChain (get links) (slot_under newest tag) cs → HasTag tag (live_of (get links) arrivals)
    by [] h c = absurd (none_of slot (slot_under newest tag) c e)
    by (a ∷ cs) h c =
        let i : In a (arrivals_of_tag tag (live_of (get links) arrivals)) = subst (λ (xs : List Arrival). In a xs)
        (sym h)
        (inl refl) in
        let k = in_filter (λ x. x.tag == tag) (live_of (get links) arrivals) a i in
        subst (λ (t : ℕ). HasTag t (live_of (get links) arrivals)) (eqb-true a.tag tag k.1)
        (tag_in (live_of (get links) arrivals) a k.0)

tag_of : (tag : ℕ) (cs : List Arrival) → HasTag tag cs → (a : Arrival) × In a cs × (a.tag ≡ tag)
tag_of tag [] h = absurd h
tag_of tag (a ∷ cs) (inl e) = (a, inl refl, e)
tag_of tag (a ∷ cs) (inr h) =
    let r = tag_of tag cs h in
    (r.0, inr r.1, r.2)

-- no more heads than reports that are there
pub heads_fit : (ns : List Newest) (cs : List Arrival) → TagsRise ns
    → ((u s : ℕ) → slot_under ns u ≡ Some s → HasTag u cs) → length ns ≤ length cs
heads_fit [] cs r h = omega arith
heads_fit (n ∷ ns) cs r h =
    let first = tag_of n.tag cs (h n.tag n.slot (yes_at n.tag n.tag (Some n.slot) (slot_under ns n.tag) refl)) in
    let mine = filter_in (λ x. x.tag == n.tag) cs first.0 first.1 (eq-eqb first.0.tag n.tag first.2) in
    let rest = heads_fit ns (arrivals_without n.tag cs) r.1 later in
    let both = length-filter_both (λ (a : Arrival). a.tag == n.tag) (λ a. not (a.tag == n.tag)) (λ a. refl) cs in
    omega (arith, rest, both, some (arrivals_of_tag n.tag cs) first.0 mine)
  where
    some : (xs : List Arrival) (a : Arrival) → In a xs → 0 < length xs
    some [] a i = absurd i
    some (x ∷ xs) a i = omega arith

    higher : (xs : List Newest) (u s : ℕ) → AllTagsAbove n.tag xs → slot_under xs u ≡ Some s → n.tag < u
    higher [] u s b e = cc
    higher (x ∷ xs) u s b e = elim (cases_eq x.tag u) [
      | inl q ↦ omega (arith, q, b.0)
      | inr d ↦ higher xs u s b.1 (sym (no_at x.tag u (Some x.slot) (slot_under xs u) d) ∙ e)
    ]

    later : (u s : ℕ) → slot_under ns u ≡ Some s → HasTag u (arrivals_without n.tag cs)
    later u s e =
        let up = higher ns u s r.0 e in
        let away : n.tag ≢ u = λ q. omega (arith, q, up) in
        let a = tag_of u cs (h u s (no_at n.tag u (Some n.slot) (slot_under ns u) away ∙ e)) in
        let other : not (a.0.tag == n.tag) ≡ true = ap not (ne_eqb a.0.tag n.tag (λ q. away (sym q ∙ a.2))) in
        let i = filter_in (λ x. not (x.tag == n.tag)) cs a.0 a.1 other in
        subst (λ (t : ℕ). HasTag t (arrivals_without n.tag cs)) a.2 (tag_in (arrivals_without n.tag cs) a.0 i)

pub heads_room : (links : Slab Link) (arrivals : List Arrival) (newest : List Newest) → AreKept links arrivals newest
    → length newest ≤ length (live_of (get links) arrivals)
heads_room links arrivals newest kept =
    heads_fit newest (live_of (get links) arrivals) kept.rises (λ u s e. head_has links arrivals newest kept u s e)

pub tags_from : (t : ℕ) (cs : List Arrival) → ((a : Arrival) → In a cs → t ≤ a.tag) → AllTagsFrom t cs
tags_from t [] h = tt
tags_from t (a ∷ cs) h = (h a (inl refl), tags_from t cs (λ x i. h x (inr i)))
