-- Stores that are performed before their instruction retires.
use Rattle.std.proofs.Common.{ℕ, ◌≡◌, ◌≢◌, ◌⊎◌, inl, inr, Bool, true, false, not, eqb, ◌&&◌, cond, List, [], ◌∷◌}
use Rattle.std.proofs.Common.{length, map, replicate, Some, refl, sym, ap, subst, ◌∙◌}
use Rattle.std.specs.List.{filter, find}
use Rattle.std.proofs.lemmas.List.{length-replicate}
use Rattle.std.proofs.lemmas.Bool.{false≢true, both_ways, and_from, eq-eqb}
use Rattle.tandem_base.specs.declared.extent.Extent.{Extent}
use Rattle.msg_frames.specs.declared.message.Head.{Head}
use Rattle.msg_frames.specs.declared.message.Piece.{Piece}
use Rattle.msg_frames.specs.declared.message.Body.TheVariants as body
use Rattle.msg_frames.specs.declared.message.Message.{Message}
use Rattle.rvwmo_model.specs.declared.instructions.Retired.{Retired}
use Rattle.rvwmo_model.specs.declared.operations.Op.{Op}
use Rattle.rvwmo_model.specs.declared.operations.OpKind.{OpKind}
use Rattle.rvwmo_model.specs.declared.operations.OpKind.TheVariants as kind
use Rattle.rvwmo_model.specs.declared.operations.Ann.{Ann}
use Rattle.rvwmo_model.specs.declared.operations.Ann.TheVariants as ann
use Rattle.rvwmo_model.specs.declared.traces.Trace.{Trace}
use Rattle.trace_model.proofs.Lists.{In, listed, contained}
use Rattle.rvwmo_model.specs.Order.{put_at}
use Rattle.rv_decode.specs.Kinds.{is_sc, is_amo_or_sc}
use Rattle.rvwmo_model.specs.Atomicity.{IsPair, IsCoveredBy}
use Rattle.rvwmo_model.specs.InForm.{AreRising}
use Rattle.trace_model.proofs.Lists.{in_filter, from_filter, in_map, from_map}
use Rattle.growth_laws.specs.Growth.{SameMembers, IsYounger, AddEarly, AddsAtomic}
use Rattle.std.specs.List.{AllPairs}
use Rattle.rvwmo_model.proofs.Membership.{head_in, tail_in}
use Rattle.rvwmo_model.proofs.Membership.{in_cases as in_first}
use Rattle.elf_image.specs.Images.{Loaded}
use Rattle.trace_model.specs.Groups.{mask_from}
use Rattle.matching.specs.declared.reports.OpenReport.{OpenReport}
use Rattle.matching.specs.Settings.{number_after}
use Rattle.matching.specs.Tags.{is_early}
use Rattle.matching.specs.Reports.{open_report_of, is_report, early, place_of_report}
use Rattle.trace_model.specs.Entries.{built}
use Rattle.trace_model.specs.Retirements.{bypass_access, bypass_op}
use Rattle.trace_model.specs.Traces.{entries, places, early_extent, early_op, granule_of, trace_of}
use Rattle.trace_model.proofs.Groups.{whole_op}
use Rattle.trace_model.proofs.Performed.{IsBelow, is_above, members_self}

pub latest_in : (p : OpenReport → Bool) (rs : List OpenReport) (r : OpenReport) → find p rs ≡ Some r
    → In r rs × (p r ≡ true)
latest_in p [] r e = absurd (cc)
latest_in p (s ∷ rs) r e = at (p s) refl e (latest_in p rs r)
  where
    at : (c : Bool) → p s ≡ c → cond c (Some s) (find p rs) ≡ Some r → (find p rs ≡ Some r → In r rs × (p r ≡ true))
        → In r (s ∷ rs) × (p r ≡ true)
    at true q e rec = let same : s ≡ r = cc in (inl (sym same), ap p (sym same) ∙ q)
    at false q e rec = let y = rec e in (inr y.0, y.1)

module _ (rs : List OpenReport) (h t : ℕ) where
  abbrev others : List OpenReport
  others = filter (λ (r : OpenReport). not (is_report h t r)) rs

  pub other_in : (r : OpenReport) → In r rs → is_report h t r ≡ false → In r others
  other_in r i q = in_filter (λ (r : OpenReport). not (is_report h t r)) rs r i (ap not q)

  pub others_back : (v : Op) → In v (map early_op others) → In v (map early_op rs)
  others_back v i =
      let y = from_map early_op others v i in
      subst (λ (z : Op). In z (map early_op rs)) (sym y.2)
      (in_map early_op rs y.0 (from_filter (λ (r : OpenReport). not (is_report h t r)) rs y.0 y.1).0)

  -- where none of this instruction was early, nothing leaves
  pub none_leaves : ((r : OpenReport) → In r rs → is_report h t r ≡ false) → SameMembers (map early_op rs)
      (map early_op others)
  none_leaves none = record {
    on = λ v h. let i = listed _ v h in let y = from_map early_op rs v i in
        contained _ v (subst (λ (z : Op). In z (map early_op others)) (sym y.2)
        (in_map early_op others y.0 (other_in y.0 y.1 (none y.0 y.1))));
    back = λ v h. contained _ v (others_back v (listed _ v h));
  }

  module _ (b : OpenReport) (is : find (is_report h t) rs ≡ Some b) (one : (r : OpenReport) → In r rs
      → is_report h t r ≡ true
      → r ≡ b) where
    abbrev e : Op
    e = early_op b

    pub early_was : In e (map early_op rs)
    early_was = in_map early_op rs b (latest_in (is_report h t) rs b is).0

    pub early_on : (v : Op) → In v (map early_op rs) → (v ≡ e) ⊎ In v (map early_op others)
    early_on v i = let y = from_map early_op rs v i in at y.0 y.1 y.2 (is_report h t y.0) refl
      where
        at : (r : OpenReport) → In r rs → v ≡ early_op r → (c : Bool) → is_report h t r ≡ c → (v ≡ e)
            ⊎ In v (map early_op others)
        at r j s true q = inl (s ∙ ap early_op (one r j q))
        at r j s false q = inr (subst (λ (z : Op). In z (map early_op others)) (sym s)
            (in_map early_op others r (other_in r j q)))

    pub early_gone : In e (map early_op others) → ⊥
    early_gone i =
        let y = from_map early_op others e i in
        let f = from_filter (λ (r : OpenReport). not (is_report h t r)) rs y.0 y.1 in
        let same : is_report h t b ≡ is_report h t y.0 = ap (λ (z : Op). eqb z.name.hart h && eqb z.name.tag t) y.2 in
        at (is_report h t y.0) (sym same ∙ (latest_in (is_report h t) rs b is).1) f.1
      where
        at : (c : Bool) → c ≡ true → not c ≡ true → ⊥
        at true p q = false≢true q
        at false p q = false≢true p

    -- an AMO or an SC that stored takes its Bypass
    pub adds_atomic_of : (t1 t2 : Trace) (r : Retired) (k : OpKind) (x : Extent) (got : List ℕ) (aq rl : Ann) → t1.early
        ≡ map early_op rs → t2.early ≡ map early_op others → is_amo_or_sc r.insn ≡ true
        → early_extent b ≡ x → (is_sc r.insn ≡ true → (l : Op) × IsPair t2 l (bypass_op k x got aq rl b)
        × IsCoveredBy (bypass_op k x got aq rl b) l)
        → AddsAtomic t1 t2 r (bypass_op k x got aq rl b ∷ []) e (bypass_op k x got aq rl b)
    adds_atomic_of t1 t2 r k x got aq rl from to atomic same pair = record {
      atomic = atomic;
      was = contained _ e (rw from early_was);
      early_on = λ v h. let i = listed _ v h in elim (early_on v (subst (λ (z : List Op). In v z) from i))
          [ inl q ↦ inl q | inr j ↦ inr (contained _ v (rw to j)) ];
      early_back = λ v h. let i = listed _ v h in contained _ v
          (rw from (others_back v (subst (λ (z : List Op). In v z) to i)));
      gone = λ h. early_gone (subst (λ (z : List Op). In e z) to (listed _ e h));
      one = refl;
      same = (refl, refl);
      place = refl;
      extent = sym same;
      mask = ap (λ (z : Extent). mask_from (λ j. true) 0 z.len) (sym same);
      put = λ y c. ap (λ (z : Extent). put_at (bypass_op kind.Store z (replicate z.len 0) ann.None ann.None b) y)
          (sym same);
      pair = pair;
    }

-- an early Bypass
module _ (image : Loaded) (before : List Message) (head : Head) (piece : Piece)
    (early_now : is_early before head ≡ true) where
  abbrev old : Trace
  old = trace_of image before

  abbrev new : Trace
  new = trace_of image (record { head = head; body = body.Bypass piece } ∷ before)

  abbrev r : OpenReport
  r = open_report_of (number_after before) head piece

  early_list : early (record { head = head; body = body.Bypass piece } ∷ before) ≡ r ∷ early before
  early_list = rw early_now refl

  same_places : places (record { head = head; body = body.Bypass piece } ∷ before) ≡ places before
  same_places = λ i h t x. (let e : places (record { head = head; body = body.Bypass piece } ∷ before) h t x
      ≡ places before h t x = rw early_now refl in e) i

  abbrev after : Trace
  after = built (entries image before) (places before) (early_op r ∷ map early_op (early before)) (granule_of before)

  is_after : after ≡ new
  is_after = λ i. built (entries image before) (sym same_places i) (map early_op (sym early_list i)) (granule_of before)

  pub bypass_early : AreRising old.insns → AllPairs (λ u v. u ≢ v) old.ops → length piece.bytes ≡ (early_extent r).len
      → IsYounger old (early_op r) → IsBelow old (place_of_report r)
      → ((s : OpenReport) → In s (early before) → is_report head.hart head.tag s ≡ false)
      → AddEarly old new (early_op r)
  bypass_early rising once sized younger below fresh = subst (λ (z : Trace). AddEarly old z (early_op r)) is_after
      (record {
        keeps = record { insns = λ h k. refl; rising = rising; once = once; granule = refl };
        ops = members_self old.ops;
        early_on = λ v h. tail_in _ _ v h;
        early_back = λ v h. in_first _ _ v h;
        added = head_in _ _;
        kind = refl;
        whole = whole_op
            (bypass_access kind.Store (early_extent r) (replicate (early_extent r).len 0) ann.None ann.None r)
            (λ j. true) (Some (place_of_report r)) 0 ((early_extent r).sized.0) refl
            (length-replicate (early_extent r).len 0) sized;
        placed = (place_of_report r, refl);
        above = is_above old (early_op r) (place_of_report r) below refl;
        younger = younger;
        fresh = λ v j s.
            let i = listed _ v j in
            let y = from_map early_op (early before) v i in
            let h : y.0.hart ≡ head.hart = sym (ap (λ (z : Op). z.name.hart) y.2) ∙ s.0 in
            let t : y.0.tag ≡ head.tag = sym (ap (λ (z : Op). z.name.tag) y.2) ∙ s.1 in
            both_ways _ (fresh y.0 y.1) (and_from _ _ (eq-eqb _ _ h) (eq-eqb _ _ t));
      })
