-- The pair that is answered is the one that is reported in the trace.
use Rattle.std.proofs.Common.{ℕ, zero, suc, ◌+◌, ◌-◌, ◌^◌, ◌<◌, ◌≤◌, ◌≡◌, ◌⊎◌, inl, inr, Bool, true, false, ◌&&◌, ◌||◌}
use Rattle.std.proofs.Common.{ltb, leb, eqb, cond, List, [], ◌∷◌, ◌++◌, length, take, Option, Some, None, is_some, find}
use Rattle.std.proofs.Common.{slice_get, refl, sym, ap, subst, ◌∙◌, arith}
use Rattle.std.specs.Option.{option_map}
use Rattle.std.proofs.lemmas.Bool.{and_parts, both_ways, false≢true}
use Rattle.std.proofs.lemmas.Bool.Decides.{nat_tests}
use Rattle.std.specs.List.{Contains}
use Rattle.std.proofs.lemmas.List.Elements.{Contains-append_left, Contains-append_right}
use Rattle.tandem_base.specs.declared.extent.Extent.{Extent}
use Rattle.tandem_base.specs.declared.names.OpName.{OpName}
use Rattle.tandem_base.specs.Extents.{is_among}
use Rattle.tandem_base.specs.FirstFault.{◌or_else◌}
use Rattle.rvwmo_model.specs.declared.operations.Op.{Op}
use Rattle.rvwmo_model.specs.declared.operations.OpKind.TheVariants as kind
use Rattle.rvwmo_model.specs.declared.preserved.Rule.{Rule}
use Rattle.rvwmo_model.specs.declared.preserved.Rule.TheVariants.{R1, R4, R6}
use Rattle.rvwmo_model.specs.declared.traces.Trace.{Trace}
use Rattle.rvwmo_model.specs.Order.{has_byte, named_before, precedes}
use Rattle.rvwmo_model.specs.Rules.{Orders, Broken}
use Rattle.rvwmo_model.specs.Report.{number, IsLatest, IsLeast, IsSecond, IsReportedPair, AllOrdered}
use Rattle.rvwmo_model.specs.InForm.{IsPlaced}
use Rattle.rvwmo_model.proofs.Membership.{head_in}
use Rattle.growth_laws.specs.Kinds.{WellKinded, IsNamed}
use Rattle.growth_laws.specs.Laws.{IsLeastRule}
use Rattle.growth_laws.proofs.Facts.{plain_kind}
use Rattle.growth_laws.proofs.FaultStores.{stores_break_pairs}
use Rattle.growth_laws.proofs.Growths.{chain_kinded, performs_chain}
use Rattle.growth_laws.proofs.Parts.{performs_hart}
use Rattle.window_laws.specs.Latest.{IsLatestIfAny, first_there}
use Rattle.window_laws.proofs.Latests.{latest_same}
use Rattle.rule_laws.specs.Drained.{AreFalling}
use Rattle.rule_laws.specs.Named.{NamesFirst}
use Rattle.rule_laws.specs.Own.{IsOwnWaiting}
use Rattle.rule_laws.proofs.Drains.{parts_there, parts_fall, waits_or_later, drained_mark, unreported_stores}
use Rattle.merge_buffer.specs.declared.waiting.Part.{Part}
use Rattle.store_buffer.specs.declared.store.Entry.{Entry}
use Rattle.store_buffer.specs.Stores.{StoreList}
use Rattle.store_buffer.specs.Waiting.{waiting_below}
use Rattle.drain_rules.specs.declared.bound.Bound.{Bound}
use Rattle.drain_rules.specs.declared.drain.BrokenPair.{BrokenPair}
use Rattle.drain_rules.specs.declared.rule.DrainRule.{DrainRule}
use Rattle.drain_rules.specs.declared.rule.DrainRule.TheVariants.{Overlap, Fence, Release}
use Rattle.drain_rules.specs.declared.worst.Worst.{Worst}
use Rattle.drain_rules.specs.Answers.{drain_number, IsSized, below_fence, IsBoundOf, is_bounded, entry_under, name_by}
use Rattle.drain_rules.specs.Answers.{first_name}
use Rattle.drain_rules.specs.Answers.{is_lesser, IsLeastOf, IsBrokenAt}
use Rattle.drain_rules.specs.Told.{IsDrainAnswer, IsPerformedAs, IsDrained, NamesPair}
use Rattle.drain_rules.proofs.Bounds.{rule_of, number_of, IsBounded, to_bounded, from_bounded, none_bounded}
use Rattle.drain_rules.proofs.Later.{LaterFound, later_found, parts_store, IsPartAt, part_at, member_at, name_is}
use Rattle.drain_rules.proofs.Later.{among_of, of_among}
use Rattle.drain_rules.proofs.Waited.{waited_found}

-- ---- answers by rule and name

lesser_rule : (v w : Worst) → drain_number v.rule < drain_number w.rule → is_lesser v w ≡ true
lesser_rule v w l =
    let e : ltb (drain_number v.rule) (drain_number w.rule) ≡ true = grind (arith, nat_tests) in
    ap (λ (c : Bool). c || (eqb (drain_number v.rule) (drain_number w.rule) && named_before v.second w.second)) e

names_of : (a : ℕ) (c : Bool) → (ltb a a || (eqb a a && c)) ≡ false → c ≡ false
names_of a true e = grind (arith, nat_tests)
names_of a false e = refl

not_lesser_name : (v w : Worst) → v.rule ≡ w.rule → is_lesser v w ≡ false → named_before v.second w.second ≡ false
not_lesser_name v w e q =
    names_of (drain_number w.rule) (named_before v.second w.second)
    (subst (λ (k : DrainRule). (ltb (drain_number k) (drain_number w.rule)
    || (eqb (drain_number k) (drain_number w.rule) && named_before v.second w.second)) ≡ false) e q)

rule_back : (j : Rule) → (j ≡ R1) ⊎ (j ≡ R4) ⊎ (j ≡ R6) → (k : DrainRule) × (rule_of k ≡ j)
rule_back j (inl e) = (Overlap, sym e)
rule_back j (inr (inl e)) = (Fence, sym e)
rule_back j (inr (inr e)) = (Release, sym e)

-- ---- small facts

falling_front : (xs ys : List Op) → AreFalling (xs ++ ys) → AreFalling xs
falling_front [] ys f = tt
falling_front (x ∷ xs) ys f = (λ q i. f.0 q (Contains-append_left xs ys q i), falling_front xs ys f.1)

first_of : (w l : Option Op)
    → (option_map (λ (v : Op). v.name) w or_else option_map (λ (v : Op). v.name) l)
    ≡ option_map (λ (v : Op). v.name) (first_there w l)
first_of None l = refl
first_of (Some v) l = refl

named_some : (first : Option Op) (n : OpName) → option_map (λ (v : Op). v.name) first ≡ Some n
    → (a : Op) × (first ≡ Some a) × (a.name ≡ n)
named_some None n e = cc
named_some (Some a) n e = (a, refl, cc)

some_named : (first : Option Op) → is_some (option_map (λ (v : Op). v.name) first) ≡ true
    → (a : Op) × (first ≡ Some a)
some_named None e = cc
some_named (Some a) e = (a, refl)

is_there : {X : Type 0} (o : Option X) → is_some o ≡ true → (x : X) × (o ≡ Some x)
is_there None e = cc
is_there (Some x) e = (x, refl)

-- some bound of each rule
overlap_there : (p : Part) → IsSized p.piece → (d : Option Bound) × ((e : Entry) → IsBoundOf Overlap p (Some e) d)
overlap_there p s =
    let x : Extent = record {
      addr = p.piece.addr;
      len = length p.piece.bytes;
      sized = (s.0, s.1);
      within = s.2;
    } in
    (Some (record { below = p.tag; over = Some x }), λ e. (refl, (refl, refl)))

bound_there : (k : DrainRule) (p : Part) (e : Entry) → IsSized p.piece
    → (d : Option Bound) × IsBoundOf k p (Some e) d
bound_there Overlap p e s = let o = overlap_there p s in (o.0, o.1 e)
bound_there Fence p e s = (below_fence e.marks.fence, refl)
bound_there Release p e s = (cond e.marks.release (Some (record { below = p.tag; over = None })) None, refl)

-- the bytes of a part
sized_by : (a n p m x : ℕ) → is_among p m x ≡ true
    → ((y : ℕ) → is_among p m y ≡ true → is_among a n y ≡ true) → n ≤ 8 → a + n ≤ 2 ^ 64
    → (1 ≤ m) × (m ≤ 8) × (p + m ≤ 2 ^ 64)
sized_by a n p m x e into l top =
    let i = among_of p m x e in
    let first = among_of a n p (into p (of_among p m p (omega arith) (omega arith))) in
    let last = among_of a n (p + (m - 1)) (into (p + (m - 1)) (of_among p m (p + (m - 1)) (omega arith)
    (omega arith))) in
    (omega (arith, i.0, i.1), omega (arith, first.0, last.1, l), omega (arith, i.0, i.1, last.1, top))

part_sized : (t : Trace) (h : ℕ) (b : Op) (p : Part) (e : Entry) → IsPerformedAs t h b p e → IsNamed b
    → IsSized p.piece
part_sized t h b p e told named =
    let s = b.extent.sized in
    let w = b.extent.within in
    sized_by b.extent.addr b.extent.len p.piece.addr (length p.piece.bytes) (b.extent.addr + b.name.part)
    (sym (told.bytes (b.extent.addr + b.name.part)) ∙ named.here)
    (λ y q. (and_parts (is_among b.extent.addr b.extent.len y) _ (told.bytes y ∙ q)).0) s.1 w

-- ---- a message

module _ (initial : ℕ → ℕ) (t t' : Trace) (ops : List Op) (hart : ℕ) (parts : List Part) (list : StoreList)
    (a : IsDrained initial t t' ops hart parts list) where
  k' : WellKinded t'
  k' = chain_kinded t t' a.kinded (performs_chain hart t t' ops a.kinded a.performs)

  there : (v : Op) → Contains ops v → Contains t'.ops v × IsPlaced v
  there v i = parts_there hart t t' ops a.performs v i

  mine : (v : Op) → Contains ops v → v.name.hart ≡ hart
  mine v i = performs_hart hart t t' ops a.performs v i

  store : (v : Op) → Contains ops v → v.kind ≡ kind.Store
  store v i = parts_store hart t t' ops a.kinded a.performs v i

  waiting_store : (v : Op) → Contains t'.ops v → v.place ≡ None → v.kind ≡ kind.Store
  waiting_store v i e = plain_kind t' v k' i (k'.unperformed v i e)

  abbrev At : ℕ → Op → Type 0
  At n b = IsPartAt t' hart list ops parts n b

  is_in : (n : ℕ) (b : Op) → At n b → Contains ops b
  is_in n b h =
      subst (λ (l : List Op). Contains l b) (sym h.split)
      (Contains-append_right (take n ops) (b ∷ h.before) b (head_in b h.before))

  later_in : (n : ℕ) (b v : Op) → At n b → Contains (take n ops) v → Contains ops v
  later_in n b v h i =
      subst (λ (l : List Op). Contains l v) (sym h.split) (Contains-append_left (take n ops) (b ∷ h.before) v i)

  sized : (n : ℕ) (b : Op) → (h : At n b) → IsSized h.part.piece
  sized n b h = part_sized t' hart b h.part h.told.0 h.told.2 (k'.parts b (there b (is_in n b h)).0)

  name_at : (n : ℕ) (b : Op) → (h : At n b) → name_by hart list h.part ≡ b.name
  name_at n b h =
      name_is t' hart list b h.part (mine b (is_in n b h)) (k'.parts b (there b (is_in n b h)).0) h.told

  -- what is first to a part by a rule
  names_first : (n : ℕ) (b : Op) (h : At n b) (k : DrainRule) (d : Bound)
      → IsBoundOf k h.part (Some h.told.0) (Some d)
      → NamesFirst (rule_of k) t' b (first_name hart list (take n parts) d)
  names_first n b h k d i =
      let w = waited_found t' hart list.stores k' a.retired a.waits a.begins d in
      let l = later_found t' hart list (take n ops) (take n parts) d falls h.later
      (λ v j. let m = later_in n b v h j in (mine v m, k'.parts v (there v m).0)) in (
        first_there w.0 l.last,
        drained_mark initial t t' hart ops a.kinded a.legal a.performs (rule_of k) b (take n ops) h.before w.0 l.last
            h.split
            (latest_same (λ v. IsOwnWaiting t' hart v × IsBounded d v)
            (λ v. (Contains t'.ops v × (v.name.hart ≡ hart) × (v.name.tag < b.name.tag) × Orders (rule_of k) t' v b)
            × (v.place ≡ None)) w.0
            (λ v q. let o = from v (waiting_store v q.0.0.0 q.0.1) q.0.0.1 q.1 in
            ((q.0.0.0, q.0.0.1, o.0, o.1), q.0.1))
            (λ v q. (
              ((q.0.0, q.0.1), q.1),
              to v (waiting_store v q.0.0 q.1) q.0.1 (q.0.2, q.0.3),
            )) w.1)
            (latest_same (λ v. Contains (take n ops) v × IsBounded d v)
            (λ v. Contains (take n ops) v × ((v.name.tag < b.name.tag) × Orders (rule_of k) t' v b)) l.last
            (λ v q. let m = later_in n b v h q.0 in (q.0, from v (store v m) (mine v m) q.1))
            (λ v q. let m = later_in n b v h q.0 in (q.0, to v (store v m) (mine v m) q.1)) l.latest),
        ap (λ (g : ℕ). waiting_below g list.stores d.below d.over
            or_else option_map (name_by hart list) (find (is_bounded d) (take n parts))) a.hart_is
            ∙ ap (λ (o : Option OpName). o or_else option_map (name_by hart list) (find (is_bounded d)
            (take n parts))) w.2
            ∙ ap (λ (o : Option OpName). option_map (λ (v : Op). v.name) w.0 or_else o) l.named
            ∙ first_of w.0 l.last,
      )
    where
      falls : AreFalling (take n ops)
      falls = falling_front (take n ops) (b ∷ h.before)
          (subst (λ (l : List Op). AreFalling l) h.split (parts_fall hart t t' ops a.performs))

      to : (v : Op) → v.kind ≡ kind.Store → v.name.hart ≡ hart
          → (v.name.tag < b.name.tag) × Orders (rule_of k) t' v b → IsBounded d v
      to v s m q =
          to_bounded t' hart b v h.part h.told.0 h.told.2 (store b (is_in n b h)) s m k d i q

      from : (v : Op) → v.kind ≡ kind.Store → v.name.hart ≡ hart → IsBounded d v
          → (v.name.tag < b.name.tag) × Orders (rule_of k) t' v b
      from v s m q =
          from_bounded t' hart b v h.part h.told.0 h.told.2 (store b (is_in n b h)) s m k d i q

  -- a rule with no bound has no pair
  none_first : (n : ℕ) (b v : Op) (h : At n b) (k : DrainRule) → IsBoundOf k h.part (Some h.told.0) None
      → Broken (rule_of k) t' v b → ⊥
  none_first n b v h k i q =
      let m = is_in n b h in
      let from = waits_or_later initial t t' hart ops a.kinded a.legal a.performs v b m q.first_in q.against in
      let s : v.kind ≡ kind.Store = elim from [
        | inl e ↦ waiting_store v q.first_in e
        | inr j ↦ store v j
      ] in
      none_bounded t' hart b v h.part h.told.0 h.told.2 (store b m) s (sym q.one_hart ∙ mine b m) k i
      (sized n b h) (q.in_order, q.rule)

  -- ---- broken pairs and answers

  -- an answer is a broken pair, with the first operation that is named
  pair_of : (w : Worst) → IsBrokenAt hart list parts w → (b : Op) × Contains ops b × (w.second ≡ b.name)
      × NamesFirst (rule_of w.rule) t' b (first_name hart list (take w.index parts) w.bound)
  pair_of w q =
      let r = part_at t' hart list ops parts w.index q.part a.told q.here in
      let h = r.1 in
      let c : Some q.part ≡ Some h.part = sym q.here ∙ h.here in
      let same : q.part ≡ h.part = cc in
      let bound : IsBoundOf w.rule h.part (entry_under list h.part.tag) (Some w.bound) =
      subst (λ (p : Part). IsBoundOf w.rule p (entry_under list p.tag) (Some w.bound)) same q.bound in (
        r.0,
        is_in w.index r.0 h,
        q.named ∙ ap (λ (p : Part). name_by hart list p) same ∙ name_at w.index r.0 h,
        names_first w.index r.0 h w.rule w.bound
            (subst (λ (o : Option Entry). IsBoundOf w.rule h.part o (Some w.bound)) h.told.1 bound),
      )

  -- a broken pair of a rule is an answer
  answer_of : (k : DrainRule) (v b : Op) → Contains ops b → Broken (rule_of k) t' v b
      → (w : Worst) × IsBrokenAt hart list parts w × (w.rule ≡ k) × (w.second ≡ b.name)
  answer_of k v b m q =
      let r = member_at t' hart list ops parts b a.told m in
      let h = r.1 in
      let d = bound_there k h.part h.told.0 (sized r.0 b h) in at r.0 h d.0 d.1
    where
      at : (n : ℕ) (h : At n b) (d : Option Bound) → IsBoundOf k h.part (Some h.told.0) d
          → (w : Worst) × IsBrokenAt hart list parts w × (w.rule ≡ k) × (w.second ≡ b.name)
      at n h None i = absurd (none_first n b v h k i q)
      at n h (Some d) i =
          let f = names_first n b h k d i in (
            record { rule = k; index = n; second = name_by hart list h.part; bound = d },
            record {
              part = h.part;
              here = h.here;
              named = refl;
              bound = subst (λ (o : Option Entry). IsBoundOf k h.part o (Some d)) (sym h.told.1) i;
              first = ap (λ (o : Option OpName). is_some o) f.2 ∙ some f.0 f.1;
            },
            refl,
            name_at n b h,
          )
        where
          some : (o : Option Op) → IsLatestIfAny (λ z. Broken (rule_of k) t' z b) o
              → is_some (option_map (λ (z : Op). z.name) o) ≡ true
          some None l = absurd (l v q)
          some (Some z) l = refl

  -- ---- no answer

  unbroken : IsDrainAnswer hart list parts None → AllOrdered t'
  unbroken none j c d p =
      unreported_stores initial t t' hart ops a.kinded a.legal a.performs (λ i z. None)
      (λ i z s m u q.
      let k = rule_back i s in
      let w = answer_of k.0 u z m (subst (λ (x : Rule). Broken x t' u z) (sym k.1) q) in none w.0 w.1)
      (λ i z s m. refl) j c d p

  -- ---- an answer

  module _ (w : Worst) (least : IsLeastOf (IsBrokenAt hart list parts) (Some w)) where
    abbrev Law : Rule → Op → Op → Type 0
    Law i c d = (k : DrainRule) × (rule_of k ≡ i) × Contains ops d

    law : (i : Rule) (c d : Op) → IsLeastRule t' i → Broken i t' c d → Law i c d
    law i c d l p =
        let s = stores_break_pairs initial t t' hart ops a.kinded a.legal a.performs in
        let k = rule_back i (s.rule i c d l p) in (k.0, k.1, (s.pair i c d l p).second)

    below : (n : ℕ) (i : Rule) (c d : Op) → n ≤ drain_number w.rule → number i < n → Broken i t' c d → ⊥
    below zero i c d m l p = absurd (omega arith)
    below (suc n) i c d m l p =
        let x = law i c d (λ j q u z r. below n j u z (omega arith) (omega arith) r) p in
        let v = answer_of x.0 c d x.2 (subst (λ (y : Rule). Broken y t' c d) (sym x.1) p) in
        let e : drain_number v.0.rule ≡ number i = ap (λ (k : DrainRule). drain_number k) v.2 ∙ sym (number_of x.0)
        ∙ ap (λ (y : Rule). number y) x.1 in
        both_ways _ (least.1 v.0 v.1) (lesser_rule v.0 w (omega arith))

    lowest : IsLeastRule t' (rule_of w.rule)
    lowest i l c d p = below (drain_number w.rule) i c d (omega arith)
        (subst (λ (n : ℕ). number i < n) (number_of w.rule) l) p

    reported : (b x : Op) → Contains ops b → w.second ≡ b.name
        → IsLatest (λ v. Broken (rule_of w.rule) t' v b) x → IsReportedPair t' (rule_of w.rule) x b
    reported b x m e l = record {
      rule = λ i q c d p. lowest i q c d p;
      second = record {
        offends = (x, l.here);
        least = λ d p.
            let z = (stores_break_pairs initial t t' hart ops a.kinded a.legal a.performs).pair (rule_of w.rule) p.0 d
            lowest p.1 in
            let v = answer_of w.rule p.0 d z.second p.1 in
            subst (λ (n : OpName). named_before n b.name ≡ false) v.3
            (subst (λ (n : OpName). named_before v.0.second n ≡ false) e
            (not_lesser_name v.0 w v.2 (least.1 v.0 v.1)));
      };
      first = l;
    }

  named : (pair : BrokenPair) → IsDrainAnswer hart list parts (Some pair) → NamesPair t' (Some pair)
  named pair q =
      let w = q.0 in
      let p = pair_of w q.1.0 in
      let f = p.3 in
      let s = named_some f.0 pair.first (sym f.2 ∙ q.4) in
      let l : IsLatest (λ v. Broken (rule_of w.rule) t' v p.0) s.0 =
      subst (λ (o : Option Op). IsLatestIfAny (λ v. Broken (rule_of w.rule) t' v p.0) o) s.1 f.1 in (
        rule_of w.rule,
        s.0,
        p.0,
        reported w q.1 p.0 s.0 p.1 p.2 l,
        q.2 ∙ sym (number_of w.rule),
        sym s.2,
        q.3 ∙ p.2,
      )

  pub names_pair : (answer : Option BrokenPair) → IsDrainAnswer hart list parts answer → NamesPair t' answer
  names_pair None q = unbroken q
  names_pair (Some pair) q = named pair q
