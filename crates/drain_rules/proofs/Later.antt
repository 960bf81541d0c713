-- The later parts of a message, as operations.
use Rattle.std.proofs.Common.{ℕ, zero, suc, ◌+◌, ◌-◌, ◌%◌, ◌<◌, ◌≤◌, ◌≡◌, ◌⊎◌, inl, inr, Bool, true, false, ◌&&◌, ltb}
use Rattle.std.proofs.Common.{leb}
use Rattle.std.proofs.Common.{cond, List, [], ◌∷◌, ◌++◌, length, take, Option, Some, None, find, slice_get, refl, sym}
use Rattle.std.proofs.Common.{ap}
use Rattle.std.proofs.Common.{subst, ◌∙◌, arith}
use Rattle.std.specs.Option.{option_map}
use Rattle.std.proofs.lemmas.Bool.{and_parts, and_from, both_ways, false≢true}
use Rattle.std.proofs.lemmas.Bool.Decides.{nat_tests}
use Rattle.std.specs.List.{Contains}
use Rattle.tandem_base.specs.declared.extent.Extent.{Extent}
use Rattle.tandem_base.specs.declared.names.OpName.{OpName}
use Rattle.tandem_base.specs.Extents.{is_among}
use Rattle.rvwmo_model.specs.declared.operations.Op.{Op}
use Rattle.rvwmo_model.specs.declared.operations.OpKind.TheVariants as kind
use Rattle.rvwmo_model.specs.declared.traces.Trace.{Trace}
use Rattle.rvwmo_model.specs.Order.{has_byte, standing, precedes}
use Rattle.rvwmo_model.proofs.Membership.{nothing_in, head_in, tail_in, in_cases}
use Rattle.rvwmo_model.proofs.Orders.{before_self, before_asym}
use Rattle.growth_laws.specs.Kinds.{WellKinded, IsNamed}
use Rattle.growth_laws.specs.Growth.{Performs, no_parts, more_parts}
use Rattle.growth_laws.proofs.Facts.{plain_kind}
use Rattle.growth_laws.proofs.Growths.{chain_kinded, performs_chain}
use Rattle.window_laws.specs.Latest.{IsLatestIfAny}
use Rattle.window_laws.proofs.Latests.{latest_same}
use Rattle.rule_laws.specs.Drained.{AreFalling}
use Rattle.merge_buffer.specs.declared.waiting.Part.{Part}
use Rattle.store_buffer.specs.declared.store.Entry.{Entry}
use Rattle.store_buffer.specs.Stores.{StoreList}
use Rattle.drain_rules.specs.declared.bound.Bound.{Bound}
use Rattle.drain_rules.specs.Answers.{shares, shares_any, is_bounded, part_name, entry_under, name_by}
use Rattle.drain_rules.specs.Told.{IsPerformedAs, ArePerformedAs}
use Rattle.drain_rules.proofs.Bounds.{SharesWith, IsBounded}

-- ---- one part

-- an operation is a part with its entry
abbrev pub IsToldIn : Trace → ℕ → StoreList → Op → Part → Type 0
IsToldIn t h list n p = (e : Entry) × (entry_under list p.tag ≡ Some e) × IsPerformedAs t h n p e

pub among_of : (a n x : ℕ) → is_among a n x ≡ true → (a ≤ x) × (x < a + n)
among_of a n x e = (grind (arith, nat_tests), grind (arith, nat_tests))

pub of_among : (a n x : ℕ) → a ≤ x → x < a + n → is_among a n x ≡ true
of_among a n x l m = grind (arith, nat_tests)

-- two ranges share a byte
shared : (a n b m : ℕ) → 0 < n → (ltb 0 m && ltb a (b + m) && ltb b (a + n)) ≡ true
    → (x : ℕ) × (is_among b m x ≡ true) × (is_among a n x ≡ true)
shared a n b m l e = at (leb a b) refl
  where
    at : (c : Bool) → leb a b ≡ c → (x : ℕ) × (is_among b m x ≡ true) × (is_among a n x ≡ true)
    at true q = (b, grind (arith, nat_tests), grind (arith, nat_tests))
    at false q = (a, grind (arith, nat_tests), grind (arith, nat_tests))

sharing : (a n b m x : ℕ) → is_among b m x ≡ true → is_among a n x ≡ true
    → (ltb 0 m && ltb a (b + m) && ltb b (a + n)) ≡ true
sharing a n b m x e f = grind (arith, nat_tests)

sized : (x : Extent) → 0 < x.len
sized x = let s = x.sized in omega arith

-- it is_bounded a bound where the bound has it
shares_with : (t : Trace) (h : ℕ) (n : Op) (p : Part) (e : Entry) → IsPerformedAs t h n p e → (o : Option Extent)
    → shares_any o p.piece ≡ true → SharesWith o n
shares_with t h n p e told None q = tt
shares_with t h n p e told (Some x) q =
    let s = shared x.addr x.len p.piece.addr (length p.piece.bytes) (sized x) q in
    (s.0, told.bytes s.0 ∙ s.1, s.2)

with_shares : (t : Trace) (h : ℕ) (n : Op) (p : Part) (e : Entry) → IsPerformedAs t h n p e → (o : Option Extent)
    → SharesWith o n → shares_any o p.piece ≡ true
with_shares t h n p e told None s = refl
with_shares t h n p e told (Some x) s =
    sharing x.addr x.len p.piece.addr (length p.piece.bytes) s.0 (sym (told.bytes s.0) ∙ s.1) s.2

pub less_of : (a b : ℕ) → ltb a b ≡ true → a < b
less_of a b e = grind (arith, nat_tests)

pub of_less : (a b : ℕ) → a < b → ltb a b ≡ true
of_less a b l = grind (arith, nat_tests)

to_fit : (t : Trace) (h : ℕ) (n : Op) (p : Part) (e : Entry) → IsPerformedAs t h n p e → (b : Bound) → IsBounded b n
    → is_bounded b p ≡ true
to_fit t h n p e told b s =
    and_from (ltb p.tag b.below) (shares_any b.over p.piece)
    (of_less p.tag b.below (subst (λ (m : ℕ). m < b.below) told.tag s.0)) (with_shares t h n p e told b.over s.1)

from_fit : (t : Trace) (h : ℕ) (n : Op) (p : Part) (e : Entry) → IsPerformedAs t h n p e → (b : Bound)
    → is_bounded b p ≡ true → IsBounded b n
from_fit t h n p e told b q =
    let a = and_parts (ltb p.tag b.below) (shares_any b.over p.piece) q in
    (subst (λ (m : ℕ). m < b.below) (sym told.tag) (less_of p.tag b.below a.0), shares_with t h n p e told b.over a.1)

-- the part in its name
lowest_is : (a part p m : ℕ) → is_among p m (a + part) ≡ true
    → ((x : ℕ) → is_among p m x ≡ true → a + part ≤ x) → p ≡ a + part
lowest_is a part p m here low =
    let i = among_of p m (a + part) here in
    let l : a + part ≤ p = low p (of_among p m p (omega arith) (omega arith)) in
    let k = i.0 in omega arith

part_is : (a part p : ℕ) → p ≡ a + part → part < 256 → (p - a) % 256 ≡ part
part_is a part p e l = omega arith

pub name_is : (t : Trace) (h : ℕ) (list : StoreList) (n : Op) (p : Part) → n.name.hart ≡ h → IsNamed n
    → IsToldIn t h list n p → name_by h list p ≡ n.name
name_is t h list n p mine named told =
    let e = told.0 in
    let is = told.2 in
    let byte : is_among p.piece.addr (length p.piece.bytes) (n.extent.addr + n.name.part) ≡ true =
    sym (is.bytes (n.extent.addr + n.name.part)) ∙ named.here in
    let first : p.piece.addr ≡ n.extent.addr + n.name.part =
    lowest_is n.extent.addr n.name.part p.piece.addr (length p.piece.bytes) byte
    (λ x q. named.lowest x (is.bytes x ∙ q)) in
    let within = among_of n.extent.addr n.extent.len (n.extent.addr + n.name.part)
    (and_parts (is_among n.extent.addr n.extent.len (n.extent.addr + n.name.part)) _ named.here).0 in
    let small : n.name.part < 256 = (let s = n.extent.sized in let w = within.1 in omega arith) in
    let part : (p.piece.addr - e.piece.addr) % 256 ≡ n.name.part =
    ap (λ (x : ℕ). (p.piece.addr - x) % 256) is.base ∙ part_is n.extent.addr n.name.part p.piece.addr first small in
    let tag = is.tag in
    ap (λ (o : Option Entry). part_name h p o) told.1
    ∙ (λ i. record { hart = sym mine i; tag = sym tag i; part = part i })

-- ---- the later parts

-- the latest of them that the bound has
pub record LaterFound (h : ℕ) (list : StoreList) (ops : List Op) (parts : List Part) (b : Bound) : Type 0 where
  pub last : Option Op
  pub latest : IsLatestIfAny (λ v. Contains ops v × IsBounded b v) last
  pub named : option_map (name_by h list) (find (is_bounded b) parts) ≡ option_map (λ (v : Op). v.name) last

pub later_found : (t : Trace) (h : ℕ) (list : StoreList) (ops : List Op) (parts : List Part) (b : Bound)
    → AreFalling ops → ArePerformedAs t h list ops parts
    → ((v : Op) → Contains ops v → (v.name.hart ≡ h) × IsNamed v) → LaterFound h list ops parts b
later_found t h list [] [] b fall told each =
    record { last = None; latest = λ v q. nothing_in v q.0; named = refl }
later_found t h list [] (p ∷ ps) b fall told each = absurd told
later_found t h list (n ∷ ns) [] b fall told each = absurd told
later_found t h list (n ∷ ns) (p ∷ ps) b fall told each =
    at (is_bounded b p) refl (later_found t h list ns ps b fall.1 told.1 (λ v i. each v (tail_in n ns v i)))
  where
    at : (c : Bool) → is_bounded b p ≡ c → LaterFound h list ns ps b → LaterFound h list (n ∷ ns) (p ∷ ps) b
    at true q rec = record {
      last = Some n;
      latest = record {
        here = (head_in n ns, from_fit t h n p told.0.0 told.0.2 b q);
        latest = λ u d. elim (in_cases n ns u d.0) [
          | inl s ↦ subst (λ (z : Op). precedes n z ≡ false) (sym s) (before_self (standing n))
          | inr i ↦ before_asym (standing u) (standing n) (fall.0 u i)
        ];
      };
      named =
          ap (λ (c : Bool). option_map (name_by h list) (cond c (Some p) (find (is_bounded b) ps))) q
          ∙ ap (λ (z : OpName). Some z)
          (name_is t h list n p (each n (head_in n ns)).0 (each n (head_in n ns)).1 told.0);
    }
    at false q rec = record {
      last = rec.last;
      latest = latest_same (λ v. Contains ns v × IsBounded b v) (λ v. Contains (n ∷ ns) v × IsBounded b v) rec.last
          (λ v d. (tail_in n ns v d.0, d.1))
          (λ v d. elim (in_cases n ns v d.0) [
            | inl s ↦ absurd (both_ways _ q
                (to_fit t h n p told.0.0 told.0.2 b (subst (λ (z : Op). IsBounded b z) s d.1)))
            | inr i ↦ (i, d.1)
          ]) rec.latest;
      named =
          ap (λ (c : Bool). option_map (name_by h list) (cond c (Some p) (find (is_bounded b) ps))) q ∙ rec.named;
    }

-- ---- parts of a message are stores

pub parts_store : (h : ℕ) (t v : Trace) (ops : List Op) → WellKinded t → Performs h t ops v → (n : Op)
    → Contains ops n → n.kind ≡ kind.Store
parts_store h t _ _ k no_parts n i = absurd (nothing_in n i)
parts_store h t _ _ k (more_parts ops u v o m rest s e p) n i =
    at (in_cases m ops n i) (parts_store h t u ops k s n)
  where
    ku : WellKinded u
    ku = chain_kinded t u k (performs_chain h t u ops k s)

    at : (n ≡ m) ⊎ Contains ops n → (Contains ops n → n.kind ≡ kind.Store) → n.kind ≡ kind.Store
    at (inl q) rec =
        ap (λ (z : Op). z.kind) q ∙ p.part.kind ∙ plain_kind u o ku p.was (ku.unperformed o p.was p.unperformed)
    at (inr j) rec = rec j

-- ---- where a part stands

-- b is the part at n of the message, with those after it
pub record IsPartAt (t : Trace) (h : ℕ) (list : StoreList) (ops : List Op) (parts : List Part) (n : ℕ) (b : Op)
    : Type 0 where
  pub part : Part
  pub here : slice_get parts n ≡ Some part
  pub told : IsToldIn t h list b part
  pub before : List Op
  pub split : ops ≡ take n ops ++ b ∷ before
  pub later : ArePerformedAs t h list (take n ops) (take n parts)

pub part_at : (t : Trace) (h : ℕ) (list : StoreList) (ops : List Op) (parts : List Part) (n : ℕ) (p : Part)
    → ArePerformedAs t h list ops parts → slice_get parts n ≡ Some p → (b : Op) × IsPartAt t h list ops parts n b
part_at t h list ops [] n p told g = cc
part_at t h list [] (q ∷ ps) n p told g = absurd told
part_at t h list (m ∷ ns) (q ∷ ps) zero p told g =
    (m, record { part = q; here = refl; told = told.0; before = ns; split = refl; later = tt })
part_at t h list (m ∷ ns) (q ∷ ps) (suc n) p told g =
    let r = part_at t h list ns ps n p told.1 g in (
      r.0,
      record {
        part = r.1.part;
        here = r.1.here;
        told = r.1.told;
        before = r.1.before;
        split = ap (λ (xs : List Op). m ∷ xs) r.1.split;
        later = (told.0, r.1.later);
      },
    )

pub member_at : (t : Trace) (h : ℕ) (list : StoreList) (ops : List Op) (parts : List Part) (b : Op)
    → ArePerformedAs t h list ops parts → Contains ops b → (n : ℕ) × IsPartAt t h list ops parts n b
member_at t h list [] parts b told i = absurd (nothing_in b i)
member_at t h list (m ∷ ns) [] b told i = absurd told
member_at t h list (m ∷ ns) (q ∷ ps) b told i =
    at (in_cases m ns b i) (λ j. member_at t h list ns ps b told.1 j)
  where
    at : (b ≡ m) ⊎ Contains ns b → (Contains ns b → (n : ℕ) × IsPartAt t h list ns ps n b)
        → (n : ℕ) × IsPartAt t h list (m ∷ ns) (q ∷ ps) n b
    at (inl e) rec =
        subst (λ (z : Op). (n : ℕ) × IsPartAt t h list (m ∷ ns) (q ∷ ps) n z) (sym e)
        (0, record { part = q; here = refl; told = told.0; before = ns; split = refl; later = tt })
    at (inr j) rec =
        let r = rec j in (
          suc r.0,
          record {
            part = r.1.part;
            here = r.1.here;
            told = r.1.told;
            before = r.1.before;
            split = ap (λ (xs : List Op). m ∷ xs) r.1.split;
            later = (told.0, r.1.later);
          },
        )
