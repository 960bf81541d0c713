-- What each rule asks of the tables, from what a retirement says of them.
use Rattle.std.proofs.Common.{ℕ, ◌≡◌, List, Option, Some, None, refl, sym, ap, subst, ◌∙◌}
use Rattle.std.specs.Option.{option_map}
use Rattle.std.specs.List.{Contains}
use Rattle.tandem_base.specs.declared.names.Place.{Place}
use Rattle.tandem_base.specs.declared.names.Position.{Position}
use Rattle.rvwmo_model.specs.declared.instructions.Retired.{Retired}
use Rattle.rvwmo_model.specs.declared.operations.Op.{Op}
use Rattle.rvwmo_model.specs.declared.traces.Trace.{Trace}
use Rattle.window_laws.specs.Tables.{untimed}
use Rattle.rule_laws.specs.FirstLaws.{IsRetiredWith}
use Rattle.overlap_rules.specs.Questions.{IsAskedBy, AreStoresOf, AreKeptOf}
use Rattle.dependency_rules.specs.Asked.{IsDependent}
use Rattle.synchronization_rules.specs.declared.operation.MarkedOp.{MarkedOp}
use Rattle.synchronization_rules.specs.Asked.{IsSynchronized, AreStoresWaiting, op_told}
use Rattle.ppo_rules.specs.declared.retiring.FreshOp.{FreshOp}
use Rattle.ppo_rules.specs.declared.retiring.Retiring.{Retiring}
use Rattle.ppo_rules.specs.Retirements.{IsRetirement, IsFreshAs}

-- one place is another, told without time
same_place : (m : Position) (o : Option Place) (p : Place) → Some m ≡ option_map untimed o → o ≡ Some p
    → untimed p ≡ m
same_place m None p e f = cc
same_place m (Some z) p e f = cc

module _ (initial : ℕ → ℕ) (t t' : Trace) (r : Retired) (new : List Op) (q : Retiring)
    (s : IsRetirement initial t t' r new q) (b : Op) (mine : Contains new b) (f : FreshOp)
    (fresh : IsFreshAs initial t' b f) where
  hart : b.name.hart ≡ r.hart
  hart = (s.retires.are_of.own b mine).0

  retired : IsRetiredWith t t' r b
  retired = record { new = new; retires = s.retires; here = mine; performed = fresh.placed }

  pub asked : IsAskedBy t t' b f.op q.stores.now q.kept.now
  asked = record {
    kinded = s.kinded;
    r = r;
    new = retired;
    told = fresh.kept;
    whole = λ e x c. s.whole b x mine e c;
    positioned = s.positioned;
    oldest = s.oldest;
    since = λ place e. s.since b place mine e;
    waiting = subst (λ (h : ℕ). AreStoresOf t h s.oldest q.stores.now) (sym hart) s.tables.stores;
    keeps = subst (λ (h : ℕ). AreKeptOf t h s.oldest q.kept.now) (sym hart) s.tables.kept;
  }

  pub dependent : (place : Position) → place ≡ f.op.place → IsDependent t t' r b q.deps.now place
  dependent place e = record {
    kinded = s.kinded;
    retires = retired;
    positioned = s.positioned;
    placed = ap (λ (p : Position). Some p) e ∙ fresh.kept.place;
    deps = s.tables.deps;
  }

  pub synchronized : (op : MarkedOp) → op.kind ≡ f.op.kind → op.name ≡ f.op.name → op.place ≡ f.op.place
      → op.acquire ≡ q.acquire → op.release ≡ q.release → IsSynchronized t t' r b q.marks.now op
  synchronized op ek en ep ea er = record {
    kinded = s.kinded;
    retires = retired;
    positioned = s.positioned;
    told = told;
    marks = s.tables.marks;
  }
    where
      told : op_told b ≡ Some op
      told =
          let kind = sym fresh.kept.kind ∙ sym ek in
          let name = sym fresh.kept.name ∙ sym en in
          let place = same_place f.op.place b.place fresh.placed.0 fresh.kept.place fresh.placed.1 ∙ sym ep in
          let acquire = s.acquire b mine ∙ sym ea in
          let release = s.release b mine ∙ sym er in
          ap (λ (o : Option Place). option_map (λ p. record {
            kind = b.kind;
            name = b.name;
            place = untimed p;
            acquire = b.acquire;
            release = b.release;
          }) o) fresh.placed.1
          ∙ (λ i. Some (record {
            kind = kind i;
            name = name i;
            place = place i;
            acquire = acquire i;
            release = release i;
          }))

  pub stores_wait : AreStoresWaiting t r.hart q.stores.now
  stores_wait =
      let w = s.tables.stores in
      record { hart = w.hart; retired = w.retired; waits = w.waits; begins = w.begins }
