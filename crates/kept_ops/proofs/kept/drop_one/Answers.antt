use Rattle.std.proofs.Common.{ℕ, ◌≡◌, All, true, subst}
use Rattle.tandem_base.specs.declared.extent.Extent.{Extent}
use Rattle.kept_ops.specs.declared.arrivals.Arrival.{Arrival}
use Rattle.kept_ops.specs.declared.byte_keys.ByteKeys.{ByteKeys}
use Rattle.kept_ops.specs.Arrivals.{ArrivalList, stays}
use Rattle.kept_ops.specs.Doublewords.{keys_without}
use Rattle.kept_ops.specs.Tables.{op_stays}
use Rattle.kept_ops.specs.Words.{changed_by, keys_at}
use Rattle.kept_ops.proofs.Arrived.{taken, taken_goes, without_taken, each_stays}
use Rattle.kept_ops.proofs.Changes.{left_kept, left_marks}
use Rattle.kept_ops.proofs.Slots.{filter_taken}
use Rattle.kept_ops.proofs.kept.drop_one.Goals as goal

pub extent-extent-requires : goal.extent-extent-requires
extent-extent-requires c =
    let t = taken c.args.ops.now c.args.arrivals.now.items c.take.new.self.items c.in-Some.arrival c.requires.arrived
    c.in-Some.ensures.rest in
    (t.op, t.there)

pub remove-requires : goal.remove-requires
remove-requires c =
    let t = taken c.args.ops.now c.args.arrivals.now.items c.take.new.self.items c.in-Some.arrival c.requires.arrived
    c.in-Some.ensures.rest in
    (t.op, t.there)

pub returns-in-None-clause-all : goal.returns-in-None-clause-all
returns-in-None-clause-all c = λ e. each_stays c.args.oldest c.args.ops.now c.args.arrivals.now.items c.requires.arrived
    (subst (λ (l : ArrivalList). All (λ (a : Arrival). stays c.args.oldest a.place ≡ true) l.items)
    c.in-None.ensures.same c.in-None.ensures.none)

pub returns-in-Some-clause-arrived : goal.returns-in-Some-clause-arrived
returns-in-Some-clause-arrived c =
    without_taken c.args.ops.now c.remove.new.self c.args.arrivals.now.items c.take.new.self.items c.in-Some.arrival
    c.requires.arrived c.in-Some.ensures.rest c.remove.ensures.updates c.remove.ensures.len

pub returns-in-Some-clause-staying : goal.returns-in-Some-clause-staying
returns-in-Some-clause-staying c =
    let t = taken c.args.ops.now c.args.arrivals.now.items c.take.new.self.items c.in-Some.arrival c.requires.arrived
    c.in-Some.ensures.rest in
    rw c.remove.ensures.slots
    (filter_taken (op_stays c.args.oldest) c.args.ops.now.slots c.in-Some.arrival.key t.op t.there
    (taken_goes c.args.oldest c.args.ops.now c.in-Some.arrival t.op t t.there c.in-Some.ensures.gone))

pub returns-in-Some-clause-marked : goal.returns-in-Some-clause-marked
returns-in-Some-clause-marked c =
    let t = taken c.args.ops.now c.args.arrivals.now.items c.take.new.self.items c.in-Some.arrival c.requires.arrived
    c.in-Some.ensures.rest in
    let keys = subst (λ (e : Extent). (x : ℕ) → keys_at c.forget.new.self x
    ≡ changed_by (λ (y : ℕ) (keys : ByteKeys). keys_without c.in-Some.arrival.key keys) e x
    (keys_at c.args.words.now x))
    (c.extent-extent.ensures t.op t.there) c.forget.ensures.keys in
    record {
      found = c.forget.ensures.found;
      marked = c.forget.ensures.marked;
      kept = left_kept c.args.ops.now c.remove.new.self c.args.words.now c.forget.new.self c.in-Some.arrival.key t.op
          t.there c.remove.ensures.updates c.requires.marked keys;
    }

pub returns-in-Some-clause-marks : goal.returns-in-Some-clause-marks
returns-in-Some-clause-marks c =
    let t = taken c.args.ops.now c.args.arrivals.now.items c.take.new.self.items c.in-Some.arrival c.requires.arrived
    c.in-Some.ensures.rest in
    let keys = subst (λ (e : Extent). (x : ℕ) → keys_at c.forget.new.self x
    ≡ changed_by (λ (y : ℕ) (keys : ByteKeys). keys_without c.in-Some.arrival.key keys) e x
    (keys_at c.args.words.now x))
    (c.extent-extent.ensures t.op t.there) c.forget.ensures.keys in
    left_marks c.args.ops.now c.remove.new.self c.args.words.now c.forget.new.self c.in-Some.arrival.key t.op t.there
    c.remove.ensures.updates c.requires.marked keys c.args.oldest
    (taken_goes c.args.oldest c.args.ops.now c.in-Some.arrival t.op t t.there c.in-Some.ensures.gone)
