use Rattle.std.proofs.Common.{ℕ, ◌≡◌, ◌≤◌, Some, refl, sym, ap, subst, ◌∙◌, length, Option}
use Rattle.slab.specs.Slab.{Slab, with_value}
use Rattle.store_buffer.specs.declared.store.ByteState.TheVariants.{Inserted}
use Rattle.store_buffer.specs.declared.store.Store.{Store}
use Rattle.store_buffer.specs.Store.{answer_for, with_states}
use Rattle.store_buffer.specs.Stores.{StoreList, store_of_tag, all_given}
use Rattle.store_buffer.proofs.Answered.{taken_is_new, refused_same}
use Rattle.store_buffer.proofs.Given.{given_list, kept_slotted, kept_open, kept_len}
use Rattle.store_buffer.proofs.Opens.{insert_opens}
use Rattle.store_buffer.specs.Waiting.{AreRetired}
use Rattle.store_buffer.proofs.Slotted.{is_there, found, missing, are_retired}
use Rattle.store_buffer.proofs.stores.Stores.insert.Goals as goal

pub returns-in-None-clause-taken : goal.returns-in-None-clause-taken
returns-in-None-clause-taken c =
    let t = c.self.inside in
    rw (← c.self.view_is) (sym (ap (λ (o : Option Store). answer_for o c.args.piece.now)
    (missing t.stores t.slots t.finished.items c.self.invariant.0 c.args.tag (sym c.in-None.ensures.number))))

pub store_at-requires : goal.store_at-requires
store_at-requires c =
    let t = c.self.inside in
    is_there t.stores t.slots t.finished.items c.self.invariant.0 c.args.tag c.in-Some.at
    (sym c.in-Some.ensures.number)

pub answer-requires : goal.answer-requires
answer-requires c = (c.self.invariant.0.fits c.in-Some.at c.store_at.result.now c.store_at.ensures).1

pub invariant_of-self : goal.invariant_of-self
invariant_of-self c =
    let t = c.self.inside in
    let p = c.args.piece.now in
    let s = c.store_at.result.now in
    let size = c.len.ensures.value in
    let w : c.give_at.new.stores ≡ with_value t.stores c.in-Some.at (with_states Inserted p.addr (length p.bytes) s) =
    subst (λ (n : ℕ). c.give_at.new.stores ≡ with_value t.stores c.in-Some.at (with_states Inserted p.addr n s)) size
    (c.give_at.ensures s c.store_at.ensures) in
    let same = insert_opens s p (taken_is_new s p (sym c.in-Yes.ensures)) in
    let n = sym c.in-Some.ensures.number in (
      kept_slotted t.stores c.give_at.new.stores t.slots t.finished.items c.self.invariant.0 c.args.tag c.in-Some.at n
          s c.store_at.ensures Inserted p.addr (length p.bytes) w same,
      kept_open t.stores c.give_at.new.stores t.slots t.finished.items c.self.invariant.0 c.args.tag c.in-Some.at n
          s c.store_at.ensures Inserted p.addr (length p.bytes) w same ∙ c.self.invariant.1,
      subst (λ (n : ℕ). n ≤ t.capacity) (sym (kept_len t.stores c.give_at.new.stores t.slots t.finished.items
          c.self.invariant.0 c.args.tag c.in-Some.at n s c.store_at.ensures Inserted p.addr (length p.bytes) w))
          c.self.invariant.2,
      subst (λ (x : Slab Store). t.capacity ≤ x.capacity) (sym w) c.self.invariant.3,
      c.self.invariant.4,
      c.self.invariant.5,
    )

pub returns-in-Yes-clause-taken : goal.returns-in-Yes-clause-taken
returns-in-Yes-clause-taken c =
    let t = c.self.inside in
    rw (← c.self.view_is) (c.in-Yes.ensures ∙ sym (ap (λ (o : Option Store). answer_for o c.args.piece.now)
    (found t.stores t.slots t.finished.items c.self.invariant.0 c.args.tag c.in-Some.at c.store_at.result.now
    (sym c.in-Some.ensures.number) c.store_at.ensures)))

pub returns-in-Yes-clause-stores : goal.returns-in-Yes-clause-stores
returns-in-Yes-clause-stores c =
    let t = c.self.inside in
    let p = c.args.piece.now in
    let s = c.store_at.result.now in
    let w : c.give_at.new.stores ≡ with_value t.stores c.in-Some.at (with_states Inserted p.addr (length p.bytes) s) =
    subst (λ (n : ℕ). c.give_at.new.stores ≡ with_value t.stores c.in-Some.at (with_states Inserted p.addr n s))
    c.len.ensures.value (c.give_at.ensures s c.store_at.ensures) in
    given_list t.stores c.give_at.new.stores t.slots t.finished.items c.self.invariant.0 c.args.tag c.in-Some.at
    (sym c.in-Some.ensures.number) s c.store_at.ensures Inserted p.addr (length p.bytes) w
    ∙ ap (λ (l : StoreList). all_given c.args.tag Inserted p.addr (length p.bytes) l.stores) c.self.view_is

pub returns-in_default : goal.returns-in_default
returns-in_default c =
    let t = c.self.inside in
    let is : answer_for (Some c.store_at.result.now) c.args.piece.now
    ≡ answer_for (store_of_tag c.args.tag c.args.self.now.stores) c.args.piece.now =
    sym (ap (λ (o : Option Store). answer_for o c.args.piece.now)
    (found t.stores t.slots t.finished.items c.self.invariant.0 c.args.tag c.in-Some.at c.store_at.result.now
    (sym c.in-Some.ensures.number) c.store_at.ensures))
    ∙ ap (λ (l : StoreList). answer_for (store_of_tag c.args.tag l.stores) c.args.piece.now) c.self.view_is in
    record {
      taken = c.answer.ensures ∙ is;
      stores = refused_same c.answer.result c.args.tag c.args.piece.now c.args.self.now.stores c.in_default.not-Yes;
      capacity = refl;
      hart = refl;
      retired = subst (λ (l : StoreList). AreRetired l.stores) c.self.view_is
          (are_retired t.stores t.slots t.finished.items c.self.invariant.0);
    }

pub returns-in-None-clause-retired : goal.returns-in-None-clause-retired
returns-in-None-clause-retired c = subst (λ (l : StoreList). AreRetired l.stores) c.self.view_is
    (are_retired c.self.inside.stores c.self.inside.slots c.self.inside.finished.items c.self.invariant.0)

pub returns-in-Yes-clause-retired : goal.returns-in-Yes-clause-retired
returns-in-Yes-clause-retired c = subst (λ (l : StoreList). AreRetired l.stores) c.self.view_is
    (are_retired c.self.inside.stores c.self.inside.slots c.self.inside.finished.items c.self.invariant.0)
