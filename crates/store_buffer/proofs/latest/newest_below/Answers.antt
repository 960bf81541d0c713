use Rattle.std.proofs.Common.{◌&&◌, nat_lt, Bool, Option, None, option_copied, sym, ap, ◌∙◌}
use Rattle.store_buffer.specs.declared.store.Store.{Store}
use Rattle.store_buffer.specs.Waiting.{waits_at}
use Rattle.store_buffer.proofs.Finding.{found_from, found_starts, found_more, found_kept}
use Rattle.store_buffer.proofs.latest.newest_below.Goals as goal

pub loop-at-init : goal.loop-at-init
loop-at-init c =
    let p : Store → Bool = λ (s : Store). nat_lt s.tag c.args.below && waits_at c.args.addr s in
    let left = c.into_iter-at-iterator.ensures.into_iter_gives ∙ c.iter-at-items.ensures.rest in
    (tt, tt, ap (found_from p None) left ∙ found_starts p c.args.stores.now.slots)

pub loop-at-preserved-then-waits_at_below : goal.loop-at-preserved-then-waits_at_below
loop-at-preserved-then-waits_at_below c =
    let p : Store → Bool = λ (s : Store). nat_lt s.tag c.args.below && waits_at c.args.addr s in
    let newest = option_copied c.loop-at.newest in
    let s = c.in-Some.store.now in (
      tt,
      tt,
      ap (λ (o : Option Store). found_from p o c.next.new.self) c.newer_of-newest.ensures
          ∙ sym (found_more p newest c.in-Some._at s c.next.new.self
          (sym c.waits_at_below.ensures ∙ c.if-waits_at_below.true))
          ∙ ap (found_from p newest) (sym c.in-Some.ensures.steps) ∙ c.loop-at.invariant.2,
    )

pub loop-at-preserved : goal.loop-at-preserved
loop-at-preserved c =
    let p : Store → Bool = λ (s : Store). nat_lt s.tag c.args.below && waits_at c.args.addr s in
    let newest = option_copied c.loop-at.newest in
    let s = c.in-Some.store.now in (
      tt,
      tt,
      sym (found_kept p newest c.in-Some._at s c.next.new.self
          (sym c.waits_at_below.ensures ∙ c.if-waits_at_below.false))
          ∙ ap (found_from p newest) (sym c.in-Some.ensures.steps) ∙ c.loop-at.invariant.2,
    )
