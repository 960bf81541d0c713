use Rattle.std.proofs.Common.{◌&&◌, nat_lt, find, Option, option_copied, sym, ap, ◌∙◌}
use Rattle.slab.specs.Slab.{values}
use Rattle.store_buffer.specs.declared.store.Store.{Store}
use Rattle.store_buffer.specs.Slots.{newest_first}
use Rattle.store_buffer.specs.Waiting.{newer_of, waits_among}
use Rattle.store_buffer.proofs.Finding.{none_among, among_more}
use Rattle.store_buffer.proofs.latest.newest_among.Goals as goal

pub loop-k-init : goal.loop-k-init
loop-k-init c = sym (none_among c.args.addr c.args.below (newest_first (values c.args.stores.now)))

pub loop-k-preserved : goal.loop-k-preserved
loop-k-preserved c =
    let ss = newest_first (values c.args.stores.now) in
    c.newer_of-newest.ensures
    ∙ ap (λ (o : Option Store). newer_of o (option_copied c.newest_behind.result)) c.loop-k.invariant
    ∙ ap (newer_of (find (λ s. nat_lt s.tag c.args.below && waits_among c.args.addr c.loop-k.k s) ss))
    c.newest_behind.ensures
    ∙ among_more c.args.addr c.loop-k.k c.args.below ss c.requires.retired
