use Rattle.std.proofs.Common.{◌∙◌, refl}
use Rattle.slab.specs.Slab.{get, slab_len}
use Rattle.tag_window.proofs.Chains.{freeing_begins, freeing_ends, freeing_goes, there_is}
use Rattle.tag_window.proofs.links.free.Goals as goal

pub loop-at-init : goal.loop-at-init
loop-at-init c = record {
  freeing = freeing_begins (get c.args.links.now) c.args.head (slab_len c.args.links.now) c.requires;
  capacity = refl;
}

pub remove-link-requires : goal.remove-link-requires
remove-link-requires c =
    let r = c.loop-at.invariant.freeing.rest in
    there_is (get c.loop-at.links) c.loop-at.at c.in-Some.slot r.reports r.chain c.in-Some.is

pub loop-at-preserved : goal.loop-at-preserved
loop-at-preserved c =
    let v = c.loop-at.invariant in
    let e = c.remove-link.ensures in
    record {
      freeing = freeing_goes (get c.args.links.now) (get c.loop-at.links) c.args.head c.loop-at.at
          (slab_len c.args.links.now) (slab_len c.loop-at.links) v.freeing c.in-Some.slot c.remove-link.result
          c.in-Some.is e.value (get c.remove-link.new.self) e.updates.changed e.updates.others
          (slab_len c.remove-link.new.self) e.len;
      capacity = e.capacity ∙ v.capacity;
    }

pub returns-clause-freed : goal.returns-clause-freed
returns-clause-freed c = λ cs d f.
    (freeing_ends (get c.args.links.now) (get c.loop-at.links) c.args.head c.loop-at.at (slab_len c.args.links.now)
    (slab_len c.loop-at.links) c.loop-at.invariant.freeing c.in_default.is cs d f).0

pub returns-clause-count : goal.returns-clause-count
returns-clause-count c = λ cs d f.
    (freeing_ends (get c.args.links.now) (get c.loop-at.links) c.args.head c.loop-at.at (slab_len c.args.links.now)
    (slab_len c.loop-at.links) c.loop-at.invariant.freeing c.in_default.is cs d f).1
