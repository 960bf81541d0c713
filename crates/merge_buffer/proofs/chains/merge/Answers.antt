use Rattle.slab.specs.Slab.{get}
use Rattle.merge_buffer.proofs.Walks.{merging_begins, merging_ends, merging_goes, here_step, rank_falls, there_is}
use Rattle.merge_buffer.proofs.chains.merge.Goals as goal

pub loop-at-init : goal.loop-at-init
loop-at-init c = merging_begins (get c.args.waiting.now) c.args.head c.args.line c.new-merged.result
    c.requires.chained c.new-merged.ensures

pub entry_at-entry-requires : goal.entry_at-entry-requires
entry_at-entry-requires c = there_is (get c.args.waiting.now) c.loop-at.at c.in-Some.i c.loop-at.invariant.rest.parts
    c.loop-at.invariant.rest.chain c.in-Some.is

pub add-requires-clause-within : goal.add-requires-clause-within
add-requires-clause-within c =
    (here_step (get c.args.waiting.now) c.args.head c.loop-at.at c.args.line c.loop-at.merged c.loop-at.invariant
    c.in-Some.i c.entry_at-entry.result.now c.in-Some.is c.entry_at-entry.ensures).within

pub add-requires-clause-line : goal.add-requires-clause-line
add-requires-clause-line c =
    (here_step (get c.args.waiting.now) c.args.head c.loop-at.at c.args.line c.loop-at.merged c.loop-at.invariant
    c.in-Some.i c.entry_at-entry.result.now c.in-Some.is c.entry_at-entry.ensures).line_is

pub loop-at-smaller : goal.loop-at-smaller
loop-at-smaller c =
    rank_falls (get c.args.waiting.now) c.args.head c.loop-at.at c.args.line c.loop-at.merged c.loop-at.invariant
    c.in-Some.i c.entry_at-entry.result.now c.in-Some.is c.entry_at-entry.ensures

pub loop-at-preserved : goal.loop-at-preserved
loop-at-preserved c =
    merging_goes (get c.args.waiting.now) c.args.head c.loop-at.at c.args.line c.loop-at.merged c.loop-at.invariant
    c.in-Some.i c.entry_at-entry.result.now c.in-Some.is c.entry_at-entry.ensures c.add.new.self c.add.ensures

pub returns : goal.returns
returns c = merging_ends (get c.args.waiting.now) c.args.head c.loop-at.at c.args.line c.loop-at.merged
    c.loop-at.invariant c.in_default.is
