-- What is chosen is the source.
use Rattle.std.proofs.Common.{◌≡◌, ◌∙◌, Option, ap}
use Rattle.std.specs.Prelude.{option_copied}
use Rattle.store_buffer.specs.declared.pending.Pending.{Pending}
use Rattle.reads_from.specs.Choice.{source_chosen}
use Rattle.reads_from.proofs.choice.source.Goals as goal
use Rattle.reads_from.proofs.Chosen.{chosen_tells}

pub returns : goal.returns
returns c = λ initial t t' b a. c.choose.ensures
    ∙ ap (λ (w : Option Pending). source_chosen w (option_copied c.store_over.result) c.args.seen.now c.args.addr)
    c.pending_at.ensures.value
    ∙ chosen_tells c.args.stores.now c.args.kept.now c.args.seen.now c.args.addr c.pending_at.ensures.retired
    (option_copied c.store_over.result) c.store_over.ensures.latest initial t t' b a
