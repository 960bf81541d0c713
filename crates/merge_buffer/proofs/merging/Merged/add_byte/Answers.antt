use Rattle.std.proofs.Common.{rules, sym, ◌∙◌}
use Rattle.merge_buffer.proofs.Merges.{added_there, added_others}
use Rattle.merge_buffer.proofs.merging.Merged.add_byte.Goals as goal

pub returns-then-not-taken-clause-there : goal.returns-then-not-taken-clause-there
returns-then-not-taken-clause-there c =
    added_there c.args.self.now c.args.k c.args.byte (search rules) c.requires
    (sym c.is_set-taken.ensures ∙ c.if-not-taken.true)

pub returns-then-not-taken-clause-others : goal.returns-then-not-taken-clause-others
returns-then-not-taken-clause-others c =
    added_others c.args.self.now c.args.k c.args.byte (search rules) c.requires
