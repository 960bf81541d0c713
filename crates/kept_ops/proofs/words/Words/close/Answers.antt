use Rattle.std.proofs.Common.{ap, ◌∙◌}
use Rattle.kept_ops.specs.declared.byte_keys.ByteKeys.{ByteKeys}
use Rattle.kept_ops.specs.Doublewords.{keys_closed}
use Rattle.kept_ops.specs.Words.{keys_at, changed_in}
use Rattle.kept_ops.proofs.Found.{once, twice}
use Rattle.kept_ops.proofs.words.Words.close.Goals as goal

pub returns-then-last-first-clause-keys : goal.returns-then-last-first-clause-keys
returns-then-last-first-clause-keys c = λ x. c.close_in-then-last-first.ensures.keys x
    ∙ ap (λ (keys : ByteKeys). changed_in (λ x keys. keys_closed c.args.extent.now x keys) c.last_word-last.result x
    keys) (c.close_in.ensures.keys x)
    ∙ twice (λ x keys. keys_closed c.args.extent.now x keys) c.args.extent.now c.first_word-first.result
    c.last_word-last.result x (keys_at c.args.self.now x) c.first_word-first.ensures c.last_word-last.ensures
    c.if-last-first.true

pub returns-else-last-first-clause-keys : goal.returns-else-last-first-clause-keys
returns-else-last-first-clause-keys c = λ x. c.close_in.ensures.keys x
    ∙ once (λ x keys. keys_closed c.args.extent.now x keys) c.args.extent.now c.first_word-first.result
    c.last_word-last.result x (keys_at c.args.self.now x) c.first_word-first.ensures c.last_word-last.ensures
    c.if-last-first.false
