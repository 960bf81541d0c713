use Rattle.std.proofs.Common.{ap, ◌∙◌}
use Rattle.slab.specs.Slab.{get}
use Rattle.kept_ops.specs.declared.byte_keys.ByteKeys.{ByteKeys}
use Rattle.kept_ops.specs.Doublewords.{keys_with}
use Rattle.kept_ops.specs.Words.{changed_in}
use Rattle.kept_ops.proofs.Found.{changed_keys}
use Rattle.kept_ops.proofs.words.Words.mark_in.Goals as goal

pub returns-clause-keys : goal.returns-clause-keys
returns-clause-keys c = λ x. c.settle.ensures.keys x
    ∙ changed_keys c.reach-at.new.self.words c.reach-at.new.self.index c.reach-at.ensures.found c.args.number
    c.reach-at.result (λ x keys. keys_with (get c.args.ops.now) x c.args.key c.args.op.now keys) c.mark_at.new.words
    c.reach-at.ensures.there c.mark_at.ensures.changed x
    ∙ ap (λ (keys : ByteKeys). changed_in (λ x keys. keys_with (get c.args.ops.now) x c.args.key c.args.op.now keys)
    c.args.number x keys) (c.reach-at.ensures.keys x)
