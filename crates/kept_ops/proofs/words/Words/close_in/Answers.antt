use Rattle.std.proofs.Common.{sym, ◌∙◌}
use Rattle.kept_ops.specs.Doublewords.{keys_closed}
use Rattle.kept_ops.proofs.Found.{changed_keys}
use Rattle.kept_ops.proofs.words.Words.close_in.Goals as goal

pub returns-in-Some-clause-keys : goal.returns-in-Some-clause-keys
returns-in-Some-clause-keys c = λ x. c.settle.ensures.keys x
    ∙ changed_keys c.args.self.now.words c.args.self.now.index c.requires.found c.args.number c.in-Some.at
    (λ x keys. keys_closed c.args.extent.now x keys) c.close_at.new.words
    (sym c.in-Some.ensures.number) c.close_at.ensures.changed x
