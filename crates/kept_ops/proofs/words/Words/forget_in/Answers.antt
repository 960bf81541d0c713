use Rattle.std.proofs.Common.{refl, sym}
use Rattle.kept_ops.specs.Doublewords.{keys_without}
use Rattle.kept_ops.proofs.Found.{unchanged}
use Rattle.kept_ops.proofs.words.Words.forget_in.Goals as goal

pub returns-in-None-clause-keys : goal.returns-in-None-clause-keys
unfolding keys_without
returns-in-None-clause-keys c = λ x. unchanged (λ x keys. keys_without c.args.key keys) c.args.self.now.words
    c.args.self.now.index c.args.number x (sym c.in-None.ensures.number) (λ y. refl)
