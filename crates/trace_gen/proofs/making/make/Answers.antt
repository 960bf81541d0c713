use Rattle.trace_gen.proofs.Sound.{made_spelled}
use Rattle.trace_gen.proofs.making.make.Goals as goal

-- each message is made so
pub returns-clause-fits : goal.returns-clause-fits
returns-clause-fits c =
    rw (c.in_ok-messages.ensures {u = tt})
    (λ k d lt. (made_spelled c.args.seed c.args.harts c.args.count c.requires k d lt).fits)
