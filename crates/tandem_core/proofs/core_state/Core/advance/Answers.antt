use Rattle.tandem_core.specs.Judgements.{verdict_at}
use Rattle.tandem_core.proofs.StandsLaws.{if_none_from, stands_here, stands_on}
use Rattle.std.proofs.Common.{◌∙◌}
use Rattle.tandem_core.proofs.core_state.Core.advance.Goals as goal

pub returns-clause-stands : goal.returns-clause-stands
returns-clause-stands c image limits before stands =
    let j = c.in_ok-judge.ensures {u = tt} in
    if_none_from (verdict_at image limits before c.args.message.now)
    (λ quiet. stands_on c.args.self.now c.judge.new.self c.note.new.self before c.args.message.now j.stays
    c.note.ensures.counts image limits stands c.requires.fits
    (stands_here _ quiet (j.tables image limits before stands))
    (j.verdict image limits before stands ∙ quiet) quiet)
