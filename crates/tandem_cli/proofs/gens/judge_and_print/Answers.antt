use Rattle.std.proofs.Common.{inr, subst}
use Rattle.verdict_report.specs.declared.verdict.Verdict.{Verdict}
use Rattle.tandem_cli.specs.Answers.{Prints}
use Rattle.tandem_cli.specs.GenRuns.{due_for_made}
use Rattle.tandem_cli.proofs.gens.judge_and_print.Goals as goal

-- the verdict accepts
pub returns-in-Ok-clause-accepted : goal.returns-in-Ok-clause-accepted
returns-in-Ok-clause-accepted g c = λ none.
    inr (subst
    (λ (v : Verdict). Prints (due_for_made c.args.asked.now v) c.report_made.result (g.K.Sink.written c.args.out.now)
    (g.K.Sink.written c.report_made.new.out) (g.K.Sink.faults c.args.out.now) (g.K.Sink.faults c.report_made.new.out))
    ((c.in-Ok.ensures {u = tt}).accepted none) c.report_made.ensures.prints)
