use Rattle.std.proofs.Common.{◌≡◌, ◌∙◌, subst, Some}
use Rattle.tandem_cli.specs.Answers.{ChecksAs}
use Rattle.tandem_cli.specs.Seen.{asked_seen}
use Rattle.tandem_cli.specs.Words.{Asked}
use Rattle.tandem_cli.proofs.AnswerLaws.{memory_refused}
use Rattle.tandem_cli.proofs.run.answer_words.Goals as goal

-- the outcome, with what it says, and its line
pub returns-in-Ok-Some-clause-answer : goal.returns-in-Ok-Some-clause-answer
returns-in-Ok-Some-clause-answer g c =
    λ a is.
    let both : Some (asked_seen c.in-Ok-Some.asked) ≡ Some a =
    (rw c.in-Ok-Some.field-0-is at c.in-Ok-Some.ensures.value) ∙ is in
    let same : asked_seen c.in-Ok-Some.asked ≡ a = cc in
    subst
    (λ (b : Asked). ChecksAs b (g.I.Inputs.names c.args.ins.now) (g.I.Inputs.slots c.args.ins.now)
    (g.I.Inputs.slots c.check-outcome.new.ins) c.report.result (g.K.Sink.written c.args.out.now)
    (g.K.Sink.written c.report.new.out) (g.K.Sink.faults c.args.out.now) (g.K.Sink.faults c.report.new.out)) same
    (record {
      outcome = c.check-outcome.result;
      is = c.check-outcome.ensures.outcome;
      reads = c.check-outcome.ensures.reads;
      caused = c.check-outcome.ensures.cause;
      prints = c.report.ensures.prints;
    })

-- memory for the words was refused
pub returns-in-Err-clause-answer : goal.returns-in-Err-clause-answer
returns-in-Err-clause-answer g c =
    λ a is.
    memory_refused a (g.I.Inputs.names c.args.ins.now) (g.I.Inputs.slots c.args.ins.now)
    (g.K.Sink.written c.args.out.now)
    (g.K.Sink.faults c.args.out.now)
