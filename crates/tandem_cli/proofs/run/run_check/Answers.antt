use Rattle.tandem_cli.proofs.AnswerLaws.{settled_told}
use Rattle.tandem_cli.proofs.run.run_check.Goals as goal

pub returns-clause-quiet : goal.returns-clause-quiet
returns-clause-quiet g c =
    λ a is.
    settled_told a (g.I.Inputs.names c.args.ins.now) (g.I.Inputs.slots c.args.ins.now)
    (g.I.Inputs.slots c.answer_words.new.ins)
    c.answer_words.result (g.K.Sink.written c.args.out.now) (g.K.Sink.written c.answer_words.new.out)
    (g.K.Sink.faults c.args.out.now) (g.K.Sink.faults c.answer_words.new.out) (c.answer_words.ensures.answer a is)
