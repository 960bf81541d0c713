use Rattle.tandem_cli.proofs.TextLaws.{text_settles}
use Rattle.tandem_cli.proofs.texts.run_text.Goals as goal

pub returns-clause-quiet : goal.returns-clause-quiet
returns-clause-quiet g c =
    λ a is.
    text_settles a.way a.name (g.I.Inputs.names c.args.ins.now) (g.I.Inputs.slots c.args.ins.now).stream
    (g.I.Inputs.slots c.answer_text.new.ins).stream c.answer_text.result (g.K.Sink.written c.args.out.now)
    (g.K.Sink.written c.answer_text.new.out) (g.K.Sink.faults c.args.out.now)
    (g.K.Sink.faults c.answer_text.new.out) (c.answer_text.ensures.answer a is)
