use Rattle.std.proofs.Common.{◌≡◌, ◌∙◌, subst, Some}
use Rattle.tandem_cli.specs.TextRuns.{runs_text}
use Rattle.tandem_cli.specs.TextWords.{TextAsked, text_asked_seen}
use Rattle.tandem_cli.proofs.texts.answer_text.Goals as goal

-- the answer to what the words ask for
pub returns-in-Some-clause-answer : goal.returns-in-Some-clause-answer
returns-in-Some-clause-answer g c =
    λ a is.
    let both : Some (text_asked_seen c.in-Some.asked) ≡ Some a = (rw c.in-Some.is at c.parse_text.ensures) ∙ is in
    let same : text_asked_seen c.in-Some.asked ≡ a = cc in
    subst
    (λ (b : TextAsked). runs_text b.way b.name (g.I.Inputs.names c.args.ins.now)
    (g.I.Inputs.slots c.args.ins.now).stream (g.I.Inputs.slots c.text_by.new.ins).stream c.text_by.result
    (g.K.Sink.written c.args.out.now) (g.K.Sink.written c.text_by.new.out) (g.K.Sink.faults c.args.out.now)
    (g.K.Sink.faults c.text_by.new.out)) same c.text_by.ensures.answer
