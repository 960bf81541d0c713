use Rattle.std.proofs.Common.{◌∙◌, ap, map, refl, sym}
use Rattle.std.specs.String.{string_bytes}
use Rattle.tandem_cli.specs.GenWords.{gen_asked}
use Rattle.tandem_cli.specs.TextWords.{text_asked}
use Rattle.tandem_cli.specs.Words.{asked}
use Rattle.tandem_cli.specs.declared.program.Command.TheVariants as command
use Rattle.tandem_cli.proofs.AnswerLaws.{answers_to}
use Rattle.tandem_cli.proofs.ProgramLaws.{answers_made, answers_text, named, nothing_of}
use Rattle.tandem_cli.proofs.program.run_command.Goals as goal

-- the command is `text`
pub returns-in-Text-clause-words : goal.returns-in-Text-clause-words
returns-in-Text-clause-words g c =
    let words = map string_bytes c.args.words.now in
    named command.Text (g.I.Inputs.names c.args.ins.now) (g.I.Inputs.slots c.args.ins.now)
    (g.I.Inputs.slots c.run_text.new.ins) c.run_text.result (g.K.Sink.written c.args.out.now)
    (g.K.Sink.written c.run_text.new.out) (g.K.Sink.faults c.args.out.now) (g.K.Sink.faults c.run_text.new.out) words
    (sym c.command_of.ensures ∙ c.in-Text.is)
    (answers_text (text_asked words) (g.I.Inputs.names c.args.ins.now) (g.I.Inputs.slots c.args.ins.now)
    (g.I.Inputs.slots c.run_text.new.ins) c.run_text.result (g.K.Sink.written c.args.out.now)
    (g.K.Sink.written c.run_text.new.out) (g.K.Sink.faults c.args.out.now) (g.K.Sink.faults c.run_text.new.out)
    c.run_text.ensures.usage (λ none. ap (λ i. g.I.Inputs.slots i) (c.run_text.ensures.untouched none))
    c.run_text.ensures.answer)

pub returns-in-Text-clause-usage : goal.returns-in-Text-clause-usage
returns-in-Text-clause-usage g c none =
    c.run_text.ensures.untouched (nothing_of command.Text (map string_bytes c.args.words.now)
    (sym c.command_of.ensures ∙ c.in-Text.is) none)

-- it is `gen`
pub returns-in-Gen-clause-words : goal.returns-in-Gen-clause-words
returns-in-Gen-clause-words g c =
    let words = map string_bytes c.args.words.now in
    named command.Gen (g.I.Inputs.names c.args.ins.now) (g.I.Inputs.slots c.args.ins.now)
    (g.I.Inputs.slots c.args.ins.now) c.run_gen.result (g.K.Sink.written c.args.out.now)
    (g.K.Sink.written c.run_gen.new.out) (g.K.Sink.faults c.args.out.now) (g.K.Sink.faults c.run_gen.new.out) words
    (sym c.command_of.ensures ∙ c.in-Gen.is) (
      answers_made (gen_asked words) c.run_gen.result (g.K.Sink.written c.args.out.now)
          (g.K.Sink.written c.run_gen.new.out) (g.K.Sink.faults c.args.out.now) (g.K.Sink.faults c.run_gen.new.out)
          c.run_gen.ensures.usage c.run_gen.ensures.answer,
      refl,
    )

-- it is another
pub returns-in-Check-clause-words : goal.returns-in-Check-clause-words
returns-in-Check-clause-words g c =
    let words = map string_bytes c.args.words.now in
    named command.Check (g.I.Inputs.names c.args.ins.now) (g.I.Inputs.slots c.args.ins.now)
    (g.I.Inputs.slots c.run_check.new.ins) c.run_check.result (g.K.Sink.written c.args.out.now)
    (g.K.Sink.written c.run_check.new.out) (g.K.Sink.faults c.args.out.now) (g.K.Sink.faults c.run_check.new.out) words
    (sym c.command_of.ensures ∙ c.in-Check.is)
    (answers_to (asked words) (g.I.Inputs.names c.args.ins.now) (g.I.Inputs.slots c.args.ins.now)
    (g.I.Inputs.slots c.run_check.new.ins) c.run_check.result (g.K.Sink.written c.args.out.now)
    (g.K.Sink.written c.run_check.new.out) (g.K.Sink.faults c.args.out.now) (g.K.Sink.faults c.run_check.new.out)
    c.run_check.ensures.usage (λ none. ap (λ i. g.I.Inputs.slots i) (c.run_check.ensures.untouched none))
    c.run_check.ensures.answer)

pub returns-in-Check-clause-usage : goal.returns-in-Check-clause-usage
returns-in-Check-clause-usage g c none =
    c.run_check.ensures.untouched (nothing_of command.Check (map string_bytes c.args.words.now)
    (sym c.command_of.ensures ∙ c.in-Check.is) none)
