use Rattle.tandem_cli.proofs.TextLaws.{stream_prints}
use Rattle.tandem_cli.proofs.texts.text_to.Goals as goal

-- the outcome, with what it says, and its lines
pub returns-clause-answer : goal.returns-clause-answer
returns-clause-answer g c =
    let told = c.show-printed.ensures.printed in
    record {
      outcome = c.show-printed.result;
      got = told.0;
      is = told.1;
      caused = c.show-printed.ensures.cause;
      prints =
          stream_prints c.args.name.now c.show-printed.result told.0 c.report_printed.result
          (g.K.Sink.written c.args.out.now) (g.K.Sink.written c.show-printed.new.out)
          (g.K.Sink.written c.report_printed.new.out) (g.K.Sink.faults c.args.out.now)
          (g.K.Sink.faults c.show-printed.new.out) (g.K.Sink.faults c.report_printed.new.out) told.2
          c.show-printed.ensures.sink_count c.show-printed.ensures.unwritten c.report_printed.ensures.count
          c.report_printed.ensures.prints;
    }
