use Rattle.trace_text.specs.Texts.{text_read}
use Rattle.tandem_cli.proofs.TextLaws.{frames_due, fault_due}
use Rattle.tandem_cli.proofs.texts.report_text.Goals as goal

-- the frames of its messages
pub returns-in-Ok-clause-prints : goal.returns-in-Ok-clause-prints
returns-in-Ok-clause-prints g c =
    frames_due (text_read c.args.text.now) c.write_frames.result c.finished.result (g.K.Sink.written c.args.out.now)
    (g.K.Sink.written c.write_frames.new.out) (g.K.Sink.faults c.args.out.now)
    (g.K.Sink.faults c.write_frames.new.out) ((c.in-Ok.ensures {u = tt}).fine) c.write_frames.ensures.ok
    c.write_frames.ensures.err c.write_frames.ensures.cause c.finished.ensures.ok c.finished.ensures.err

-- the first thing that is wrong
pub returns-in-Err-clause-prints : goal.returns-in-Err-clause-prints
returns-in-Err-clause-prints g c =
    fault_due (text_read c.args.text.now) c.in-Err.place.line c.in-Err.place.column c.print_text_fault.result
    c.finished-in-Err.result (g.K.Sink.written c.args.out.now) (g.K.Sink.written c.print_text_fault.new.out)
    (g.K.Sink.faults c.args.out.now) (g.K.Sink.faults c.print_text_fault.new.out)
    ((c.in-Err.ensures {u = tt}).wrong) c.print_text_fault.ensures.ok c.print_text_fault.ensures.err
    c.print_text_fault.ensures.cause c.finished-in-Err.ensures.ok c.finished-in-Err.ensures.err
