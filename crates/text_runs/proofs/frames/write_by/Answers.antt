use Rattle.std.proofs.Common.{◌≡◌, ◌<◌, ◌≤◌, length, Ok, Some, None, sym, ◌∙◌, arith}
use Rattle.trace_text.specs.Texts.{text_line_at}
use Rattle.trace_text.specs.declared.fault.TextFault.TheVariants as fault
use Rattle.text_runs.proofs.Gathering.{gathers_poured}
use Rattle.text_runs.proofs.Texts.{wrong_there, not_fine, writes_none, writes_more, writes_all}
use Rattle.text_runs.proofs.Texts.{writes_front, writes_front_last}
use Rattle.text_runs.proofs.frames.write_by.Goals as goal

pub loop-column-init : goal.loop-column-init
loop-column-init g c = record {
  writing = writes_none c.args.text.now (g.K.Sink.written c.args.out.now) c.args.piece.now;
  room = omega arith;
  low = omega arith;
  count = omega arith;
}

-- no line is wrong
pub unreachable-requires : goal.unreachable-requires
unreachable-requires g c =
    let w = c.loop-column.invariant.writing in
    not_fine (fault.Form w.number c.in-Err._column)
    (wrong_there c.in-Err._column w.stands (sym c.next_line.ensures.read ∙ c.in-Err.is)) c.requires.text

-- the text ends
pub returns-in-Ok-None-clause-ok : goal.returns-in-Ok-None-clause-ok
returns-in-Ok-None-clause-ok g c messages is =
    let l = c.loop-column in
    let e : text_line_at c.args.text.now l.start ≡ Ok None =
    cc (c.next_line.ensures.read, c.in-Ok-None.is, c.in-Ok-None.field-0-is) in
    writes_all (g.K.Sink.written c.pour_all.new.out) c.pour_all.result messages l.invariant.writing e is
    c.pour_all.ensures.ok

pub returns-in-Ok-None-clause-err : goal.returns-in-Ok-None-clause-err
returns-in-Ok-None-clause-err g c messages is =
    writes_front_last (g.K.Sink.written c.pour_all.new.out) c.pour_all.result messages c.loop-column.invariant.writing
    is c.pour_all.ensures.err

-- the message of a line has a frame
pub put_frame-used-requires-clause-fits : goal.put_frame-used-requires-clause-fits
put_frame-used-requires-clause-fits g c = rw c.in-Ok-Some.field-0-is at c.in-Ok-Some.ensures.fits

-- a line is read, and its frame put
pub loop-column-preserved : goal.loop-column-preserved
loop-column-preserved g c =
    let l = c.loop-column in
    let line = c.in-Ok-Some.line in
    let e : text_line_at c.args.text.now l.start ≡ Ok (Some line) =
    cc (c.next_line.ensures.read, c.in-Ok-Some.is, c.in-Ok-Some.field-0-is) in
    let bound : (l.start < line.next) × (line.next ≤ length c.args.text.now) =
    rw c.in-Ok-Some.field-0-is at c.in-Ok-Some.ensures.bound in
    let poured = c.in-Ok.ensures {u = tt} in
    let more = writes_more line l.invariant.writing e bound.1 c.put_frame-used.ensures.puts in
    record {
      writing =
          record { number = more.number; stands = more.stands; gathers = gathers_poured more.gathers poured.ok };
      room = poured.few;
      low = bound.1;
      count = omega (arith, l.invariant.count, poured.count);
    }

-- a piece could not be written
pub returns-in-Err-pour-clause-err : goal.returns-in-Err-pour-clause-err
returns-in-Err-pour-clause-err g c messages is =
    let l = c.loop-column in
    let line = c.in-Ok-Some.line in
    let e : text_line_at c.args.text.now l.start ≡ Ok (Some line) =
    cc (c.next_line.ensures.read, c.in-Ok-Some.is, c.in-Ok-Some.field-0-is) in
    let bound : (l.start < line.next) × (line.next ≤ length c.args.text.now) =
    rw c.in-Ok-Some.field-0-is at c.in-Ok-Some.ensures.bound in
    let more = writes_more line l.invariant.writing e bound.1 c.put_frame-used.ensures.puts in
    writes_front messages more is ((c.in-Err-pour.ensures {u = tt}).err)
