use Rattle.std.proofs.Common.{◌≡◌, ℕ, ◌+◌, ◌≤◌, ◌++◌, length, true, false, None, Some, refl, ap, sym, ◌∙◌, arith}
use Rattle.std.specs.List.{flat_map}
use Rattle.msg_frames.specs.Frames.{frame}
use Rattle.msg_frames.specs.Cut.{is_end}
use Rattle.text_runs.specs.Printouts.{bad_frame_at, passed_limit, truncated_at}
use Rattle.text_runs.proofs.Gathering.{gathers_more, gathers_poured}
use Rattle.text_runs.proofs.PrintLaws.{goes_on, takes, message_exits, end_exits, end_printed}
use Rattle.text_runs.proofs.PrintLaws.{bad_exits, bad_printed, short_exits, short_ends, short_printed}
use Rattle.text_runs.proofs.PrintLaws.{full_exits, full_printed, printed_is, unread_is, unwritten_is}
use Rattle.text_runs.proofs.PrintLaws.{none_ends, full_ends, bad_ends, ends_as}
use Rattle.text_runs.proofs.printing.print_by.Goals as goal

-- one message too many
pub returns-then-count-eq-MOST_PRINTED-clause-printed :
    goal.returns-then-count-eq-MOST_PRINTED-clause-printed
returns-then-count-eq-MOST_PRINTED-clause-printed g c =
    let p = c.loop-out.invariant.printing in
    let next = c.in-Message.ensures {u = tt} in
    let front = next.taken.0 in
    let told = next.taken.2 in
    let m = c.next_message_into.new.message in
    let full : length p.messages ≡ 4000000000 = sym p.count_is ∙ c.if-count-eq-MOST_PRINTED.true in (
      flat_map frame p.messages ++ front,
      takes p.messages front p.took next.taken.1,
      printed_is (g.K.Sink.written c.printed.new.out) (g.S.Source.left c.next_message_into.new.src)
          (g.S.Source.ended c.next_message_into.new.src) (Some passed_limit)
          c.printed.result (full_exits p.messages front m p.same told.0 told.1 full)
          (full_printed p.messages front m (g.S.Source.left c.next_message_into.new.src)
          (g.S.Source.ended c.next_message_into.new.src) p.same told.0 told.1 told.2 full)
          p.gathers
          (rw (← c.passed_limit.ensures) c.printed.ensures.ok) c.printed.ensures.writes c.printed.ensures.err
          c.printed.ensures.front,
    )

-- an End
pub returns-then-is_end-clause-printed : goal.returns-then-is_end-clause-printed
returns-then-is_end-clause-printed g c =
    let p = c.loop-out.invariant.printing in
    let next = c.in-Message.ensures {u = tt} in
    let front = next.taken.0 in
    let told = next.taken.2 in
    let m = c.next_message_into.new.message in
    let few : length p.messages + 1 ≤ 4000000000 =
    omega (arith, p.count_is, c.loop-out.invariant.few, c.if-count-eq-MOST_PRINTED.false) in
    let ends : is_end m.body ≡ true = sym c.is_end.ensures ∙ c.if-is_end.true in (
      flat_map frame p.messages ++ front,
      takes p.messages front p.took next.taken.1,
      printed_is (g.K.Sink.written c.printed-then-is_end.new.out) (g.S.Source.left c.next_message_into.new.src)
          (g.S.Source.ended c.next_message_into.new.src) None
          c.printed-then-is_end.result (end_exits p.messages front m p.same told.0 told.1 ends few)
          (end_printed p.messages front m (g.S.Source.left c.next_message_into.new.src)
          (g.S.Source.ended c.next_message_into.new.src) p.same told.0 told.1 told.2 ends few)
          (gathers_more p.gathers c.put_line-used.ensures.puts)
          c.printed-then-is_end.ensures.ok c.printed-then-is_end.ensures.writes c.printed-then-is_end.ensures.err
          c.printed-then-is_end.ensures.front,
    )

-- a message more
pub loop-out-preserved : goal.loop-out-preserved
loop-out-preserved g c =
    let p = c.loop-out.invariant.printing in
    let next = c.in-Message.ensures {u = tt} in
    let told = next.taken.2 in
    let poured = c.in-Ok.ensures {u = tt} in
    let m = c.next_message_into.new.message in
    let stays : is_end m.body ≡ false = sym c.is_end.ensures ∙ c.if-is_end.false in
    let size = c.size.ensures.bound in
    record {
      printing =
          goes_on next.taken.0 m p next.taken.1 told.0 told.1 told.2 stays refl
          (ap (λ (n : ℕ). c.loop-out.offset + n) (c.from-offset.ensures ∙ c.size.ensures.value))
          (gathers_poured (gathers_more p.gathers c.put_line-used.ensures.puts) poured.ok);
      few = omega (arith, c.loop-out.invariant.few, c.if-count-eq-MOST_PRINTED.false);
      low = omega (arith, c.loop-out.invariant.low, c.from-offset.ensures, size.1);
      room = poured.few;
      count = omega (arith, c.loop-out.invariant.count, next.count);
      beside = next.beside ∙ c.loop-out.invariant.beside;
      sink_count = omega (arith, c.loop-out.invariant.sink_count, poured.count);
    }

-- a piece could not be written
pub returns-in-Err-clause-printed : goal.returns-in-Err-clause-printed
returns-in-Err-clause-printed g c =
    let p = c.loop-out.invariant.printing in
    let next = c.in-Message.ensures {u = tt} in
    let front = next.taken.0 in
    let told = next.taken.2 in
    let m = c.next_message_into.new.message in
    let few : length p.messages + 1 ≤ 4000000000 =
    omega (arith, p.count_is, c.loop-out.invariant.few, c.if-count-eq-MOST_PRINTED.false) in
    let stays : is_end m.body ≡ false = sym c.is_end.ensures ∙ c.if-is_end.false in
    let got = flat_map frame p.messages ++ front in (
      got,
      takes p.messages front p.took next.taken.1,
      unwritten_is got (gathers_more p.gathers c.put_line-used.ensures.puts) ((c.in-Err.ensures {u = tt}).err)
          (message_exits p.messages front m p.same told.0 told.1 told.2 stays few),
    )

-- a frame that breaks the grammar
pub returns-in-Bad-clause-printed : goal.returns-in-Bad-clause-printed
returns-in-Bad-clause-printed g c =
    let p = c.loop-out.invariant.printing in
    let next = c.in-Bad.ensures {u = tt} in
    let front = next.taken.0 in
    let told = next.taken.2 in
    let few : length p.messages ≤ 4000000000 = omega (arith, p.count_is, c.loop-out.invariant.few) in (
      flat_map frame p.messages ++ front,
      takes p.messages front p.took next.taken.1,
      printed_is (g.K.Sink.written c.printed-in-Bad.new.out) (g.S.Source.left c.next_message_into.new.src)
          (g.S.Source.ended c.next_message_into.new.src)
          (Some (bad_frame_at c.loop-out.count c.loop-out.offset c.in-Bad.fault))
          c.printed-in-Bad.result (bad_exits p.messages front c.in-Bad.fault p.same told.0 told.1 few)
          (bad_printed p.messages front c.in-Bad.fault (g.S.Source.left c.next_message_into.new.src)
          (g.S.Source.ended c.next_message_into.new.src) c.loop-out.count
          c.loop-out.offset p.same told.0 told.1 few p.count_is p.offset_is)
          p.gathers
          (rw (← c.bad_frame-verdict.ensures) c.printed-in-Bad.ensures.ok) c.printed-in-Bad.ensures.writes
          c.printed-in-Bad.ensures.err c.printed-in-Bad.ensures.front,
    )

-- the end of the input within a frame
pub returns-in-Ended-clause-printed : goal.returns-in-Ended-clause-printed
returns-in-Ended-clause-printed g c =
    let p = c.loop-out.invariant.printing in
    let next = c.in-Ended.ensures {u = tt} in
    let front = next.taken.0 in
    let told = next.taken.2 in
    let few : length p.messages ≤ 4000000000 = omega (arith, p.count_is, c.loop-out.invariant.few) in (
      flat_map frame p.messages ++ front,
      takes p.messages front p.took next.taken.1,
      printed_is (g.K.Sink.written c.printed-in-Ended.new.out) (g.S.Source.left c.next_message_into.new.src)
          (g.S.Source.ended c.next_message_into.new.src)
          (Some (truncated_at c.loop-out.count c.loop-out.offset c.in-Ended.have))
          c.printed-in-Ended.result (short_exits p.messages front p.same told.0 few)
          (short_printed p.messages front (g.S.Source.left c.next_message_into.new.src)
          (g.S.Source.ended c.next_message_into.new.src) c.loop-out.count
          c.loop-out.offset c.in-Ended.have p.same told.0 told.1 told.2
          next.ended few p.count_is p.offset_is)
          p.gathers
          (rw (← c.truncated-verdict.ensures) c.printed-in-Ended.ensures.ok) c.printed-in-Ended.ensures.writes
          c.printed-in-Ended.ensures.err c.printed-in-Ended.ensures.front,
    )

-- a read that failed
pub returns-in-Failed-clause-printed : goal.returns-in-Failed-clause-printed
returns-in-Failed-clause-printed g c =
    let p = c.loop-out.invariant.printing in
    let next = c.in-Failed.ensures {u = tt} in
    let front = next.taken.0 in
    let few : length p.messages ≤ 4000000000 = omega (arith, p.count_is, c.loop-out.invariant.few) in (
      flat_map frame p.messages ++ front,
      takes p.messages front p.took next.taken.1,
      unread_is (g.K.Sink.written c.unread.new.out) (g.S.Source.left c.next_message_into.new.src)
          (g.S.Source.ended c.next_message_into.new.src) c.unread.result
          (short_exits p.messages front p.same next.taken.2 few) (short_ends p.messages front p.same next.taken.2)
          p.gathers c.unread.ensures.writes c.unread.ensures.front,
    )

-- what the verdict says of the end of the input
pub returns-then-count-eq-MOST_PRINTED-clause-ended : goal.returns-then-count-eq-MOST_PRINTED-clause-ended
returns-then-count-eq-MOST_PRINTED-clause-ended g c =
    ends_as (Some passed_limit) (g.S.Source.ended c.next_message_into.new.src) c.printed.result
    (rw (← c.passed_limit.ensures) c.printed.ensures.ok) (full_ends (g.S.Source.ended c.next_message_into.new.src))

pub returns-then-is_end-clause-ended : goal.returns-then-is_end-clause-ended
returns-then-is_end-clause-ended g c =
    ends_as None (g.S.Source.ended c.next_message_into.new.src) c.printed-then-is_end.result
    c.printed-then-is_end.ensures.ok (none_ends (g.S.Source.ended c.next_message_into.new.src))

pub returns-in-Bad-clause-ended : goal.returns-in-Bad-clause-ended
returns-in-Bad-clause-ended g c =
    let bad = bad_frame_at c.loop-out.count c.loop-out.offset c.in-Bad.fault in
    ends_as (Some bad) (g.S.Source.ended c.next_message_into.new.src) c.printed-in-Bad.result
    (rw (← c.bad_frame-verdict.ensures) c.printed-in-Bad.ensures.ok)
    (bad_ends c.loop-out.count c.loop-out.offset c.in-Bad.fault (g.S.Source.ended c.next_message_into.new.src))

pub returns-in-Ended-clause-ended : goal.returns-in-Ended-clause-ended
returns-in-Ended-clause-ended g c =
    let next = c.in-Ended.ensures {u = tt} in
    ends_as (Some (truncated_at c.loop-out.count c.loop-out.offset c.in-Ended.have))
    (g.S.Source.ended c.next_message_into.new.src) c.printed-in-Ended.result
    (rw (← c.truncated-verdict.ensures) c.printed-in-Ended.ensures.ok) (λ count offset have same. next.ended)
