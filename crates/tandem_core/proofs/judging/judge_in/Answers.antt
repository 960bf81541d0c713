use Rattle.std.proofs.Common.{◌≡◌, sym, ap, ◌∙◌, ◌++◌, Some, None, arith}
use Rattle.elf_image.specs.Images.{loaded_of}
use Rattle.tandem_core.specs.Runs.{frames_of}
use Rattle.tandem_core.specs.Judgements.{verdict_at}
use Rattle.verdict_report.specs.declared.verdict.Verdict.TheVariants as verdict
use Rattle.tandem_core.proofs.StandsLaws.{counted, stands_here}
use Rattle.tandem_core.proofs.Progress.{takes, goes_on, given_at, malformed, ends_short, lacks_part, halts_at}
use Rattle.tandem_core.proofs.TruncationLaws.{message_tells_no_truncation}
use Rattle.tandem_core.proofs.judging.judge_in.Goals as goal

pub returns-in-Err-clause-judged : goal.returns-in-Err-clause-judged
returns-in-Err-clause-judged g c =
    let p = c.loop-core.invariant.progress in
    let next = c.in-Message.ensures {u = tt} in (
      frames_of p.before ++ next.taken.0,
      takes p.before next.taken.0 p.took next.taken.1,
      halts_at next.taken.0 c.next_message_into.new.message p next.taken.2.2,
    )

pub returns-in-Some-clause-judged : goal.returns-in-Some-clause-judged
returns-in-Some-clause-judged g c =
    let p = c.loop-core.invariant.progress in
    let next = c.in-Message.ensures {u = tt} in
    let told = next.taken.2 in
    let advanced = c.in-Ok.ensures {u = tt} in
    let gives : verdict_at (loaded_of c.args.image.now) c.args.limits.now p.before c.next_message_into.new.message ≡
    Some c.in-Some.verdict =
    sym (advanced.verdict (loaded_of c.args.image.now) c.args.limits.now p.before p.stands) ∙ sym c.verdict.ensures
    ∙ c.in-Some.is in (
      frames_of p.before ++ next.taken.0,
      takes p.before next.taken.0 p.took next.taken.1,
      given_at next.taken.0 c.next_message_into.new.message c.in-Some.verdict p told.0 told.1 told.2 gives,
    )

-- a message doesn't tell that the stream ended
pub returns-in-Some-clause-ended : goal.returns-in-Some-clause-ended
returns-in-Some-clause-ended g c =
    let p = c.loop-core.invariant.progress in
    let advanced = c.in-Ok.ensures {u = tt} in
    let gives : verdict_at (loaded_of c.args.image.now) c.args.limits.now p.before c.next_message_into.new.message ≡
    Some c.in-Some.verdict =
    sym (advanced.verdict (loaded_of c.args.image.now) c.args.limits.now p.before p.stands) ∙ sym c.verdict.ensures
    ∙ c.in-Some.is in
    λ tells.
    absurd (message_tells_no_truncation (loaded_of c.args.image.now) c.args.limits.now p.before
    c.next_message_into.new.message c.in-Some.verdict gives tells)

pub loop-core-preserved : goal.loop-core-preserved
loop-core-preserved g c =
    let p = c.loop-core.invariant.progress in
    let next = c.in-Message.ensures {u = tt} in
    let told = next.taken.2 in
    let advanced = c.in-Ok.ensures {u = tt} in
    let quiet : verdict_at (loaded_of c.args.image.now) c.args.limits.now p.before c.next_message_into.new.message ≡
    None =
    sym (advanced.verdict (loaded_of c.args.image.now) c.args.limits.now p.before p.stands) ∙ sym c.verdict.ensures
    ∙ c.in-None.is in
    record {
      progress =
          goes_on next.taken.0 c.next_message_into.new.message p next.taken.1 told.2
          (stands_here _ quiet (advanced.stands (loaded_of c.args.image.now) c.args.limits.now p.before p.stands));
      count = omega (arith, c.loop-core.invariant.count, next.count);
      beside = next.beside ∙ c.loop-core.invariant.beside;
    }

pub returns-in-Bad-clause-judged : goal.returns-in-Bad-clause-judged
returns-in-Bad-clause-judged g c =
    let p = c.loop-core.invariant.progress in
    let next = c.in-Bad.ensures {u = tt} in
    let told = next.taken.2 in (
      frames_of p.before ++ next.taken.0,
      takes p.before next.taken.0 p.took next.taken.1,
      malformed next.taken.0 c.in-Bad.fault (verdict.Reject c.bad_frame.result) p told.0 told.1
          (ap verdict.Reject (c.bad_frame.ensures p.before (counted p.stands))),
    )

pub returns-in-Ended-clause-judged : goal.returns-in-Ended-clause-judged
returns-in-Ended-clause-judged g c =
    let p = c.loop-core.invariant.progress in
    let next = c.in-Ended.ensures {u = tt} in
    let told = next.taken.2 in (
      frames_of p.before ++ next.taken.0,
      takes p.before next.taken.0 p.took next.taken.1,
      ends_short next.taken.0 c.in-Ended.have (verdict.Reject c.truncated.result) p told.0 told.1 told.2
          (ap verdict.Reject (c.truncated.ensures p.before (counted p.stands))),
    )

pub returns-in-Failed-clause-judged : goal.returns-in-Failed-clause-judged
returns-in-Failed-clause-judged g c =
    let p = c.loop-core.invariant.progress in
    let next = c.in-Failed.ensures {u = tt} in (
      frames_of p.before ++ next.taken.0,
      takes p.before next.taken.0 p.took next.taken.1,
      lacks_part next.taken.0 p next.taken.2,
    )
