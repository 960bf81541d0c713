use Rattle.std.proofs.Common.{◌∙◌, ◌-◌, arith, length-set}
use Rattle.numerals.proofs.DigitsLaws.{onto_none, onto_last, onto_step, rest_small, room_left}
use Rattle.numerals.proofs.putting.spell_digits.Goals as goal

pub loop-rest-init : goal.loop-rest-init
loop-rest-init c =
    record {
      low = omega arith;
      high = omega arith;
      sized = c.requires;
      small = omega arith;
      spelled =
          onto_none c.args.n c.args.held.now c.requires;
    }

pub returns-then-rest-eq0-clause-spelled : goal.returns-then-rest-eq0-clause-spelled
returns-then-rest-eq0-clause-spelled c =
    let l = c.loop-rest in
    onto_last l.start l.rest c.digit.result l.held l.invariant.low (omega arith) c.if-rest-eq0.true c.digit.ensures
    ∙ l.invariant.spelled

pub loop-rest-preserved : goal.loop-rest-preserved
loop-rest-preserved c =
    let l = c.loop-rest in
    record {
      low = room_left l.start l.rest l.invariant.low l.invariant.small c.if-rest-eq0.false;
      high = omega arith;
      sized = length-set l.held (l.start - 1) c.digit.result ∙ l.invariant.sized;
      small = rest_small l.start l.rest l.invariant.low l.invariant.small;
      spelled = onto_step l.start l.rest c.digit.result l.held l.invariant.low
          (omega arith) c.if-rest-eq0.false c.digit.ensures ∙ l.invariant.spelled;
    }
