use Rattle.std.proofs.Common.{◌≡◌, ℕ, ◌+◌, ◌-◌, List, true, false, length, ◌++◌, ◌∙◌, sym, ap, drop, Err, arith}
use Rattle.std.proofs.Common.{subst, length-take-le, length-drop, length-append}
use Rattle.tandem_base.specs.Fields.{u16_at}
use Rattle.msg_frames.specs.Reading.{is_length}
use Rattle.msg_frames.specs.Taking.{NextIs, with_message}
use Rattle.msg_frames.proofs.Taking.{TakenFrom-trans, whole_bad, reading_bad, short_later}
use Rattle.msg_frames.proofs.Taking.{length_of_front, whole_text, is_length_high, part_size}
use Rattle.msg_frames.proofs.source.take_by_buffer.Goals as goal

pub returns-then-not-is_length-clause-taken : goal.returns-then-not-is_length-clause-taken
returns-then-not-is_length-clause-taken g c =
    let first = c.in-Whole.ensures.taken in
    let size : length c.fill.new.buf ≡ 2 = c.fill.auto.buf
    ∙ length-take-le 2 c.args.buf.now (omega arith) in
    let n = length_of_front c.fill.new.buf (drop 2 c.args.buf.now) first.0 c.u16_at-length.result size first.2
    c.u16_at-length.ensures in
    let bad : is_length (u16_at 0 first.0) ≡ false = ap is_length n ∙ sym c.is_length.ensures
    ∙ c.if-not-is_length.true in (
      first.0,
      first.1,
      (
        whole_bad first.0 (ap length first.2 ∙ size) bad,
        reading_bad first.0 bad
            ∙ ap Err (sym c.fault.ensures),
      ),
    )

pub returns-in-Ended-fill-clause-taken : goal.returns-in-Ended-fill-clause-taken
returns-in-Ended-fill-clause-taken g c =
    let first = c.in-Whole.ensures.taken in
    let second = c.in-Ended-fill.ensures.taken in
    let size : length c.fill.new.buf ≡ 2 = c.fill.auto.buf
    ∙ length-take-le 2 c.args.buf.now (omega arith) in
    let tail : length (drop 2 c.args.buf.now) ≡ 512 = length-drop 2 c.args.buf.now ∙ omega arith in
    let n = length_of_front c.fill.new.buf (drop 2 c.args.buf.now) first.0 c.u16_at-length.result size first.2
    c.u16_at-length.ensures in
    let fits : is_length c.u16_at-length.result ≡ true = sym c.is_length.ensures ∙ c.if-not-is_length.false in
    let part = part_size c.fill.new.buf (drop 2 c.args.buf.now) c.fill-2.new.buf c.u16_at-length.result
    c.from-size.result size tail (is_length_high _ fits) c.from-size.ensures c.fill-2.auto.buf in
    let long : length first.0 ≡ 2 = ap length first.2 ∙ size in (
      first.0 ++ second.0,
      TakenFrom-trans _ _ _ _ _ _ _ _ first.1 second.1,
      (
        short_later first.0 second.0 long (ap is_length n ∙ fits) (omega (arith, n, second.2.0, second.2.1, part)),
        length-append first.0 second.0 ∙ omega (arith, second.2.0),
        second.2.2,
      ),
    )

pub returns-in-Failed-fill-clause-taken : goal.returns-in-Failed-fill-clause-taken
returns-in-Failed-fill-clause-taken g c =
    let first = c.in-Whole.ensures.taken in
    let second = c.in-Failed-fill.ensures.taken in
    let size : length c.fill.new.buf ≡ 2 = c.fill.auto.buf
    ∙ length-take-le 2 c.args.buf.now (omega arith) in
    let tail : length (drop 2 c.args.buf.now) ≡ 512 = length-drop 2 c.args.buf.now ∙ omega arith in
    let n = length_of_front c.fill.new.buf (drop 2 c.args.buf.now) first.0 c.u16_at-length.result size first.2
    c.u16_at-length.ensures in
    let fits : is_length c.u16_at-length.result ≡ true = sym c.is_length.ensures ∙ c.if-not-is_length.false in
    let part = part_size c.fill.new.buf (drop 2 c.args.buf.now) c.fill-2.new.buf c.u16_at-length.result
    c.from-size.result size tail (is_length_high _ fits) c.from-size.ensures c.fill-2.auto.buf in
    let long : length first.0 ≡ 2 = ap length first.2 ∙ size in (
      first.0 ++ second.0,
      TakenFrom-trans _ _ _ _ _ _ _ _ first.1 second.1,
      short_later first.0 second.0 long (ap is_length n ∙ fits) (omega (arith, n, second.2, part)),
    )

pub returns-in-Whole-fill-clause-taken : goal.returns-in-Whole-fill-clause-taken
returns-in-Whole-fill-clause-taken g c =
    let first = c.in-Whole.ensures.taken in
    let second = c.in-Whole-fill.ensures.taken in
    let size : length c.fill.new.buf ≡ 2 = c.fill.auto.buf
    ∙ length-take-le 2 c.args.buf.now (omega arith) in
    let tail : length (drop 2 c.args.buf.now) ≡ 512 = length-drop 2 c.args.buf.now ∙ omega arith in
    let n = length_of_front c.fill.new.buf (drop 2 c.args.buf.now) first.0 c.u16_at-length.result size first.2
    c.u16_at-length.ensures in
    let fits : is_length c.u16_at-length.result ≡ true = sym c.is_length.ensures ∙ c.if-not-is_length.false in
    let part = part_size c.fill.new.buf (drop 2 c.args.buf.now) c.fill-2.new.buf c.u16_at-length.result
    c.from-size.result size tail (is_length_high _ fits) c.from-size.ensures c.fill-2.auto.buf in
    let long : length first.0 ≡ 2 = ap length first.2 ∙ size in
    let text = whole_text c.fill.new.buf (drop 2 c.args.buf.now) c.fill-2.new.buf c.from-size.result
    (c.from-size.result + 2 - 2) size (part ∙ sym c.from-size.ensures) in
    let both : first.0 ++ second.0 ≡ c.fill.new.buf ++ c.fill-2.new.buf = ap (λ l. l ++ second.0) first.2
    ∙ ap (λ l. c.fill.new.buf ++ l) second.2 in
    let is = text ∙ sym both in (
      first.0 ++ second.0,
      TakenFrom-trans _ _ _ _ _ _ _ _ first.1 second.1,
      subst (λ (l : List ℕ). NextIs (with_message c.read_frame.result c.read_frame.new.message) l
          (g.S.Source.left c.fill-2.new.src)) is (c.read_frame.ensures.next _),
    )
