use Rattle.std.proofs.Common.{◌∙◌, arith}
use Rattle.std.specs.String.{string_bytes}
use Rattle.tandem_cli.proofs.OptionLaws.{one_left, option_read}
use Rattle.tandem_cli.proofs.options.parse_options.Goals as goal

pub returns-then-words-at-eq1 : goal.returns-then-words-at-eq1
returns-then-words-at-eq1 c =
    rw (c.loop-at.invariant, one_left string_bytes c.args.words.now c.loop-at.at c.if-words-at-eq1.true)

pub loop-at-preserved : goal.loop-at-preserved
loop-at-preserved c =
    let name = c.index-words-at.result in
    let value = c.index-words-at-in-loop-at.result in
    let spelled = rw (c.as_str.ensures.value, c.as_str-in-loop-at.ensures.value) at c.in-Some.ensures in
    c.loop-at.invariant ∙ option_read string_bytes c.args.words.now c.loop-at.at name value c.loop-at.options.items
    c.push.new.self.items c.in-Some.option c.in_ok-push.ensures.items
    (omega arith) c.index-words-at.is c.index-words-at-in-loop-at.is spelled
