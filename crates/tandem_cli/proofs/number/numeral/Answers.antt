use Rattle.std.proofs.Common.{◌≢◌, ◌∙◌, get_or, arith}
use Rattle.std.proofs.lemmas.Str.Pattern.{starts_char}
use Rattle.tandem_cli.proofs.NumberLaws.{unsigned_read}
use Rattle.tandem_cli.proofs.number.numeral.Goals as goal

-- the word has no sign
pub returns : goal.returns
returns c =
    let ds = c.args.digits.now in
    let decides = starts_char 43 ds c.starts_with.result c.starts_with.ensures.cases (omega arith) (omega arith) in
    let plain : get_or ds 0 0 ≢ 43 = λ sign. let passed = decides.1 sign in cc (passed, c.if-starts_with.false) in
    c.ok.ensures.value ∙ unsigned_read c.args.base ds c.from_str_radix.result c.from_str_radix.ensures.value plain
