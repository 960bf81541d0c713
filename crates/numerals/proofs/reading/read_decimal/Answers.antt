use Rattle.std.proofs.Common.{◌^◌, ◌<◌, arith}
use Rattle.numerals.proofs.SpellingLaws.{decimal_found, decimal_none}
use Rattle.numerals.proofs.reading.read_decimal.Goals as goal

pub returns-clause-found : goal.returns-clause-found
returns-clause-found c = decimal_found c.args.most c.args.text.now c.decimal_of.result c.decimal_of.ensures

pub returns-clause-none : goal.returns-clause-none
returns-clause-none c =
    let fits : c.args.most < 2 ^ 64 = omega (arith, c.ranges.most.fits) in
    decimal_none c.args.most c.args.text.now c.decimal_of.result fits c.decimal_of.ensures
