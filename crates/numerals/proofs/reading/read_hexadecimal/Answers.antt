use Rattle.std.proofs.Common.{◌^◌, ◌<◌, arith}
use Rattle.numerals.proofs.SpellingLaws.{hexadecimal_found, hexadecimal_none}
use Rattle.numerals.proofs.reading.read_hexadecimal.Goals as goal

pub returns-clause-found : goal.returns-clause-found
returns-clause-found c = hexadecimal_found c.args.most c.args.text.now c.hexadecimal_of.result c.hexadecimal_of.ensures

pub returns-clause-none : goal.returns-clause-none
returns-clause-none c =
    let fits : c.args.most < 2 ^ 64 = omega (arith, c.ranges.most.fits) in
    hexadecimal_none c.args.most c.args.text.now c.hexadecimal_of.result fits c.hexadecimal_of.ensures
