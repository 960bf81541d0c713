use Rattle.std.proofs.Common.{◌≡◌, ◌++◌, drop}
use Rattle.std.specs.Option.{option_to_list}
use Rattle.tandem_cli.specs.Options.{at_most_one, flats_of}
use Rattle.tandem_cli.proofs.chosen.one_flat.Given as goal

abbrev pub invariant-loop-option : goal.invariant-loop-option
invariant-loop-option l = at_most_one (flats_of l.options) ≡ at_most_one (option_to_list l.flat ++ flats_of
    (drop l.option-index l.options))
