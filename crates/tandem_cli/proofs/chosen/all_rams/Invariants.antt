use Rattle.std.proofs.Common.{◌≡◌, ◌++◌, drop}
use Rattle.tandem_cli.specs.Options.{rams_of}
use Rattle.tandem_cli.proofs.chosen.all_rams.Given as goal

abbrev pub invariant-loop-option : goal.invariant-loop-option
invariant-loop-option l = l.rams.items ++ rams_of (drop l.option-index l.options) ≡ rams_of l.options
