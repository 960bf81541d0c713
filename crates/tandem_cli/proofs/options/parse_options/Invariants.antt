use Rattle.std.proofs.Common.{◌≡◌, ◌-◌, length, drop, map, ◌++◌}
use Rattle.std.specs.Option.{option_map}
use Rattle.std.specs.String.{string_bytes}
use Rattle.tandem_cli.specs.Options.{options_of}
use Rattle.tandem_cli.proofs.options.parse_options.Given as goal

abbrev pub invariant-loop-at : goal.invariant-loop-at
invariant-loop-at l = options_of (map string_bytes l.words) ≡ option_map (λ more. l.options.items ++ more)
    (options_of (map string_bytes (drop l.at l.words)))

abbrev pub decreases-loop-at : goal.decreases-loop-at
decreases-loop-at l = length l.words - l.at
