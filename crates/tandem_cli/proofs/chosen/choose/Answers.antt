use Rattle.std.proofs.Common.{map}
use Rattle.std.specs.String.{string_bytes}
use Rattle.tandem_cli.specs.Options.{chosen_of}
use Rattle.tandem_cli.proofs.FitLaws.{chosen_fits, seen_fits}
use Rattle.tandem_cli.proofs.chosen.choose.Goals as goal

pub returns-clause-fit : goal.returns-clause-fit
returns-clause-fit c =
    let words = map string_bytes c.args.words.now in
    seen_fits c.read_and_gather.result (chosen_of words) (chosen_fits words) c.read_and_gather.ensures
