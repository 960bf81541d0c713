-- What the values of the code stand for.
use Rattle.tandem_cli.specs.Options.{Chosen}
use Rattle.tandem_cli.specs.Words.{Asked}
use Rattle.tandem_cli.specs.declared.chosen.CheckOptions.{CheckOptions}
use Rattle.tandem_cli.specs.declared.words.CheckWords.{CheckWords}

-- the options of a run
abbrev pub chosen_seen : CheckOptions → Chosen
chosen_seen options = record { flat = options.flat; rams = options.rams.items; limits = options.limits }

-- what `check` is asked for
abbrev pub asked_seen : CheckWords → Asked
asked_seen words = record { image = words.image.now; stream = words.stream.now; options = chosen_seen words.options }
