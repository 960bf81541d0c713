use Rattle.tandem_core.proofs.Headline.{accepts_lawful_streams}
use Rattle.tandem_core.proofs.laws.lawful_streams_are_accepted.Goals as goal

pub returns : goal.returns
returns c = accepts_lawful_streams
