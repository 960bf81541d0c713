use Rattle.trace_gen.proofs.Sound.{made_spelled}
use Rattle.trace_gen.proofs.laws.made_messages_are_spelled.Goals as goal

pub returns : goal.returns
returns c seed harts rounds can = made_spelled seed harts rounds can
