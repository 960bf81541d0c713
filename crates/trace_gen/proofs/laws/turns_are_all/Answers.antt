use Rattle.trace_gen.proofs.Turns.{some_at, none_at}
use Rattle.trace_gen.proofs.laws.turns_are_all.Goals as goal

pub returns : goal.returns
returns c seed harts rounds = record { before = some_at seed harts rounds; after = none_at seed harts rounds }
