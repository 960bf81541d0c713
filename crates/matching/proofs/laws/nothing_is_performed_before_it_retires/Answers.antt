use Rattle.matching.proofs.Younger.{none_before}
use Rattle.matching.proofs.laws.nothing_is_performed_before_it_retires.Goals as goal

pub returns : goal.returns
returns c = none_before
