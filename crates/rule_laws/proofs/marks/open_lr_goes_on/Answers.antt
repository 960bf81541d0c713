use Rattle.rule_laws.proofs.marks.open_lr_goes_on.Goals as goal
use Rattle.rule_laws.proofs.OpenLrKept.{open_lr_goes_on}

-- the lemma is the law
pub returns : goal.returns
returns c = open_lr_goes_on
