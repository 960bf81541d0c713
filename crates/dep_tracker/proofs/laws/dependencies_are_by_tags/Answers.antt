use Rattle.dep_tracker.proofs.Tagged.{uses_agree, past_uses_agree, lists_stay}
use Rattle.dep_tracker.proofs.laws.dependencies_are_by_tags.Goals as goal

pub returns-clause-now : goal.returns-clause-now
returns-clause-now c = uses_agree

pub returns-clause-before : goal.returns-clause-before
returns-clause-before c = past_uses_agree

pub returns-clause-stays : goal.returns-clause-stays
returns-clause-stays c = lists_stay
