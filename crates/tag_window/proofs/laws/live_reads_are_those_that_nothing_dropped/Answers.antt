use Rattle.tag_window.proofs.Lives.{kept_of, live_of_kept}
use Rattle.tag_window.proofs.laws.live_reads_are_those_that_nothing_dropped.Goals as goal

pub returns-clause-kept : goal.returns-clause-kept
returns-clause-kept c = kept_of

pub returns-clause-live : goal.returns-clause-live
returns-clause-live c = live_of_kept
