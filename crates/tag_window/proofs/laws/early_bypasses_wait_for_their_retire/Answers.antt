use Rattle.tag_window.proofs.Earlies.{kept_of, early_of_kept}
use Rattle.tag_window.proofs.laws.early_bypasses_wait_for_their_retire.Goals as goal

pub returns-clause-kept : goal.returns-clause-kept
returns-clause-kept c = kept_of

pub returns-clause-early : goal.returns-clause-early
returns-clause-early c = early_of_kept
