use Rattle.trace_text.proofs.WholeTexts.{one_list}
use Rattle.trace_text.proofs.laws.texts_tell_one_list.Goals as goal

pub returns : goal.returns
returns c = one_list
