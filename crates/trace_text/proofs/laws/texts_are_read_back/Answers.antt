use Rattle.trace_text.proofs.WholeTexts.{text_back}
use Rattle.trace_text.proofs.laws.texts_are_read_back.Goals as goal

pub returns : goal.returns
returns c = text_back
