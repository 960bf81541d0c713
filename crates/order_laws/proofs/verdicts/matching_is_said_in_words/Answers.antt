use Rattle.order_laws.proofs.verdicts.matching_is_said_in_words.Goals as goal
use Rattle.order_laws.proofs.InWords.{matched_in_words}

pub returns : goal.returns
returns c = matched_in_words
