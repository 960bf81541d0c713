use Rattle.rule_laws.proofs.marks.bytes_answer.Goals as goal
use Rattle.rule_laws.proofs.Answered.{byte_answers}

-- the lemma is the law
pub returns : goal.returns
returns c = byte_answers
