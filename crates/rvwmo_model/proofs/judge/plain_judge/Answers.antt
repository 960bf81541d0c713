use Rattle.rvwmo_model.proofs.Answered.{answers_is, answers_legal}
use Rattle.rvwmo_model.proofs.judge.plain_judge.Goals as goal

pub returns-clause-answer : goal.returns-clause-answer
returns-clause-answer g c = answers_is _ c.args.trace.now c.answer.result c.requires.in_form c.answer.ensures

pub returns-clause-legal : goal.returns-clause-legal
returns-clause-legal g c = answers_legal _ c.args.trace.now c.answer.result c.requires.in_form c.answer.ensures
