use Rattle.matching.proofs.Results.{on_ok, on_err}
use Rattle.matching.proofs.Standing.{takes_stands, same_stands}
use Rattle.matching.proofs.tables.Matching.put.Goals as goal

pub returns-clause-taken : goal.returns-clause-taken
returns-clause-taken c image before s n fine is =
    on_ok c.apply.result c.apply.ensures.taken (λ taken. takes_stands image c.args.self.now c.apply.new.self before
    c.args.message.now c.args.number c.args.step.now s c.args.self.now.sixteen c.requires.known c.requires.fits fine n
    is taken)

pub returns-clause-kept : goal.returns-clause-kept
returns-clause-kept c image before s =
    on_err c.apply.result c.apply.ensures.kept
    (λ same. same_stands image c.args.self.now c.apply.new.self before s same)
