use Rattle.std.proofs.lemmas.Bool.{false≢true}
use Rattle.trace_model.proofs.Extents.{extent_new, extent_none}
use Rattle.trace_model.proofs.building.extent_of.Goals as goal

pub returns-in-Some : goal.returns-in-Some
returns-in-Some c =
    let v = c.in-Some.ensures.value in
    extent_new c.in-Some.extent c.args.addr c.args.len v.0 v.1

pub returns-in-None : goal.returns-in-None
returns-in-None c =
    extent_none c.first_byte.result c.args.addr c.args.len c.first_byte.ensures.addr c.first_byte.ensures.len
    (λ fits. false≢true (c.in-None.ensures.valid.1 fits))
