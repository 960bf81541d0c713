use Rattle.std.proofs.Common.{◌≡◌, None, sym, ◌∙◌}
use Rattle.elf_image.specs.Images.{loaded_of}
use Rattle.matching.specs.Matching.{match_fault}
use Rattle.tandem_core.proofs.Examined.{order_examined, if_ok_from}
use Rattle.tandem_core.proofs.StandsLaws.{if_none_from, stands_here}
use Rattle.tandem_core.proofs.examining.examine.Goals as goal

pub returns-clause-fault : goal.returns-clause-fault
returns-clause-fault c =
    λ before follows n.
    let e = c.in_ok-fault.ensures {u = tt} in
    let none : match_fault (loaded_of c.args.image.now) before c.args.message.now ≡ None =
    sym (e.fault before follows n) ∙ c.in-None.is in
    order_examined (loaded_of c.args.image.now) before c.args.message.now c.order_fault.result none
    (c.order_fault.ensures before (stands_here _ c.in-None.is (e.taken before follows n)))

pub returns-clause-taken : goal.returns-clause-taken
returns-clause-taken c =
    λ before follows n.
    let e = c.in_ok-fault.ensures {u = tt} in
    if_ok_from _ c.order_fault.result
    (λ f. if_none_from f (λ q. stands_here _ c.in-None.is (e.taken before follows n)))
